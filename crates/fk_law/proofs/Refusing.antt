-- Refusals hold at their numbers.
use Rattle.std.specs.Prelude.{◌||◌, nat_le}
use Rattle.std.proofs.Common.{◌≡◌, ℕ, ◌+◌, ◌≤◌, ◌++◌, Bool, true, false, cond, eqb, List, [], ◌∷◌, max, append-nil, refl, sym, ◌∙◌, ap, subst, arith, Some, None}
use Rattle.std.proofs.lemmas.Bool.{false≢true, or_right}
use Rattle.fk_base.specs.Path.{PathNames, same_path}
use Rattle.fk_base.specs.declared.code.Code.{Code}
use Rattle.fk_base.specs.declared.code.Code.TheVariants as code
use Rattle.fk_tree.specs.Check.{Refusal, check, check_open}
use Rattle.fk_tree.specs.Edit.{closes, view_after}
use Rattle.fk_tree.specs.Locks.{lock_paths}
use Rattle.fk_tree.specs.Sorted.{has_path}
use Rattle.fk_tree.specs.View.{View, look}
use Rattle.fk_tree.specs.declared.applied.Applied.{Applied}
use Rattle.fk_tree.specs.declared.request.Request.{Request}
use Rattle.fk_tree.proofs.Order.{same_path_is, same_path_self}
use Rattle.fk_tree.proofs.Looking.{same_flip}
use Rattle.fk_print.specs.declared.entry.Entry.{Entry}
use Rattle.fk_print.specs.declared.op.Op.{Op}
use Rattle.fk_print.specs.declared.op.Op.TheVariants as op
use Rattle.fk_law_tree.specs.Following.{tree_after}
use Rattle.fk_law_tree.proofs.Growing.{locked_is_enough}
use Rattle.fk_law_tree.proofs.Members.{or_left}
use Rattle.fk_spec.specs.Plan.{Plan}
use Rattle.fk_spec.specs.Start.{request_of, seen_with}
use Rattle.fk_spec.specs.Locks.{last_grant, granted}
use Rattle.fk_spec.specs.Settling.{settled_of, last_of_session}
use Rattle.fk_spec.specs.Stored.{committed_of, committed_in, with_filled, stored_view, last_edit, up_to}
use Rattle.fk_spec.specs.Follower.{Follower, Granted, node_in, view_of, greatest_last, next_with, paths_of}
use Rattle.fk_spec.specs.Follower as follower
use Rattle.fk_spec.specs.Function.{Following, place_of, actor}
use Rattle.fk_spec.specs.Next.{IsHistory}
use Rattle.fk_law.specs.Due.{IsDue, HoldsAll, Refuses}
use Rattle.fk_law.specs.Losing.{IsOwn}
use Rattle.fk_law.specs.Numbered.{numbered}
use Rattle.fk_law.specs.Progress.{Works, progress}
use Rattle.fk_law.specs.Refusing.{ClosedAtItsNumber, RefusalHoldsAtItsNumber}
use Rattle.fk_law.specs.Seeing.{AreCurrent}
use Rattle.fk_law.proofs.Due.{due}
use Rattle.fk_law.proofs.Moving.{ahead}
use Rattle.fk_law.proofs.Standing.{OnStanding, standing_step}
use Rattle.fk_law.proofs.Closing.{at_work_is_open}
use Rattle.fk_law.proofs.Knowing.{at_work_knows_the_last}
use Rattle.fk_law.proofs.Losing.{holds_each}
use Rattle.fk_law.proofs.Rising.{held_own}
use Rattle.fk_law.proofs.Deciding.{StandsSo, stands_at, left_over, none_left, same_follower}
use Rattle.fk_law.proofs.Recording.{records_are_of_its_grants}
use Rattle.fk_law.proofs.Leaving.{Sees, IsSeen, commit_is}
use Rattle.fk_law.proofs.Fitting.{seen, holder_agrees}
use Rattle.fk_law.proofs.Beyond.{commits_rise, last_in_is}
use Rattle.fk_law.proofs.Numbering.{node_counts, closed_counts}
use Rattle.fk_law.proofs.Numbered.{numbered_leave_the_same, numbered_tree_is_shown}

-- Closed sessions. ------------------------------------------------------------------------------------

pub closed_one : (n c : ℕ) (a : Applied) (done : List Applied) → (view_after (up_to n done)).closed c ≡ true → (view_after (up_to n (a ∷ done))).closed c ≡ true
closed_one n c a done i = by_number (nat_le a.tx n)
  where
    either : (x y z : Bool) → z ≡ true → cond x (y || z) z ≡ true
    either true true z e = refl
    either true false z e = e
    either false y z e = e

    by_number : (b : Bool) → (view_after (cond b (a ∷ up_to n done) (up_to n done))).closed c ≡ true
    by_number true = either (closes a.request) (eqb a.session c) ((view_after (up_to n done)).closed c) i
    by_number false = i

pub closed_on : (p : Plan) (n c : ℕ) (h : List Entry) (o : Op) → IsHistory p h → IsDue p h o → (view_after (up_to n (committed_of p h))).closed c ≡ true → (view_after (up_to n (committed_in p h o (committed_of p h)))).closed c ≡ true
closed_on p n c h (op.CommitOk a t) l d i = let x = commit_is p a t h l d in subst (λ z. (view_after (up_to n (with_filled (committed_of p h) t z))).closed c ≡ true) (sym x.is) (closed_one n c _ (committed_of p h) i)
closed_on p n c h o l d i = i

-- before the refusal of a closed session's request, the session is closed at the refusal's number
abbrev ExpiresSo : Plan → ℕ → List Entry → follower.Stage → Type 0
ExpiresSo p c h (follower.Expire at) = (view_after (up_to at (committed_of p h))).closed c ≡ true
ExpiresSo p c h _ = Unit {0}

abbrev ExpiresIn : Plan → List Entry → Follower → Type 0
ExpiresIn p h f = ExpiresSo p f.session h f.stage

expires_on : (p : Plan) (c : ℕ) (e : Entry) (h : List Entry) (s : follower.Stage) → IsHistory p (e ∷ h) → ExpiresSo p c h s → ExpiresSo p c (e ∷ h) s
expires_on p c e h (follower.Expire at) l i = closed_on p at c h e.op l.0 (due p e h l) i
expires_on p c e h s l i = tt

at_work_expires_not : (p : Plan) (c : ℕ) (h : List Entry) (s : follower.Stage) → progress s ≡ Works → ExpiresSo p c h s
at_work_expires_not p c h (follower.Expire at) w = absurd (grind arith)
at_work_expires_not p c h s w = tt

closed_now : (p : Plan) (c seen : ℕ) (h : List Entry) → IsHistory p h → (stored_view p h).closed c ≡ true → (view_after (up_to (max seen (last_of_session c h)) (committed_of p h))).closed c ≡ true
closed_now p c seen h l e = closed_counts (max seen (last_of_session c h)) c (committed_of p h) (commits_rise p h l) (let i = last_in_is p c h l in omega (arith, i)) ∙ e

expires_moves : (p : Plan) (n : ℕ) (h : List Entry) (r : Request) (o : Op) (f : Follower) → IsHistory p h → IsDue p h o → place_of p n h ≡ Following f → actor o ≡ Some n → ExpiresIn p h f → ExpiresSo p f.session h (next_with p h r o f).stage
expires_moves p n h r (op.SessionClosed m) f l d e a i =
    let x = same_follower p h m n d.0 f d.1 a e in
    closed_now p f.session (seen_with f.session f.k h) h l (subst (λ y. (stored_view p h).closed y.session ≡ true) x d.4)
expires_moves p n h r (op.SessionNew m) f l d e a i = at_work_expires_not p f.session h _ (ahead p h r (op.SessionNew m) f).2
expires_moves p n h r (op.Owned m count) f l d e a i = at_work_expires_not p f.session h _ (ahead p h r (op.Owned m count) f).2
expires_moves p n h r (op.LockOk m path) f l d e a i = at_work_expires_not p f.session h _ (ahead p h r (op.LockOk m path) f).2
expires_moves p n h r (op.LockBusy m path holder moment) f l d e a i = i
expires_moves p n h r o f l d e a i = tt

expires_step : (p : Plan) (n : ℕ) (e : Entry) (h : List Entry) → IsHistory p (e ∷ h) → OnStanding (ExpiresIn p h) (place_of p n h) → OnStanding (ExpiresIn p (e ∷ h)) (place_of p n (e ∷ h))
expires_step p n e h l i =
    standing_step p n h e.op (place_of p n h) (ExpiresIn p (e ∷ h))
    (λ f c _. expires_on p f.session e h f.stage l (at f c))
    (λ c k _. tt)
    (λ f r c a q. let g = next_with p h r e.op f in let x = ahead p h r e.op f in subst (λ s. ExpiresSo p s (e ∷ h) g.stage) (sym x.0) (expires_on p f.session e h g.stage l (expires_moves p n h r e.op f l.0 (due p e h l) c a (at f c))))
  where
    at : (f : Follower) → place_of p n h ≡ Following f → ExpiresIn p h f
    at f c = subst (OnStanding (ExpiresIn p h)) c i

expires : (p : Plan) (n : ℕ) (h : List Entry) → IsHistory p h → OnStanding (ExpiresIn p h) (place_of p n h)
expires p n [] l = tt
expires p n (e ∷ h) l = expires_step p n e h l (expires p n h l.0)

pub closed_at_its_number : ClosedAtItsNumber
closed_at_its_number p n at h f l e s = subst (ExpiresSo p f.session h) s (subst (OnStanding (ExpiresIn p h)) e (expires p n h l))

-- What was seen, at the refusal's number. -------------------------------------------------------------

-- the last edit of each path is at most the greatest of the records
last_step : (p : Plan) (n : ℕ) (h : List Entry) (g : Granted) (gs : List Granted) (q : PathNames) → (same_path q g.path ≡ true → q ≡ g.path) → g.last ≡ last_edit p g.path h → (has_path q (paths_of gs) ≡ true → last_edit p q h ≤ greatest_last gs) → (same_path q g.path || has_path q (paths_of gs)) ≡ true → last_edit p q h ≤ max g.last (greatest_last gs)
last_step p n h g gs q s e i b = by_path (same_path q g.path) refl b
  where
    by_path : (z : Bool) → same_path q g.path ≡ z → (z || has_path q (paths_of gs)) ≡ true → last_edit p q h ≤ max g.last (greatest_last gs)
    by_path true u b = let w : last_edit p q h ≡ g.last = ap (λ x. last_edit p x h) (s u) ∙ sym e in omega (arith, w)
    by_path false u b = let w = i b in omega (arith, w)

last_at_most : (p : Plan) (n : ℕ) (h : List Entry) (gs : List Granted) → AreCurrent p n h gs → ((q : PathNames) → has_path q (paths_of gs) ≡ true → IsOwn n (last_grant q h)) → (q : PathNames) → has_path q (paths_of gs) ≡ true → last_edit p q h ≤ greatest_last gs
last_at_most p n h [] i o q b = absurd (false≢true b)
last_at_most p n h (g ∷ gs) i o q b = last_step p n h g gs q (same_path_is q g.path) (i.0 (o g.path (or_left _ _ (same_path_self g.path)))).last (last_at_most p n h gs i.1 (λ x v. o x (or_right (same_path x g.path) _ v)) q) b

missing_step : (g : Granted) (gs : List Granted) (q : PathNames) → (has_path q (paths_of gs) ≡ false → node_in gs q ≡ None) → (same_path q g.path || has_path q (paths_of gs)) ≡ false → node_in (g ∷ gs) q ≡ None
missing_step g gs q i b = by_path (same_path q g.path) refl b
  where
    by_path : (z : Bool) → same_path q g.path ≡ z → (z || has_path q (paths_of gs)) ≡ false → node_in (g ∷ gs) q ≡ None
    by_path true u b = absurd (false≢true (sym b))
    by_path false u b = rw (same_flip g.path q ∙ u) (i b)

missing : (gs : List Granted) (q : PathNames) → has_path q (paths_of gs) ≡ false → node_in gs q ≡ None
missing [] q b = refl
missing (g ∷ gs) q b = missing_step g gs q (missing gs q) b

-- What was seen shows the refusal, and it is what the commits up to a number leave at each path that was locked.
pub record IsRefused (p : Plan) (c at : ℕ) (r : Request) (x : Refusal) (h : List Entry) : Type 0 where
  pub records : List Granted
  pub owned : List PathNames
  pub shows : check (view_of records) c r ≡ Some x
  pub locked : lock_paths (view_of records) owned r ≡ paths_of records
  pub agree : (q : PathNames) → has_path q (paths_of records) ≡ true → node_in records q ≡ (view_after (up_to at (committed_of p h))).node q
  pub open_then : (view_after (up_to at (committed_of p h))).closed c ≡ false

pub refused_holds : (p : Plan) (c at : ℕ) (r : Request) (x : Refusal) (h : List Entry) → IsHistory p h → IsRefused p c at r x h → check (view_after (up_to at (committed_of p h))) c r ≡ Some x
refused_holds p c at r x h l i = sym same ∙ i.shows
  where
    tree : look (tree_after (numbered at (committed_of p h))) ≡ view_after (up_to at (committed_of p h))
    tree = (numbered_tree_is_shown p at h l).shown ∙ numbered_leave_the_same p at h l

    same : check (view_of i.records) c r ≡ check (view_after (up_to at (committed_of p h))) c r
    same = (locked_is_enough (tree_after (numbered at (committed_of p h))) (view_of i.records) i.owned c r (numbered_tree_is_shown p at h l).well_formed
        (sym i.open_then ∙ ap (λ v. v.closed c) (sym tree))
        (λ y v. i.agree y (ap (has_path y) (sym i.locked) ∙ v) ∙ ap (λ u. u.node y) (sym tree))
        (λ y v. missing i.records y (ap (has_path y) (sym i.locked) ∙ v))).0 ∙ ap (λ v. check v c r) tree

pub own_each : (n : ℕ) (h : List Entry) → HoldsAll n h → (q : PathNames) → has_path q (granted n h) ≡ true → IsOwn n (last_grant q h)
own_each n h o q v = held_own n h (last_grant q h) (holds_each n h q o v)

-- A refusal by what was seen: the locks are its own, so what it saw is what the commits up to its number leave.
pub seen_refusal : (p : Plan) (n at : ℕ) (x : Refusal) (h : List Entry) (f : Follower) (r : Request) → IsHistory p h → place_of p n h ≡ Following f → f.stage ≡ follower.Refuse x at → settled_of f.session h + 1 ≡ f.k → HoldsAll n h → request_of p f.session f.k h ≡ Some r → (y : IsRefused p f.session at r x h) × (y.records ≡ f.granted)
seen_refusal p n at x h f r l e w z o q = (record { records = f.granted; owned = f.owned; shows = i.1.1; locked = locked; agree = agree; open_then = closed }, refl)
  where
    works : progress f.stage ≡ Works
    works = ap progress w

    i : StandsSo (settled_of f.session h) (seen_with f.session f.k h) r f (follower.Refuse x at)
    i = subst (StandsSo (settled_of f.session h) (seen_with f.session f.k h) r f) w (stands_at p n h f r l e q)

    records : paths_of f.granted ≡ granted n h
    records = records_are_of_its_grants p n h f l e

    locked : lock_paths (view_of f.granted) f.owned r ≡ paths_of f.granted
    locked = i.0.1 ∙ (ap (λ zs. paths_of f.granted ++ zs) (none_left i.0.0 (sym (left_over f.granted (lock_paths (view_of f.granted) f.owned r) i.0.0 i.0.1) ∙ i.1.0)) ∙ append-nil (paths_of f.granted))

    s : IsSeen p h
    s = seen p h l

    last : f.last ≤ at
    last = let u = i.1.2 in omega (arith, u)

    greatest : greatest_last f.granted ≤ at
    greatest = let u = i.1.2 in omega (arith, u)

    edits : (y : PathNames) → has_path y (paths_of f.granted) ≡ true → last_edit p y h ≤ at
    edits y v = let u = last_at_most p n h f.granted (subst (OnStanding (Sees p n h)) e (s.views n) works) (λ g c. own_each n h o g (ap (has_path g) (sym records) ∙ c)) y v in omega (arith, u, greatest)

    closed : (view_after (up_to at (committed_of p h))).closed f.session ≡ false
    closed = closed_counts at f.session (committed_of p h) (commits_rise p h l) (let u = last_in_is p f.session h l in let v = at_work_knows_the_last p n h f l e works z in omega (arith, u, v, last)) ∙ at_work_is_open p n h f l e works z

    agree : (y : PathNames) → has_path y (paths_of f.granted) ≡ true → node_in f.granted y ≡ (view_after (up_to at (committed_of p h))).node y
    agree y v = holder_agrees p n h f l s e works (own_each n h o) y (ap (has_path y) (sym records) ∙ v) ∙ sym (node_counts at y (committed_of p h) (commits_rise p h l) (edits y v))

pub closed_refusal : (v : View) (c : ℕ) (r : Request) → v.closed c ≡ true → check v c r ≡ Some (record { code = code.SessionExpired; place = 0 })
closed_refusal v c r e = ap (λ b. cond b (Some (record { code = code.SessionExpired; place = 0 })) (check_open v c r)) e

refuses_so : (p : Plan) (n place at : ℕ) (cd : Code) (h : List Entry) (f : Follower) (r : Request) (s : follower.Stage) → f.stage ≡ s → IsHistory p h → place_of p n h ≡ Following f → settled_of f.session h + 1 ≡ f.k → Refuses n cd place at h s → request_of p f.session f.k h ≡ Some r
    → check (view_after (up_to at (committed_of p h))) f.session r ≡ Some (record { code = cd; place = place })
refuses_so p n place at cd h f r (follower.Refuse x a) w l e z d q =
    subst (λ y. check (view_after (up_to y (committed_of p h))) f.session r ≡ Some (record { code = cd; place = place })) d.2
    (refused_holds p f.session a r x h l (seen_refusal p n a x h f r l e w z d.3 q).0 ∙ (λ i. Some (record { code = (d.0) i; place = (d.1) i })))
refuses_so p n place at cd h f r (follower.Expire a) w l e z d q =
    subst (λ y. check (view_after (up_to y (committed_of p h))) f.session r ≡ Some (record { code = cd; place = place })) d.2
    (closed_refusal (view_after (up_to a (committed_of p h))) f.session r (closed_at_its_number p n a h f l e w) ∙ sym (λ i. Some (record { code = (d.0) i; place = (d.1) i })))
refuses_so p n place at cd h f r s w l e z d q = absurd d

pub refusal_holds_at_its_number : RefusalHoldsAtItsNumber
refusal_holds_at_its_number p n place at cd h f r l d e q =
    let x = same_follower p h n n d.0 f d.1 refl e in
    refuses_so p n place at cd h f r f.stage refl l e (subst (λ y. settled_of y.session h + 1 ≡ y.k) x d.2) (subst (λ y. Refuses n cd place at h y.stage) x d.3) q

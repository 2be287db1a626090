-- A push's message is filled on the records that its function's locks gave; its commit on what the commits left.
use Rattle.std.specs.Prelude.{◌==◌, if◌then◌else◌, option_map}
use Rattle.std.proofs.Common.{◌≡◌, ℕ, ◌+◌, Bool, true, false, List, [], ◌∷◌, refl, sym, ◌∙◌, ap, subst, arith, Option, Some, None}
use Rattle.std.proofs.lemmas.Bool.Decides.{nat_tests}
use Rattle.std.proofs.lemmas.Option.{same_Some}
use Rattle.fk_base.specs.Path.{PathNames}
use Rattle.fk_tree.specs.Sorted.{has_path}
use Rattle.fk_tree.specs.declared.applied.Applied.{Applied}
use Rattle.fk_tree.specs.declared.request.Request.{Request}
use Rattle.fk_print.specs.declared.entry.Entry.{Entry}
use Rattle.fk_print.specs.declared.op.Op.{Op}
use Rattle.fk_print.specs.declared.op.Op.TheVariants as op
use Rattle.fk_wire.specs.declared.message.Pushed.{Pushed}
use Rattle.fk_settle.specs.Transaction.{applied_as}
use Rattle.fk_law_tree.specs.Fitting.{Fits}
use Rattle.fk_law_tree.proofs.Matching.{one_fits}
use Rattle.fk_stand.specs.Messages.{push_by, push_message, push_message_of, push_with}
use Rattle.fk_stand.specs.Messages as messages
use Rattle.fk_spec.specs.Plan.{Plan}
use Rattle.fk_spec.specs.Start as start
use Rattle.fk_spec.specs.Start.{Follows, Push, clock_of, or_else, push_here, push_of, pushed_in, pushed_of, request_of, seen_with, task_of}
use Rattle.fk_spec.specs.Locks.{grant_in, granted, last_grant}
use Rattle.fk_spec.specs.Settling.{settled_of}
use Rattle.fk_spec.specs.Stored as stored
use Rattle.fk_spec.specs.Stored.{committed_as, committed_in, committed_of, filled_after, with_filled}
use Rattle.fk_spec.specs.Follower.{Follower, view_of}
use Rattle.fk_spec.specs.Follower as follower
use Rattle.fk_spec.specs.Function.{Following, place_of}
use Rattle.fk_spec.specs.Next.{IsHistory}
use Rattle.fk_law.specs.Due.{IsDue, IsPushOf}
use Rattle.fk_law.specs.Losing.{IsLive, IsOwn}
use Rattle.fk_law.specs.Progress.{progress}
use Rattle.fk_law.specs.Seeing.{Locks}
use Rattle.fk_law.proofs.Carrying.{follower_fills_the_same}
use Rattle.fk_law.proofs.Clients.{follows_from_1}
use Rattle.fk_law.proofs.Closing.{follower_same, new_push, settled_so}
use Rattle.fk_law.proofs.Deciding.{StandsSo, stands_at}
use Rattle.fk_law.proofs.Due.{due}
use Rattle.fk_law.proofs.Editing.{one_applied}
use Rattle.fk_law.proofs.Fitting.{filled_on, holder_agrees, lists_owned, pushed_one, same_task, seen, was_live}
use Rattle.fk_law.proofs.Leaving.{commit_is}
use Rattle.fk_law.proofs.Losing.{granted_stays}
use Rattle.fk_law.proofs.Pushing.{push_bound}
use Rattle.fk_law.proofs.Recording.{records_are_of_its_grants}
use Rattle.fk_law.proofs.Rising.{committed_low, its_push_before}
use Rattle.fk_law.proofs.Sending.{committed_other, push_asks_for_its_request, pushed_never_changes, request_stays, was_committed}
use Rattle.fk_law.proofs.Settled.{reached, task_at_most_next}
use Rattle.fk_law.proofs.Standing.{OnStanding}
use Rattle.fk_law.proofs.Starting.{follower_task}
use Rattle.fk_agree.specs.Pushes.{LivePushIsItsMessage, PushIsItsCommit}
use Rattle.fk_agree.proofs.Listing.{gone_is_owned}

-- A follower that is about to push, whose request is the next to settle and whose locks are its own. ---

abbrev HoldsLocks : ℕ → List Entry → Type 0
HoldsLocks n h = (path : PathNames) → has_path path (granted n h) ≡ true → IsOwn n (last_grant path h)

-- what it fills passes and fits what it has seen
message_fits : (p : Plan) (n t moment : ℕ) (h : List Entry) (f : Follower) (r : Request) → IsHistory p h → place_of p n h ≡ Following f → f.stage ≡ follower.Push → request_of p f.session f.k h ≡ Some r → settled_of f.session h + 1 ≡ f.k → HoldsLocks n h → Fits (view_of f.granted) (applied_as t (push_with n moment f r))
message_fits p n t moment h f r l b w q z o = record {
  session = follows_from_1 p n f.session f.k h l (follower_task p n h f l b);
  passes = stood.1.1;
  name = refl;
  version = refl;
  made = refl;
  gone = gone_is_owned p n h f r b (lists_owned p h f r (subst (OnStanding (_)) b ((seen p h l).lists n)) q (subst Locks (sym w) tt) z) (λ x v. holder_agrees p n h f l (seen p h l) b (ap progress w) o x (sym (ap (has_path x) (records_are_of_its_grants p n h f l b)) ∙ v));
}
  where
    stood : StandsSo (settled_of f.session h) (seen_with f.session f.k h) r f follower.Push
    stood = subst (StandsSo (settled_of f.session h) (seen_with f.session f.k h) r f) w (stands_at p n h f r l b q)

-- so it fills what its commit would
filled_the_same : (p : Plan) (n t moment : ℕ) (h : List Entry) (f : Follower) (r : Request) → IsHistory p h → place_of p n h ≡ Following f → f.stage ≡ follower.Push → request_of p f.session f.k h ≡ Some r → settled_of f.session h + 1 ≡ f.k → HoldsLocks n h
    → applied_as t (push_with n moment f r) ≡ filled_after (committed_of p h) t (record { session = f.session; k = f.k; moment = moment; request = r })
filled_the_same p n t moment h f r l b w q z o =
    one_fits (view_of f.granted) (applied_as t (push_with n moment f r)) (filled_after (committed_of p h) t (record { session = f.session; k = f.k; moment = moment; request = r }))
    (message_fits p n t moment h f r l b w q z o)
    (follower_fills_the_same p n t moment h f r l b w q z o)
    (record { tx = refl; moment = refl; session = refl; k = refl; request = refl })

-- At its push. -----------------------------------------------------------------------------------------

-- a push whose request is the next to settle and whose function's locks are its own has this message
record NewPush (p : Plan) (t n : ℕ) (e : Entry) (h : List Entry) (y : start.Pushed) : Type 0 where
  pub message : Pushed
  pub is : push_message p h (op.Push n t) ≡ Some message
  pub same : applied_as t message ≡ filled_after (committed_of p (e ∷ h)) t y

pub message_at : (p : Plan) (n t : ℕ) (h : List Entry) (f : Follower) (r : Request) → place_of p n h ≡ Following f → request_of p f.session f.k h ≡ Some r → push_message p h (op.Push n t) ≡ Some (push_with n (clock_of h) f r)
message_at p n t h f r b q = ap (push_by p h n) b ∙ ap (option_map (push_with n (clock_of h) f)) q

moment_at : (t n : ℕ) (e : Entry) (h : List Entry) (x : Push) → e.op ≡ op.Push n t → push_of t (e ∷ h) ≡ Some x → x.moment ≡ clock_of h
moment_at t n e h x g i = by_op e.op g i
  where
    by_op : (o : Op) → o ≡ op.Push n t → or_else (push_here t (pushed_in (clock_of h) o)) (push_of t h) ≡ Some x → x.moment ≡ clock_of h
    by_op o a b = grind (arith, nat_tests)

new_push_is : (p : Plan) (t n c k : ℕ) (e : Entry) (h : List Entry) (y : start.Pushed) → IsHistory p (e ∷ h) → e.op ≡ op.Push n t → IsPushOf t n c k (e ∷ h) → settled_of c (e ∷ h) + 1 ≡ k → HoldsLocks n (e ∷ h) → pushed_of p t (e ∷ h) ≡ Some y → NewPush p t n e h y
new_push_is p t n c k e h y l g x z o q = record {
  message = push_with n (clock_of h) f r.0;
  is = message_at p n t h f r.0 d.1 asks;
  same = filled_the_same p n t (clock_of h) h f r.0 l.0 d.1 d.2 asks (rw (v.0, v.1) settled) holds ∙ (ap (filled_after (committed_of p h) t) pushed ∙ ap (λ j. filled_after (committed_in p h j (committed_of p h)) t y) (sym g));
}
  where
    d : IsDue p h (op.Push n t)
    d = subst (IsDue p h) g (due p e h l)

    f : Follower
    f = d.0

    w : task_of n h ≡ Some (Follows c k)
    w = follower_same p n t c k e h l g d x.task

    v : (f.session ≡ c) × (f.k ≡ k)
    v = same_task f.session f.k c k (sym (follower_task p n h f l.0 d.1) ∙ w)

    r : (r : Request) × (request_of p c k (e ∷ h) ≡ Some r) × (pushed_of p t (e ∷ h) ≡ Some (record { session = c; k = k; moment = x.push.moment; request = r }))
    r = push_asks_for_its_request p t n c k (e ∷ h) l x

    asks : request_of p f.session f.k h ≡ Some r.0
    asks = rw (v.0, v.1) (sym (request_stays p c k e h (reached p n c k h l.0 w).2) ∙ r.1)

    settled : settled_of c h + 1 ≡ k
    settled = settled_so p c k e h (task_at_most_next p n c k h l.0 w) z

    holds : HoldsLocks n h
    holds u i = subst (IsOwn n) (ap (λ j. grant_in u (clock_of h) j (last_grant u h)) g) (o u (granted_stays n u e h i))

    pushed : record { session = f.session; k = f.k; moment = clock_of h; request = r.0 } ≡ y
    pushed = (λ i. record { session = (v.0) i; k = (v.1) i; moment = (sym (moment_at t n e h x.push g x.pushed)) i; request = r.0 }) ∙ pushed_one _ y (pushed_of p t (e ∷ h)) r.2 q

-- While it can commit. ---------------------------------------------------------------------------------

-- a line that pushes nothing under this number puts no such message
pub no_message : (p : Plan) (t : ℕ) (h : List Entry) (o : Op) → push_here t (pushed_in (clock_of h) o) ≡ None → messages.push_here p t h o ≡ None
no_message p t h (op.Push n s) e = grind (arith, nat_tests)
no_message p t h o e = refl

pub its_message : (p : Plan) (t n : ℕ) (h : List Entry) (o : Op) → o ≡ op.Push n t → messages.push_here p t h o ≡ push_message p h (op.Push n t)
its_message p t n h o e = ap (messages.push_here p t h) e ∙ ap (λ b. if b then push_message p h (op.Push n t) else None) (same_number t)
  where
    same_number : (t : ℕ) → (t == t) ≡ true
    same_number t = grind (arith, nat_tests)

pub one_message : (o : Option Pushed) (x y : Pushed) (m : Option Pushed) → m ≡ Some y → or_else m o ≡ Some x → y ≡ x
one_message o x y m e i = grind arith

-- what this message applies is what the commits would fill its push as
abbrev IsItsMessage : Plan → ℕ → List Entry → Pushed → Type 0
IsItsMessage p t h x = (y : start.Pushed) → IsLive t h → push_message_of p t h ≡ Some x → pushed_of p t h ≡ Some y → applied_as t x ≡ filled_after (committed_of p h) t y

live_step : (p : Plan) (t : ℕ) (e : Entry) (h : List Entry) (x : Pushed) → IsHistory p (e ∷ h) → IsItsMessage p t h x → IsItsMessage p t (e ∷ h) x
live_step p t e h x l i y v m q = by_push (push_here t (pushed_in (clock_of h) e.op)) refl
  where
    by_push : (o : Option Push) → push_here t (pushed_in (clock_of h) e.op) ≡ o → applied_as t x ≡ filled_after (committed_of p (e ∷ h)) t y
    by_push None b =
        let z = push_bound p t h v.is_of.push l.0 (subst (λ o. or_else o (push_of t h) ≡ Some v.is_of.push) b v.is_of.pushed) in
        let w = its_push_before p t v.function v.session v.k e h l z.1 z.2 v.is_of in
        let a = sym (pushed_never_changes p t v.function v.session v.k h (e ∷ []) l w) ∙ q in
        i y (was_live p t e h l v w) (subst (λ o. or_else o (push_message_of p t h) ≡ Some x) (no_message p t h e.op b) m) a
        ∙ sym (filled_on p t e h y l (seen p h l.0) v a w)
    by_push (Some u) b =
        let f : u.function ≡ v.function = ap (λ z. z.function) (same_Some u v.is_of.push (subst (λ o. or_else o (push_of t h) ≡ Some v.is_of.push) b v.is_of.pushed)) ∙ v.is_of.function in
        let g = new_push t h e.op u b ∙ ap (λ z. op.Push z t) f in
        let n = new_push_is p t v.function v.session v.k e h y l g v.is_of v.next v.own q in
        subst (λ z. applied_as t z ≡ filled_after (committed_of p (e ∷ h)) t y) (one_message (push_message_of p t h) x n.message (messages.push_here p t h e.op) (its_message p t v.function h e.op g ∙ n.is) m) n.same

is_its_message : (p : Plan) (t : ℕ) (h : List Entry) (x : Pushed) → IsHistory p h → IsItsMessage p t h x
is_its_message p t [] x l = λ y v m q. absurd (no_push m)
  where
    no_push : None ≡ Some x → ⊥
    no_push m = grind arith
is_its_message p t (e ∷ h) x l = live_step p t e h x l (is_its_message p t h x l.0)

pub live_push_is_its_message : LivePushIsItsMessage
live_push_is_its_message p t h x y l v m q = is_its_message p t h x l y v m q

-- And once it is committed. ----------------------------------------------------------------------------

commit_step : (p : Plan) (t : ℕ) (h : List Entry) (x : Pushed) (a : Applied) (o : Op) → IsHistory p h → IsDue p h o → or_else (messages.push_here p t h o) (push_message_of p t h) ≡ Some x → (push_message_of p t h ≡ Some x → committed_as p t h ≡ Some a → applied_as t x ≡ a) → stored.applied_as t (committed_in p h o (committed_of p h)) ≡ Some a → applied_as t x ≡ a
commit_step p t h x a (op.CommitOk u s) l d m i v = by_push (s == t) refl
  where
    by_push : (z : Bool) → (s == t) ≡ z → applied_as t x ≡ a
    by_push false e = i m (sym (committed_other p t h (op.CommitOk u s) (committed_of p h) e) ∙ v)
    by_push true e =
        let f : s ≡ t = grind (arith, nat_tests) in
        let c = commit_is p u s h l d in
        let w : filled_after (committed_of p h) s c.pushed ≡ a = one_applied t (filled_after (committed_of p h) s c.pushed) a (committed_of p h) f (sym (ap (λ j. stored.applied_as t (with_filled (committed_of p h) s j)) c.is) ∙ v) in
        live_push_is_its_message p t h x c.pushed l (subst (λ j. IsLive j h) f c.live) m (subst (λ j. pushed_of p j h ≡ Some c.pushed) f c.is) ∙ (ap (λ j. filled_after (committed_of p h) j c.pushed) (sym f) ∙ w)
commit_step p t h x a (op.Push n s) l d m i v = by_push (s == t) refl
  where
    by_push : (z : Bool) → (s == t) ≡ z → applied_as t x ≡ a
    by_push false e = i (subst (λ b. or_else (if b then push_message p h (op.Push n s) else None) (push_message_of p t h) ≡ Some x) e m) v
    by_push true e =
        let f : s ≡ t = grind (arith, nat_tests) in
        let b = committed_low p t h l (was_committed p t h a v) in
        absurd (omega (arith, f, b, d.3))
commit_step p t h x a o l d m i v = i m v

pub push_is_its_commit : PushIsItsCommit
push_is_its_commit p t [] x a l m c = absurd (grind arith)
push_is_its_commit p t (e ∷ h) x a l m c = commit_step p t h x a e.op l.0 (due p e h l) m (λ n d. push_is_its_commit p t h x a l.0 n d) c

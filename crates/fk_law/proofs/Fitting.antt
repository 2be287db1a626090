-- Live pushes fit what the commits left, and edit what their functions locked.
use Rattle.std.specs.Prelude.{◌||◌}
use Rattle.std.proofs.Common.{◌≡◌, ◌≢◌, ℕ, ◌+◌, ◌++◌, Bool, true, false, List, [], ◌∷◌, refl, sym, ◌∙◌, ap, subst, arith, Option, Some, None, append-nil}
use Rattle.std.proofs.lemmas.Bool.{false≢true, or_right, or_parts}
use Rattle.std.proofs.lemmas.Bool.Decides.{nat_tests}
use Rattle.std.proofs.lemmas.Option.{same_Some}
use Rattle.fk_base.specs.Path.{PathNames, same_path}
use Rattle.fk_tree.specs.Edit.{view_after}
use Rattle.fk_tree.specs.Locks.{lock_paths}
use Rattle.fk_tree.specs.Sorted.{has_path}
use Rattle.fk_tree.specs.Touch.{edited_paths}
use Rattle.fk_tree.specs.declared.applied.Applied.{Applied}
use Rattle.fk_tree.specs.declared.request.Request.{Request}
use Rattle.fk_tree.specs.declared.request.Request.TheVariants as request
use Rattle.fk_tree.proofs.Order.{same_path_is, same_path_self}
use Rattle.fk_tree.proofs.Looking.{same_flip}
use Rattle.fk_print.specs.declared.entry.Entry.{Entry}
use Rattle.fk_print.specs.declared.op.Op.{Op}
use Rattle.fk_print.specs.declared.op.Op.TheVariants as op
use Rattle.fk_law_tree.specs.Fitting.{Fits}
use Rattle.fk_law_tree.specs.Locking.{Within, ListsOwned}
use Rattle.fk_law_tree.proofs.Parting.{fits_after_others}
use Rattle.fk_spec.specs.Plan.{Plan}
use Rattle.fk_spec.specs.Start.{Follows, Push, Pushed, clock_of, task_of, push_of, push_here, pushed_in, pushed_of, or_else, request_of, seen_with}
use Rattle.fk_spec.specs.Locks.{is_push_of, last_grant, grant_in, granted}
use Rattle.fk_spec.specs.Settling.{settled_in, settled_of, count_settling, is_committed, commits}
use Rattle.fk_spec.specs.Stored.{committed_of, committed_in, with_filled, filled_after, stored_view}
use Rattle.fk_spec.specs.Follower.{Follower, Granted, view_of, node_in, paths_of}
use Rattle.fk_spec.specs.Follower as follower
use Rattle.fk_spec.specs.Function.{Following, place_of}
use Rattle.fk_spec.specs.Next.{IsHistory}
use Rattle.fk_law.specs.Due.{IsDue, IsPushOf}
use Rattle.fk_law.specs.Losing.{IsOwn, IsLive}
use Rattle.fk_law.specs.Progress.{Works, progress}
use Rattle.fk_law.specs.Seeing.{AreCurrent, Locks}
use Rattle.fk_law.proofs.Due.{due}
use Rattle.fk_law.proofs.Starting.{follower_task}
use Rattle.fk_law.proofs.Pushing.{push_bound}
use Rattle.fk_law.proofs.Settled.{reached, task_at_most_next}
use Rattle.fk_law.proofs.Committing.{one_push, is_push_of_it}
use Rattle.fk_law.proofs.Closing.{settled_so, new_push, follower_same, at_work_is_open}
use Rattle.fk_law.proofs.Rising.{its_push_before, own_same}
use Rattle.fk_law.proofs.Losing.{granted_stays, no_more_locks}
use Rattle.fk_law.proofs.Sending.{push_asks_for_its_request, pushed_never_changes, request_stays}
use Rattle.fk_law.proofs.Clients.{follows_from_1}
use Rattle.fk_law.proofs.Deciding.{StandsSo, stands_at, left_over, none_left}
use Rattle.fk_law.proofs.Recording.{records_are_of_its_grants}
use Rattle.fk_law.proofs.Filling.{locked_fits, refilled}
use Rattle.fk_law.proofs.Standing.{OnStanding}
use Rattle.fk_law.proofs.Leaving.{FitsLocked, Sees, Lists, IsSeen, IsCommit, commit_is, other_session}
use Rattle.fk_law.proofs.Seeing.{sees_step, lists_step}
use Rattle.fk_law_tree.proofs.Members.{or_left}
use Rattle.fk_base.proofs.Logic.{by_test}

-- A push that was live before. ------------------------------------------------------------------------

own_held_on : (n : ℕ) (q : PathNames) (h : List Entry) (o : Op) → ((path : PathNames) → o ≡ op.LockOk n path → ⊥) → IsOwn n (grant_in q (clock_of h) o (last_grant q h)) → IsOwn n (last_grant q h)
own_held_on n q h (op.LockOk m path) f i = grind (arith, nat_tests, f path)
own_held_on n q h o f i = i

-- Live after an entry, where it was pushed before: live before.
abbrev live_before : (p : Plan) (t : ℕ) (e : Entry) (h : List Entry) → IsHistory p (e ∷ h) → (x : IsLive t (e ∷ h)) → IsPushOf t x.function x.session x.k h → IsLive t h
live_before p t e h l x w = record {
  function = x.function;
  session = x.session;
  k = x.k;
  is_of = w;
  uncommitted = (or_parts (commits t e.op) (is_committed t h) x.uncommitted).1;
  next = settled_so p x.session x.k e h (task_at_most_next p x.function x.session x.k h l.0 w.task) x.next;
  own = λ q g. own_held_on x.function q h e.op (λ path b. no_more_locks p t x.function path h l.0 (subst (IsDue p h) b (due p e h l)) (is_push_of_it t x.function x.session x.k h w)) (x.own q (granted_stays x.function q e h g));
}

pub was_live : (p : Plan) (t : ℕ) (e : Entry) (h : List Entry) → IsHistory p (e ∷ h) → (x : IsLive t (e ∷ h)) → IsPushOf t x.function x.session x.k h → IsLive t h
was_live p t e h l x w = live_before p t e h l x w

pub pushed_one : (a b : Pushed) (o : Option Pushed) → o ≡ Some a → o ≡ Some b → a ≡ b
pushed_one a b o e f = grind arith

pub session_of_pushed : (p : Plan) (t n c k : ℕ) (h : List Entry) (y : Pushed) → IsHistory p h → IsPushOf t n c k h → pushed_of p t h ≡ Some y → y.session ≡ c
session_of_pushed p t n c k h y l w e = let r = push_asks_for_its_request p t n c k h l w in ap (λ z. z.session) (pushed_one y _ (pushed_of p t h) e r.2)

-- push t of function n, filled from what commits left that follow these, fits that, edits what the function
-- was granted, and is filled as before
abbrev FitsAfter : Plan → ℕ → List Entry → Pushed → ℕ → List Applied → Type 0
FitsAfter p t h y n next = Fits (view_after next) (filled_after next t y) × Within (edited_paths (filled_after next t y)) (granted n h) × (filled_after next t y ≡ filled_after (committed_of p h) t y)

-- Another push commits: it edits no path that this one's function was granted.
fits_commit : (p : Plan) (a u t : ℕ) (h : List Entry) (y : Pushed) → IsHistory p h → IsSeen p h → IsDue p h (op.CommitOk a u) → (x : IsLive t h) → u ≢ t → pushed_of p t h ≡ Some y → count_settling x.session (settled_in h (op.CommitOk a u)) (settled_of x.session h) + 1 ≡ x.k
    → FitsAfter p t h y x.function (committed_in p h (op.CommitOk a u) (committed_of p h))
fits_commit p a u t h y l s d x e q n =
    subst (λ z. FitsAfter p t h y x.function (with_filled (committed_of p h) u z)) (sym c.is)
    (subst (λ z. Fits (view_after (A ∷ done)) z × Within (edited_paths z) (granted x.function h) × (z ≡ B)) (sym (refilled done (A ∷ done) t y f)) (f, i.1, refl))
  where
    done : List Applied
    done = committed_of p h

    c : IsCommit p u h
    c = commit_is p a u h l d

    A : Applied
    A = filled_after done u c.pushed

    B : Applied
    B = filled_after done t y

    i : FitsLocked p t x.function h y
    i = s.pushes t x y q

    j : FitsLocked p u c.live.function h c.pushed
    j = s.pushes u c.live c.pushed c.is

    session : c.pushed.session ≢ y.session
    session b = other_session x.session u x.k a h c.live (task_at_most_next p x.function x.session x.k h l x.is_of.task) n (sym (session_of_pushed p t x.function x.session x.k h y l x.is_of q) ∙ sym b ∙ c.session)

    both : (g : PathNames) → has_path g (edited_paths A) ≡ true → has_path g (edited_paths B) ≡ true → ⊥
    both g v w =
        let m : c.live.function ≡ x.function = own_same c.live.function x.function (last_grant g h) (c.live.own g (j.1 g v)) (x.own g (i.1 g w)) in
        e (one_push p u t x.function h l (subst (λ z. is_push_of z (push_of u h) ≡ true) m (is_push_of_it u c.live.function c.live.session c.live.k h c.live.is_of)) (is_push_of_it t x.function x.session x.k h x.is_of))

    apart : (g : PathNames) → has_path g (edited_paths A) ≡ true → has_path g (edited_paths B) ≡ false
    apart g v = by_test (has_path g (edited_paths B)) (λ b. b ≡ false) (λ w. absurd (both g v w)) (λ _. refl)

    f : Fits (view_after (A ∷ done)) B
    f = fits_after_others (view_after done) A B i.0 session apart

-- What fits stays so, while it is live.
fits_on : (p : Plan) (t : ℕ) (h : List Entry) (y : Pushed) (o : Op) → IsHistory p h → IsSeen p h → IsDue p h o → (x : IsLive t h) → commits t o ≡ false → pushed_of p t h ≡ Some y → count_settling x.session (settled_in h o) (settled_of x.session h) + 1 ≡ x.k
    → FitsAfter p t h y x.function (committed_in p h o (committed_of p h))
fits_on p t h y (op.CommitOk a u) l s d x e q n = fits_commit p a u t h y l s d x (grind (arith, nat_tests)) q n
fits_on p t h y o l s d x e q n = let i = s.pushes t x y q in (i.0, i.1, refl)

old_fits : (p : Plan) (t : ℕ) (e : Entry) (h : List Entry) (y : Pushed) → IsHistory p (e ∷ h) → IsSeen p h → (x : IsLive t (e ∷ h)) → pushed_of p t h ≡ Some y → IsPushOf t x.function x.session x.k h → FitsAfter p t h y x.function (committed_of p (e ∷ h))
old_fits p t e h y l s x q w = fits_on p t h y e.op l.0 s (due p e h l) (live_before p t e h l x w) (or_parts (commits t e.op) (is_committed t h) x.uncommitted).0 q x.next

still_fits : (p : Plan) (t : ℕ) (e : Entry) (h : List Entry) (y : Pushed) → IsHistory p (e ∷ h) → IsSeen p h → (x : IsLive t (e ∷ h)) → pushed_of p t (e ∷ h) ≡ Some y → IsPushOf t x.function x.session x.k h → FitsLocked p t x.function (e ∷ h) y
still_fits p t e h y l s x q w = let f = old_fits p t e h y l s x (sym (pushed_never_changes p t x.function x.session x.k h (e ∷ []) l w) ∙ q) w in (f.0, λ g v. granted_stays x.function g e h (f.1 g v))

-- a live push is filled as it was before
pub filled_on : (p : Plan) (t : ℕ) (e : Entry) (h : List Entry) (y : Pushed) → IsHistory p (e ∷ h) → IsSeen p h → (x : IsLive t (e ∷ h)) → pushed_of p t h ≡ Some y → IsPushOf t x.function x.session x.k h → filled_after (committed_of p (e ∷ h)) t y ≡ filled_after (committed_of p h) t y
filled_on p t e h y l s x q w = (old_fits p t e h y l s x q w).2

-- A new push. -----------------------------------------------------------------------------------------

-- where each path is its own, what it has seen is what the left
seen_agrees_step : (p : Plan) (n : ℕ) (h : List Entry) (g : Granted) (gs : List Granted) (q : PathNames) → (same_path g.path q ≡ true → g.path ≡ q) → g.node ≡ (stored_view p h).node g.path → (has_path q (paths_of gs) ≡ true → node_in gs q ≡ (stored_view p h).node q) → (same_path q g.path || has_path q (paths_of gs)) ≡ true → same_path q g.path ≡ same_path g.path q → node_in (g ∷ gs) q ≡ (stored_view p h).node q
seen_agrees_step p n h g gs q s c i b f = by_path (same_path g.path q) refl
  where
    by_path : (z : Bool) → same_path g.path q ≡ z → node_in (g ∷ gs) q ≡ (stored_view p h).node q
    by_path true e = rw e (c ∙ ap (stored_view p h).node (s e))
    by_path false e = rw e (i (subst (λ z. (z || has_path q (paths_of gs)) ≡ true) (f ∙ e) b))

seen_agrees : (p : Plan) (n : ℕ) (h : List Entry) (gs : List Granted) → AreCurrent p n h gs → ((q : PathNames) → has_path q (paths_of gs) ≡ true → IsOwn n (last_grant q h)) → (q : PathNames) → has_path q (paths_of gs) ≡ true → node_in gs q ≡ (stored_view p h).node q
seen_agrees p n h [] i o q b = absurd (false≢true b)
seen_agrees p n h (g ∷ gs) i o q b = seen_agrees_step p n h g gs q (same_path_is g.path q) (i.0 (o g.path (or_left _ _ (same_path_self g.path)))).node (seen_agrees p n h gs i.1 (λ x v. o x (or_right (same_path x g.path) _ v)) q) b (same_flip q g.path)

pub lists_owned : (p : Plan) (h : List Entry) (f : Follower) (r : Request) → Lists p h f → request_of p f.session f.k h ≡ Some r → Locks f.stage → settled_of f.session h + 1 ≡ f.k → ListsOwned (stored_view p h) f.session r f.owned
lists_owned p h f (request.Create path bytes seq eph) i q w s = tt
lists_owned p h f (request.Set path bytes version) i q w s = tt
lists_owned p h f (request.Delete path version) i q w s = tt
lists_owned p h f (request.Close evict) i q w s = i (request.Close evict) q refl w s
lists_owned p h f (request.Multi xs) i q w s = tt

-- What a follower at work has seen of the paths it holds.
pub holder_agrees : (p : Plan) (n : ℕ) (h : List Entry) (f : Follower) → IsHistory p h → IsSeen p h → place_of p n h ≡ Following f → progress f.stage ≡ Works → ((q : PathNames) → has_path q (granted n h) ≡ true → IsOwn n (last_grant q h)) → (q : PathNames) → has_path q (granted n h) ≡ true → node_in f.granted q ≡ (stored_view p h).node q
holder_agrees p n h f l s b w o q v =
    let e = records_are_of_its_grants p n h f l b in
    seen_agrees p n h f.granted (subst (OnStanding (Sees p n h)) b (s.views n) w) (λ x u. o x (ap (has_path x) (sym e) ∙ u)) q (ap (has_path q) e ∙ v)

-- A follower that is about to push, whose locks are its own.
pub pusher_fits : (p : Plan) (n t moment : ℕ) (h : List Entry) (f : Follower) (r : Request) → IsHistory p h → IsSeen p h → place_of p n h ≡ Following f → f.stage ≡ follower.Push → request_of p f.session f.k h ≡ Some r → settled_of f.session h + 1 ≡ f.k
    → ((q : PathNames) → has_path q (granted n h) ≡ true → IsOwn n (last_grant q h)) → FitsLocked p t n h (record { session = f.session; k = f.k; moment = moment; request = r })
pusher_fits p n t moment h f r l s b e q z o = (w.0, λ g v. ap (has_path g) (sym locked) ∙ w.1 g v)
  where
    works : progress f.stage ≡ Works
    works = ap progress e

    locks : Locks f.stage
    locks = subst Locks (sym e) tt

    i : StandsSo (settled_of f.session h) (seen_with f.session f.k h) r f follower.Push
    i = subst (StandsSo (settled_of f.session h) (seen_with f.session f.k h) r f) e (stands_at p n h f r l b q)

    locked : lock_paths (view_of f.granted) f.owned r ≡ granted n h
    locked = i.0.1 ∙ (ap (λ zs. paths_of f.granted ++ zs) (none_left i.0.0 (sym (left_over f.granted (lock_paths (view_of f.granted) f.owned r) i.0.0 i.0.1) ∙ i.1.0)) ∙ (append-nil (paths_of f.granted) ∙ records_are_of_its_grants p n h f l b))

    w : Fits (stored_view p h) (filled_after (committed_of p h) t (record { session = f.session; k = f.k; moment = moment; request = r })) × Within (edited_paths (filled_after (committed_of p h) t (record { session = f.session; k = f.k; moment = moment; request = r }))) (lock_paths (view_of f.granted) f.owned r)
    w = locked_fits (view_of f.granted) f.owned (committed_of p h) t (record { session = f.session; k = f.k; moment = moment; request = r })
        (follows_from_1 p n f.session f.k h l (follower_task p n h f l b))
        i.1.1
        (sym (at_work_is_open p n h f l b works z))
        (λ x v. holder_agrees p n h f l s b works o x (ap (has_path x) (sym locked) ∙ v))
        (lists_owned p h f r (subst (OnStanding (Lists p h)) b (s.lists n)) q locks z)

pub same_task : (a b c k : ℕ) → Some (Follows a b) ≡ Some (Follows c k) → (a ≡ c) × (b ≡ k)
same_task a b c k e = grind arith

new_fits : (p : Plan) (t n c k : ℕ) (e : Entry) (h : List Entry) (y : Pushed) → IsHistory p (e ∷ h) → IsSeen p h → e.op ≡ op.Push n t → IsPushOf t n c k (e ∷ h) → settled_of c (e ∷ h) + 1 ≡ k → ((q : PathNames) → has_path q (granted n (e ∷ h)) ≡ true → IsOwn n (last_grant q (e ∷ h))) → pushed_of p t (e ∷ h) ≡ Some y → FitsLocked p t n (e ∷ h) y
new_fits p t n c k e h y l s g x z o q =
    let d : IsDue p h (op.Push n t) = subst (IsDue p h) g (due p e h l) in
    let w : task_of n h ≡ Some (Follows c k) = follower_same p n t c k e h l g d x.task in
    let v = same_task d.0.session d.0.k c k (sym (follower_task p n h d.0 l.0 d.1) ∙ w) in
    let r = push_asks_for_its_request p t n c k (e ∷ h) l x in
    let a : request_of p c k h ≡ Some r.0 = sym (request_stays p c k e h (reached p n c k h l.0 w).2) ∙ r.1 in
    let m = settled_so p c k e h (task_at_most_next p n c k h l.0 w) z in
    let f = pusher_fits p n t x.push.moment h d.0 r.0 l.0 s d.1 d.2 (rw (v.0, v.1) a) (rw (v.0, v.1) m) (λ u i. subst (IsOwn n) (ap (λ j. grant_in u (clock_of h) j (last_grant u h)) g) (o u (granted_stays n u e h i))) in
    let same : record { session = d.0.session; k = d.0.k; moment = x.push.moment; request = r.0 } ≡ y = (λ i. record { session = (v.0) i; k = (v.1) i; moment = x.push.moment; request = r.0 }) ∙ pushed_one _ y (pushed_of p t (e ∷ h)) r.2 q in
    let j : FitsLocked p t n h y = subst (FitsLocked p t n h) same f in
    rw g j

-- Each history. ---------------------------------------------------------------------------------------

pushes_step : (p : Plan) (t : ℕ) (e : Entry) (h : List Entry) (y : Pushed) (o : Option Push) → push_here t (pushed_in (clock_of h) e.op) ≡ o → IsHistory p (e ∷ h) → IsSeen p h → (x : IsLive t (e ∷ h)) → pushed_of p t (e ∷ h) ≡ Some y → FitsLocked p t x.function (e ∷ h) y
pushes_step p t e h y None b l s x q =
    let z = push_bound p t h x.is_of.push l.0 (subst (λ o. or_else o (push_of t h) ≡ Some x.is_of.push) b x.is_of.pushed) in
    still_fits p t e h y l s x q (its_push_before p t x.function x.session x.k e h l z.1 z.2 x.is_of)
pushes_step p t e h y (Some u) b l s x q =
    let f : u.function ≡ x.function = ap (λ z. z.function) (same_Some u x.is_of.push (subst (λ o. or_else o (push_of t h) ≡ Some x.is_of.push) b x.is_of.pushed)) ∙ x.is_of.function in
    new_fits p t x.function x.session x.k e h y l s (new_push t h e.op u b ∙ ap (λ z. op.Push z t) f) x.is_of x.next x.own q

pub seen : (p : Plan) (h : List Entry) → IsHistory p h → IsSeen p h
seen p [] l = record { views = λ n. tt; lists = λ n. tt; pushes = λ t x y q. absurd (unpushed t x.is_of.push x.is_of.pushed) }
  where
    unpushed : (t : ℕ) (z : Push) → push_of t [] ≡ Some z → ⊥
    unpushed t z e = grind arith
seen p (e ∷ h) l =
    let s = seen p h l.0 in
    record {
      views = λ n. sees_step p n e h l s;
      lists = λ n. lists_step p n e h l s;
      pushes = λ t x y q. pushes_step p t e h y (push_here t (pushed_in (clock_of h) e.op)) refl l s x q;
    }

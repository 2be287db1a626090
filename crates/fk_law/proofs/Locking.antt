-- Locks: what a grant, a release and a loss say.
use Rattle.std.specs.Prelude.{◌==◌, ◌||◌, is_some}
use Rattle.std.proofs.Common.{◌≡◌, ◌≢◌, ℕ, ◌+◌, ◌<◌, ◌≤◌, ◌++◌, Bool, true, false, List, [], ◌∷◌, refl, sym, ◌∙◌, subst, arith, Option, Some, None}
use Rattle.std.proofs.lemmas.Bool.{false≢true}
use Rattle.std.proofs.lemmas.Bool.Decides.{nat_tests}
use Rattle.fk_base.specs.Path.{PathNames, same_path}
use Rattle.fk_base.specs.declared.code.Code.{Code}
use Rattle.fk_tree.specs.Sorted.{has_path}
use Rattle.fk_tree.proofs.Order.{same_path_is}
use Rattle.fk_print.specs.declared.entry.Entry.{Entry}
use Rattle.fk_print.specs.declared.op.Op.{Op}
use Rattle.fk_print.specs.declared.op.Op.TheVariants as op
use Rattle.fk_spec.specs.Plan.{Plan}
use Rattle.fk_spec.specs.Start.{Follows, clock_of, clock_after, task_of, push_of, push_here, pushed_in, pushes_of, or_else}
use Rattle.fk_spec.specs.Locks.{Grant, is_push_of, last_grant, grant_in, may_grant, granted, granted_in, has_released, releases, own_moment, own_moment_in}
use Rattle.fk_spec.specs.Settling.{settled_in, settled_of, is_committed, commits}
use Rattle.fk_spec.specs.Follower.{Follower}
use Rattle.fk_spec.specs.Function.{Following, place_of, actor}
use Rattle.fk_spec.specs.Next.{IsHistory}
use Rattle.fk_law.specs.Due.{IsDue}
use Rattle.fk_law.specs.Progress.{Progress, progress, progress_after}
use Rattle.fk_law.specs.Locking.{LockNamesAGrantedPath, LocksAreFollowers, ReleasedIsSettled, Unreleased, AtWorkIsUnreleased, PushReleasesAtItsCommit, OvertakenOnlyAfterExpiry}
use Rattle.fk_law.proofs.Due.{due}
use Rattle.fk_law.proofs.Moving.{OnFollower, follower_step}
use Rattle.fk_law.proofs.Starting.{follower_task, task_stays}
use Rattle.fk_law.proofs.Settled.{task_at_most_next}
use Rattle.fk_law.proofs.Committing.{one_push, is_push_of_it, counts_more, Fresh, fresh_at}
use Rattle.fk_law.proofs.Rising.{committed_low}
use Rattle.fk_law.proofs.Losing.{same_sym, has_more, has_last, granted_has_grant, released}

-- Grants. ---------------------------------------------------------------------------------------------

has_new : (p q : PathNames) (ps : List PathNames) → same_path p q ≡ true → has_path p (ps ++ q ∷ []) ≡ true
has_new p q [] e = grind arith
has_new p q (r ∷ ps) e = grind (arith, has_new p q ps e)

named_step : (p : Plan) (path : PathNames) (h : List Entry) (o : Op) (g : Grant) → (last_grant path h ≡ Some g → has_path path (granted g.holder h) ≡ true) → grant_in path (clock_of h) o (last_grant path h) ≡ Some g → has_path path (granted_in g.holder o (granted g.holder h)) ≡ true
named_step p path h (op.LockOk n q) g i e = grind (arith, nat_tests, has_more path q (granted g.holder h), has_new path q (granted g.holder h), same_sym q path)
named_step p path h o g i e = grind arith

named : (p : Plan) (path : PathNames) (h : List Entry) (g : Grant) → last_grant path h ≡ Some g → has_path path (granted g.holder h) ≡ true
named p path [] g e = absurd (grind arith)
named p path (x ∷ h) g e = named_step p path h x.op g (named p path h g) e

moment_step : (path : PathNames) (h : List Entry) (o : Op) (g : Grant) → (last_grant path h ≡ Some g → (own_moment g.holder path h ≡ g.moment) × (g.moment ≤ clock_of h)) → grant_in path (clock_of h) o (last_grant path h) ≡ Some g → (own_moment_in g.holder path (clock_of h) o (own_moment g.holder path h) ≡ g.moment) × (g.moment ≤ clock_after o (clock_of h))
moment_step path h o g i e = grind (arith, nat_tests)

own_is : (path : PathNames) (h : List Entry) (g : Grant) → last_grant path h ≡ Some g → (own_moment g.holder path h ≡ g.moment) × (g.moment ≤ clock_of h)
own_is path [] g e = absurd (grind arith)
own_is path (x ∷ h) g e = moment_step path h x.op g (own_is path h g) e

pub lock_names_a_granted_path : LockNamesAGrantedPath
lock_names_a_granted_path p path h g l e = let m = own_is path h g e in (named p path h g e, m.0, m.1)

lock_task : (p : Plan) (n : ℕ) (path q : PathNames) (h : List Entry) (m : ℕ) → IsHistory p h → IsDue p h (op.LockOk m q) → m ≡ n → (c k : ℕ) × (task_of n h ≡ Some (Follows c k))
lock_task p n path q h m l d e = (d.0.session, d.0.k, subst (λ x. task_of x h ≡ Some (Follows d.0.session d.0.k)) e (follower_task p m h d.0 l d.1))

locked_step : (p : Plan) (n : ℕ) (path : PathNames) (h : List Entry) (o : Op) → IsHistory p h → IsDue p h o → (has_path path (granted n h) ≡ true → (c k : ℕ) × (task_of n h ≡ Some (Follows c k))) → has_path path (granted_in n o (granted n h)) ≡ true → (c k : ℕ) × (task_of n h ≡ Some (Follows c k))
locked_step p n path h (op.LockOk m q) l d i g = by_test (m == n) refl
  where
    by_test : (b : Bool) → (m == n) ≡ b → (c k : ℕ) × (task_of n h ≡ Some (Follows c k))
    by_test true f = lock_task p n path q h m l d (grind (arith, nat_tests))
    by_test false f = i (grind arith)
locked_step p n path h o l d i g = i (grind arith)

pub locks_are_followers : LocksAreFollowers
locks_are_followers p n path [] l g = absurd (false≢true g)
locks_are_followers p n path (e ∷ h) l g = let r = locked_step p n path h e.op l.0 (due p e h l) (locks_are_followers p n path h l.0) g in (r.0, r.1, task_stays p n e h (Follows r.0 r.1) l r.2)

-- Releases. -------------------------------------------------------------------------------------------

pub released_is_settled : ReleasedIsSettled
released_is_settled p n c k h l r t = let x = released p n h l r in grind (arith, x.task, x.settled)

abbrev UnreleasedIn : ℕ → List Entry → ℕ → ℕ → Progress → Type 0
UnreleasedIn n h c k q = Unreleased (has_released n h) q

-- the commit of another's push and another's refusal release nothing of a follower at work
unreleased_stays : (n : ℕ) (h : List Entry) (o : Op) (q : Progress) → actor o ≢ Some n → ((t : ℕ) → Unreleased (is_push_of n (push_of t h)) q) → Unreleased (has_released n h) q → Unreleased (releases n h o || has_released n h) q
unreleased_stays n h (op.CommitOk m t) q a u i = grind (arith, nat_tests, u t)
unreleased_stays n h o q a u i = grind (arith, nat_tests)

unreleased_moves : (p : Plan) (n : ℕ) (h : List Entry) (o : Op) (f : Follower) → IsDue p h o → place_of p n h ≡ Following f → actor o ≡ Some n → (has_released n h ≡ true → f.k ≤ settled_of f.session h) → Unreleased (has_released n h) (progress f.stage) → Unreleased (releases n h o || has_released n h) (progress_after o (progress f.stage))
unreleased_moves p n h o f d e a s i = grind (arith, nat_tests)

unpushed_at_work : (p : Plan) (t n : ℕ) (h : List Entry) (f : Follower) → IsHistory p h → place_of p n h ≡ Following f → Unreleased (is_push_of n (push_of t h)) (progress f.stage)
unpushed_at_work p t n h f l b = fresh_unpushed (is_push_of n (push_of t h)) (settled_of f.session h) f.k (progress f.stage) (fresh_at p t n h f l b)
  where
    fresh_unpushed : (b : Bool) (s k : ℕ) (q : Progress) → Fresh b s k q → Unreleased b q
    fresh_unpushed b s k q i = grind arith

unreleased_step : (p : Plan) (n : ℕ) (e : Entry) (h : List Entry) → IsHistory p (e ∷ h) → OnFollower (UnreleasedIn n h) (place_of p n h) → OnFollower (UnreleasedIn n (e ∷ h)) (place_of p n (e ∷ h))
unreleased_step p n e h l i =
    follower_step p n h e.op (place_of p n h) (UnreleasedIn n (e ∷ h))
    (λ f b a. unreleased_stays n h e.op (progress f.stage) a (λ t. unpushed_at_work p t n h f l.0 b) (subst (OnFollower (UnreleasedIn n h)) b i))
    (λ c k _. tt)
    (λ f b a. unreleased_moves p n h e.op f (due p e h l) b a (λ r. released_is_settled p n f.session f.k h l.0 r (follower_task p n h f l.0 b)) (subst (OnFollower (UnreleasedIn n h)) b i))

unreleased : (p : Plan) (n : ℕ) (h : List Entry) → IsHistory p h → OnFollower (UnreleasedIn n h) (place_of p n h)
unreleased p n [] l = tt
unreleased p n (e ∷ h) l = unreleased_step p n e h l (unreleased p n h l.0)

pub at_work_is_unreleased : AtWorkIsUnreleased
at_work_is_unreleased p n h f l b = subst (OnFollower (UnreleasedIn n h)) b (unreleased p n h l)

-- A function that has pushed releases at its commit.
at_refusal : (p : Plan) (t n : ℕ) (code : Code) (place at : ℕ) (h : List Entry) → IsHistory p h → IsDue p h (op.RefuseOk n code place at) → is_push_of n (push_of t h) ≡ true → ⊥
at_refusal p t n code place at h l d i = let u = unpushed_at_work p t n h d.0 l d.1 in grind arith

release_commits_step : (p : Plan) (t n : ℕ) (h : List Entry) (o : Op) → IsHistory p h → IsDue p h o
    → (is_push_of n (push_of t h) ≡ true → has_released n h ≡ is_committed t h)
    → ((f : Follower) → place_of p n h ≡ Following f → Unreleased (has_released n h) (progress f.stage))
    → ((s : ℕ) → is_push_of n (push_of t h) ≡ true → is_push_of n (push_of s h) ≡ true → t ≡ s)
    → (is_committed t h ≡ true → t ≤ pushes_of h)
    → is_push_of n (or_else (push_here t (pushed_in (clock_of h) o)) (push_of t h)) ≡ true → (releases n h o || has_released n h) ≡ (commits t o || is_committed t h)
release_commits_step p t n h (op.CommitOk m s) l d i u f b x = grind (arith, nat_tests, f s)
release_commits_step p t n h (op.RefuseOk m code place at) l d i u f b x = grind (arith, nat_tests, at_refusal p t m code place at h l d)
release_commits_step p t n h (op.Push m s) l d i u f b x = grind (arith, nat_tests, u d.0)
release_commits_step p t n h o l d i u f b x = grind (arith, nat_tests)

release_commits : (p : Plan) (t n : ℕ) (h : List Entry) → IsHistory p h → is_push_of n (push_of t h) ≡ true → has_released n h ≡ is_committed t h
release_commits p t n [] l x = absurd (false≢true x)
release_commits p t n (e ∷ h) l x = release_commits_step p t n h e.op l.0 (due p e h l) (release_commits p t n h l.0) (λ f b. at_work_is_unreleased p n h f l.0 b) (λ s a b. one_push p t s n h l.0 a b) (committed_low p t h l.0) x

pub push_releases_at_its_commit : PushReleasesAtItsCommit
push_releases_at_its_commit p t n c k h l x = release_commits p t n h l (is_push_of_it t n c k h x)

same_task : (p : Plan) (n c k d j : ℕ) (e : Entry) (h : List Entry) → IsHistory p (e ∷ h) → task_of n h ≡ Some (Follows d j) → task_of n (e ∷ h) ≡ Some (Follows c k) → task_of n h ≡ Some (Follows c k)
same_task p n c k d j e h l a b = a ∙ sym (task_stays p n e h (Follows d j) l a) ∙ b

pub unsettled_unreleased : (p : Plan) (n c k : ℕ) (h : List Entry) → IsHistory p h → task_of n h ≡ Some (Follows c k) → settled_of c h + 1 ≡ k → has_released n h ≡ false
unsettled_unreleased p n c k h l t s = by_test (has_released n h) refl
  where
    by_test : (b : Bool) → has_released n h ≡ b → has_released n h ≡ false
    by_test false e = e
    by_test true e = absurd (omega (arith, s, released_is_settled p n c k h l e t))

-- Overtaking. -----------------------------------------------------------------------------------------

-- another function's grant of a path that n was granted, at a moment after the lock time
abbrev IsLate : ℕ → ℕ → ℕ → Option Grant → Type 0
IsLate n own lock None = Unit {0}
IsLate n own lock (Some g) = g.holder ≢ n → own + lock < g.moment

late_grant : (p : Plan) (n : ℕ) (path : PathNames) (h : List Entry) (g : Option Grant) → last_grant path h ≡ g → is_some g ≡ true → may_grant p.lock h g ≡ true → has_released n h ≡ false → IsLate n (own_moment n path h) p.lock g → own_moment n path h + p.lock < clock_of h
late_grant p n path h None b s m r i = absurd (false≢true s)
late_grant p n path h (Some g) b s m r i = let o = own_is path h g b in grind (arith, nat_tests)

late_step : (p : Plan) (n : ℕ) (path : PathNames) (h : List Entry) (o : Op) → IsDue p h o → has_released n h ≡ false → (has_path path (granted n h) ≡ true → IsLate n (own_moment n path h) p.lock (last_grant path h)) → has_path path (granted_in n o (granted n h)) ≡ true → IsLate n (own_moment_in n path (clock_of h) o (own_moment n path h)) p.lock (grant_in path (clock_of h) o (last_grant path h))
late_step p n path h (op.LockOk m q) d r i g = by_path (same_path q path) refl
  where
    by_holder : q ≡ path → m ≢ n → own_moment n path h + p.lock < clock_of h
    by_holder e f =
        let w : has_path path (granted n h) ≡ true = grind (arith, nat_tests) in
        late_grant p n path h (last_grant path h) refl (granted_has_grant n path h w) (subst (λ x. may_grant p.lock h (last_grant x h) ≡ true) e d.3) r (i w)

    by_path : (b : Bool) → same_path q path ≡ b → IsLate n (own_moment_in n path (clock_of h) (op.LockOk m q) (own_moment n path h)) p.lock (grant_in path (clock_of h) (op.LockOk m q) (last_grant path h))
    by_path true e = let f = by_holder (same_path_is q path e) in grind (arith, nat_tests)
    by_path false e = let w : has_path path (granted n h) ≡ true = grind (arith, nat_tests, has_last path q (granted n h), same_sym path q) in let j = i w in grind (arith, nat_tests)
late_step p n path h o d r i g = grind arith

late : (p : Plan) (n c k : ℕ) (path : PathNames) (h : List Entry) → IsHistory p h → task_of n h ≡ Some (Follows c k) → settled_of c h + 1 ≡ k → has_path path (granted n h) ≡ true → IsLate n (own_moment n path h) p.lock (last_grant path h)
late p n c k path [] l t s g = absurd (false≢true g)
late p n c k path (e ∷ h) l t s g =
    let r = locked_step p n path h e.op l.0 (due p e h l) (locks_are_followers p n path h l.0) g in
    let x = same_task p n c k r.0 r.1 e h l r.2 t in
    let u = task_at_most_next p n c k h l.0 x in
    let v : settled_of c h ≤ settled_of c (e ∷ h) = counts_more c (settled_in h e.op) (settled_of c h) (settled_of c h) (omega arith) in
    let w : settled_of c h + 1 ≡ k = omega (arith, u, v, s) in
    late_step p n path h e.op (due p e h l) (unsettled_unreleased p n c k h l.0 x w) (λ a. late p n c k path h l.0 x w a) g

pub overtaken_only_after_expiry : OvertakenOnlyAfterExpiry
overtaken_only_after_expiry p n c k path g h l t s a e f = subst (IsLate n (own_moment n path h) p.lock) e (late p n c k path h l t s a) f

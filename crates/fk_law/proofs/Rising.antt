-- Commits on a path and in a session come in the order of their numbers.
use Rattle.std.specs.Prelude.{◌||◌, nat_le}
use Rattle.std.proofs.Common.{◌≡◌, ◌≢◌, ℕ, ◌+◌, ◌<◌, ◌≤◌, ◌++◌, Bool, true, false, List, [], ◌∷◌, refl, sym, ◌∙◌, ap, subst, arith, Option, Some, None}
use Rattle.std.proofs.lemmas.Bool.{false≢true, leb-true, leb-false}
use Rattle.std.proofs.lemmas.Bool.Decides.{nat_tests}
use Rattle.std.proofs.lemmas.Option.{same_Some}
use Rattle.fk_base.specs.Path.{PathNames}
use Rattle.fk_tree.specs.Sorted.{has_path}
use Rattle.fk_print.specs.declared.entry.Entry.{Entry}
use Rattle.fk_print.specs.declared.op.Op.{Op}
use Rattle.fk_print.specs.declared.op.Op.TheVariants as op
use Rattle.fk_spec.specs.Plan.{Plan}
use Rattle.fk_spec.specs.Start.{Follows, Push, clock_of, task_of, push_of, push_here, pushed_in, pushes_of, or_else}
use Rattle.fk_spec.specs.Locks.{Grant, is_push_of, last_grant, grant_in, granted, granted_in, is_held_by}
use Rattle.fk_spec.specs.Settling.{is_committed, commits, settled_of, settled_in}
use Rattle.fk_spec.specs.Next.{IsHistory}
use Rattle.fk_law.specs.Due.{IsDue, IsPushOf, HoldsAll}
use Rattle.fk_law.specs.Rising.{CommitsRiseOnAPath, CommitsRiseInASession, CommitterHoldsItsPaths, OneOfTwoCommits}
use Rattle.fk_law.specs.Losing.{IsOthers, IsOwn}
use Rattle.fk_law.proofs.Due.{due}
use Rattle.fk_law.proofs.Starting.{task_stays}
use Rattle.fk_law.proofs.Pushing.{push_bound, push_stays, push_request, push_there}
use Rattle.fk_law.proofs.Settled.{commit_of, task_at_most_next}
use Rattle.fk_law.proofs.Committing.{counts_more}
use Rattle.fk_law.proofs.Committing.{its_push_is_one, committed_push, commits_once, one_push, committed_settled, is_push_of_it}
use Rattle.fk_law.proofs.Losing.{holds_each, no_more_locks, its_pusher, overtaken_never_commits}

pub held_own : (n : ℕ) (h : List Entry) (g : Option Grant) → is_held_by n h g ≡ true → IsOwn n g
held_own n h None e = absurd (false≢true e)
held_own n h (Some g) e = grind (arith, nat_tests)

pub own_same : (n m : ℕ) (g : Option Grant) → IsOwn n g → IsOwn m g → n ≡ m
own_same n m None a b = absurd a
own_same n m (Some g) a b = grind arith

-- push t of function n is uncommitted and holds the path, push s of function m is committed and was granted it
abbrev Before : ℕ → ℕ → ℕ → ℕ → PathNames → List Entry → Type 0
Before t n s m path h = is_push_of n (push_of t h) ≡ true → is_push_of m (push_of s h) ≡ true → is_committed t h ≡ false → is_committed s h ≡ true → has_path path (granted m h) ≡ true → has_path path (granted n h) ≡ true → IsOwn n (last_grant path h) → s < t

commit_meets : (p : Plan) (a u t n s m : ℕ) (path : PathNames) (h : List Entry) → IsHistory p h → IsDue p h (op.CommitOk a u) → is_push_of n (push_of t h) ≡ true → is_push_of m (push_of s h) ≡ true → u ≡ s → has_path path (granted m h) ≡ true → IsOwn n (last_grant path h) → t ≡ s
commit_meets p a u t n s m path h l d x y e g o =
    let w : IsPushOf s d.0 d.1 d.2 h = subst (λ z. IsPushOf z d.0 d.1 d.2 h) e (commit_of p a u d.0 d.1 d.2 h l d.3) in
    let f : d.0 ≡ m = its_pusher s m d.0 d.1 d.2 h w y in
    let k : IsOwn m (last_grant path h) = held_own m h (last_grant path h) (holds_each m h path (subst (λ z. HoldsAll z h) f d.5) g) in
    one_push p t s n h l x (subst (λ z. is_push_of z (push_of s h) ≡ true) (own_same m n (last_grant path h) k o) y)

lock_before : (n m : ℕ) (q path : PathNames) (ps : List PathNames) → (m ≡ n → ⊥) → has_path path (granted_in n (op.LockOk m q) ps) ≡ true → has_path path ps ≡ true
lock_before n m q path ps f g = grind (arith, nat_tests)

pub own_before : (n m : ℕ) (q path : PathNames) (h : List Entry) → (m ≡ n → ⊥) → IsOwn n (grant_in path (clock_of h) (op.LockOk m q) (last_grant path h)) → IsOwn n (last_grant path h)
own_before n m q path h f g = grind (arith, nat_tests)

meets_step : (p : Plan) (t n s m : ℕ) (path : PathNames) (h : List Entry) (o : Op) → IsHistory p h → IsDue p h o → Before t n s m path h
    → (is_committed s h ≡ true → s ≤ pushes_of h)
    → is_push_of n (or_else (push_here t (pushed_in (clock_of h) o)) (push_of t h)) ≡ true
    → is_push_of m (or_else (push_here s (pushed_in (clock_of h) o)) (push_of s h)) ≡ true
    → (commits t o || is_committed t h) ≡ false → (commits s o || is_committed s h) ≡ true
    → has_path path (granted_in m o (granted m h)) ≡ true → has_path path (granted_in n o (granted n h)) ≡ true
    → IsOwn n (grant_in path (clock_of h) o (last_grant path h)) → s < t
meets_step p t n s m path h (op.Push a u) l d i b x y v w g k o = grind (arith, nat_tests)
meets_step p t n s m path h (op.CommitOk a u) l d i b x y v w g k o = grind (arith, nat_tests, commit_meets p a u t n s m path h l d)
meets_step p t n s m path h (op.LockOk a q) l d i b x y v w g k o =
    let f : a ≡ n → ⊥ = λ e. no_more_locks p t n q h l (subst (λ z. IsDue p h (op.LockOk z q)) e d) x in
    let c : a ≡ m → ⊥ = λ e. no_more_locks p s m q h l (subst (λ z. IsDue p h (op.LockOk z q)) e d) y in
    i x y v w (lock_before m a q path (granted m h) c g) (lock_before n a q path (granted n h) f k) (own_before n a q path h f o)
meets_step p t n s m path h o l d i b x y v w g k z = grind (arith, nat_tests)

pub committed_low : (p : Plan) (s : ℕ) (h : List Entry) → IsHistory p h → is_committed s h ≡ true → s ≤ pushes_of h
committed_low p s h l c = let x = committed_push p s h l c in (push_bound p s h x.is_of.push l x.is_of.pushed).2

-- a push that holds a path is beyond each committed one whose function was granted it
pub newest_on_a_path : (p : Plan) (t n s m : ℕ) (path : PathNames) (h : List Entry) → IsHistory p h → Before t n s m path h
newest_on_a_path p t n s m path [] l = λ x y v w g k o. absurd (false≢true x)
newest_on_a_path p t n s m path (e ∷ h) l = λ x y v w g k o. meets_step p t n s m path h e.op l.0 (due p e h l) (newest_on_a_path p t n s m path h l.0) (committed_low p s h l.0) x y v w g k o

pub commits_rise_on_a_path : CommitsRiseOnAPath
commits_rise_on_a_path p a t n c k s m d j path h l u x y i g f =
    let w = commit_of p a t u.0 u.1 u.2 h l u.3 in
    let e = (its_push_is_one t n c k u.0 u.1 u.2 h x w).0 in
    newest_on_a_path p t n s m path h l (is_push_of_it t n c k h x) (is_push_of_it s m d j h y) (commits_once p a t h l u) i f g
    (held_own n h (last_grant path h) (holds_each n h path (subst (λ z. HoldsAll z h) (sym e) u.5) g))

-- who commits holds each path of its function
pub committer_holds : CommitterHoldsItsPaths
committer_holds p a t n c k path h l u x g =
    let w = commit_of p a t u.0 u.1 u.2 h l u.3 in
    let e = (its_push_is_one t n c k u.0 u.1 u.2 h x w).0 in
    held_own n h (last_grant path h) (holds_each n h path (subst (λ z. HoldsAll z h) (sym e) u.5) g)

own_others : (n m : ℕ) (g : Option Grant) → IsOwn n g → n ≢ m → IsOthers m g
own_others n m None a b = a
own_others n m (Some g) a b = grind arith

pub history_before : (p : Plan) (h more : List Entry) → IsHistory p (more ++ h) → IsHistory p h
history_before p h [] l = l
history_before p h (e ∷ more) l = history_before p h more l.0

pub one_of_two_commits : OneOfTwoCommits
one_of_two_commits p a t n c k s m d j path h more l u x y f b g i =
    let r = history_before p h more l in
    let v : n ≢ m = λ e. f (one_push p s t m h r (is_push_of_it s m d j h y) (subst (λ z. is_push_of z (push_of t h) ≡ true) e (is_push_of_it t n c k h x))) in
    overtaken_never_commits p s m d j h more l y (record { path = path; granted = i; other = own_others n m (last_grant path h) (committer_holds p a t n c k path h r u x g) v }) b

-- Of one session. -------------------------------------------------------------------------------------

pub its_push_before : (p : Plan) (t n c k : ℕ) (e : Entry) (h : List Entry) → IsHistory p (e ∷ h) → 1 ≤ t → t ≤ pushes_of h → IsPushOf t n c k (e ∷ h) → IsPushOf t n c k h
its_push_before p t n c k e h l a b i = record { push = x.0; pushed = x.1; function = f; task = g }
  where
    x : (y : Push) × (push_of t h ≡ Some y)
    x = push_there p t h l.0 a b

    r : (d j : ℕ) × (task_of x.0.function h ≡ Some (Follows d j))
    r = push_request p t h x.0 l.0 x.1

    f : x.0.function ≡ n
    f = ap (λ y. y.function) (same_Some x.0 i.push (sym (push_stays p t e h x.0 l x.1) ∙ i.pushed)) ∙ i.function

    w : task_of n h ≡ Some (Follows r.0 r.1)
    w = subst (λ y. task_of y h ≡ Some (Follows r.0 r.1)) f r.2

    g : task_of n h ≡ Some (Follows c k)
    g = w ∙ (sym (task_stays p n e h (Follows r.0 r.1) l w) ∙ i.task)

new_commit : (p : Plan) (s m c j : ℕ) (h : List Entry) (o : Op) → IsHistory p h → IsDue p h o → commits s o ≡ true → IsPushOf s m c j h → settled_of c h + 1 ≡ j
new_commit p s m c j h (op.CommitOk a u) l d e i =
    let f : u ≡ s = grind (arith, nat_tests) in
    let w = subst (λ z. IsPushOf z d.0 d.1 d.2 h) f (commit_of p a u d.0 d.1 d.2 h l d.3) in
    let g = its_push_is_one s d.0 d.1 d.2 m c j h w i in
    rw (sym g.1, sym g.2) d.4
new_commit p s m c j h o l d e i = absurd (grind arith)

pub pushed_before : (p : Plan) (s : ℕ) (h : List Entry) (o : Op) → IsHistory p h → IsDue p h o → (commits s o || is_committed s h) ≡ true → s ≤ pushes_of h
pushed_before p s h (op.CommitOk a u) l d i =
    let w = commit_of p a u d.0 d.1 d.2 h l d.3 in
    let b = (push_bound p u h w.push l w.pushed).2 in
    grind (arith, nat_tests, committed_low p s h l)
pushed_before p s h o l d i = grind (arith, committed_low p s h l)

-- push t is uncommitted and its request is the session's next, push s is a committed one of the session
abbrev pub BeforeInSession : ℕ → ℕ → ℕ → ℕ → ℕ → ℕ → ℕ → List Entry → Type 0
BeforeInSession t n c k s m j h = IsPushOf t n c k h → IsPushOf s m c j h → is_committed s h ≡ true → settled_of c h + 1 ≡ k → s < t

session_old : (p : Plan) (t n c k s m j : ℕ) (e : Entry) (h : List Entry) (b : Bool) → commits s e.op ≡ b → IsHistory p (e ∷ h) → BeforeInSession t n c k s m j h → IsPushOf t n c k h → IsPushOf s m c j h → IsPushOf s m c j (e ∷ h) → (b || is_committed s h) ≡ true → settled_of c (e ∷ h) + 1 ≡ k → s < t
session_old p t n c k s m j e h b f l i x y z v w =
    let a = task_at_most_next p n c k h l.0 x.task in
    let g : settled_of c h ≤ settled_of c (e ∷ h) = counts_more c (settled_in h e.op) (settled_of c h) (settled_of c h) (omega arith) in
    by_commit b f v a g
  where
    by_commit : (b : Bool) → commits s e.op ≡ b → (b || is_committed s h) ≡ true → k ≤ settled_of c h + 1 → settled_of c h ≤ settled_of c (e ∷ h) → s < t
    by_commit false f v a g = i x y v (omega (arith, a, g, w))
    by_commit true f v a g =
        let q = new_commit p s m c j h e.op l.0 (due p e h l) f y in
        let u = committed_settled p s m c j (e ∷ h) l (rw f refl) z in
        absurd (omega (arith, a, g, w, q, u))

session_step : (p : Plan) (t n c k s m j : ℕ) (e : Entry) (h : List Entry) → IsHistory p (e ∷ h) → BeforeInSession t n c k s m j h → BeforeInSession t n c k s m j (e ∷ h)
session_step p t n c k s m j e h l i x z v w = by_old (nat_le t (pushes_of h)) refl
  where
    low : s ≤ pushes_of h
    low = pushed_before p s h e.op l.0 (due p e h l) v

    by_old : (b : Bool) → nat_le t (pushes_of h) ≡ b → s < t
    by_old true f =
        let a = its_push_before p t n c k e h l (push_bound p t (e ∷ h) x.push l x.pushed).1 (leb-true t (pushes_of h) f) x in
        let y = its_push_before p s m c j e h l (push_bound p s (e ∷ h) z.push l z.pushed).1 low z in
        session_old p t n c k s m j e h (commits s e.op) refl l i a y z v w
    by_old false f = omega (arith, leb-false t (pushes_of h) f, low)

pub newest_in_a_session : (p : Plan) (t n c k s m j : ℕ) (h : List Entry) → IsHistory p h → BeforeInSession t n c k s m j h
newest_in_a_session p t n c k s m j [] l = λ x y v w. absurd (false≢true v)
newest_in_a_session p t n c k s m j (e ∷ h) l = session_step p t n c k s m j e h l (newest_in_a_session p t n c k s m j h l.0)

pub commits_rise_in_a_session : CommitsRiseInASession
commits_rise_in_a_session p a t n c k s m j h l u x y v =
    let w = commit_of p a t u.0 u.1 u.2 h l u.3 in
    let g = its_push_is_one t n c k u.0 u.1 u.2 h x w in
    newest_in_a_session p t n c k s m j h l x y v (rw (g.1, g.2) u.4)

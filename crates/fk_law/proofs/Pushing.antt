-- Pushes: their numbers, their functions and their requests.
use Rattle.std.proofs.Common.{◌≡◌, ℕ, ◌≤◌, ◌++◌, true, List, [], ◌∷◌, refl, sym, ◌∙◌, ap, subst, arith, Option, Some, None}
use Rattle.std.proofs.lemmas.Bool.Decides.{nat_tests}
use Rattle.fk_print.specs.declared.entry.Entry.{Entry}
use Rattle.fk_print.specs.declared.op.Op.{Op}
use Rattle.fk_print.specs.declared.op.Op.TheVariants as op
use Rattle.fk_spec.specs.Plan.{Plan}
use Rattle.fk_spec.specs.Start.{Follows, Push, clock_of, task_of, push_of, push_here, pushed_in, pushes_of, count_push, or_else}
use Rattle.fk_spec.specs.Locks.{is_push_of}
use Rattle.fk_spec.specs.Follower.{Follower}
use Rattle.fk_spec.specs.Follower as follower
use Rattle.fk_spec.specs.Function.{Following, place_of, actor}
use Rattle.fk_spec.specs.Next.{IsHistory}
use Rattle.fk_law.specs.Due.{IsDue}
use Rattle.fk_law.specs.Progress.{Progress, Commits, progress, progress_after}
use Rattle.fk_law.proofs.Due.{due}
use Rattle.fk_law.proofs.Moving.{OnFollower, follower_step}
use Rattle.fk_law.proofs.Starting.{follower_task, task_stays}

push_bound_step : (p : Plan) (t : ℕ) (h : List Entry) (o : Op) (x : Push) → IsDue p h o → (push_of t h ≡ Some x → (x.tx ≡ t) × (1 ≤ t) × (t ≤ pushes_of h)) → or_else (push_here t (pushed_in (clock_of h) o)) (push_of t h) ≡ Some x → (x.tx ≡ t) × (1 ≤ t) × (t ≤ count_push (pushed_in 0 o) (pushes_of h))
push_bound_step p t h o x d i e = grind (arith, nat_tests)

pub push_bound : (p : Plan) (t : ℕ) (h : List Entry) (x : Push) → IsHistory p h → push_of t h ≡ Some x → (x.tx ≡ t) × (1 ≤ t) × (t ≤ pushes_of h)
push_bound p t [] x l e = grind arith
push_bound p t (e ∷ h) x l i = push_bound_step p t h e.op x (due p e h l) (push_bound p t h x l.0) i

push_stays_step : (p : Plan) (t : ℕ) (h : List Entry) (o : Op) (x : Push) → IsDue p h o → t ≤ pushes_of h → push_of t h ≡ Some x → or_else (push_here t (pushed_in (clock_of h) o)) (push_of t h) ≡ Some x
push_stays_step p t h o x d b e = grind (arith, nat_tests)

pub push_stays : (p : Plan) (t : ℕ) (e : Entry) (h : List Entry) (x : Push) → IsHistory p (e ∷ h) → push_of t h ≡ Some x → push_of t (e ∷ h) ≡ Some x
push_stays p t e h x l i = push_stays_step p t h e.op x (due p e h l) (push_bound p t h x l.0 i).2 i

pub push_never_changes : (p : Plan) (t : ℕ) (h more : List Entry) (x : Push) → IsHistory p (more ++ h) → push_of t h ≡ Some x → push_of t (more ++ h) ≡ Some x
push_never_changes p t h [] x l i = i
push_never_changes p t h (e ∷ more) x l i = push_stays p t e (more ++ h) x l (push_never_changes p t h more x l.0 i)

abbrev IsThere : Option Push → Type 0
IsThere None = ⊥
IsThere (Some x) = Unit {0}

there_step : (p : Plan) (t : ℕ) (h : List Entry) (o : Op) → IsDue p h o → (t ≤ pushes_of h → IsThere (push_of t h)) → t ≤ count_push (pushed_in 0 o) (pushes_of h) → IsThere (or_else (push_here t (pushed_in (clock_of h) o)) (push_of t h))
there_step p t h o d i b = grind (arith, nat_tests)

there : (p : Plan) (t : ℕ) (h : List Entry) → IsHistory p h → 1 ≤ t → t ≤ pushes_of h → IsThere (push_of t h)
there p t [] l a b = absurd (omega arith)
there p t (e ∷ h) l a b = there_step p t h e.op (due p e h l) (there p t h l.0 a) b

pub push_there : (p : Plan) (t : ℕ) (h : List Entry) → IsHistory p h → 1 ≤ t → t ≤ pushes_of h → (x : Push) × (push_of t h ≡ Some x)
push_there p t h l a b = some (push_of t h) (there p t h l a b)
  where
    some : (o : Option Push) → IsThere o → (x : Push) × (o ≡ Some x)
    some None i = absurd i
    some (Some x) i = (x, refl)

pusher_follows : (p : Plan) (t : ℕ) (h : List Entry) (o : Op) (x : Push) → IsDue p h o → push_here t (pushed_in (clock_of h) o) ≡ Some x → (f : Follower) × (place_of p x.function h ≡ Following f)
pusher_follows p t h (op.Push n s) x d e = (d.0, (let f : n ≡ x.function = grind (arith, nat_tests) in rw (← f) d.1))
pusher_follows p t h o x d e = grind (arith, nat_tests)

-- a push's function follows a session
push_request_step : (p : Plan) (t : ℕ) (e : Entry) (h : List Entry) (x : Push) → IsHistory p (e ∷ h) → (push_of t h ≡ Some x → (c k : ℕ) × (task_of x.function h ≡ Some (Follows c k))) → (o : Option Push) → push_here t (pushed_in (clock_of h) e.op) ≡ o → or_else o (push_of t h) ≡ Some x → (c k : ℕ) × (task_of x.function (e ∷ h) ≡ Some (Follows c k))
push_request_step p t e h x l i None b m = let r = i m in (r.0, r.1, task_stays p x.function e h (Follows r.0 r.1) l r.2)
push_request_step p t e h x l i (Some y) b m = let f = pusher_follows p t h e.op x (due p e h l) (b ∙ m) in (f.0.session, f.0.k, task_stays p x.function e h (Follows f.0.session f.0.k) l (follower_task p x.function h f.0 l.0 f.1))

pub push_request : (p : Plan) (t : ℕ) (h : List Entry) (x : Push) → IsHistory p h → push_of t h ≡ Some x → (c k : ℕ) × (task_of x.function h ≡ Some (Follows c k))
push_request p t [] x l i = absurd (grind arith)
push_request p t (e ∷ h) x l i = push_request_step p t e h x l (push_request p t h x l.0) (push_here t (pushed_in (clock_of h) e.op)) refl i

-- a follower that stands before the commit of a push has pushed it
abbrev HasPushed : ℕ → ℕ → List Entry → Progress → Type 0
HasPushed t n h (Commits s) = s ≡ t → is_push_of n (push_of t h) ≡ true
HasPushed t n h _ = Unit {0}

pushed_stays : (p : Plan) (t n : ℕ) (e : Entry) (h : List Entry) → IsHistory p (e ∷ h) → is_push_of n (push_of t h) ≡ true → is_push_of n (push_of t (e ∷ h)) ≡ true
pushed_stays p t n e h l i = some (push_of t h) refl
  where
    some : (o : Option Push) → push_of t h ≡ o → is_push_of n (push_of t (e ∷ h)) ≡ true
    some None b = grind arith
    some (Some x) b = ap (is_push_of n) (push_stays p t e h x l b ∙ sym b) ∙ i

has_pushed_moves : (t n : ℕ) (h : List Entry) (e : Entry) (q : Progress) → (is_push_of n (push_of t h) ≡ true → is_push_of n (push_of t (e ∷ h)) ≡ true) → actor e.op ≡ Some n → HasPushed t n h q → HasPushed t n (e ∷ h) (progress_after e.op q)
has_pushed_moves t n h e q s a i = grind (arith, nat_tests)

has_pushed_stays : (t n : ℕ) (h : List Entry) (e : Entry) (q : Progress) → (is_push_of n (push_of t h) ≡ true → is_push_of n (push_of t (e ∷ h)) ≡ true) → HasPushed t n h q → HasPushed t n (e ∷ h) q
has_pushed_stays t n h e q s i = grind (arith, nat_tests)

has_pushed : (p : Plan) (t n : ℕ) (h : List Entry) → IsHistory p h → OnFollower (λ c k q. HasPushed t n h q) (place_of p n h)
has_pushed p t n [] l = tt
has_pushed p t n (e ∷ h) l =
    follower_step p n h e.op (place_of p n h) (λ c k q. HasPushed t n (e ∷ h) q)
    (λ f b _. has_pushed_stays t n h e (progress f.stage) (pushed_stays p t n e h l) (subst (OnFollower (λ c k q. HasPushed t n h q)) b (has_pushed p t n h l.0)))
    (λ c k _. tt)
    (λ f b a. has_pushed_moves t n h e (progress f.stage) (pushed_stays p t n e h l) a (subst (OnFollower (λ c k q. HasPushed t n h q)) b (has_pushed p t n h l.0)))

pub at_commit : (p : Plan) (t n : ℕ) (h : List Entry) (f : Follower) → IsHistory p h → place_of p n h ≡ Following f → f.stage ≡ follower.Commit t → is_push_of n (push_of t h) ≡ true
at_commit p t n h f l b s = subst (λ (q : Progress). HasPushed t n h q) (ap progress s) (subst (OnFollower (λ c k q. HasPushed t n h q)) b (has_pushed p t n h l)) refl

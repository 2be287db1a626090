-- A push commits once, and its request's outcome is that it was.
use Rattle.std.specs.Prelude.{◌||◌}
use Rattle.std.proofs.Common.{◌≡◌, ◌≢◌, ℕ, ◌+◌, ◌≤◌, Bool, true, false, List, [], ◌∷◌, refl, sym, ◌∙◌, subst, arith, Option, Some, None}
use Rattle.std.proofs.lemmas.Bool.{false≢true}
use Rattle.std.proofs.lemmas.Bool.Decides.{nat_tests}
use Rattle.fk_print.specs.declared.entry.Entry.{Entry}
use Rattle.fk_print.specs.declared.op.Op.{Op}
use Rattle.fk_print.specs.declared.op.Op.TheVariants as op
use Rattle.fk_spec.specs.Plan.{Plan}
use Rattle.fk_spec.specs.Start.{Follows, Push, clock_of, push_of, push_here, pushed_in, or_else, starts_of}
use Rattle.fk_spec.specs.Locks.{is_push_of}
use Rattle.fk_spec.specs.Settling.{Settling, Outcome, Committed, settling, settled_in, settled_of, count_settling, session_of_push, is_committed, commits, outcome_of, outcome_here}
use Rattle.fk_spec.specs.Follower.{Follower}
use Rattle.fk_spec.specs.Function.{Following, place_of, actor}
use Rattle.fk_spec.specs.Next.{IsHistory}
use Rattle.fk_law.specs.Due.{IsDue, IsPushOf}
use Rattle.fk_law.specs.Settled.{IsCommittedPush, AtWorkIsUnpushed}
use Rattle.fk_law.specs.Pushes.{OnePushForEachFunction}
use Rattle.fk_law.specs.Progress.{Progress, Asks, Works, Expires, progress, progress_after}
use Rattle.fk_law.proofs.Due.{due}
use Rattle.fk_law.proofs.Moving.{OnFollower, follower_step}
use Rattle.fk_law.proofs.Starting.{follower_task, task_stays, task_bound}
use Rattle.fk_law.proofs.Pushing.{push_stays, push_request}
use Rattle.fk_law.proofs.Settled.{commit_of, session_of_its_push, task_at_most_next}

pub its_push_stays : (p : Plan) (t n c k : ℕ) (e : Entry) (h : List Entry) → IsHistory p (e ∷ h) → IsPushOf t n c k h → IsPushOf t n c k (e ∷ h)
its_push_stays p t n c k e h l i = record { push = i.push; pushed = push_stays p t e h i.push l i.pushed; function = i.function; task = task_stays p n e h (Follows c k) l i.task }

pub is_push_of_it : (t m c k : ℕ) (h : List Entry) → IsPushOf t m c k h → is_push_of m (push_of t h) ≡ true
is_push_of_it t m c k h i = grind (arith, nat_tests)

pub its_push_is_one : (t n c k m d j : ℕ) (h : List Entry) → IsPushOf t n c k h → IsPushOf t m d j h → (n ≡ m) × (c ≡ d) × (k ≡ j)
its_push_is_one t n c k m d j h a b = grind arith

pub outcome_stays : (c k : ℕ) (h : List Entry) (o : Option Settling) (x : Option Outcome) → k ≤ settled_of c h → outcome_here c k (settled_of c h) o x ≡ x
outcome_stays c k h o x b = grind (arith, nat_tests)

pub counts_more : (c : ℕ) (o : Option Settling) (s k : ℕ) → k ≤ s → k ≤ count_settling c o s
counts_more c o s k b = grind (arith, nat_tests)

pub committed_now : (t c k s : ℕ) (o : Option ℕ) (x : Option Outcome) → o ≡ Some c → s + 1 ≡ k → (k ≤ count_settling c (settling o (Committed t)) s) × (outcome_here c k s (settling o (Committed t)) x ≡ Some (Committed t))
committed_now t c k s o x e n = grind (arith, nat_tests)

committed_step : (p : Plan) (t : ℕ) (e : Entry) (h : List Entry) (o : Op) → e.op ≡ o → IsHistory p (e ∷ h) → (is_committed t h ≡ true → IsCommittedPush t h) → (commits t o || is_committed t h) ≡ true → IsCommittedPush t (e ∷ h)
committed_step p t e h o b l i a = by_commit (commits t o) refl a
  where
    old : IsCommittedPush t h → IsCommittedPush t (e ∷ h)
    old x = record {
      function = x.function;
      session = x.session;
      k = x.k;
      is_of = its_push_stays p t x.function x.session x.k e h l x.is_of;
      settled = counts_more x.session (settled_in h e.op) (settled_of x.session h) x.k x.settled;
      outcome = outcome_stays x.session x.k h (settled_in h e.op) (outcome_of x.session x.k h) x.settled ∙ x.outcome;
    }

    new : (u : Op) → e.op ≡ u → IsDue p h u → commits t u ≡ true → IsCommittedPush t (e ∷ h)
    new (op.CommitOk n s) f d c =
        let g : s ≡ t = grind (arith, nat_tests) in
        let w = commit_of p n s d.0 d.1 d.2 h l.0 d.3 in
        let m = committed_now s d.1 d.2 (settled_of d.1 h) (session_of_push s h) (outcome_of d.1 d.2 h) (session_of_its_push s d.0 d.1 d.2 h w) d.4 in
        subst (λ x. IsCommittedPush x (e ∷ h)) g
        (record {
          function = d.0;
          session = d.1;
          k = d.2;
          is_of = its_push_stays p s d.0 d.1 d.2 e h l w;
          settled = rw f m.0;
          outcome = rw f m.1;
        })
    new u f d c = absurd (grind arith)

    by_commit : (c : Bool) → commits t o ≡ c → (c || is_committed t h) ≡ true → IsCommittedPush t (e ∷ h)
    by_commit true f a = new e.op refl (due p e h l) (rw b f)
    by_commit false f a = old (i a)

pub committed_push : (p : Plan) (t : ℕ) (h : List Entry) → IsHistory p h → is_committed t h ≡ true → IsCommittedPush t h
committed_push p t [] l i = absurd (grind arith)
committed_push p t (e ∷ h) l i = committed_step p t e h e.op refl l (committed_push p t h l.0) i

-- the request of a committed push is settled
pub committed_settled : (p : Plan) (t n c k : ℕ) (h : List Entry) → IsHistory p h → is_committed t h ≡ true → IsPushOf t n c k h → k ≤ settled_of c h
committed_settled p t n c k h l i w =
    let x = committed_push p t h l i in
    let s = its_push_is_one t n c k x.function x.session x.k h w x.is_of in
    rw (s.1, s.2) x.settled

-- a push commits at most once
pub commits_once : (p : Plan) (n t : ℕ) (h : List Entry) → IsHistory p h → IsDue p h (op.CommitOk n t) → is_committed t h ≡ false
commits_once p n t h l d = by_test (is_committed t h) refl
  where
    by_test : (b : Bool) → is_committed t h ≡ b → is_committed t h ≡ false
    by_test false e = e
    by_test true e = let s = committed_settled p t d.0 d.1 d.2 h l e (commit_of p n t d.0 d.1 d.2 h l d.3) in absurd (omega (arith, s, d.4))

-- One push for each function. -------------------------------------------------------------------------

pub pusher_starts : (p : Plan) (n t : ℕ) (h : List Entry) → IsHistory p h → is_push_of n (push_of t h) ≡ true → n ≤ starts_of h
pusher_starts p n t h l i = by_push (push_of t h) refl i
  where
    by_push : (o : Option Push) → push_of t h ≡ o → is_push_of n o ≡ true → n ≤ starts_of h
    by_push None e i = absurd (grind arith)
    by_push (Some x) e i = let r = push_request p t h x l e in let b = task_bound p x.function h (Follows r.0 r.1) l r.2 in let g : x.function ≡ n = grind (arith, nat_tests) in rw (← g) b.1

-- where a follower stands that hasn't pushed, or pushed a request that is settled
abbrev pub Fresh : Bool → ℕ → ℕ → Progress → Type 0
Fresh pushed settled k Works = pushed ≡ false
Fresh pushed settled k Expires = pushed ≡ false
Fresh pushed settled k Asks = pushed ≡ true → k ≤ settled
Fresh pushed settled k _ = Unit {0}

abbrev FreshIn : ℕ → ℕ → List Entry → ℕ → ℕ → Progress → Type 0
FreshIn t n h c k q = Fresh (is_push_of n (push_of t h)) (settled_of c h) k q

fresh_stays : (t n k s : ℕ) (q : Progress) (h : List Entry) (o : Op) → actor o ≢ Some n → Fresh (is_push_of n (push_of t h)) s k q → Fresh (is_push_of n (or_else (push_here t (pushed_in (clock_of h) o)) (push_of t h))) s k q
fresh_stays t n k s q h o a i = grind (arith, nat_tests)

fresh_grows : (b : Bool) (c k s : ℕ) (q : Progress) (o : Option Settling) → Fresh b s k q → Fresh b (count_settling c o s) k q
fresh_grows b c k s q o i = grind (arith, nat_tests)

fresh_start : (p : Plan) (t n c k s : ℕ) (h : List Entry) (o : Op) → IsDue p h o → o ≡ op.Follower n c k → (is_push_of n (push_of t h) ≡ true → n ≤ starts_of h) → is_push_of n (or_else (push_here t (pushed_in (clock_of h) o)) (push_of t h)) ≡ true → k ≤ s
fresh_start p t n c k s h o d e b i = grind (arith, nat_tests)

fresh_moves : (p : Plan) (t n : ℕ) (h : List Entry) (o : Op) (f : Follower) → IsDue p h o → place_of p n h ≡ Following f → actor o ≡ Some n → f.k ≤ settled_of f.session h + 1 → Fresh (is_push_of n (push_of t h)) (settled_of f.session h) f.k (progress f.stage) → Fresh (is_push_of n (or_else (push_here t (pushed_in (clock_of h) o)) (push_of t h))) (settled_of f.session h) f.k (progress_after o (progress f.stage))
fresh_moves p t n h o f d e a b i = grind (arith, nat_tests)

fresh_step : (p : Plan) (t n : ℕ) (e : Entry) (h : List Entry) → IsHistory p (e ∷ h) → OnFollower (FreshIn t n h) (place_of p n h) → OnFollower (FreshIn t n (e ∷ h)) (place_of p n (e ∷ h))
fresh_step p t n e h l i =
    follower_step p n h e.op (place_of p n h) (FreshIn t n (e ∷ h))
    (λ f b a. fresh_grows (is_push_of n (push_of t (e ∷ h))) f.session f.k (settled_of f.session h) (progress f.stage) (settled_in h e.op) (fresh_stays t n f.k (settled_of f.session h) (progress f.stage) h e.op a (subst (OnFollower (FreshIn t n h)) b i)))
    (λ c k b x. fresh_start p t n c k (settled_of c (e ∷ h)) h e.op (due p e h l) b (pusher_starts p n t h l.0) x)
    (λ f b a. fresh_grows (is_push_of n (push_of t (e ∷ h))) f.session f.k (settled_of f.session h) (progress_after e.op (progress f.stage)) (settled_in h e.op)
    (fresh_moves p t n h e.op f (due p e h l) b a (task_at_most_next p n f.session f.k h l.0 (follower_task p n h f l.0 b)) (subst (OnFollower (FreshIn t n h)) b i)))

fresh : (p : Plan) (t n : ℕ) (h : List Entry) → IsHistory p h → OnFollower (FreshIn t n h) (place_of p n h)
fresh p t n [] l = tt
fresh p t n (e ∷ h) l = fresh_step p t n e h l (fresh p t n h l.0)

pub fresh_at : (p : Plan) (t n : ℕ) (h : List Entry) (f : Follower) → IsHistory p h → place_of p n h ≡ Following f → Fresh (is_push_of n (push_of t h)) (settled_of f.session h) f.k (progress f.stage)
fresh_at p t n h f l b = subst (OnFollower (FreshIn t n h)) b (fresh p t n h l)

-- a follower at work has pushed nothing
pub at_work_unpushed : (p : Plan) (t n : ℕ) (h : List Entry) (f : Follower) → IsHistory p h → place_of p n h ≡ Following f → progress f.stage ≡ Works → is_push_of n (push_of t h) ≡ false
at_work_unpushed p t n h f l b w = subst (λ q. FreshIn t n h f.session f.k q) w (subst (OnFollower (FreshIn t n h)) b (fresh p t n h l))

one_push_step : (p : Plan) (t s n : ℕ) (h : List Entry) (o : Op) → IsDue p h o
    → (is_push_of n (push_of t h) ≡ true → is_push_of n (push_of s h) ≡ true → t ≡ s)
    → ((f : Follower) → place_of p n h ≡ Following f → progress f.stage ≡ Works → is_push_of n (push_of t h) ≡ false)
    → ((f : Follower) → place_of p n h ≡ Following f → progress f.stage ≡ Works → is_push_of n (push_of s h) ≡ false)
    → is_push_of n (or_else (push_here t (pushed_in (clock_of h) o)) (push_of t h)) ≡ true → is_push_of n (or_else (push_here s (pushed_in (clock_of h) o)) (push_of s h)) ≡ true → t ≡ s
one_push_step p t s n h (op.Push m u) d i a b x y = grind (arith, nat_tests, a d.0, b d.0)
one_push_step p t s n h o d i a b x y = grind (arith, nat_tests)

-- two pushes have two functions
pub one_push : (p : Plan) (t s n : ℕ) (h : List Entry) → IsHistory p h → is_push_of n (push_of t h) ≡ true → is_push_of n (push_of s h) ≡ true → t ≡ s
one_push p t s n [] l x y = absurd (grind arith)
one_push p t s n (e ∷ h) l x y = one_push_step p t s n h e.op (due p e h l) (one_push p t s n h l.0) (λ f b w. at_work_unpushed p t n h f l.0 b w) (λ f b w. at_work_unpushed p s n h f l.0 b w) x y

pub one_push_law : OnePushForEachFunction
one_push_law p t s n c k d j h l x y = one_push p t s n h l (is_push_of_it t n c k h x) (is_push_of_it s n d j h y)

pub at_work_law : AtWorkIsUnpushed
at_work_law p t n c k h f l b w x = false≢true (sym (at_work_unpushed p t n h f l b w) ∙ is_push_of_it t n c k h x)

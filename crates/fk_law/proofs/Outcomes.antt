-- Settled requests and their outcomes.
use Rattle.std.specs.Prelude.{◌==◌, ◌&&◌}
use Rattle.std.proofs.Common.{◌≡◌, ℕ, ◌+◌, ◌≤◌, ◌++◌, Bool, true, false, List, [], ◌∷◌, refl, sym, ◌∙◌, ap, subst, arith, Option, Some, None}
use Rattle.std.proofs.lemmas.Bool.Decides.{nat_tests}
use Rattle.fk_print.specs.declared.entry.Entry.{Entry}
use Rattle.fk_print.specs.declared.op.Op.{Op}
use Rattle.fk_print.specs.declared.op.Op.TheVariants as op
use Rattle.fk_spec.specs.Plan.{Plan}
use Rattle.fk_spec.specs.Settling.{Settling, Outcome, Committed, settling, settled_in, settled_of, count_settling, outcome_of, outcome_here, session_of_push, is_committed}
use Rattle.fk_spec.specs.Next.{IsHistory}
use Rattle.fk_law.specs.Due.{IsDue, IsPushOf}
use Rattle.fk_law.specs.Settled.{SettledHaveAnOutcome, OutcomeIsOfASettled, OutcomeNeverChanges, AppliedIsCommitted, OneCommitForEachRequest}
use Rattle.fk_law.proofs.Due.{due}
use Rattle.fk_law.proofs.Settled.{commit_of, session_of_its_push}
use Rattle.fk_law.proofs.Committing.{its_push_is_one, its_push_stays, committed_push, outcome_stays}

there_step : (c k s : ℕ) (o : Option Settling) (x : Option Outcome) → 1 ≤ k → (k ≤ s → (y : Outcome) × (x ≡ Some y)) → k ≤ count_settling c o s → (y : Outcome) × (outcome_here c k s o x ≡ Some y)
there_step c k s None x a i b = i b
there_step c k s (Some z) x a i b = by_test ((z.session == c) && (s + 1 == k)) refl
  where
    by_test : (d : Bool) → ((z.session == c) && (s + 1 == k)) ≡ d → (y : Outcome) × (outcome_here c k s (Some z) x ≡ Some y)
    by_test true e = (z.outcome, rw e refl)
    by_test false e = let y = i (grind (arith, nat_tests)) in (y.0, rw e y.1)

pub settled_have_an_outcome : SettledHaveAnOutcome
settled_have_an_outcome p c k [] l a b = absurd (omega (arith, a, b))
settled_have_an_outcome p c k (e ∷ h) l a b = there_step c k (settled_of c h) (settled_in h e.op) (outcome_of c k h) a (settled_have_an_outcome p c k h l.0 a) b

settled_step : (c k s : ℕ) (o : Option Settling) (x : Option Outcome) (y : Outcome) → (x ≡ Some y → (1 ≤ k) × (k ≤ s)) → outcome_here c k s o x ≡ Some y → (1 ≤ k) × (k ≤ count_settling c o s)
settled_step c k s o x y i e = grind (arith, nat_tests)

pub outcome_is_of_a_settled : OutcomeIsOfASettled
outcome_is_of_a_settled p c k [] o l i = absurd (grind arith)
outcome_is_of_a_settled p c k (e ∷ h) o l i = settled_step c k (settled_of c h) (settled_in h e.op) (outcome_of c k h) o (outcome_is_of_a_settled p c k h o l.0) i

pub outcome_never_changes : OutcomeNeverChanges
outcome_never_changes p c k h [] o l i = i
outcome_never_changes p c k h (e ∷ more) o l i =
    let j = outcome_never_changes p c k h more o l.0 i in
    outcome_stays c k (more ++ h) (settled_in (more ++ h) e.op) (outcome_of c k (more ++ h)) (outcome_is_of_a_settled p c k (more ++ h) o l.0 j).1 ∙ j

here_is : (c k s t : ℕ) (z : Settling) (x : Option Outcome) → outcome_here c k s (Some z) x ≡ Some (Committed t) → ((z.session == c) && (s + 1 == k)) ≡ true → (z ≡ record { session = c; outcome = Committed t }) × (s + 1 ≡ k)
here_is c k s t z x e f = grind (arith, nat_tests)

here_not : (c k s t : ℕ) (z : Settling) (x : Option Outcome) → outcome_here c k s (Some z) x ≡ Some (Committed t) → ((z.session == c) && (s + 1 == k)) ≡ false → x ≡ Some (Committed t)
here_not c k s t z x e f = grind (arith, nat_tests)

-- an applied request: its push
record IsApplied (t c k : ℕ) (h : List Entry) : Type 0 where
  pub function : ℕ
  pub is_of : IsPushOf t function c k h
  pub committed : is_committed t h ≡ true

commits_so : (t c : ℕ) (h : List Entry) (o : Op) → settled_in h o ≡ Some (record { session = c; outcome = Committed t }) → (a : ℕ) × (o ≡ op.CommitOk a t)
commits_so t c h (op.CommitOk a u) e = (a, (let f : u ≡ t = grind arith in ap (λ x. op.CommitOk a x) f))
commits_so t c h o e = absurd (grind arith)

its_session : (o : Option ℕ) (c d : ℕ) (w : Outcome) → o ≡ Some d → settling o w ≡ Some (record { session = c; outcome = w }) → d ≡ c
its_session o c d w e f = grind arith

applied_new : (p : Plan) (a t c k : ℕ) (e : Entry) (h : List Entry) → IsHistory p (e ∷ h) → e.op ≡ op.CommitOk a t → settled_in h (op.CommitOk a t) ≡ Some (record { session = c; outcome = Committed t }) → settled_of c h + 1 ≡ k → IsApplied t c k (e ∷ h)
applied_new p a t c k e h l b s n = record { function = d.0; is_of = its_push_stays p t d.0 c k e h l (subst (λ x. IsPushOf t d.0 c x h) same (subst (λ x. IsPushOf t d.0 x d.2 h) f w)); committed = rw b (grind (arith, nat_tests)) }
  where
    d : IsDue p h (op.CommitOk a t)
    d = subst (IsDue p h) b (due p e h l)

    w : IsPushOf t d.0 d.1 d.2 h
    w = commit_of p a t d.0 d.1 d.2 h l.0 d.3

    f : d.1 ≡ c
    f = its_session (session_of_push t h) c d.1 (Committed t) (session_of_its_push t d.0 d.1 d.2 h w) s

    same : d.2 ≡ k
    same = sym d.4 ∙ ap (λ x. settled_of x h + 1) f ∙ n

applied_old : (p : Plan) (t c k : ℕ) (e : Entry) (h : List Entry) → IsHistory p (e ∷ h) → IsApplied t c k h → IsApplied t c k (e ∷ h)
applied_old p t c k e h l x = record { function = x.function; is_of = its_push_stays p t x.function c k e h l x.is_of; committed = (let y = x.committed in grind arith) }

applied_step : (p : Plan) (t c k : ℕ) (e : Entry) (h : List Entry) (o : Option Settling) → settled_in h e.op ≡ o → IsHistory p (e ∷ h) → (outcome_of c k h ≡ Some (Committed t) → IsApplied t c k h) → outcome_here c k (settled_of c h) o (outcome_of c k h) ≡ Some (Committed t) → IsApplied t c k (e ∷ h)
applied_step p t c k e h None b l i a = applied_old p t c k e h l (i a)
applied_step p t c k e h (Some z) b l i a = by_test ((z.session == c) && (settled_of c h + 1 == k)) refl
  where
    by_test : (d : Bool) → ((z.session == c) && (settled_of c h + 1 == k)) ≡ d → IsApplied t c k (e ∷ h)
    by_test false f = applied_old p t c k e h l (i (here_not c k (settled_of c h) t z (outcome_of c k h) a f))
    by_test true f =
        let g = here_is c k (settled_of c h) t z (outcome_of c k h) a f in
        let s : settled_in h e.op ≡ Some (record { session = c; outcome = Committed t }) = b ∙ ap Some g.0 in
        let q = commits_so t c h e.op s in
        applied_new p q.0 t c k e h l q.1 (subst (λ o. settled_in h o ≡ Some (record { session = c; outcome = Committed t })) q.1 s) g.1

applied : (p : Plan) (t c k : ℕ) (h : List Entry) → IsHistory p h → outcome_of c k h ≡ Some (Committed t) → IsApplied t c k h
applied p t c k [] l a = absurd (grind arith)
applied p t c k (e ∷ h) l a = applied_step p t c k e h (settled_in h e.op) refl l (applied p t c k h l.0) a

pub applied_is_committed : AppliedIsCommitted
applied_is_committed p c k t h l a = let x = applied p t c k h l a in (x.committed, x.function, x.is_of)

pub one_commit_for_each_request : OneCommitForEachRequest
one_commit_for_each_request p t n s m c k h l x y a b =
    let u = outcome_is p t n c k h l a x in
    let v = outcome_is p s m c k h l b y in
    grind (arith, u, v)
  where
    outcome_is : (p : Plan) (t n c k : ℕ) (h : List Entry) → IsHistory p h → is_committed t h ≡ true → IsPushOf t n c k h → outcome_of c k h ≡ Some (Committed t)
    outcome_is p t n c k h l a x = let z = committed_push p t h l a in let g = its_push_is_one t n c k z.function z.session z.k h x z.is_of in rw (g.1, g.2) z.outcome

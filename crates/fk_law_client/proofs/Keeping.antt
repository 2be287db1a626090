-- A follower tells an outcome that isn't a commit.
use Rattle.std.proofs.Common.{◌≡◌, ℕ, ◌+◌, ◌≤◌, List, [], ◌∷◌, sym, ◌∙◌, ap, subst, arith, Option, Some}
use Rattle.std.proofs.lemmas.Bool.Decides.{nat_tests}
use Rattle.fk_print.specs.declared.entry.Entry.{Entry}
use Rattle.fk_print.specs.declared.op.Op.{Op}
use Rattle.fk_print.specs.declared.op.Op.TheVariants as op
use Rattle.fk_spec.specs.Plan.{Plan}
use Rattle.fk_spec.specs.Start.{Task, Follows, task_of, session_followed}
use Rattle.fk_spec.specs.Locks.{loss_of}
use Rattle.fk_spec.specs.Settling.{Outcome, Refused, Passed, settled_of, settling, settled_in, outcome_of, outcome_here}
use Rattle.fk_spec.specs.Follower.{Follower}
use Rattle.fk_spec.specs.Follower as follower
use Rattle.fk_spec.specs.Function.{Following, place_of, actor}
use Rattle.fk_spec.specs.Next.{IsHistory}
use Rattle.fk_law.specs.Due.{IsDue, IsApplied}
use Rattle.fk_law.specs.Progress.{Progress, Asks, Works, Expires, Commits, Loses, Replies, Acks, Ends, progress, progress_after}
use Rattle.fk_law.specs.Settled.{Answered}
use Rattle.fk_law.proofs.Due.{due}
use Rattle.fk_law.proofs.Moving.{OnFollower, follower_step}
use Rattle.fk_law.proofs.Starting.{follower_task}
use Rattle.fk_law.proofs.Committing.{outcome_stays}
use Rattle.fk_law.proofs.Settled.{answered_at}

-- before a reply the outcome isn't a commit
abbrev Withholds : Option Outcome → Progress → Type 0
Withholds o Replies = IsApplied o → ⊥
Withholds o _ = Unit {0}

stays_withheld : (o w : Option Outcome) (s k : ℕ) (q : Progress) → Answered s k q → (k ≤ s → w ≡ o) → Withholds o q → Withholds w q
stays_withheld o w s k Replies a e i = λ b. i (subst IsApplied (e a) b)
stays_withheld o w s k Asks a e i = tt
stays_withheld o w s k Works a e i = tt
stays_withheld o w s k Expires a e i = tt
stays_withheld o w s k (Commits t) a e i = tt
stays_withheld o w s k Loses a e i = tt
stays_withheld o w s k Acks a e i = tt
stays_withheld o w s k Ends a e i = tt

settles_so : (c k s : ℕ) (t : Option Task) (x : Option Outcome) (w : Outcome) → t ≡ Some (Follows c k) → s + 1 ≡ k → outcome_here c k s (settling (session_followed t) w) x ≡ Some w
settles_so c k s t x w e n = rw e (grind (arith, nat_tests))

moves_withheld : (p : Plan) (n : ℕ) (h : List Entry) (o : Op) (f : Follower) → IsDue p h o → place_of p n h ≡ Following f → actor o ≡ Some n → task_of n h ≡ Some (Follows f.session f.k) → Withholds (outcome_here f.session f.k (settled_of f.session h) (settled_in h o) (outcome_of f.session f.k h)) (progress_after o (progress f.stage))
moves_withheld p n h (op.SessionRefused m) f d e a t = let g : m ≡ n = grind arith in let s : d.0 ≡ f = its m d.0 g d.1 in subst (λ z. IsApplied (outcome_of z.session z.k h) → ⊥) s d.4
  where
    its : (m : ℕ) (g : Follower) → m ≡ n → place_of p m h ≡ Following g → g ≡ f
    its m g q r = let u : Following g ≡ Following f = sym r ∙ ap (λ z. place_of p z h) q ∙ e in cc
moves_withheld p n h (op.RefuseOk m cd place at) f d e a t =
    let g : m ≡ n = grind arith in
    let s : d.0 ≡ f = its m d.0 g d.1 in
    subst (λ o. IsApplied o → ⊥) (sym (settles_so f.session f.k (settled_of f.session h) (task_of m h) (outcome_of f.session f.k h) (Refused cd place at) (ap (λ z. task_of z h) g ∙ t) (subst (λ z. settled_of z.session h + 1 ≡ z.k) s d.2))) (λ b. b)
  where
    its : (m : ℕ) (g : Follower) → m ≡ n → place_of p m h ≡ Following g → g ≡ f
    its m g q r = let u : Following g ≡ Following f = sym r ∙ ap (λ z. place_of p z h) q ∙ e in cc
moves_withheld p n h (op.LostOk m) f d e a t =
    let g : m ≡ n = grind arith in
    let s : d.0 ≡ f = its m d.0 g d.1 in
    subst (λ o. IsApplied o → ⊥) (sym (settles_so f.session f.k (settled_of f.session h) (task_of m h) (outcome_of f.session f.k h) (Passed (loss_of m h)) (ap (λ z. task_of z h) g ∙ t) (subst (λ z. settled_of z.session h + 1 ≡ z.k) s d.3))) (λ b. b)
  where
    its : (m : ℕ) (g : Follower) → m ≡ n → place_of p m h ≡ Following g → g ≡ f
    its m g q r = let u : Following g ≡ Following f = sym r ∙ ap (λ z. place_of p z h) q ∙ e in cc
moves_withheld p n h (op.LockBusy m path holder moment) f d e a t = let g : m ≡ n = grind arith in let s : d.0 ≡ f = its m d.0 g d.1 in subst (λ z. Withholds (outcome_of f.session f.k h) (progress z.stage)) s (subst (λ z. Withholds (outcome_of f.session f.k h) (progress z)) (sym d.2) tt)
  where
    its : (m : ℕ) (g : Follower) → m ≡ n → place_of p m h ≡ Following g → g ≡ f
    its m g q r = let u : Following g ≡ Following f = sym r ∙ ap (λ z. place_of p z h) q ∙ e in cc
moves_withheld p n h o f d e a t = grind arith

withheld : (p : Plan) (n : ℕ) (h : List Entry) → IsHistory p h → OnFollower (λ c k q. Withholds (outcome_of c k h) q) (place_of p n h)
withheld p n [] l = tt
withheld p n (e ∷ h) l =
    follower_step p n h e.op (place_of p n h) (λ c k q. Withholds (outcome_of c k (e ∷ h)) q)
    (λ f b _. stays_withheld (outcome_of f.session f.k h) (outcome_of f.session f.k (e ∷ h)) (settled_of f.session h) f.k (progress f.stage) (answered_at p n h f l.0 b) (λ a. outcome_stays f.session f.k h (settled_in h e.op) (outcome_of f.session f.k h) a) (subst (OnFollower (λ c k q. Withholds (outcome_of c k h) q)) b (withheld p n h l.0)))
    (λ c k _. tt)
    (λ f b a. moves_withheld p n h e.op f (due p e h l) b a (follower_task p n h f l.0 b))

-- who is about to reply as a follower keeps no commit
pub no_commit_kept : (p : Plan) (n : ℕ) (h : List Entry) (f : Follower) → IsHistory p h → place_of p n h ≡ Following f → f.stage ≡ follower.Reply → IsApplied (outcome_of f.session f.k h) → ⊥
no_commit_kept p n h f l b s = subst (λ z. Withholds (outcome_of f.session f.k h) (progress z)) s (subst (OnFollower (λ c k q. Withholds (outcome_of c k h) q)) b (withheld p n h l))

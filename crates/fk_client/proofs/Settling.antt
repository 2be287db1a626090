-- The command that has an outcome first, by its place.
use Rattle.std.proofs.Common.{◌≡◌, ◌<◌, ◌≤◌, ℕ, ◌+◌, Bool, true, false, cond, List, [], ◌∷◌, length, get_or, set, refl, ap, arith, add-one}
use Rattle.std.specs.Prelude.{◌==◌, ◌&&◌}
use Rattle.fk_spec.specs.Client.{is_open, with_told}
use Rattle.fk_client.specs.declared.unanswered.Outcome.{Outcome}
use Rattle.fk_client.specs.declared.unanswered.Unanswered.{Unanswered}
use Rattle.fk_client.specs.Known.{by_outcome, known, place_of}

pub settled_there : (k : ℕ) (o : Outcome) (ss : List Unanswered) (x : Unanswered) → place_of k ss < length ss → set ss (place_of k ss) (record (get_or ss (place_of k ss) x) { outcome = o }) ≡ with_told by_outcome k o ss
settled_there k o [] x l = absurd (omega arith)
settled_there k o (s ∷ ss) x l = step ((s.k == k) && is_open (known s.outcome)) l (settled_there k o ss x)
  where
    step : (b : Bool) → cond b 0 (place_of k ss + 1) < length (s ∷ ss) → (place_of k ss < length ss → set ss (place_of k ss) (record (get_or ss (place_of k ss) x) { outcome = o }) ≡ with_told by_outcome k o ss) → set (s ∷ ss) (cond b 0 (place_of k ss + 1)) (record (get_or (s ∷ ss) (cond b 0 (place_of k ss + 1)) x) { outcome = o }) ≡ cond b (record s { outcome = o } ∷ ss) (s ∷ with_told by_outcome k o ss)
    step true l i = refl
    step false l i = rw add-one (ap (λ xs. s ∷ xs) (i (omega arith)))

pub settled_nowhere : (k : ℕ) (o : Outcome) (ss : List Unanswered) → length ss ≤ place_of k ss → with_told by_outcome k o ss ≡ ss
settled_nowhere k o [] l = refl
settled_nowhere k o (s ∷ ss) l = step ((s.k == k) && is_open (known s.outcome)) l (settled_nowhere k o ss)
  where
    step : (b : Bool) → length (s ∷ ss) ≤ cond b 0 (place_of k ss + 1) → (length ss ≤ place_of k ss → with_told by_outcome k o ss ≡ ss) → cond b (record s { outcome = o } ∷ ss) (s ∷ with_told by_outcome k o ss) ≡ s ∷ ss
    step true l i = absurd (omega arith)
    step false l i = ap (λ xs. s ∷ xs) (i (omega arith))

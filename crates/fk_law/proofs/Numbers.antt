-- Comparing numbers.
use Rattle.std.specs.Prelude.{nat_le}
use Rattle.std.proofs.Common.{◌≡◌, ℕ, ◌<◌, ◌≤◌, Bool, true, false, refl}
use Rattle.std.proofs.lemmas.Bool.{leb-true, leb-false}

pub less_or_not : (a b : ℕ) → (b ≤ a → ⊥) → a < b
less_or_not a b f = by_test (nat_le b a) refl
  where
    by_test : (c : Bool) → nat_le b a ≡ c → a < b
    by_test true e = absurd (f (leb-true b a e))
    by_test false e = leb-false b a e

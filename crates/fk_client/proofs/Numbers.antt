-- Lists of numbers.
use Rattle.std.proofs.Common.{◌≡◌, ℕ, Bool, true, false, cond, List, [], ◌∷◌, refl, ap, arith}
use Rattle.std.specs.Prelude.{◌==◌, not, filter}
use Rattle.std.proofs.lemmas.Bool.Decides.{nat_tests}
use Rattle.fk_spec.specs.Client.{without}

pub without_one : (n : ℕ) → without n (n ∷ []) ≡ []
without_one n = grind (arith, nat_tests)

-- what is kept where a number is taken out
pub kept_is : (n : ℕ) (xs : List ℕ) → filter (λ x. not (x == n)) xs ≡ without n xs
kept_is n [] = refl
kept_is n (x ∷ xs) = step (x == n) (kept_is n xs)
  where
    step : (b : Bool) → filter (λ x. not (x == n)) xs ≡ without n xs → cond (not b) (x ∷ filter (λ x. not (x == n)) xs) (filter (λ x. not (x == n)) xs) ≡ cond b (without n xs) (x ∷ without n xs)
    step true e = e
    step false e = ap (λ ys. x ∷ ys) e

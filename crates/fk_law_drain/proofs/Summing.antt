-- Lists that are lower than others, and sums over clients.
use Rattle.std.specs.Prelude.{◌==◌}
use Rattle.std.proofs.Common.{◌≡◌, ℕ, suc, ◌+◌, ◌<◌, ◌≤◌, ◌++◌, inl, inr, Bool, true, false, List, [], ◌∷◌, length, refl, subst, arith}
use Rattle.std.proofs.lemmas.Bool.Decides.{nat_tests}
use Rattle.fk_spec.specs.Plan.{Ask}
use Rattle.fk_law_drain.specs.Falling.{IsLower, client_sum}

pub lower_then : (xs ys us vs : List ℕ) → IsLower xs ys → IsLower (xs ++ us) (ys ++ vs)
lower_then [] ys us vs l = absurd l
lower_then (x ∷ xs) [] us vs l = absurd l
lower_then (x ∷ xs) (y ∷ ys) us vs (inl l) = inl l
lower_then (x ∷ xs) (y ∷ ys) us vs (inr l) = inr (l.0, lower_then xs ys us vs l.1)

pub lower_after : (xs ys us vs : List ℕ) → xs ≡ ys → IsLower us vs → IsLower (xs ++ us) (ys ++ vs)
lower_after xs ys us vs e l = subst (λ z. IsLower (xs ++ us) (z ++ vs)) e (each xs us vs l)
  where
    each : (xs us vs : List ℕ) → IsLower us vs → IsLower (xs ++ us) (xs ++ vs)
    each [] us vs l = l
    each (x ∷ xs) us vs l = inr (refl, each xs us vs l)

-- Sums. ------------------------------------------------------------------------------------------------

pub sum_same : (f g : ℕ → ℕ) (xs : List (List Ask)) (c : ℕ) → ((d : ℕ) → f d ≡ g d) → client_sum f xs c ≡ client_sum g xs c
sum_same f g [] c e = refl
sum_same f g (x ∷ xs) c e = let a = e c in let b = sum_same f g xs (suc c) e in omega (arith, a, b)

sum_most : (f g : ℕ → ℕ) (xs : List (List Ask)) (c : ℕ) → ((d : ℕ) → f d ≤ g d) → client_sum f xs c ≤ client_sum g xs c
sum_most f g [] c e = omega arith
sum_most f g (x ∷ xs) c e = let a = e c in let b = sum_most f g xs (suc c) e in omega (arith, a, b)

-- a sum falls where one of its clients falls and none rises
pub sum_falls : (f g : ℕ → ℕ) (xs : List (List Ask)) (c d : ℕ) → c ≤ d → d < c + length xs → ((k : ℕ) → f k ≤ g k) → f d < g d → client_sum f xs c < client_sum g xs c
sum_falls f g [] c d a b e l = absurd (omega (arith, a, b))
sum_falls f g (x ∷ xs) c d a b e l = by_here (λ i. sum_falls f g xs (suc c) d i (omega (arith, b)) e l) (d == c) refl
  where
    here : (d == c) ≡ true → f c < g c
    here q = subst (λ z. f z < g z) (same q) l
      where
        same : (d == c) ≡ true → d ≡ c
        same q = grind (arith, nat_tests)

    by_here : (suc c ≤ d → client_sum f xs (suc c) < client_sum g xs (suc c)) → (i : Bool) → (d == c) ≡ i → f c + client_sum f xs (suc c) < g c + client_sum g xs (suc c)
    by_here r true q = let y = here q in let z = sum_most f g xs (suc c) e in omega (arith, y, z)
    by_here r false q = let y = e c in let z = r (above q) in omega (arith, y, z)
      where
        above : (d == c) ≡ false → suc c ≤ d
        above q = grind (arith, nat_tests)

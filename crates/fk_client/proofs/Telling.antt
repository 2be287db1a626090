-- The front of the list of a client's commands, of each of which something is known.
use Rattle.std.proofs.Common.{◌≡◌, ◌<◌, ◌≤◌, ℕ, zero, suc, ◌+◌, ◌-◌, Bool, true, false, cond, List, [], ◌∷◌, ◌++◌, length, drop, get_or, set, refl, arith, drop-cons, subst}
use Rattle.std.specs.Prelude.{◌==◌, ◌&&◌}
use Rattle.std.proofs.Math.ListN.{drop_of_length-le}
use Rattle.fk_spec.specs.Client.{is_open}
use Rattle.fk_client.specs.Known.{known, place_of}
use Rattle.fk_client.specs.Unanswered.{AreTold}
use Rattle.fk_client.specs.declared.unanswered.Unanswered.{Unanswered}

pub told_within : (n : ℕ) (ss : List Unanswered) → AreTold n ss → n ≤ length ss
told_within zero ss t = omega arith
told_within (suc n) [] t = absurd t
told_within (suc n) (s ∷ ss) t = let i = told_within n ss t.1 in omega arith

pub told_more : (n : ℕ) (ss : List Unanswered) (s : Unanswered) → AreTold n ss → AreTold n (ss ++ s ∷ [])
told_more zero ss s t = tt
told_more (suc n) [] s t = absurd t
told_more (suc n) (r ∷ ss) s t = (t.0, told_more n ss s t.1)

-- the first goes
pub told_rest : (n : ℕ) (ss : List Unanswered) → AreTold n ss → AreTold (n - 1) (drop 1 ss)
told_rest zero ss t = tt
told_rest (suc n) [] t = absurd t
told_rest (suc n) (s ∷ ss) t = let e : n ≡ suc n - 1 = omega arith in subst (λ m. AreTold m ss) e t.1

-- one more is told
pub told_next : (n : ℕ) (ss : List Unanswered) (s : Unanswered) → AreTold n ss → n < length ss → s ≡ get_or ss n s → is_open (known s.outcome) ≡ false → AreTold (suc n) ss
told_next n [] s t l e o = let none : ⊥ = omega arith in absurd none
told_next zero (r ∷ ss) s t l e o = (subst (λ x. is_open (known x.outcome) ≡ false) e o, tt)
told_next (suc n) (r ∷ ss) s t l e o = (t.0, told_next n ss s t.1 (omega arith) e o)

-- what is changed behind them
pub told_set : (n p : ℕ) (ss : List Unanswered) (s : Unanswered) → AreTold n ss → n ≤ p → AreTold n (set ss p s)
told_set zero p ss s t l = tt
told_set (suc n) p [] s t l = absurd t
told_set (suc n) zero (r ∷ ss) s t l = let none : ⊥ = omega arith in absurd none
told_set (suc n) (suc p) (r ∷ ss) s t l = (t.0, told_set n p ss s t.1 (omega arith))

-- none of them is awaited
pub told_passed : (k n : ℕ) (ss : List Unanswered) → AreTold n ss → place_of k ss ≡ n + place_of k (drop n ss)
told_passed k zero ss t = omega arith
told_passed k (suc n) [] t = absurd t
told_passed k (suc n) (s ∷ ss) t = step (s.k == k) (is_open (known s.outcome)) t.0 (told_passed k n ss t.1)
  where
    step : (a b : Bool) → b ≡ false → place_of k ss ≡ n + place_of k (drop n ss) → cond (a && b) 0 (place_of k ss + 1) ≡ suc n + place_of k (drop n ss)
    step a true e i = absurd (grind arith)
    step true false e i = omega (arith, i)
    step false false e i = omega (arith, i)

-- it is passed, or its place is here
pub place_step : (k : ℕ) (ss : List Unanswered) (i : ℕ) (s : Unanswered) → i < length ss → s ≡ get_or ss i s → i + place_of k (drop i ss) ≡ cond ((s.k == k) && is_open (known s.outcome)) i ((i + 1) + place_of k (drop (i + 1) ss))
place_step k ss i s l e = step (i + 1) (omega arith)
  where
    at : (b : Bool) (j m : ℕ) → j ≡ suc i → i + cond b 0 (m + 1) ≡ cond b i (j + m)
    at true j m t = omega arith
    at false j m t = omega (arith, t)

    step : (j : ℕ) → j ≡ suc i → i + place_of k (drop i ss) ≡ cond ((s.k == k) && is_open (known s.outcome)) i (j + place_of k (drop j ss))
    step j t = rw (t, drop-cons ss i s l, ← e) (at ((s.k == k) && is_open (known s.outcome)) (suc i) (place_of k (drop (suc i) ss)) refl)

-- all are passed
pub place_end : (k : ℕ) (ss : List Unanswered) (i : ℕ) → length ss ≤ i → i + place_of k (drop i ss) ≡ i
place_end k ss i l = rw (drop_of_length-le ss l) (omega arith)

pub none_left : (ss : List Unanswered) → length ss ≡ 0 → ss ≡ []
none_left [] e = refl
none_left (s ∷ ss) e = let none : ⊥ = omega (arith, e) in absurd none

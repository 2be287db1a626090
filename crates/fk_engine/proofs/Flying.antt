-- Rising numbers: one above all is added, and one is taken out where it stands.
use Rattle.std.proofs.Common.{◌≡◌, ◌≢◌, ℕ, zero, suc, ◌+◌, ◌<◌, ◌≤◌, Bool, true, false, List, [], ◌∷◌, ◌++◌, length, take, drop, get_or, nat_lt, slice_get, Some, Err, refl, sym, ◌∙◌, ap, subst, arith}
use Rattle.std.specs.Cmp.{nat_cmp_total}
use Rattle.std.specs.FinMap.{nat_cmp-IsAntisymmetric}
use Rattle.std.specs.List.Sorted.{IsBinarySearchResult}
use Rattle.std.specs.Ordering.{nat_cmp, is_eq, is_lt}
use Rattle.std.proofs.lemmas.List.{drop-append-le, drop-drop, drop-take, length-append, length-drop, length-take-le}
use Rattle.std.proofs.lemmas.List.Sorted.{searched}
use Rattle.std.proofs.lemmas.Map.Keys.{below_from_sorted}
use Rattle.std.proofs.lemmas.Option.{same_Some}
use Rattle.fk_tree.specs.Sorted.{is_below}
use Rattle.fk_tree.proofs.Rising.{below_absent}
use Rattle.fk_user.specs.Ids.{has_id, ids_rise, without_id}
use Rattle.fk_user.proofs.Placing.{rise_strict, without_absent, without_rises}
use Rattle.fk_base.proofs.Logic.{and_left, and_right}

-- ---- added

first_there : (m : ℕ) (ns : List ℕ) → has_id m (m ∷ ns) ≡ true
first_there m ns = grind arith

then_there : (m n : ℕ) (ns : List ℕ) → has_id n ns ≡ true → has_id n (m ∷ ns) ≡ true
then_there m n ns h = grind (arith, h)

pub below_pushed : (m n : ℕ) (ns : List ℕ) → m < n → is_below nat_cmp m ns ≡ true → is_below nat_cmp m (ns ++ n ∷ []) ≡ true
below_pushed m n [] l h = grind (arith, l)
below_pushed m n (k ∷ ns) l h = rw (and_left (is_lt (nat_cmp m k)) (is_below nat_cmp m ns) h) (below_pushed m n ns l (and_right (is_lt (nat_cmp m k)) (is_below nat_cmp m ns) h))

-- the numbers still rise
pub pushed_rise : (ns : List ℕ) (n : ℕ) → ids_rise ns ≡ true → ((m : ℕ) → has_id m ns ≡ true → m < n) → ids_rise (ns ++ n ∷ []) ≡ true
pushed_rise [] n r h = refl
pushed_rise (m ∷ ns) n r h =
    rw (below_pushed m n ns (h m (first_there m ns)) (and_left (is_below nat_cmp m ns) (ids_rise ns) r))
    (pushed_rise ns n (and_right (is_below nat_cmp m ns) (ids_rise ns) r) (λ k a. h k (then_there m k ns a)))

-- behind those that were cut off
pub pushed_behind : (xs : List ℕ) (f n : ℕ) → f ≤ length xs → drop f (xs ++ n ∷ []) ≡ drop f xs ++ n ∷ []
pushed_behind xs f n l = drop-append-le f xs (n ∷ []) l

-- ---- looked for

absent : (n : ℕ) (ns : List ℕ) → ((k : ℕ) → k < length ns → get_or ns k 0 ≢ n) → has_id n ns ≡ false
absent n [] h = refl
absent n (m ∷ ns) h =
    let other : m ≢ n = h 0 (omega arith) in
    let rest : has_id n ns ≡ false = absent n ns (λ k l. h (suc k) (omega (arith, l))) in
    grind (arith, other, rest)

rises_by_place : (ns : List ℕ) → ids_rise ns ≡ true → (i j : ℕ) → i ≤ j → j < length ns → get_or ns i 0 ≤ get_or ns j 0
rises_by_place ns r i j l within = by (nat_lt i j) refl
  where
    by : (b : Bool) → nat_lt i j ≡ b → get_or ns i 0 ≤ get_or ns j 0
    by true e = let low : get_or ns i 0 < get_or ns j 0 = below_from_sorted ns i j 0 (rise_strict ns r) (grind (arith, e)) within in omega (arith, low)
    by false e = let same : i ≡ j = grind (arith, e, l) in rw same (omega arith)

-- a number that a binary search doesn't find isn't there
pub not_found : (n : ℕ) (ns : List ℕ) (i : ℕ) → ids_rise ns ≡ true → IsBinarySearchResult (λ y. nat_cmp y n) ns (Err i) → has_id n ns ≡ false
not_found n ns i r s = absent n ns other
  where
    other : (k : ℕ) → k < length ns → get_or ns k 0 ≢ n
    other k within e = by (nat_lt k i) refl
      where
        by : (b : Bool) → nat_lt k i ≡ b → ⊥
        by true t = let low : get_or ns k 0 < n = (searched ns n (Err i) s (rises_by_place ns r)).1 k (grind (arith, t)) in omega (arith, low, e)
        by false t = let high : n < get_or ns k 0 = (searched ns n (Err i) s (rises_by_place ns r)).2 k (grind (arith, t)) within in omega (arith, high, e)

-- ---- taken out

below_at : (m n : ℕ) (ns : List ℕ) (i : ℕ) → is_below nat_cmp m ns ≡ true → slice_get ns i ≡ Some n → m < n
below_at m n [] i b e = absurd (cc)
below_at m n (k ∷ ns) zero b e =
    let low : is_lt (nat_cmp m k) ≡ true = and_left (is_lt (nat_cmp m k)) (is_below nat_cmp m ns) b in
    let same : k ≡ n = same_Some k n e in
    grind (arith, low, same)
below_at m n (k ∷ ns) (suc i) b e = below_at m n ns i (and_right (is_lt (nat_cmp m k)) (is_below nat_cmp m ns) b) e

self_is : (m : ℕ) → is_eq (nat_cmp m m) ≡ true
self_is m = grind arith

other_is : (m n : ℕ) → m < n → is_eq (nat_cmp n m) ≡ false
other_is m n l = grind (arith, l)

-- the list without a number is what stands before it and behind it
pub taken_at : (ns : List ℕ) (i n : ℕ) → ids_rise ns ≡ true → slice_get ns i ≡ Some n → take i ns ++ drop (suc i) ns ≡ without_id n ns
taken_at [] i n r e = absurd (cc)
taken_at (m ∷ ns) zero n r e = subst (λ k. ns ≡ without_id k (m ∷ ns)) (same_Some m n e) (rw (self_is m) (sym (without_absent m ns (below_absent nat_cmp_total nat_cmp-IsAntisymmetric m ns (and_left (is_below nat_cmp m ns) (ids_rise ns) r)))))
taken_at (m ∷ ns) (suc i) n r e =
    let low : m < n = below_at m n ns i (and_left (is_below nat_cmp m ns) (ids_rise ns) r) e in
    rw (other_is m n low) (ap (λ ys. m ∷ ys) (taken_at ns i n (and_right (is_below nat_cmp m ns) (ids_rise ns) r) e))

pub within_at : (ns : List ℕ) (i n : ℕ) → slice_get ns i ≡ Some n → i < length ns
within_at [] i n e = absurd (cc)
within_at (m ∷ ns) zero n e = omega arith
within_at (m ∷ ns) (suc i) n e = omega (arith, within_at ns i n e)

-- a place behind those that were cut off is within the list
pub within_all : (xs : List ℕ) (f i n : ℕ) → slice_get (drop f xs) i ≡ Some n → f + i < length xs
within_all xs f i n e = let low : i < length (drop f xs) = within_at (drop f xs) i n e in omega (arith, low, length-drop f xs)

-- the first behind them is cut off too
pub first_taken : (xs : List ℕ) (f n : ℕ) → ids_rise (drop f xs) ≡ true → slice_get (drop f xs) 0 ≡ Some n → drop (f + 1) xs ≡ without_id n (drop f xs)
first_taken xs f n r e = sym (drop-drop 1 f xs) ∙ taken_at (drop f xs) 0 n r e

-- another one is taken out
pub other_taken : (xs : List ℕ) (f i n : ℕ) → ids_rise (drop f xs) ≡ true → slice_get (drop f xs) i ≡ Some n
    → drop f (take (f + i) xs ++ drop (suc (f + i)) xs) ≡ without_id n (drop f xs)
other_taken xs f i n r e =
    let within : f + i < length xs = within_all xs f i n e in
    let long : length (take (f + i) xs) ≡ f + i = length-take-le (f + i) xs (omega (arith, within)) in
    drop-append-le f (take (f + i) xs) (drop (suc (f + i)) xs) (omega (arith, long))
    ∙ rw (drop-take f i xs) (ap (λ ys. take i (drop f xs) ++ ys) (later (suc (f + i)) (omega arith)))
    ∙ taken_at (drop f xs) i n r e
  where
    later : (j : ℕ) → j ≡ f + suc i → drop j xs ≡ drop (suc i) (drop f xs)
    later j t = rw t (sym (drop-drop (suc i) f xs))

pub still_rises : (xs : List ℕ) (n : ℕ) (ys : List ℕ) → ids_rise xs ≡ true → ys ≡ without_id n xs → ids_rise ys ≡ true
still_rises xs n ys r e = rw e (without_rises n xs r)

-- those that were cut off are within the list that is left
pub taken_within : (xs ys : List ℕ) (f i : ℕ) → f + i < length xs → ys ≡ take (f + i) xs ++ drop (suc (f + i)) xs → f ≤ length ys
taken_within xs ys f i l e =
    let long : length (take (f + i) xs) ≡ f + i = length-take-le (f + i) xs (omega (arith, l)) in
    rw (e, length-append (take (f + i) xs) (drop (suc (f + i)) xs)) (omega (arith, long))

-- ---- the same of numbers `ns` that stand behind those that were cut off

pub within_out : (xs ns : List ℕ) (f i n : ℕ) → drop f xs ≡ ns → slice_get ns i ≡ Some n → f + i < length xs
within_out xs ns f i n e s = within_all xs f i n (rw e s)

pub first_out : (xs ns : List ℕ) (f i n : ℕ) → drop f xs ≡ ns → ids_rise (drop f xs) ≡ true → slice_get ns i ≡ Some n → i ≡ 0 → drop (f + 1) xs ≡ without_id n ns
first_out xs ns f i n e r s z = subst (λ ms. drop (f + 1) xs ≡ without_id n ms) e (first_taken xs f n r (subst (λ j. slice_get (drop f xs) j ≡ Some n) z (rw e s)))

pub other_out : (xs ys ns : List ℕ) (f i n : ℕ) → drop f xs ≡ ns → ids_rise (drop f xs) ≡ true → slice_get ns i ≡ Some n → ys ≡ take (f + i) xs ++ drop (suc (f + i)) xs
    → drop f ys ≡ without_id n ns
other_out xs ys ns f i n e r s t = ap (drop f) t ∙ subst (λ ms. drop f (take (f + i) xs ++ drop (suc (f + i)) xs) ≡ without_id n ms) e (other_taken xs f i n r (rw e s))

pub rises_out : (xs ys ns : List ℕ) (n : ℕ) → xs ≡ ns → ids_rise xs ≡ true → ys ≡ without_id n ns → ids_rise ys ≡ true
rises_out xs ys ns n e r t = rw t (without_rises n ns (subst (λ ms. ids_rise ms ≡ true) e r))

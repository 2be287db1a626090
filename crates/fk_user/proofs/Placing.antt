-- Rising numbers: how the words of std and those of this crate meet, and where a number is placed.
use Rattle.std.proofs.Common.{◌≡◌, ◌↔◌, IsTrue, nat_lt, ℕ, zero, suc, ◌+◌, ◌-◌, ◌<◌, Bool, true, false, cond, List, [], ◌∷◌, ◌++◌, ◌||◌, All, Contains, length, nat_eq, get_or, slice_get, Some, Ordering, refl, sym, ◌∙◌, ap, arith}
use Rattle.std.specs.Cmp.{nat_cmp_total, nat_eq_equiv}
use Rattle.std.specs.FinMap.{nat_cmp-IsAntisymmetric}
use Rattle.std.specs.List.{AllByRecursion, IsDistinct, list_any}
use Rattle.std.specs.List.Sorted.{IsSorted, IsNonDecreasing, IsStrictlySortedBy}
use Rattle.std.specs.Ordering.{nat_cmp, is_eq, is_lt}
use Rattle.std.specs.declared.cmp.Ordering.TheVariants.{Less}
use Rattle.std.specs.Set.{remove_key}
use Rattle.std.proofs.lemmas.List.Elements.{All-head, All-tail}
use Rattle.std.proofs.lemmas.List.Sorted.{sorted_far, ranks_by}
use Rattle.std.proofs.lemmas.Map.Keys.{IsStrictlyIncreasing-from_distinct, sorted_from_strictly_increasing, Less-from_sorted, below_from_sorted, ge_from_not_lt}
use Rattle.std.proofs.lemmas.Map.Views.{Contains-from_any, list_any-from_Contains}
use Rattle.std.proofs.lemmas.Bool.Decides.{Decides-eqb}
use Rattle.indexmap.specs.IndexSet.{insert_key}
use Rattle.fk_tree.specs.Sorted.{is_below}
use Rattle.fk_tree.proofs.Rising.{same_rising, below_absent, has_with, rises_with, rises_without}
use Rattle.fk_user.specs.Ids.{has_id, ids_rise, with_id, without_id}
use Rattle.fk_base.proofs.Logic.{and_left, and_right}

-- the tests of numbers
same_eq : (n m : ℕ) → nat_eq n m ≡ is_eq (nat_cmp n m)
same_eq n m = grind arith

pub has_any : (n : ℕ) (ns : List ℕ) → list_any (nat_eq n) ns ≡ has_id n ns
has_any n [] = refl
has_any n (m ∷ ns) = λ i. (same_eq n m) i || (has_any n ns) i

-- RISING
pub below_all : (n : ℕ) (ns : List ℕ) → AllByRecursion (λ m. nat_cmp n m ≡ Less) ns → is_below nat_cmp n ns ≡ true
below_all n [] h = refl
below_all n (m ∷ ns) h = rw h.0 (below_all n ns h.1)

pub strict_rise : (ns : List ℕ) → IsStrictlySortedBy nat_cmp ns → ids_rise ns ≡ true
unfolding IsStrictlySortedBy
strict_rise [] h = refl
strict_rise (n ∷ ns) h = rw (below_all n ns h.0) (strict_rise ns h.1)

all_below : (n : ℕ) (ns : List ℕ) → is_below nat_cmp n ns ≡ true → AllByRecursion (λ m. nat_cmp n m ≡ Less) ns
all_below n [] h = tt
all_below n (m ∷ ns) h = (less (nat_cmp n m) (and_left _ _ h), all_below n ns (and_right _ _ h))
  where
    less : (o : Ordering) → is_lt o ≡ true → o ≡ Less
    less o e = grind arith

pub rise_strict : (ns : List ℕ) → ids_rise ns ≡ true → IsStrictlySortedBy nat_cmp ns
unfolding IsStrictlySortedBy
rise_strict [] h = tt
rise_strict (n ∷ ns) h = (all_below n ns (and_left _ _ h), rise_strict ns (and_right _ _ h))

-- rising numbers are sorted
pub rise_sorted : (ns : List ℕ) → ids_rise ns ≡ true → IsSorted nat_cmp ns
rise_sorted ns h k d low within =
    let less : nat_cmp (get_or ns k d) (get_or ns (k + 1) d) ≡ Less = Less-from_sorted nat_cmp ns k (k + 1) d (rise_strict ns h) (omega arith) within in
    grind (arith, less)

-- sorted numbers that differ rise
pub sorted_rise : (ns : List ℕ) → IsSorted nat_cmp ns → IsDistinct nat_eq ns → ids_rise ns ≡ true
sorted_rise ns up apart = strict_rise ns (sorted_from_strictly_increasing ns (IsStrictlyIncreasing-from_distinct ns far apart))
  where
    far : IsNonDecreasing ns
    far i j d le within = ge_from_not_lt (get_or ns j d) (get_or ns i d) (sorted_far (λ x y. is_lt (nat_cmp x y)) (ranks_by nat_cmp_total (λ x. x)) ns up i j d le within)

-- PLACING
-- a number above all goes to the end
pub above_absent : (n : ℕ) (ns : List ℕ) → All (λ m. m < n) ns → list_any (nat_eq n) ns ≡ false
above_absent n [] h = refl
above_absent n (m ∷ ns) h =
    let low : m < n = All-head (λ k. k < n) m ns h in
    let other : nat_eq n m ≡ false = grind (arith, low) in
    rw other (above_absent n ns (All-tail (λ k. k < n) m ns h))

above_last : (n : ℕ) (ns : List ℕ) → All (λ m. m < n) ns → with_id n ns ≡ ns ++ n ∷ []
above_last n [] h = refl
above_last n (m ∷ ns) h =
    let low : m < n = All-head (λ k. k < n) m ns h in
    let rest : with_id n ns ≡ ns ++ n ∷ [] = above_last n ns (All-tail (λ k. k < n) m ns h) in
    grind (arith, low, rest)

pub pushed : (n : ℕ) (ns : List ℕ) → All (λ m. m < n) ns → insert_key nat_eq ns n ≡ with_id n ns
pushed n ns h = rw (above_absent n ns h) (sym (above_last n ns h))

pub with_rises : (n : ℕ) (ns : List ℕ) → ids_rise ns ≡ true → ids_rise (with_id n ns) ≡ true
with_rises n ns h = rises_with nat_cmp_total nat_cmp-IsAntisymmetric n ns h

-- one more number among rising ones
pub placed : (n : ℕ) (ns ms : List ℕ) → ids_rise ns ≡ true → (IsSorted nat_cmp ns → IsSorted nat_cmp ms) → IsDistinct nat_eq ms
    → ((k : ℕ) → list_any (nat_eq k) ms ≡ cond (nat_eq n k) true (list_any (nat_eq k) ns)) → ms ≡ with_id n ns
placed n ns ms r up apart h =
    same_rising nat_cmp_total nat_cmp-IsAntisymmetric ms (with_id n ns) (sorted_rise ms (up (rise_sorted ns r)) apart) (with_rises n ns r)
    (λ k. sym (has_any k ms) ∙ h k ∙ ap (cond (nat_eq n k) true) (has_any k ns) ∙ found k (has_id k ns) ∙ sym (has_with nat_cmp_total nat_cmp-IsAntisymmetric k n ns))
  where
    found : (k : ℕ) (b : Bool) → cond (nat_eq n k) true b ≡ (is_eq (nat_cmp k n) || b)
    found k b = grind arith

last_is : (top d : ℕ) (ns : List ℕ) (j : ℕ) → Some top ≡ slice_get ns j → (j < length ns) × (get_or ns j d ≡ top)
last_is top d [] j e = absurd (cc)
last_is top d (m ∷ ns) zero e = (omega arith, cc)
last_is top d (m ∷ ns) (suc j) e = let rest = last_is top d ns j e in (omega (arith, rest.0), rest.1)

-- a number is above all rising ones exactly where it is above the last
pub above_all : (n top : ℕ) (ns : List ℕ) → ids_rise ns ≡ true → Some top ≡ slice_get ns (length ns - 1) → IsTrue (nat_lt top n) ↔ All (λ m. m < n) ns
above_all n top ns r e = (
  λ t k d within.
      let last : (length ns - 1 < length ns) × (get_or ns (length ns - 1) d ≡ top) = last_is top d ns (length ns - 1) e in
      let far : k < length ns - 1 → get_or ns k d < get_or ns (length ns - 1) d = λ l. below_from_sorted ns k (length ns - 1) d (rise_strict ns r) l last.0 in
      at k d within t last.1 far,
  λ h.
      let last : (length ns - 1 < length ns) × (get_or ns (length ns - 1) n ≡ top) = last_is top n ns (length ns - 1) e in
      let low : get_or ns (length ns - 1) n < n = h (length ns - 1) n last.0 in
      grind (arith, last.1, low),
)
  where
    at : (k d : ℕ) → k < length ns → IsTrue (nat_lt top n) → get_or ns (length ns - 1) d ≡ top → (k < length ns - 1 → get_or ns k d < get_or ns (length ns - 1) d) → get_or ns k d < n
    at k d within t is far = by (nat_lt k (length ns - 1)) refl
      where
        by : (b : Bool) → nat_lt k (length ns - 1) ≡ b → get_or ns k d < n
        by true l = grind (arith, far (grind (arith, l)))
        by false l = let same : k ≡ length ns - 1 = grind (arith, l, within) in grind (arith, same)

-- TAKING OUT
pub without_absent : (n : ℕ) (ns : List ℕ) → has_id n ns ≡ false → without_id n ns ≡ ns
without_absent n [] h = refl
without_absent n (m ∷ ns) h = grind (arith, without_absent n ns)

pub taken : (n : ℕ) (ns : List ℕ) → ids_rise ns ≡ true → remove_key (nat_eq n) ns ≡ without_id n ns
taken n [] r = refl
taken n (m ∷ ns) r =
    let rest : remove_key (nat_eq n) ns ≡ without_id n ns = taken n ns (and_right (is_below nat_cmp m ns) (ids_rise ns) r) in
    let absent : has_id m ns ≡ false = below_absent nat_cmp_total nat_cmp-IsAntisymmetric m ns (and_left (is_below nat_cmp m ns) (ids_rise ns) r) in
    grind (arith, rest, absent, without_absent n ns)

pub without_rises : (n : ℕ) (ns : List ℕ) → ids_rise ns ≡ true → ids_rise (without_id n ns) ≡ true
without_rises n ns h = rises_without nat_cmp_total nat_cmp-IsAntisymmetric n ns h

-- MEMBERS
pub member : (n : ℕ) (ns : List ℕ) → has_id n ns ≡ true → Contains ns n
member n ns h = Contains-from_any {eq = nat_eq} (λ x y. (Decides-eqb x y).0) n ns (has_any n ns ∙ h)

pub has_member : (n : ℕ) (ns : List ℕ) → Contains ns n → has_id n ns ≡ true
has_member n ns h = sym (has_any n ns) ∙ list_any-from_Contains {eq = nat_eq} nat_eq_equiv n ns h

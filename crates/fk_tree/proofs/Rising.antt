-- Rising lists: their members, and what is put in and taken out, in any order of the items.
use Rattle.std.proofs.Common.{◌≡◌, true, false, cond, ◌||◌, List, [], ◌∷◌, Ordering, refl, sym, ◌∙◌, ap, subst, arith}
use Rattle.std.specs.declared.cmp.Ordering.TheVariants.{Less, Equal, Greater}
use Rattle.std.specs.Ordering.{is_eq, is_lt, ordering_reverse}
use Rattle.std.specs.Cmp.{IsTotalOrder, Equal-is, tied_itself, both_ways}
use Rattle.std.specs.FinMap.{IsAntisymmetric}
use Rattle.std.proofs.lemmas.Bool.{false≢true, false_from_ne_true}
use Rattle.fk_tree.specs.Sorted.{has, with_key, without_key, is_below, rises}
use Rattle.fk_base.proofs.Logic.{and_left, and_right}

pub less : (o : Ordering) → is_lt o ≡ true → o ≡ Less
less Less e = refl
less Equal e = absurd (false≢true e)
less Greater e = absurd (false≢true e)

neither : (o : Ordering) → is_lt o ≡ false → is_lt (ordering_reverse o) ≡ false → o ≡ Equal
neither Less a b = absurd (false≢true (sym a))
neither Equal a b = refl
neither Greater a b = absurd (false≢true (sym b))

reversed_less : (o : Ordering) → is_eq o ≡ false → is_lt o ≡ false → is_lt (ordering_reverse o) ≡ true
reversed_less Less e l = sym l
reversed_less Equal e l = sym e
reversed_less Greater e l = refl

module _ {K : Type 0} {R : K → K → Ordering} (o : IsTotalOrder R) (exact : IsAntisymmetric R) where
  tied : (n m : K) → is_eq (R n m) ≡ true → n ≡ m
  tied n m e = exact n m ((Equal-is (R n m)).0 e)

  not_tied : (n m : K) → is_lt (R n m) ≡ true → is_eq (R n m) ≡ false
  not_tied n m e = rw (less (R n m) e) refl

  -- what is below all of a list isn't in it
  pub below_absent : (n : K) (ms : List K) → is_below R n ms ≡ true → has R n ms ≡ false
  below_absent n [] h = refl
  below_absent n (m ∷ ms) h = rw (not_tied n m (and_left _ _ h)) (below_absent n ms (and_right _ _ h))

  pub below_further : (n m : K) (ms : List K) → is_lt (R n m) ≡ true → is_below R m ms ≡ true → is_below R n ms ≡ true
  below_further n m [] a h = refl
  below_further n m (k ∷ ms) a h = rw (ap is_lt (o.trans n m k (less _ a) (less _ (and_left _ _ h)))) (below_further n m ms a (and_right _ _ h))

  -- a member isn't below the first
  not_below : (n m : K) (ms : List K) → rises R (m ∷ ms) ≡ true → has R n (m ∷ ms) ≡ true → is_lt (R n m) ≡ false
  not_below n m ms r h = false_from_ne_true (is_lt (R n m)) (λ e. false≢true (sym (below_absent n (m ∷ ms) (rw e (below_further n m ms e (and_left _ _ r)))) ∙ h))

  has_first : (n : K) (ns : List K) → has R n (n ∷ ns) ≡ true
  has_first n ns = rw (ap is_eq (tied_itself o n)) refl

  -- a member of the rest isn't the first, so it is in the rest of the other
  rest_has : (k n : K) (ns ms : List K) → is_below R n ns ≡ true → (has R k (n ∷ ns) ≡ has R k (n ∷ ms)) → has R k ns ≡ true → has R k ms ≡ true
  rest_has k n ns ms b h s =
      let other : is_eq (R k n) ≡ false = false_from_ne_true (is_eq (R k n)) (λ e. false≢true (sym (below_absent n ns b) ∙ subst (λ x. has R x ns ≡ true) (tied k n e) s)) in
      let all : has R k ns ≡ has R k ms = rw other at h in
      sym all ∙ s

  -- rising lists with the same members are the same
  pub same_rising : (ns ms : List K) → rises R ns ≡ true → rises R ms ≡ true → ((n : K) → has R n ns ≡ has R n ms) → ns ≡ ms
  same_rising [] [] _ _ h = refl
  same_rising [] (m ∷ ms) _ r h = absurd (false≢true (h m ∙ has_first m ms))
  same_rising (n ∷ ns) [] l _ h = absurd (false≢true (sym (h n) ∙ has_first n ns))
  same_rising (n ∷ ns) (m ∷ ms) l r h =
      let low : is_lt (R n m) ≡ false = not_below n m ms r (sym (h n) ∙ has_first n ns) in
      let high : is_lt (R m n) ≡ false = not_below m n ns l (h m ∙ has_first m ms) in
      let e : m ≡ n = sym (exact n m (neither (R n m) low (sym (ap is_lt (o.antisymm m n)) ∙ high))) in
      let g : (k : K) → has R k (n ∷ ns) ≡ has R k (n ∷ ms) = λ k. h k ∙ ap (λ x. has R k (x ∷ ms)) e in
      let b : is_below R n ms ≡ true = subst (λ x. is_below R x ms ≡ true) e (and_left _ _ r) in
      ap (λ xs. n ∷ xs) (same_rising ns ms (and_right _ _ l) (and_right _ _ r) (λ k. both_ways _ _ (rest_has k n ns ms (and_left _ _ l) (g k)) (rest_has k n ms ns b (sym (g k))))) ∙ ap (λ x. x ∷ ms) (sym e)

  pub has_with : (k n : K) (ms : List K) → has R k (with_key R n ms) ≡ (is_eq (R k n) || has R k ms)
  has_with k n [] = refl
  has_with k n (m ∷ ms) = grind (arith, has_with k n ms, exact n m)

  pub has_without : (k n : K) (ms : List K) → has R k (without_key R n ms) ≡ cond (is_eq (R k n)) false (has R k ms)
  has_without k n [] = grind arith
  has_without k n (m ∷ ms) = grind (arith, has_without k n ms, tied n m, tied k n)

  below_without : (k n : K) (ms : List K) → is_below R k ms ≡ true → is_below R k (without_key R n ms) ≡ true
  below_without k n [] h = refl
  below_without k n (m ∷ ms) h = grind (arith, and_left, and_right, below_without k n ms)

  pub rises_without : (n : K) (ms : List K) → rises R ms ≡ true → rises R (without_key R n ms) ≡ true
  rises_without n [] h = refl
  rises_without n (m ∷ ms) h = grind (arith, and_left, and_right, below_without m n ms, rises_without n ms)

  apart : (n m : K) → is_eq (R n m) ≡ false → is_lt (R n m) ≡ false → is_lt (R m n) ≡ true
  apart n m e l = rw (o.antisymm m n) (reversed_less (R n m) e l)

  below_with : (k n : K) (ms : List K) → is_lt (R k n) ≡ true → is_below R k ms ≡ true → is_below R k (with_key R n ms) ≡ true
  below_with k n [] l h = grind arith
  below_with k n (m ∷ ms) l h = grind (arith, and_left, and_right, below_with k n ms)

  pub rises_with : (n : K) (ms : List K) → rises R ms ≡ true → rises R (with_key R n ms) ≡ true
  rises_with n [] h = refl
  rises_with n (m ∷ ms) h = grind (arith, and_left, and_right, below_with m n ms, below_further n m ms, apart n m, rises_with n ms)

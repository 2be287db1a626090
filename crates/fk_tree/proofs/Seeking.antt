-- Where a name stands among names that rise, found by halving.
use Rattle.std.proofs.Common.{◌≡◌, ℕ, zero, suc, ◌<◌, ◌≤◌, Bool, true, false, cond, ◌||◌, List, [], ◌∷◌, length, get_or, Ordering, refl, sym, ◌∙◌, ap, subst, arith}
use Rattle.std.specs.Prelude.{remove}
use Rattle.std.specs.declared.cmp.Ordering.TheVariants.{Less, Equal, Greater}
use Rattle.std.specs.Ordering.{is_eq, is_lt, is_gt, ordering_reverse}
use Rattle.std.proofs.lemmas.Bool.{false≢true}
use Rattle.fk_base.specs.Path.{Name, name_cmp, same_name}
use Rattle.fk_tree.specs.Sorted.{has_name, drop_name, place_from, is_below, rises}
use Rattle.fk_tree.proofs.Order.{name_total, name_exact}
use Rattle.fk_tree.proofs.Rising.{below_absent, below_further, less}
use Rattle.fk_tree.proofs.Sorting.{place_later}
use Rattle.fk_base.proofs.Logic.{and_left, and_right, by_test}

greater : (o : Ordering) → is_gt o ≡ true → o ≡ Greater
greater Less e = absurd (false≢true e)
greater Equal e = absurd (false≢true e)
greater Greater e = refl

-- a name that isn't above the one at i has its place there or before
pub place_high : (n : Name) (ns : List Name) (i : ℕ) (d : Name) → i < length ns → is_gt (name_cmp n (get_or ns i d)) ≡ false → place_from 0 n ns ≤ i
place_high n [] i d l e = let none : ⊥ = omega arith in absurd none
place_high n (m ∷ ns) zero d l e = rw e (omega arith)
place_high n (m ∷ ns) (suc i) d l e =
    let shorter : i < length ns = omega arith in
    let later : place_from 1 n ns ≡ suc (place_from 0 n ns) = place_later n ns 0 in
    let rest : place_from 0 n ns ≤ i = place_high n ns i d shorter e in
    step (is_gt (name_cmp n m)) (place_from 1 n ns) (place_from 0 n ns) later rest
  where
    step : (b : Bool) (x y : ℕ) → x ≡ suc y → y ≤ i → cond b x 0 ≤ suc i
    step true x y e h = omega arith
    step false x y e h = omega arith

below_at : (m : Name) (ns : List Name) (i : ℕ) (d : Name) → i < length ns → is_below name_cmp m ns ≡ true → is_lt (name_cmp m (get_or ns i d)) ≡ true
below_at m [] i d l h = let none : ⊥ = omega arith in absurd none
below_at m (n ∷ ns) zero d l h = and_left _ _ h
below_at m (n ∷ ns) (suc i) d l h = let shorter : i < length ns = omega arith in below_at m ns i d shorter (and_right _ _ h)

above : (n m k : Name) → is_lt (name_cmp m k) ≡ true → is_gt (name_cmp n k) ≡ true → is_gt (name_cmp n m) ≡ true
above n m k a b =
    let up : name_cmp k n ≡ Less = name_total.antisymm k n ∙ ap ordering_reverse (greater (name_cmp n k) b) in
    let all : name_cmp m n ≡ Less = name_total.trans m k n (less (name_cmp m k) a) up in
    ap is_gt (name_total.antisymm n m ∙ ap ordering_reverse all)

-- a name above the one at i has its place after it
pub place_low : (n : Name) (ns : List Name) (i : ℕ) (d : Name) → i < length ns → rises name_cmp ns ≡ true → is_gt (name_cmp n (get_or ns i d)) ≡ true → i < place_from 0 n ns
place_low n [] i d l r e = let none : ⊥ = omega arith in absurd none
place_low n (m ∷ ns) zero d l r e = let later : place_from 1 n ns ≡ suc (place_from 0 n ns) = place_later n ns 0 in rw (e, later) (omega arith)
place_low n (m ∷ ns) (suc i) d l r e =
    let shorter : i < length ns = omega arith in
    let later : place_from 1 n ns ≡ suc (place_from 0 n ns) = place_later n ns 0 in
    let rest : i < place_from 0 n ns = place_low n ns i d shorter (and_right _ _ r) e in
    let high : is_gt (name_cmp n m) ≡ true = above n m (get_or ns i d) (below_at m ns i d shorter (and_left _ _ r)) e in
    rw (high, later) (omega arith)

pub place_in_list : (n : Name) (ns : List Name) → place_from 0 n ns ≤ length ns
place_in_list n [] = omega arith
place_in_list n (m ∷ ns) = step (is_gt (name_cmp n m)) (place_from 1 n ns) (place_from 0 n ns) (place_later n ns 0) (place_in_list n ns)
  where
    step : (b : Bool) (x y : ℕ) → x ≡ suc y → y ≤ length ns → cond b x 0 ≤ suc (length ns)
    step true x y e h = omega arith
    step false x y e h = omega arith

-- a name above the last one has its place at the end
pub place_above : (n : Name) (ns : List Name) (i : ℕ) (d : Name) → suc i ≡ length ns → rises name_cmp ns ≡ true → is_gt (name_cmp n (get_or ns i d)) ≡ true → length ns ≡ place_from 0 n ns
place_above n ns i d l r e =
    let low : i < place_from 0 n ns = place_low n ns i d (omega arith) r e in
    let high : place_from 0 n ns ≤ length ns = place_in_list n ns in
    omega arith

-- a name that is there stands at its place
there : (n : Name) (ns : List Name) (d : Name) → rises name_cmp ns ≡ true → has_name n ns ≡ true → (place_from 0 n ns < length ns) × (same_name n (get_or ns (place_from 0 n ns) d) ≡ true)
there n [] d r h = absurd (false≢true h)
there n (m ∷ ns) d r h = step (name_cmp n m) refl h (there n ns d (and_right _ _ r))
  where
    step : (o : Ordering) → name_cmp n m ≡ o → (is_eq o || has_name n ns) ≡ true → (has_name n ns ≡ true → (place_from 0 n ns < length ns) × (same_name n (get_or ns (place_from 0 n ns) d) ≡ true)) → (cond (is_gt o) (place_from 1 n ns) 0 < suc (length ns)) × (same_name n (get_or (m ∷ ns) (cond (is_gt o) (place_from 1 n ns) 0) d) ≡ true)
    step Less e h f = absurd (false≢true (sym (below_absent name_total name_exact n ns (below_further name_total name_exact n m ns (ap is_lt e) (and_left _ _ r))) ∙ h))
    step Equal e h f = (omega arith, ap is_eq e)
    step Greater e h f =
        let rest : (place_from 0 n ns < length ns) × (same_name n (get_or ns (place_from 0 n ns) d) ≡ true) = f h in
        rw (place_later n ns 0) (omega arith, rest.1)

pub absent_here : (n : Name) (ns : List Name) (d : Name) → rises name_cmp ns ≡ true → same_name n (get_or ns (place_from 0 n ns) d) ≡ false → has_name n ns ≡ false
absent_here n ns d r e = by_test (has_name n ns) (λ b. b ≡ false) (λ h. absurd (false≢true (sym e ∙ (there n ns d r h).1))) (λ _. refl)

pub absent_end : (n : Name) (ns : List Name) → rises name_cmp ns ≡ true → length ns ≤ place_from 0 n ns → has_name n ns ≡ false
absent_end n ns r e = by_test (has_name n ns) (λ b. b ≡ false) (λ h. let low : place_from 0 n ns < length ns = (there n ns [] r h).0 in let none : ⊥ = omega arith in absurd none) (λ _. refl)

-- a name that stands somewhere is there
pub present_here : (n : Name) (ns : List Name) (i : ℕ) (d : Name) → i < length ns → same_name n (get_or ns i d) ≡ true → has_name n ns ≡ true
present_here n [] i d l e = let none : ⊥ = omega arith in absurd none
present_here n (m ∷ ns) zero d l e = rw e refl
present_here n (m ∷ ns) (suc i) d l e = let shorter : i < length ns = omega arith in rw (present_here n ns i d shorter e) (or_true (same_name n m))
  where
    or_true : (b : Bool) → (b || true) ≡ true
    or_true true = refl
    or_true false = refl

absent_kept : (n : Name) (ns : List Name) → has_name n ns ≡ false → drop_name n ns ≡ ns
absent_kept n [] h = refl
absent_kept n (m ∷ ns) h = step (same_name n m) h (absent_kept n ns)
  where
    step : (b : Bool) → (b || has_name n ns) ≡ false → (has_name n ns ≡ false → drop_name n ns ≡ ns) → cond b (drop_name n ns) (m ∷ drop_name n ns) ≡ m ∷ ns
    step true h f = absurd (false≢true (sym h))
    step false h f = ap (λ xs. m ∷ xs) (f h)

-- a name that is there, taken from its place
pub removed_at_place : (n : Name) (ns : List Name) → rises name_cmp ns ≡ true → has_name n ns ≡ true → remove ns (place_from 0 n ns) ≡ drop_name n ns
removed_at_place n [] r h = absurd (false≢true h)
removed_at_place n (m ∷ ns) r h = step (name_cmp n m) refl h (removed_at_place n ns (and_right _ _ r)) (place_later n ns 0)
  where
    step : (o : Ordering) → name_cmp n m ≡ o → (is_eq o || has_name n ns) ≡ true → (has_name n ns ≡ true → remove ns (place_from 0 n ns) ≡ drop_name n ns) → place_from 1 n ns ≡ suc (place_from 0 n ns)
        → remove (m ∷ ns) (cond (is_gt o) (place_from 1 n ns) 0) ≡ cond (is_eq o) (drop_name n ns) (m ∷ drop_name n ns)
    step Less e h f l = absurd (false≢true (sym (below_absent name_total name_exact n ns (below_further name_total name_exact n m ns (ap is_lt e) (and_left _ _ r))) ∙ h))
    step Equal e h f l = sym (absent_kept n ns (below_absent name_total name_exact n ns (subst (λ x. is_below name_cmp x ns ≡ true) (sym (name_exact n m e)) (and_left _ _ r))))
    step Greater e h f l = rw l (ap (λ xs. m ∷ xs) (f h))

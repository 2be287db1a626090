-- The sets of paths that are noted as the sessions'.
use Rattle.std.proofs.Common.{◌≡◌, ℕ, Bool, true, false, cond, ◌||◌, ◌&&◌, ◌<◌, List, [], ◌∷◌, ◌++◌, Option, Some, None, map, refl, sym, ◌∙◌, ap}
use Rattle.std.specs.BTreeMap as tree
use Rattle.std.specs.BTreeMap.{BTreeMap, is_at}
use Rattle.std.specs.BTreeSet.{BTreeSet, contains}
use Rattle.std.specs.Cmp.{Equal-is}
use Rattle.std.specs.FinMap.{nat_cmp-IsAntisymmetric}
use Rattle.std.specs.Ordering.{nat_cmp, is_lt}
use Rattle.std.proofs.lemmas.List.{map-append, append-nil}
use Rattle.fk_base.specs.Path.{PathNames, path_cmp, same_path}
use Rattle.std.specs.List.{list_any, AllByRecursion}
use Rattle.std.specs.List.Sorted.{IsStrictlySortedBy}
use Rattle.std.specs.declared.cmp.Ordering.TheVariants.{Less}
use Rattle.std.proofs.lemmas.Map.Keys.{sorted_head, sorted_tail}
use Rattle.fk_tree.specs.Sorted.{has_path, is_below, rises}
use Rattle.fk_tree.specs.Rows.{Row, row_node, is_of, is_in_set, is_noted, those_of, noted, noted_in, AreNoted}
use Rattle.fk_tree.proofs.Looking.{same_flip}
use Rattle.fk_tree.proofs.Order.{same_path_is}
use Rattle.fk_base.proofs.Logic.{and_left, and_right, by_test}

abbrev pub Sets : Type 0
Sets = BTreeMap ℕ (BTreeSet PathNames)

-- one path less in one set
pub forgotten : (m n : Sets) (k : ℕ) (old new : BTreeSet PathNames) (path : PathNames) → Some old ≡ tree.get nat_cmp m k
    → ((s : ℕ) → tree.get nat_cmp n s ≡ cond (is_at (nat_cmp k) s) (Some new) (tree.get nat_cmp m s))
    → ((q : PathNames) → contains path_cmp new q ≡ cond (is_at (path_cmp path) q) false (contains path_cmp old q))
    → (s : ℕ) (p : PathNames) → same_path p path ≡ false → is_noted s p m ≡ true → is_noted s p n ≡ true
forgotten m n k old new path e u v s p apart h =
    ap (is_in_set p) (u s)
    ∙ by_test (is_at (nat_cmp k) s) (λ b. is_in_set p (cond b (Some new) (tree.get nat_cmp m s)) ≡ true)
    (λ t. v p ∙ rw (same_flip path p, apart) (ap (is_in_set p) (e ∙ ap (tree.get nat_cmp m) (nat_cmp-IsAntisymmetric k s ((Equal-is (nat_cmp k s)).0 t))) ∙ h))
    (λ _. h)

pub those_more : (s : ℕ) (rows : List Row) (ps : List PathNames) (p : PathNames) → those_of s rows (ps ++ p ∷ []) ≡ those_of s rows ps ++ cond (is_of s (row_node p rows)) (p ∷ []) []
those_more s rows [] p = step (is_of s (row_node p rows))
  where
    step : (b : Bool) → cond b (p ∷ []) [] ≡ cond b (p ∷ []) []
    step true = refl
    step false = refl
those_more s rows (q ∷ ps) p = rw (those_more s rows ps p) (step (is_of s (row_node q rows)))
  where
    step : (b : Bool) → cond b (q ∷ (those_of s rows ps ++ cond (is_of s (row_node p rows)) (p ∷ []) [])) (those_of s rows ps ++ cond (is_of s (row_node p rows)) (p ∷ []) []) ≡ cond b (q ∷ those_of s rows ps) (those_of s rows ps) ++ cond (is_of s (row_node p rows)) (p ∷ []) []
    step true = refl
    step false = refl

-- a loop over the paths: one more that is the session's, and one that isn't
pub those_taken : {B : Type 0} (f : B → PathNames) (s : ℕ) (rows : List Row) (ys : List B) (y : B) → is_of s (row_node (f y) rows) ≡ true → those_of s rows (map f (ys ++ y ∷ [])) ≡ those_of s rows (map f ys) ++ f y ∷ []
those_taken f s rows ys y h = rw (map-append f ys (y ∷ []), those_more s rows (map f ys) (f y), h) refl

pub those_passed : {B : Type 0} (f : B → PathNames) (s : ℕ) (rows : List Row) (ys : List B) (y : B) → is_of s (row_node (f y) rows) ≡ false → those_of s rows (map f (ys ++ y ∷ [])) ≡ those_of s rows (map f ys)
those_passed f s rows ys y h = rw (map-append f ys (y ∷ []), those_more s rows (map f ys) (f y), h) (append-nil (those_of s rows (map f ys)))

-- the sessions' paths in their order
those_below : (s : ℕ) (rows : List Row) (p : PathNames) (ks : List PathNames) → is_below path_cmp p ks ≡ true → is_below path_cmp p (those_of s rows ks) ≡ true
those_below s rows p [] h = refl
those_below s rows p (k ∷ ks) h = by_test (is_of s (row_node k rows)) (λ b. is_below path_cmp p (cond b (k ∷ those_of s rows ks) (those_of s rows ks)) ≡ true) (λ _. rw (and_left (is_lt (path_cmp p k)) (is_below path_cmp p ks) h) (those_below s rows p ks (and_right _ _ h))) (λ _. those_below s rows p ks (and_right _ _ h))

those_rise : (s : ℕ) (rows : List Row) (ks : List PathNames) → rises path_cmp ks ≡ true → rises path_cmp (those_of s rows ks) ≡ true
those_rise s rows [] h = refl
those_rise s rows (k ∷ ks) h = by_test (is_of s (row_node k rows)) (λ b. rises path_cmp (cond b (k ∷ those_of s rows ks) (those_of s rows ks)) ≡ true) (λ _. rw (those_below s rows k ks (and_left _ _ h)) (those_rise s rows ks (and_right _ _ h))) (λ _. those_rise s rows ks (and_right _ _ h))

sorted_below : (p : PathNames) (ks : List PathNames) → AllByRecursion (λ y. path_cmp p y ≡ Less) ks → is_below path_cmp p ks ≡ true
sorted_below p [] h = refl
sorted_below p (k ∷ ks) h = rw (ap is_lt h.0) (sorted_below p ks h.1)

sorted_rises : (ks : List PathNames) → IsStrictlySortedBy path_cmp ks → rises path_cmp ks ≡ true
sorted_rises [] h = refl
sorted_rises (k ∷ ks) h = rw (sorted_below k ks (sorted_head path_cmp k ks h)) (sorted_rises ks (sorted_tail path_cmp k ks h))

-- what is listed of an ordered set rises
pub listed_rise : (s : ℕ) (rows : List Row) (ks : List PathNames) → IsStrictlySortedBy path_cmp ks → rises path_cmp (those_of s rows ks) ≡ true
listed_rise s rows ks h = those_rise s rows ks (sorted_rises ks h)

in_keys : (p : PathNames) (ks : List PathNames) → has_path p ks ≡ list_any (is_at (path_cmp p)) ks
in_keys p [] = refl
in_keys p (k ∷ ks) = ap (λ b. same_path p k || b) (in_keys p ks)

noted_has : (s : ℕ) (p : PathNames) (sets : Sets) → has_path p (noted s sets) ≡ is_noted s p sets
noted_has s p sets = step (tree.get nat_cmp sets s)
  where
    step : (o : Option (BTreeSet PathNames)) → has_path p (noted_in o) ≡ is_in_set p o
    step None = refl
    step (Some set) = in_keys p set.keys

those_have : (s : ℕ) (rows : List Row) (p : PathNames) (ks : List PathNames) → has_path p (those_of s rows ks) ≡ (has_path p ks && is_of s (row_node p rows))
those_have s rows p [] = refl
those_have s rows p (k ∷ ks) = step (is_of s (row_node k rows)) refl (same_path p k) refl (those_have s rows p ks)
  where
    step : (c : Bool) → is_of s (row_node k rows) ≡ c → (d : Bool) → same_path p k ≡ d → has_path p (those_of s rows ks) ≡ (has_path p ks && is_of s (row_node p rows)) → has_path p (cond c (k ∷ those_of s rows ks) (those_of s rows ks)) ≡ ((d || has_path p ks) && is_of s (row_node p rows))
    step true a true b i = rw (b, same_path_is p k b) (sym a)
    step true a false b i = rw b i
    step false a true b i = i ∙ rw (same_path_is p k b, a) (none (has_path k ks))
      where
        none : (x : Bool) → (x && false) ≡ false
        none true = refl
        none false = refl
    step false a false b i = i

-- all that a session owns is listed
pub those_are : (s : ℕ) (rows : List Row) (sets : Sets) → AreNoted rows sets → 0 < s → (p : PathNames) → has_path p (those_of s rows (noted s sets)) ≡ is_of s (row_node p rows)
those_are s rows sets n l p = those_have s rows p (noted s sets) ∙ by_test (is_of s (row_node p rows)) (λ b. (has_path p (noted s sets) && b) ≡ b) (λ o. rw (noted_has s p sets, n s p l o) refl) (λ _. none (has_path p (noted s sets)))
  where
    none : (x : Bool) → (x && false) ≡ false
    none true = refl
    none false = refl

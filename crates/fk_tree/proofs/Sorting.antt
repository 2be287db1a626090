-- Where a name stands in a list, and what is added and dropped there.
use Rattle.std.proofs.Common.{◌≡◌, ℕ, suc, ◌+◌, ◌<◌, Bool, true, false, cond, ◌||◌, List, [], ◌∷◌, Some, None, drop, length, get_or, Ordering, refl, sym, ap, arith, drop-cons, length-append, length-take, length-drop}
use Rattle.std.specs.Prelude.{insert, remove, is_some}
use Rattle.std.specs.declared.cmp.Ordering.TheVariants.{Less, Equal, Greater}
use Rattle.std.specs.Ordering.{is_eq, is_gt, match_ordering}
use Rattle.std.proofs.lemmas.Bool.{false≢true}
use Rattle.fk_base.specs.Path.{Name, name_cmp, same_name}
use Rattle.fk_tree.specs.Sorted.{has_name, add_name, drop_name, found_from, place_from}

-- seeking goes on behind a name that isn't the one
pub found_step : (n : Name) (ns : List Name) (i : ℕ) (d : Name) → i < length ns → same_name n (get_or ns i d) ≡ false → found_from i n (drop i ns) ≡ found_from (suc i) n (drop (suc i) ns)
found_step n ns i d l e = rw (drop-cons ns i d l, e) refl

pub found_here : (n : Name) (ns : List Name) (i : ℕ) (d : Name) → i < length ns → same_name n (get_or ns i d) ≡ true → found_from i n (drop i ns) ≡ Some i
found_here n ns i d l e = rw (drop-cons ns i d l, e) refl

pub place_step : (n : Name) (ns : List Name) (i : ℕ) (d : Name) → i < length ns → is_gt (name_cmp n (get_or ns i d)) ≡ true → place_from i n (drop i ns) ≡ place_from (suc i) n (drop (suc i) ns)
place_step n ns i d l e = rw (drop-cons ns i d l, e) refl

pub place_here : (n : Name) (ns : List Name) (i : ℕ) (d : Name) → i < length ns → is_gt (name_cmp n (get_or ns i d)) ≡ false → place_from i n (drop i ns) ≡ i
place_here n ns i d l e = rw (drop-cons ns i d l, e) refl

pub place_later : (n : Name) (ns : List Name) (i : ℕ) → place_from (suc i) n ns ≡ suc (place_from i n ns)
place_later n [] i = refl
place_later n (m ∷ ns) i = step (is_gt (name_cmp n m)) (place_later n ns (suc i))
  where
    step : (b : Bool) → place_from (suc (suc i)) n ns ≡ suc (place_from (suc i) n ns) → cond b (place_from (suc (suc i)) n ns) (suc i) ≡ suc (cond b (place_from (suc i) n ns) i)
    step true e = e
    step false e = refl

-- a name that isn't there, put at its place
pub put_at_place : (n : Name) (ns : List Name) → has_name n ns ≡ false → insert ns (place_from 0 n ns) n ≡ add_name n ns
put_at_place n [] h = refl
put_at_place n (m ∷ ns) h = step (name_cmp n m) h (put_at_place n ns) (place_later n ns 0)
  where
    step : (o : Ordering) → (is_eq o || has_name n ns) ≡ false → (has_name n ns ≡ false → insert ns (place_from 0 n ns) n ≡ add_name n ns) → place_from 1 n ns ≡ suc (place_from 0 n ns)
        → insert (m ∷ ns) (cond (is_gt o) (place_from 1 n ns) 0) n ≡ match_ordering o (n ∷ m ∷ ns) (m ∷ ns) (m ∷ add_name n ns)
    step Less h i e = refl
    step Equal h i e = absurd (false≢true (sym h))
    step Greater h i e = rw e (ap (λ xs. m ∷ xs) (i h))

-- a name is found where it is there
pub found_where_there : (i : ℕ) (n : Name) (ns : List Name) → is_some (found_from i n ns) ≡ has_name n ns
found_where_there i n [] = refl
found_where_there i n (m ∷ ns) = step (same_name n m) (found_where_there (suc i) n ns)
  where
    step : (b : Bool) → is_some (found_from (suc i) n ns) ≡ has_name n ns → is_some (cond b (Some i) (found_from (suc i) n ns)) ≡ (b || has_name n ns)
    step true e = refl
    step false e = e

pub found_below : (i : ℕ) (n : Name) (ns : List Name) (k : ℕ) → found_from i n ns ≡ Some k → k < i + length ns
found_below i n [] k e = absurd (cc)
found_below i n (m ∷ ns) k e = step (same_name n m) e (found_below (suc i) n ns k)
  where
    step : (b : Bool) → cond b (Some i) (found_from (suc i) n ns) ≡ Some k → (found_from (suc i) n ns ≡ Some k → k < suc i + length ns) → k < i + suc (length ns)
    step true e f = let same : i ≡ k = cc in omega arith
    step false e f = let below : k < suc i + length ns = f e in omega arith

-- a name that isn't there isn't dropped
pub none_dropped : (i : ℕ) (n : Name) (ns : List Name) → found_from i n ns ≡ None → drop_name n ns ≡ ns
none_dropped i n [] e = refl
none_dropped i n (m ∷ ns) e = step (same_name n m) e (none_dropped (suc i) n ns)
  where
    step : (b : Bool) → cond b (Some i) (found_from (suc i) n ns) ≡ None → (found_from (suc i) n ns ≡ None → drop_name n ns ≡ ns) → cond b (drop_name n ns) (m ∷ drop_name n ns) ≡ m ∷ ns
    step true e f = absurd (cc)
    step false e f = ap (λ xs. m ∷ xs) (f e)

found_later : (n : Name) (ns : List Name) (i k : ℕ) → found_from (suc i) n ns ≡ Some k → (j : ℕ) × (k ≡ suc j) × (found_from i n ns ≡ Some j)
found_later n [] i k e = absurd (cc)
found_later n (m ∷ ns) i k e = step (same_name n m) e (found_later n ns (suc i) k)
  where
    step : (b : Bool) → cond b (Some (suc i)) (found_from (suc (suc i)) n ns) ≡ Some k → (found_from (suc (suc i)) n ns ≡ Some k → (j : ℕ) × (k ≡ suc j) × (found_from (suc i) n ns ≡ Some j))
        → (j : ℕ) × (k ≡ suc j) × (cond b (Some i) (found_from (suc i) n ns) ≡ Some j)
    step true e f = (i, cc, refl)
    step false e f = f e

-- one that is found is dropped
pub one_dropped : (n : Name) (ns : List Name) (k : ℕ) → found_from 0 n ns ≡ Some k → drop_name n (remove ns k) ≡ drop_name n ns
one_dropped n [] k e = absurd (cc)
one_dropped n (m ∷ ns) k e = step (same_name n m) refl e (one_dropped n ns)
  where
    behind : (j : ℕ) → same_name n m ≡ false → k ≡ suc j → drop_name n (remove ns j) ≡ drop_name n ns → drop_name n (remove (m ∷ ns) k) ≡ drop_name n (m ∷ ns)
    behind j b s e = rw (s, b) (ap (λ xs. m ∷ xs) e)

    step : (b : Bool) → same_name n m ≡ b → cond b (Some 0) (found_from 1 n ns) ≡ Some k → ((j : ℕ) → found_from 0 n ns ≡ Some j → drop_name n (remove ns j) ≡ drop_name n ns) → drop_name n (remove (m ∷ ns) k) ≡ drop_name n (m ∷ ns)
    step true b e f = let same : k ≡ 0 = cc in rw (same, b) refl
    step false b e f = let later : (j : ℕ) × (k ≡ suc j) × (found_from 0 n ns ≡ Some j) = found_later n ns 0 k e in behind later.0 b later.1 (f later.0 later.2)

pub removed_shorter : {X : Type 0} (xs : List X) (k : ℕ) → k < length xs → suc (length (remove xs k)) ≡ length xs
removed_shorter xs k l = grind (arith, length-append, length-take, length-drop)

-- The marks of owners: what is placed, marked and taken out there.
use Rattle.std.proofs.Common.{◌≡◌, ◌<◌, ℕ, Bool, true, false, cond, eqb, ◌&&◌, List, [], ◌∷◌, ◌++◌, Option, Some, None, map, refl, sym, ◌∙◌, ap, arith}
use Rattle.std.specs.Prelude.{◌≢◌, is_some}
use Rattle.std.specs.BTreeMap as tree
use Rattle.std.specs.BTreeMap.{is_at, WritesThrough}
use Rattle.std.specs.Cmp.{Equal-is, nat_cmp_total, tied_itself}
use Rattle.std.specs.FinMap.{nat_cmp-IsAntisymmetric}
use Rattle.std.specs.List.{AllByRecursion}
use Rattle.std.specs.List.Sorted.{IsStrictlySortedBy}
use Rattle.std.specs.Map.{lookup, keys_of}
use Rattle.std.specs.Ordering.{is_eq, is_lt, nat_cmp}
use Rattle.std.specs.declared.cmp.Ordering.TheVariants.{Less}
use Rattle.std.proofs.lemmas.Bool.{false≢true}
use Rattle.std.proofs.lemmas.Bool.Decides.{nat_tests}
use Rattle.std.proofs.lemmas.List.{map-append, append-nil}
use Rattle.std.proofs.lemmas.Map.Keys.{sorted_head, sorted_tail}
use Rattle.fk_base.specs.Path.{PathNames, path_cmp, same_path}
use Rattle.fk_tree.specs.Sorted.{has_path, is_below, rises}
use Rattle.fk_tree.proofs.Order.{path_exact, path_total, same_path_is, same_path_self}
use Rattle.fk_tree.proofs.Rising.{below_absent}
use Rattle.fk_index.specs.Owners.{Marks, Owners, has_place, is_marked, is_set, mark_at, mark_in, marked_keys, IsMarked, IsMarkedIn, KeepMarks, KeepMarksIn, KeepsPlaces, KeepsPlacesIn}
use Rattle.fk_index.proofs.Finding.{put}
use Rattle.fk_base.proofs.Logic.{by_test, none_is}

some_is : {A : Type 0} (o : Option A) → o ≡ None → is_some o ≡ true → ⊥
some_is o e h = false≢true (ap is_some (sym e) ∙ h)

-- THE MAP OF ONE OWNER
pub marks_placed : (m n : Marks) (k : PathNames) → is_some (tree.get path_cmp m k) ≡ false → ((q : PathNames) → tree.get path_cmp n q ≡ cond (is_at (path_cmp k) q) (Some false) (tree.get path_cmp m q)) → KeepMarksIn m n
marks_placed m n k e u p = ap is_set (put m n k (Some false) u p) ∙ by_test (same_path p k) (λ b. is_set (cond b (Some false) (tree.get path_cmp m p)) ≡ is_set (tree.get path_cmp m p)) (λ t. rw (same_path_is p k t, none_is (tree.get path_cmp m k) e) refl) (λ _. refl)

pub places_placed : (m n : Marks) (k : PathNames) (b : Bool) → ((q : PathNames) → tree.get path_cmp n q ≡ cond (is_at (path_cmp k) q) (Some b) (tree.get path_cmp m q)) → KeepsPlacesIn m n
places_placed m n k b u p h = ap is_some (put m n k (Some b) u p) ∙ step (same_path p k)
  where
    step : (c : Bool) → is_some (cond c (Some b) (tree.get path_cmp m p)) ≡ true
    step true = refl
    step false = h

-- THE MAP OF OWNERS
nat_is : (k s : ℕ) → is_at (nat_cmp k) s ≡ true → k ≡ s
nat_is k s t = nat_cmp-IsAntisymmetric k s ((Equal-is (nat_cmp k s)).0 t)

pub nat_same : (k s : ℕ) → is_at (nat_cmp k) s ≡ eqb k s
nat_same k s = by_test (is_at (nat_cmp k) s) (λ b. b ≡ eqb k s) (λ t. rw (nat_is k s t) (self s)) (λ f. by_test (eqb k s) (λ b. false ≡ b) (λ t. sym f ∙ apart t) (λ _. refl))
  where
    self : (n : ℕ) → true ≡ eqb n n
    self n = grind (arith, nat_tests)

    apart : eqb k s ≡ true → is_at (nat_cmp k) s ≡ true
    apart t = let same : k ≡ s = grind (arith, nat_tests) in rw same (ap is_eq (tied_itself nat_cmp_total s))

-- one owner has this map, and the others keep theirs
abbrev IsUpdated : Owners → Owners → ℕ → Option Marks → Type 0
IsUpdated m n k w = (s : ℕ) → tree.get nat_cmp n s ≡ cond (is_at (nat_cmp k) s) w (tree.get nat_cmp m s)

pub marks_added : (m n : Owners) (k : ℕ) (e : Marks) → is_some (tree.get nat_cmp m k) ≡ false → e.entries ≡ [] → IsUpdated m n k (Some e) → KeepMarks m n
marks_added m n k e a b u s p =
    ap (λ x. is_set (mark_in p x)) (u s)
    ∙ by_test (is_at (nat_cmp k) s) (λ c. is_set (mark_in p (cond c (Some e) (tree.get nat_cmp m s))) ≡ is_marked m s p)
    (λ t. rw (← nat_is k s t, none_is (tree.get nat_cmp m k) a) (ap (λ es. is_set (lookup (is_at (path_cmp p)) es)) b)) (λ _. refl)

pub places_added : (m n : Owners) (k : ℕ) (e : Marks) → is_some (tree.get nat_cmp m k) ≡ false → IsUpdated m n k (Some e) → KeepsPlaces m n
places_added m n k e a u s p h =
    ap (λ x. is_some (mark_in p x)) (u s)
    ∙ by_test (is_at (nat_cmp k) s) (λ c. is_some (mark_in p (cond c (Some e) (tree.get nat_cmp m s))) ≡ true)
    (λ t. absurd (some_is (mark_at m s p) (rw (← nat_is k s t, none_is (tree.get nat_cmp m k) a) refl) h)) (λ _. h)

-- a map written through what a look-up lent
abbrev pub IsLent : Owners → ℕ → (Marks → Owners) → Type 0
IsLent m k l = (w : Marks) → WritesThrough nat_cmp (nat_cmp k) m w (l w)

lent : (m : Owners) (k : ℕ) (l : Marks → Owners) (o v : Marks) → Some o ≡ tree.get nat_cmp m k → IsLent m k l → IsUpdated m (l v) k (Some v)
lent m k l o v e w = ((w v).3 (sym (ap is_some e))).0

pub lent_place : (m : Owners) (k : ℕ) (l : Marks → Owners) (o v : Marks) (p : PathNames) → Some o ≡ tree.get nat_cmp m k → IsLent m k l → is_some (tree.get path_cmp v p) ≡ true → has_place (l v) k p ≡ true
lent_place m k l o v p e w h = ap (λ x. is_some (mark_in p x)) (lent m k l o v e w k ∙ here) ∙ h
  where
    here : cond (is_at (nat_cmp k) k) (Some v) (tree.get nat_cmp m k) ≡ Some v
    here = rw (ap is_eq (tied_itself nat_cmp_total k)) refl

pub lent_marks : (m : Owners) (k : ℕ) (l : Marks → Owners) (o v : Marks) → Some o ≡ tree.get nat_cmp m k → IsLent m k l → KeepMarksIn o v → KeepMarks m (l v)
lent_marks m k l o v e w h s p =
    ap (λ x. is_set (mark_in p x)) (lent m k l o v e w s)
    ∙ by_test (is_at (nat_cmp k) s) (λ c. is_set (mark_in p (cond c (Some v) (tree.get nat_cmp m s))) ≡ is_marked m s p)
    (λ t. h p ∙ rw (← nat_is k s t, ← e) refl) (λ _. refl)

pub lent_places : (m : Owners) (k : ℕ) (l : Marks → Owners) (o v : Marks) → Some o ≡ tree.get nat_cmp m k → IsLent m k l → KeepsPlacesIn o v → KeepsPlaces m (l v)
lent_places m k l o v e w f s p h =
    ap (λ x. is_some (mark_in p x)) (lent m k l o v e w s)
    ∙ by_test (is_at (nat_cmp k) s) (λ c. is_some (mark_in p (cond c (Some v) (tree.get nat_cmp m s))) ≡ true)
    (λ t. f p (ap (λ x. is_some (mark_in p x)) (e ∙ ap (tree.get nat_cmp m) (nat_is k s t)) ∙ h)) (λ _. h)

pub lent_marked : (m : Owners) (k : ℕ) (l : Marks → Owners) (o v : Marks) (p : PathNames) (b : Option Bool) → Some o ≡ tree.get nat_cmp m k → IsLent m k l → IsMarkedIn o v p b → IsMarked m (l v) k p b
lent_marked m k l o v p b e w f t q =
    ap (mark_in q) (lent m k l o v e w t)
    ∙ ap (λ c. mark_in q (cond c (Some v) (tree.get nat_cmp m t))) (nat_same k t)
    ∙ by_test (eqb k t) (λ c. mark_in q (cond c (Some v) (tree.get nat_cmp m t)) ≡ cond (c && same_path q p) b (mark_at m t q))
    (λ s. let same : k ≡ t = grind (arith, nat_tests) in rw (← same, ← e) (f q)) (λ _. refl)

-- nothing to take out
pub none_unmarked : (m n : Owners) (k : ℕ) (p : PathNames) → None ≡ tree.get nat_cmp m k → n ≡ m → IsMarked m n k p None
none_unmarked m n k p e same t q = rw same (by_test (eqb k t) (λ c. mark_at m t q ≡ cond (c && same_path q p) None (mark_at m t q)) (λ s. let eq : k ≡ t = grind (arith, nat_tests) in rw (← eq, ← e) (step (same_path q p))) (λ _. refl))
  where
    step : (b : Bool) → mark_in q None ≡ cond b None (mark_in q None)
    step true = refl
    step false = refl

-- LISTING
-- a loop over the places: a marked one, and one that isn't
keys_more : (es : List (PathNames × Bool)) (e : PathNames × Bool) → marked_keys (es ++ e ∷ []) ≡ marked_keys es ++ cond e.1 (e.0 ∷ []) []
keys_more [] e = step e.1
  where
    step : (b : Bool) → cond b (e.0 ∷ []) [] ≡ cond b (e.0 ∷ []) []
    step true = refl
    step false = refl
keys_more (f ∷ es) e = rw (keys_more es e) (step f.1)
  where
    step : (b : Bool) → cond b (f.0 ∷ (marked_keys es ++ cond e.1 (e.0 ∷ []) [])) (marked_keys es ++ cond e.1 (e.0 ∷ []) []) ≡ cond b (f.0 ∷ marked_keys es) (marked_keys es) ++ cond e.1 (e.0 ∷ []) []
    step true = refl
    step false = refl

pub keys_taken : {B : Type 0} (f : B → PathNames × Bool) (ys : List B) (y : B) → (f y).1 ≡ true → marked_keys (map f (ys ++ y ∷ [])) ≡ marked_keys (map f ys) ++ (f y).0 ∷ []
keys_taken f ys y h = rw (map-append f ys (y ∷ []), keys_more (map f ys) (f y), h) refl

pub keys_passed : {B : Type 0} (f : B → PathNames × Bool) (ys : List B) (y : B) → (f y).1 ≡ false → marked_keys (map f (ys ++ y ∷ [])) ≡ marked_keys (map f ys)
keys_passed f ys y h = rw (map-append f ys (y ∷ []), keys_more (map f ys) (f y), h) (append-nil (marked_keys (map f ys)))

keys_below : (p : PathNames) (es : List (PathNames × Bool)) → AllByRecursion (λ y. path_cmp p y ≡ Less) (keys_of es) → is_below path_cmp p (marked_keys es) ≡ true
keys_below p [] h = refl
keys_below p (e ∷ es) h = step e.1 (keys_below p es h.1)
  where
    step : (b : Bool) → is_below path_cmp p (marked_keys es) ≡ true → is_below path_cmp p (cond b (e.0 ∷ marked_keys es) (marked_keys es)) ≡ true
    step true r = rw (ap is_lt h.0) r
    step false r = r

pub keys_rise : (es : List (PathNames × Bool)) → IsStrictlySortedBy path_cmp (keys_of es) → rises path_cmp (marked_keys es) ≡ true
keys_rise [] h = refl
keys_rise (e ∷ es) h = step e.1 (keys_below e.0 es (sorted_head path_cmp e.0 (keys_of es) h)) (keys_rise es (sorted_tail path_cmp e.0 (keys_of es) h))
  where
    step : (b : Bool) → is_below path_cmp e.0 (marked_keys es) ≡ true → rises path_cmp (marked_keys es) ≡ true → rises path_cmp (cond b (e.0 ∷ marked_keys es) (marked_keys es)) ≡ true
    step true a r = rw a r
    step false a r = r

key_here : (p k : PathNames) (ks : List PathNames) → same_path p k ≡ true → has_path k ks ≡ false → (b : Bool) → has_path p (cond b (k ∷ ks) ks) ≡ b
key_here p k ks t a true = rw t refl
key_here p k ks t a false = rw (same_path_is p k t) a

key_later : (p k : PathNames) (ks : List PathNames) → same_path p k ≡ false → (b : Bool) → has_path p (cond b (k ∷ ks) ks) ≡ has_path p ks
key_later p k ks f true = rw f refl
key_later p k ks f false = refl

pub keys_exact : (p : PathNames) (es : List (PathNames × Bool)) → IsStrictlySortedBy path_cmp (keys_of es) → has_path p (marked_keys es) ≡ is_set (lookup (is_at (path_cmp p)) es)
keys_exact p [] h = refl
keys_exact p (e ∷ es) h =
    by_test (same_path p e.0) (λ b. has_path p (cond e.1 (e.0 ∷ marked_keys es) (marked_keys es)) ≡ is_set (cond b (Some e.1) (lookup (is_at (path_cmp p)) es)))
    (λ t. key_here p e.0 (marked_keys es) t (below_absent path_total path_exact e.0 (marked_keys es) (keys_below e.0 es (sorted_head path_cmp e.0 (keys_of es) h))) e.1)
    (λ f. key_later p e.0 (marked_keys es) f e.1 ∙ keys_exact p es (sorted_tail path_cmp e.0 (keys_of es) h))

-- GIVING
-- another path keeps its marks
pub other_path : (o q : Owners) (f : ℕ) (k : PathNames) (b : Option Bool) → IsMarked o q f k b → (s : ℕ) (p : PathNames) → same_path p k ≡ false → mark_at q s p ≡ mark_at o s p
other_path o q f k b u s p h = u s p ∙ rw h (step (eqb f s))
  where
    step : (c : Bool) → cond (c && false) b (mark_at o s p) ≡ mark_at o s p
    step true = refl
    step false = refl

here_path : (o q : Owners) (f : ℕ) (k : PathNames) (b : Option Bool) → IsMarked o q f k b → (s : ℕ) → mark_at q s k ≡ cond (eqb f s) b (mark_at o s k)
here_path o q f k b u s = u s k ∙ rw (same_path_self k) (step (eqb f s))
  where
    step : (c : Bool) → cond (c && true) b (mark_at o s k) ≡ cond c b (mark_at o s k)
    step true = refl
    step false = refl

-- the path is no one's
left : (o q : Owners) (f : ℕ) (k : PathNames) → IsMarked o q f k None → ((s : ℕ) → 0 < s → is_marked o s k ≡ eqb f s) → (s : ℕ) → 0 < s → is_marked q s k ≡ false
left o q f k u h s l = ap is_set (here_path o q f k None u s) ∙ by_test (eqb f s) (λ c. is_set (cond c None (mark_at o s k)) ≡ false) (λ _. refl) (λ e. h s l ∙ e)

pub left_none : (o q : Owners) (f t : ℕ) (k : PathNames) → t ≡ 0 → IsMarked o q f k None → ((s : ℕ) → 0 < s → is_marked o s k ≡ eqb f s) → (s : ℕ) → 0 < s → is_marked q s k ≡ eqb t s
left_none o q f t k z u h s l = let other : false ≡ eqb t s = grind (arith, nat_tests) in left o q f k u h s l ∙ other

pub entered : (o q x : Owners) (f t : ℕ) (k : PathNames) → IsMarked o q f k None → ((s : ℕ) → 0 < s → is_marked o s k ≡ eqb f s) → IsMarked q x t k (Some true) → (s : ℕ) → 0 < s → is_marked x s k ≡ eqb t s
entered o q x f t k u h w s l = ap is_set (here_path q x t k (Some true) w s) ∙ by_test (eqb t s) (λ c. is_set (cond c (Some true) (mark_at q s k)) ≡ c) (λ _. refl) (λ _. left o q f k u h s l)

-- the next owner's place is still there
pub still_placed : (o q : Owners) (f t : ℕ) (k : PathNames) → eqb f t ≡ false → IsMarked o q f k None → has_place o t k ≡ true → has_place q t k ≡ true
still_placed o q f t k e u h = ap is_some (here_path o q f k None u t ∙ ap (λ c. cond c None (mark_at o t k)) e) ∙ h

pub apart : (f t : ℕ) → f ≢ t → eqb f t ≡ false
apart f t e = grind (arith, nat_tests)

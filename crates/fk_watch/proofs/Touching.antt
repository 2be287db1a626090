-- The last sweeps of paths through a change.
use Rattle.std.proofs.Common.{◌≡◌, ◌<◌, ◌+◌, ℕ, zero, suc, Bool, true, false, cond, List, [], ◌∷◌, ◌++◌, Option, Some, None, length, take, drop, get_or, refl, sym, ◌∙◌, ap, arith, drop-cons}
use Rattle.std.specs.Prelude.{is_some}
use Rattle.std.specs.BTreeMap as tree
use Rattle.std.specs.BTreeMap.{BTreeMap, is_at}
use Rattle.std.proofs.lemmas.List.{take_more}
use Rattle.fk_base.specs.Path.{PathNames, path_cmp, same_path}
use Rattle.fk_tree.specs.Watch.{has_touch}
use Rattle.fk_tree.specs.declared.change.Touch.{Touch}
use Rattle.fk_tree.proofs.Order.{same_path_is, same_path_self}
use Rattle.fk_watch.specs.Kept.{last_in, or_zero}
use Rattle.fk_watch.specs.Touched.{has_sweep, HaveSweeps, KeepsLasts, KeepsPlaces}
use Rattle.fk_base.proofs.Logic.{by_test}

abbrev pub Lasts : Type 0
Lasts = BTreeMap PathNames ℕ

abbrev pub IsUpdated : Lasts → Lasts → PathNames → Option ℕ → Type 0
IsUpdated m n k w = (q : PathNames) → tree.get path_cmp n q ≡ cond (is_at (path_cmp k) q) w (tree.get path_cmp m q)

pub place_there : (m n : Lasts) (k : PathNames) (tx : ℕ) → IsUpdated m n k (Some tx) → has_sweep k n.entries ≡ true
place_there m n k tx u = let e : tree.get path_cmp n k ≡ Some tx = u k ∙ rw (same_path_self k) refl in ap is_some e

pub place_kept : (m n : Lasts) (k : PathNames) (tx : ℕ) → IsUpdated m n k (Some tx) → KeepsPlaces m.entries n.entries
place_kept m n k tx u p h = ap is_some (u p) ∙ by_test (same_path k p) (λ b. is_some (cond b (Some tx) (tree.get path_cmp m p)) ≡ true) (λ _. refl) (λ _. h)

pub last_put : (m n : Lasts) (k : PathNames) (tx : ℕ) → IsUpdated m n k (Some tx) → (p : PathNames) → last_in p n.entries ≡ cond (same_path k p) tx (last_in p m.entries)
last_put m n k tx u p = ap or_zero (u p) ∙ step (same_path k p) (tree.get path_cmp m p)
  where
    step : (b : Bool) (o : Option ℕ) → or_zero (cond b (Some tx) o) ≡ cond b tx (or_zero o)
    step true o = refl
    step false o = refl

-- a new place
pub zero_put : (m n : Lasts) (k : PathNames) → is_some (tree.get path_cmp m k) ≡ false → IsUpdated m n k (Some 0) → KeepsLasts m.entries n.entries
zero_put m n k h u p =
    last_put m n k 0 u p
    ∙ by_test (same_path k p) (λ b. cond b 0 (last_in p m.entries) ≡ last_in p m.entries) (λ t. sym (rw (sym (same_path_is k p t)) (none (tree.get path_cmp m k) h))) (λ _. refl)
  where
    none : (o : Option ℕ) → is_some o ≡ false → or_zero o ≡ 0
    none None e = refl
    none (Some x) e = absurd (cc)

-- TOUCHES, ONE BY ONE
touch_more : (p : PathNames) (ts : List Touch) (t : Touch) → has_touch p (ts ++ t ∷ []) ≡ cond (has_touch p ts) true (same_path t.path p)
touch_more p [] t = step (same_path t.path p)
  where
    step : (b : Bool) → cond b true false ≡ b
    step true = refl
    step false = refl
touch_more p (u ∷ ts) t = step (same_path u.path p) (touch_more p ts t)
  where
    step : (b : Bool) → has_touch p (ts ++ t ∷ []) ≡ cond (has_touch p ts) true (same_path t.path p) → cond b true (has_touch p (ts ++ t ∷ [])) ≡ cond (cond b true (has_touch p ts)) true (same_path t.path p)
    step true e = refl
    step false e = e

-- one more touched path has its place
pub one_more_place : (ts : List Touch) (i : ℕ) (t : Touch) (es fs : List (PathNames × ℕ)) → i < length ts → t ≡ get_or ts i t → HaveSweeps (take i ts) es → KeepsPlaces es fs → has_sweep t.path fs ≡ true → HaveSweeps (take (i + 1) ts) fs
one_more_place ts i t es fs l e have keep here p touched =
    by_test (has_touch p (take i ts)) (λ b. cond b true (same_path t.path p) ≡ true → has_sweep p fs ≡ true)
    (λ h _. keep p (have p h))
    (λ _ s. ap (λ q. has_sweep q fs) (sym (same_path_is t.path p s)) ∙ here)
    (sym (touch_more p (take i ts) t) ∙ ap (λ xs. has_touch p xs) (ap (λ u. take i ts ++ u ∷ []) e ∙ sym (take_more ts i t l)) ∙ touched)

touch_at : (ts : List Touch) (i : ℕ) (d : Touch) → i < length ts → has_touch (get_or ts i d).path ts ≡ true
touch_at [] i d l = absurd (omega arith)
touch_at (t ∷ ts) zero d l = rw (same_path_self t.path) refl
touch_at (t ∷ ts) (suc i) d l = step (same_path t.path (get_or ts i d).path) (touch_at ts i d (omega arith))
  where
    step : (b : Bool) → has_touch (get_or ts i d).path ts ≡ true → cond b true (has_touch (get_or ts i d).path ts) ≡ true
    step true e = refl
    step false e = e

-- the path of a touch has its place
pub touch_placed : (ts : List Touch) (i : ℕ) (t : Touch) (es fs : List (PathNames × ℕ)) → i < length ts → t ≡ get_or ts i t → HaveSweeps ts es → KeepsPlaces es fs → has_sweep t.path fs ≡ true
touch_placed ts i t es fs l e have keep = keep t.path (have t.path (ap (λ u. has_touch u.path ts) e ∙ touch_at ts i t l))

pub touch_put : (ts : List Touch) (i : ℕ) (t : Touch) (tx : ℕ) (es fs : List (PathNames × ℕ)) → i < length ts → t ≡ get_or ts i t → ((p : PathNames) → last_in p fs ≡ cond (same_path t.path p) tx (last_in p es))
    → (p : PathNames) → cond (has_touch p (drop (i + 1) ts)) tx (last_in p fs) ≡ cond (has_touch p (drop i ts)) tx (last_in p es)
touch_put ts i t tx es fs l e h p = go (i + 1) (omega arith)
  where
    step : (a b : Bool) (x y : ℕ) → cond a x (cond b x y) ≡ cond (cond b true a) x y
    step true true x y = refl
    step true false x y = refl
    step false true x y = refl
    step false false x y = refl

    go : (j : ℕ) → j ≡ suc i → cond (has_touch p (drop j ts)) tx (last_in p fs) ≡ cond (has_touch p (drop i ts)) tx (last_in p es)
    go j g = rw (g, h p, drop-cons ts i t l, ← e) (step (has_touch p (drop (suc i) ts)) (same_path t.path p) tx (last_in p es))

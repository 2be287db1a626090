-- The paths whose node a session owns.
use Rattle.std.proofs.Common.{◌≡◌, ◌<◌, ℕ, Bool, true, false, cond, eqb, T, List, [], ◌∷◌, Option, Some, None, Ordering, refl, sym, ◌∙◌, ap, arith}
use Rattle.std.specs.declared.cmp.Ordering.TheVariants.{Less, Equal, Greater}
use Rattle.std.specs.Ordering.{is_eq, is_lt}
use Rattle.std.specs.FinMap.{get, entries, find, is_sorted, get-entries, entries_sorted}
use Rattle.std.specs.FinMap.Entries.{below_all}
use Rattle.std.proofs.lemmas.Bool.{false≢true}
use Rattle.std.proofs.lemmas.Bool.Decides.{nat_tests}
use Rattle.fk_base.specs.Path.{Name, PathNames, path_cmp, same_path}
use Rattle.fk_tree.specs.Sorted.{has_path, is_below, rises}
use Rattle.fk_tree.specs.Tree.{Bare, Nodes, children, with_names, map_some, node_view}
use Rattle.fk_tree.specs.Fill.{owned, owned_in}
use Rattle.fk_tree.specs.Rows.{is_free, is_of}
use Rattle.fk_tree.proofs.Order.{tested, tested_left, tested_right, path_total, path_exact, same_path_is}
use Rattle.fk_tree.proofs.Rising.{same_rising}
use Rattle.fk_base.proofs.Logic.{by_test}

abbrev pub owner_is : ℕ → Option Bare → Bool
owner_is s None = false
owner_is s (Some b) = eqb b.owner s

not_tied : (p q : PathNames) → is_lt (path_cmp p q) ≡ true → same_path p q ≡ false
not_tied p q l = turned (path_cmp p q) l
  where
    turned : (o : Ordering) → is_lt o ≡ true → is_eq o ≡ false
    turned Less e = refl
    turned Equal e = absurd (false≢true e)
    turned Greater e = refl

below_none : (p : PathNames) (es : List (PathNames × Bare)) → T (below_all path_cmp p es) → find path_cmp p es ≡ None
below_none p [] b = refl
below_none p (e ∷ es) b = rw (not_tied p e.0 (tested _ (tested_left _ _ b))) (below_none p es (tested_right _ _ b))

pub owned_has_in : (s : ℕ) (p : PathNames) (es : List (PathNames × Bare)) → T (is_sorted path_cmp es) → has_path p (owned_in s es) ≡ owner_is s (find path_cmp p es)
owned_has_in s p [] h = refl
owned_has_in s p (e ∷ es) h = step (owned_has_in s p es (tested_right _ _ h)) (eqb (e.1).owner s) refl (same_path p e.0) refl
  where
    step : has_path p (owned_in s es) ≡ owner_is s (find path_cmp p es) → (c : Bool) → eqb (e.1).owner s ≡ c → (d : Bool) → same_path p e.0 ≡ d → has_path p (cond c (e.0 ∷ owned_in s es) (owned_in s es)) ≡ owner_is s (cond d (Some e.1) (find path_cmp p es))
    step rest true a true b = rw b (sym a)
    step rest true a false b = rw b rest
    step rest false a true b = rest ∙ rw (same_path_is p e.0 b, below_none e.0 es (tested_left _ _ h)) (sym a)
    step rest false a false b = rest

below_owned : (s : ℕ) (p : PathNames) (es : List (PathNames × Bare)) → T (below_all path_cmp p es) → is_below path_cmp p (owned_in s es) ≡ true
below_owned s p [] h = refl
below_owned s p (e ∷ es) h = by_test (eqb (e.1).owner s) (λ c. is_below path_cmp p (cond c (e.0 ∷ owned_in s es) (owned_in s es)) ≡ true) (λ _. let l : is_lt (path_cmp p e.0) ≡ true = tested _ (tested_left _ _ h) in rw l (below_owned s p es (tested_right _ _ h))) (λ _. below_owned s p es (tested_right _ _ h))

pub owned_rises_in : (s : ℕ) (es : List (PathNames × Bare)) → T (is_sorted path_cmp es) → rises path_cmp (owned_in s es) ≡ true
owned_rises_in s [] h = refl
owned_rises_in s (e ∷ es) h = by_test (eqb (e.1).owner s) (λ c. rises path_cmp (cond c (e.0 ∷ owned_in s es) (owned_in s es)) ≡ true) (λ _. let l : is_below path_cmp e.0 (owned_in s es) ≡ true = below_owned s e.0 es (tested_left _ _ h) in rw l (owned_rises_in s es (tested_right _ _ h))) (λ _. owned_rises_in s es (tested_right _ _ h))

owned_has_bare : (t : Nodes) (s : ℕ) (p : PathNames) → has_path p (owned t s) ≡ owner_is s (get t p)
owned_has_bare t s p = owned_has_in s p (entries t) (entries_sorted t) ∙ ap (owner_is s) (sym (get-entries t p))

pub owned_has : (t : Nodes) (s : ℕ) (p : PathNames) → has_path p (owned t s) ≡ is_of s (node_view t p)
owned_has t s p = owned_has_bare t s p ∙ step (children t p) (get t p)
  where
    step : (ns : List Name) (o : Option Bare) → owner_is s o ≡ is_of s (map_some (with_names ns) o)
    step ns None = refl
    step ns (Some b) = refl

-- a rising list of the paths whose node a session owns
pub owned_is : (t : Nodes) (s : ℕ) (ps : List PathNames) → rises path_cmp ps ≡ true → ((p : PathNames) → has_path p ps ≡ is_of s (node_view t p)) → ps ≡ owned t s
owned_is t s ps r h = same_rising path_total path_exact ps (owned t s) r (owned_rises_in s (entries t) (entries_sorted t)) (λ p. h p ∙ sym (owned_has t s p))

-- what a session owns is not free
pub owned_unfree : (t : Nodes) (s : ℕ) (p : PathNames) → 0 < s → has_path p (owned t s) ≡ true → is_free (get t p) ≡ false
owned_unfree t s p l h = step (get t p) (sym (owned_has_bare t s p) ∙ h)
  where
    apart : (n : ℕ) → eqb n s ≡ true → eqb n 0 ≡ false
    apart n e = grind (arith, nat_tests)

    step : (o : Option Bare) → owner_is s o ≡ true → is_free o ≡ false
    step None e = absurd (false≢true e)
    step (Some b) e = apart b.owner e

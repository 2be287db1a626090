-- The nodes of a well-formed tree stay so.
use Rattle.std.proofs.Common.{◌≡◌, ◌<◌, ℕ, Bool, true, false, cond, eqb, ◌||◌, List, [], ◌∷◌, ◌++◌, Option, Some, None, Ordering, refl, sym, ◌∙◌, ap, subst, arith, T}
use Rattle.std.specs.Prelude.{is_some}
use Rattle.std.specs.declared.cmp.Ordering.TheVariants.{Less, Equal, Greater}
use Rattle.std.specs.Ordering.{is_lt, is_eq, ordering_reverse}
use Rattle.std.specs.FinMap.{get, insert, remove, contains_key, entries, find, is_sorted, get-entries, entries_sorted, get-insert, get-remove}
use Rattle.std.specs.FinMap.Entries.{below_all}
use Rattle.std.proofs.lemmas.Bool.{false≢true}
use Rattle.std.proofs.lemmas.Bool.Decides.{nat_tests}
use Rattle.fk_base.specs.Path.{Name, PathNames, path_cmp, same_path, same_name, parent, last_name, is_root}
use Rattle.fk_tree.specs.Tree.{Bare, Nodes, map_some, fresh}
use Rattle.fk_tree.specs.Rows.{HasParents}
use Rattle.fk_tree.specs.Fill.{owned, owned_in}
use Rattle.fk_tree.specs.Apply.{grown, shrunk, replaced, at_path, create_node, set_node, delete_node, delete_nodes}
use Rattle.fk_tree.proofs.Order.{tested, tested_left, tested_right, path_total, same_path_is, same_path_self, same_child, child_apart, child_parts}
use Rattle.fk_tree.proofs.Views.{free_some, get_at_path, no_child, some_at_path, some_create, with_node}
use Rattle.fk_tree.proofs.Deletes.{some_delete}
use Rattle.fk_base.proofs.Logic.{and_left, by_test}

-- a node is there, and it has no owner
abbrev pub is_free : Option Bare → Bool
is_free None = false
is_free (Some b) = eqb b.owner 0

-- the root is there and free, and each other node has a parent that is free
pub record IsWhole (t : Nodes) : Type 0 where
  pub root : is_free (get t []) ≡ true
  pub parents : (p : PathNames) (n : Name) → is_some (get t (p ++ n ∷ [])) ≡ true → is_free (get t p) ≡ true

pub has_parents : (t : Nodes) → IsWhole t → HasParents t
has_parents t w p n s = assumption (w.parents p n s, free_some (get t p) (w.parents p n s))

free_map : (f : Bare → Bare) → ((b : Bare) → (f b).owner ≡ b.owner) → (o : Option Bare) → is_free (map_some f o) ≡ is_free o
free_map f h None = refl
free_map f h (Some b) = ap (λ n. eqb n 0) (h b)

-- a change that keeps owners
free_at_path : (p : PathNames) (f : Bare → Bare) → ((b : Bare) → (f b).owner ≡ b.owner) → (t : Nodes) (q : PathNames) → is_free (get (at_path p f t) q) ≡ is_free (get t q)
free_at_path p f h t q = ap is_free (get_at_path p f t q) ∙ by_test (same_path q p) (λ c. is_free (cond c (map_some f (get t q)) (get t q)) ≡ is_free (get t q)) (λ _. free_map f h (get t q)) (λ _. refl)

pub set_keeps : (t : Nodes) (p : PathNames) (bytes : List ℕ) (tx moment : ℕ) → IsWhole t → IsWhole (set_node p bytes tx moment t)
set_keeps t p bytes tx moment w = record {
  root = free_at_path p (replaced bytes tx moment) (λ _. refl) t [] ∙ w.root;
  parents = λ q n s. free_at_path p (replaced bytes tx moment) (λ _. refl) t q ∙ w.parents q n (sym (some_at_path p (replaced bytes tx moment) t (q ++ n ∷ [])) ∙ s);
}

-- CREATE
root_apart : (d : PathNames) (x : Name) → same_path [] (d ++ x ∷ []) ≡ false
root_apart [] x = refl
root_apart (y ∷ d) x = refl

child_keeps : (t : Nodes) (d : PathNames) (x : Name) (b : Bare) (tx : ℕ) → IsWhole t → is_free (get t d) ≡ true → is_some (get t (d ++ x ∷ [])) ≡ false → IsWhole (with_node t d x b tx)
child_keeps t d x b tx w f free = record {
  root = elsewhere [] (root_apart d x) ∙ w.root;
  parents = λ q n s. by_test (same_path q (d ++ x ∷ [])) (λ _. is_free (get (with_node t d x b tx) q) ≡ true)
      (λ e. absurd (no_grandchild n (subst (λ r. is_some (get (with_node t d x b tx) (r ++ n ∷ [])) ≡ true) (same_path_is q (d ++ x ∷ []) e) s)))
      (λ e. elsewhere q e ∙ before q n (sym (some_create t d (q ++ n ∷ []) x b tx) ∙ s));
}
  where
    elsewhere : (q : PathNames) → same_path q (d ++ x ∷ []) ≡ false → is_free (get (with_node t d x b tx) q) ≡ is_free (get t q)
    elsewhere q e = ap is_free (get-insert path_total (at_path d (grown tx) t) (d ++ x ∷ []) b q) ∙ rw e (free_at_path d (grown tx) (λ _. refl) t q)

    no_grandchild : (n : Name) → is_some (get (with_node t d x b tx) ((d ++ x ∷ []) ++ n ∷ [])) ≡ true → ⊥
    no_grandchild n s = false≢true (sym (some_create t d ((d ++ x ∷ []) ++ n ∷ []) x b tx ∙ rw (child_apart (d ++ x ∷ []) n) (no_child t (has_parents t w) (d ++ x ∷ []) n free)) ∙ s)

    before : (q : PathNames) (n : Name) → (same_path (q ++ n ∷ []) (d ++ x ∷ []) || is_some (get t (q ++ n ∷ []))) ≡ true → is_free (get t q) ≡ true
    before q n s = by_test (same_path (q ++ n ∷ []) (d ++ x ∷ [])) (λ c. (c || is_some (get t (q ++ n ∷ []))) ≡ true → is_free (get t q) ≡ true)
        (λ e _. subst (λ r. is_free (get t r) ≡ true) (sym (same_path_is q d (and_left (same_path q d) (same_name n x) (sym (same_child q d n x) ∙ e)))) f)
        (λ _ h. w.parents q n h) s

-- at a free path under a parent that has no owner
pub create_keeps : (t : Nodes) (p : PathNames) (bytes : List ℕ) (owner tx moment : ℕ) → IsWhole t → is_root p ≡ false → is_free (get t (parent p)) ≡ true → is_some (get t p) ≡ false → IsWhole (create_node p bytes owner tx moment t)
create_keeps t [] bytes owner tx moment w r f free = absurd (false≢true (sym r))
create_keeps t (x ∷ p) bytes owner tx moment w r f free =
    subst (λ c. IsWhole (insert (at_path (parent (x ∷ p)) (grown tx) t) c (fresh bytes owner tx moment))) (sym (child_parts x p))
    (child_keeps t (parent (x ∷ p)) (last_name (x ∷ p)) (fresh bytes owner tx moment) tx w f (subst (λ c. is_some (get t c) ≡ false) (child_parts x p) free))

-- DELETES
free_deleted : (t : Nodes) (p q : PathNames) (tx : ℕ) → same_path q p ≡ false → is_free (get (delete_node p tx t) q) ≡ is_free (get t q)
free_deleted t p q tx n = step (contains_key t p)
  where
    step : (c : Bool) → is_free (get (cond c (at_path (parent p) (shrunk tx) (remove t p)) t) q) ≡ is_free (get t q)
    step true = free_at_path (parent p) (shrunk tx) (λ _. refl) (remove t p) q ∙ ap is_free (get-remove path_total t p q) ∙ rw n refl
    step false = refl

-- a path below the root that has no child
pub record IsLeaf (t : Nodes) (p : PathNames) : Type 0 where
  pub below_root : is_root p ≡ false
  pub childless : (n : Name) → is_some (get t (p ++ n ∷ [])) ≡ false

pub delete_keeps : (t : Nodes) (p : PathNames) (tx : ℕ) → IsWhole t → IsLeaf t p → IsWhole (delete_node p tx t)
delete_keeps t p tx w l = record {
  root = free_deleted t p [] tx (other_root p l.below_root) ∙ w.root;
  parents = λ q n s. above q n (left (same_path (q ++ n ∷ []) p) (is_some (get t (q ++ n ∷ []))) (sym (some_delete t p (q ++ n ∷ []) tx) ∙ s));
}
  where
    other_root : (p : PathNames) → is_root p ≡ false → same_path [] p ≡ false
    other_root [] e = absurd (false≢true (sym e))
    other_root (x ∷ p) e = refl

    left : (c b : Bool) → cond c false b ≡ true → b ≡ true
    left true b h = absurd (false≢true h)
    left false b h = h

    above : (q : PathNames) (n : Name) → is_some (get t (q ++ n ∷ [])) ≡ true → is_free (get (delete_node p tx t) q) ≡ true
    above q n there =
        let other : same_path q p ≡ false = by_test (same_path q p) (λ c. c ≡ false) (λ e. absurd (false≢true (sym (l.childless n) ∙ subst (λ r. is_some (get t (r ++ n ∷ [])) ≡ true) (same_path_is q p e) there))) (λ _. refl) in
        free_deleted t p q tx other ∙ w.parents q n there

abbrev pub AllLeaves : Nodes → List PathNames → Type 0
AllLeaves t [] = Unit {0}
AllLeaves t (p ∷ ps) = IsLeaf t p × AllLeaves t ps

leaves_stay : (t : Nodes) (p : PathNames) (tx : ℕ) (ps : List PathNames) → AllLeaves t ps → AllLeaves (delete_node p tx t) ps
leaves_stay t p tx [] h = tt
leaves_stay t p tx (q ∷ qs) h = (record { below_root = h.0.below_root; childless = λ n. some_delete t p (q ++ n ∷ []) tx ∙ rw (h.0.childless n) (both_false (same_path (q ++ n ∷ []) p)) }, leaves_stay t p tx qs h.1)
  where
    both_false : (c : Bool) → cond c false false ≡ false
    both_false true = refl
    both_false false = refl

pub deletes_keep : (t : Nodes) (ps : List PathNames) (tx : ℕ) → IsWhole t → AllLeaves t ps → IsWhole (delete_nodes ps tx t)
deletes_keep t [] tx w h = w
deletes_keep t (p ∷ ps) tx w h = deletes_keep (delete_node p tx t) ps tx (delete_keeps t p tx w h.0) (leaves_stay t p tx ps h.1)

-- OWNED NODES
abbrev Each : (PathNames × Bare → Type 0) → List (PathNames × Bare) → Type 0
Each P [] = Unit {0}
Each P (e ∷ es) = P e × Each P es

not_tied : (p q : PathNames) → is_lt (path_cmp p q) ≡ true → same_path q p ≡ false
not_tied p q l = rw (path_total.antisymm q p) (turned (path_cmp p q) l)
  where
    turned : (o : Ordering) → is_lt o ≡ true → is_eq (ordering_reverse o) ≡ false
    turned Less e = refl
    turned Equal e = absurd (false≢true e)
    turned Greater e = refl

each_skip : (e : PathNames × Bare) (es fs : List (PathNames × Bare)) → T (below_all path_cmp e.0 fs) → Each (λ f. find path_cmp f.0 es ≡ Some f.1) fs → Each (λ f. find path_cmp f.0 (e ∷ es) ≡ Some f.1) fs
each_skip e es [] b h = tt
each_skip e es (f ∷ fs) b h = (rw (not_tied e.0 f.0 (tested _ (tested_left _ _ b))) h.0, each_skip e es fs (tested_right _ _ b) h.1)

each_found : (es : List (PathNames × Bare)) → T (is_sorted path_cmp es) → Each (λ f. find path_cmp f.0 es ≡ Some f.1) es
each_found [] h = tt
each_found (e ∷ es) h = (rw (same_path_self e.0) refl, each_skip e es es (tested_left _ _ h) (each_found es (tested_right _ _ h)))

not_free : (s : ℕ) (b : Bare) → 0 < s → eqb b.owner s ≡ true → is_free (Some b) ≡ false
not_free s b z o = grind (arith, nat_tests)

owned_leaf : (t : Nodes) (s : ℕ) (p : PathNames) (b : Bare) → IsWhole t → 0 < s → get t p ≡ Some b → eqb b.owner s ≡ true → IsLeaf t p
owned_leaf t s p b w z g o = record {
  below_root = below p g;
  childless = λ n. by_test (is_some (get t (p ++ n ∷ []))) (λ c. c ≡ false) (λ e. absurd (false≢true (sym (not_free s b z o) ∙ sym (ap is_free g) ∙ w.parents p n e))) (λ _. refl);
}
  where
    below : (p : PathNames) → get t p ≡ Some b → is_root p ≡ false
    below [] g = absurd (false≢true (sym (not_free s b z o) ∙ sym (ap is_free g) ∙ w.root))
    below (x ∷ p) g = refl

owned_leaves_in : (t : Nodes) (s : ℕ) → IsWhole t → 0 < s → (es : List (PathNames × Bare)) → Each (λ f. find path_cmp f.0 (entries t) ≡ Some f.1) es → AllLeaves t (owned_in s es)
owned_leaves_in t s w z [] h = tt
owned_leaves_in t s w z (e ∷ es) h =
    by_test (eqb (e.1).owner s) (λ c. AllLeaves t (cond c (e.0 ∷ owned_in s es) (owned_in s es)))
    (λ o. (owned_leaf t s e.0 (e.1) w z (get-entries t e.0 ∙ h.0) o, owned_leaves_in t s w z es h.1))
    (λ _. owned_leaves_in t s w z es h.1)

-- the nodes of a session have no children
pub owned_leaves : (t : Nodes) (s : ℕ) → IsWhole t → 0 < s → AllLeaves t (owned t s)
owned_leaves t s w z = owned_leaves_in t s w z (entries t) (each_found (entries t) (entries_sorted t))

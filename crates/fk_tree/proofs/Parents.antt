-- Each node but the root keeps its parent, which no session owns.
use Rattle.std.proofs.Common.{◌≡◌, ℕ, Bool, true, false, cond, ◌||◌, List, [], ◌∷◌, ◌++◌, Option, Some, None, refl, sym, ◌∙◌, ap, subst}
use Rattle.std.specs.Prelude.{is_some}
use Rattle.std.specs.FinMap.{get, insert, remove, contains_key, get-insert, get-remove}
use Rattle.std.proofs.lemmas.Bool.{false≢true}
use Rattle.fk_base.specs.Path.{Name, PathNames, same_name, same_path, parent, last_name, is_root}
use Rattle.fk_tree.specs.Tree.{Bare, Nodes, fresh}
use Rattle.fk_tree.specs.Sorted.{has_path}
use Rattle.fk_tree.specs.Rows.{HasParents, is_free}
use Rattle.fk_tree.specs.Apply.{grown, shrunk, replaced, at_path, create_node, set_node, delete_node, delete_nodes}
use Rattle.fk_tree.proofs.Order.{path_total, same_path_is, same_path_self, same_child, child_parts}
use Rattle.fk_tree.proofs.Views.{with_node, free_some, free_at_path, some_at_path, some_create}
use Rattle.fk_tree.proofs.Deletes.{some_delete}
use Rattle.fk_base.proofs.Logic.{and_left, by_test}

pub set_keeps : (t : Nodes) (p : PathNames) (bytes : List ℕ) (tx moment : ℕ) → HasParents t → HasParents (set_node p bytes tx moment t)
set_keeps t p bytes tx moment h q n s = free_at_path p (replaced bytes tx moment) t q (λ b. refl) ∙ h q n (sym (some_at_path p (replaced bytes tx moment) t (q ++ n ∷ [])) ∙ s)

child_keeps : (t : Nodes) (d : PathNames) (x : Name) (b : Bare) (tx : ℕ) → HasParents t → is_free (get t d) ≡ true → is_some (get t (d ++ x ∷ [])) ≡ false → HasParents (with_node t d x b tx)
child_keeps t d x b tx h open_d taken q n s =
    ap is_free (get-insert path_total (at_path d (grown tx) t) (d ++ x ∷ []) b q)
    ∙ rw other (free_at_path d (grown tx) t q (λ b. refl) ∙ there)
  where
    parent_there : (c : Bool) → same_path (q ++ n ∷ []) (d ++ x ∷ []) ≡ c → (c || is_some (get t (q ++ n ∷ []))) ≡ true → is_free (get t q) ≡ true
    parent_there true e s = rw (same_path_is q d (and_left (same_path q d) (same_name n x) (sym (same_child q d n x) ∙ e))) open_d
    parent_there false e s = h q n s

    there : is_free (get t q) ≡ true
    there = parent_there (same_path (q ++ n ∷ []) (d ++ x ∷ [])) refl (sym (some_create t d (q ++ n ∷ []) x b tx) ∙ s)

    other : same_path q (d ++ x ∷ []) ≡ false
    other = by_test (same_path q (d ++ x ∷ [])) (λ c. c ≡ false) (λ e. absurd (false≢true (sym taken ∙ subst (λ r. is_some (get t r) ≡ true) (same_path_is q (d ++ x ∷ []) e) (free_some (get t q) there)))) (λ _. refl)

-- at a free path, under a parent that is there and that no session owns
pub create_keeps : (t : Nodes) (p : PathNames) (bytes : List ℕ) (owner tx moment : ℕ) → HasParents t → is_root p ≡ false → is_free (get t (parent p)) ≡ true → is_some (get t p) ≡ false → HasParents (create_node p bytes owner tx moment t)
create_keeps t [] bytes owner tx moment h r open_d taken = absurd (false≢true (sym r))
create_keeps t (x ∷ p) bytes owner tx moment h r open_d taken =
    subst (λ c. HasParents (insert (at_path (parent (x ∷ p)) (grown tx) t) c (fresh bytes owner tx moment))) (sym (child_parts x p))
    (child_keeps t (parent (x ∷ p)) (last_name (x ∷ p)) (fresh bytes owner tx moment) tx h open_d (subst (λ c. is_some (get t c) ≡ false) (child_parts x p) taken))

-- what is left keeps its owner
free_delete : (t : Nodes) (p q : PathNames) (tx : ℕ) → is_free (get (delete_node p tx t) q) ≡ cond (same_path q p) false (is_free (get t q))
free_delete t p q tx = step (contains_key t p) refl
  where
    free_unless : (c : Bool) (o : Option Bare) → is_free (cond c None o) ≡ cond c false (is_free o)
    free_unless true o = refl
    free_unless false o = refl

    missing : (o : Option Bare) → is_some o ≡ false → is_free o ≡ false
    missing None e = refl
    missing (Some b) e = absurd (false≢true (sym e))

    step : (c : Bool) → contains_key t p ≡ c → is_free (get (cond c (at_path (parent p) (shrunk tx) (remove t p)) t) q) ≡ cond (same_path q p) false (is_free (get t q))
    step true e = free_at_path (parent p) (shrunk tx) (remove t p) q (λ b. refl) ∙ ap is_free (get-remove path_total t p q) ∙ free_unless (same_path q p) (get t q)
    step false e = by_test (same_path q p) (λ c. is_free (get t q) ≡ cond c false (is_free (get t q))) (λ s. rw (same_path_is q p s) (missing (get t p) e)) (λ _. refl)

-- of a path without children
pub delete_keeps : (t : Nodes) (p : PathNames) (tx : ℕ) → HasParents t → ((n : Name) → is_some (get t (p ++ n ∷ [])) ≡ false) → HasParents (delete_node p tx t)
delete_keeps t p tx h leaf q n s = free_delete t p q tx ∙ rw other (h q n there)
  where
    left : (c b : Bool) → cond c false b ≡ true → b ≡ true
    left true b h = absurd (false≢true h)
    left false b h = h

    there : is_some (get t (q ++ n ∷ [])) ≡ true
    there = left (same_path (q ++ n ∷ []) p) (is_some (get t (q ++ n ∷ []))) (sym (some_delete t p (q ++ n ∷ []) tx) ∙ s)

    other : same_path q p ≡ false
    other = by_test (same_path q p) (λ c. c ≡ false) (λ e. absurd (false≢true (sym (leaf n) ∙ subst (λ r. is_some (get t (r ++ n ∷ [])) ≡ true) (same_path_is q p e) there))) (λ _. refl)

-- a path that isn't free has no child
unfree_leaf : (t : Nodes) (p : PathNames) → HasParents t → is_free (get t p) ≡ false → (n : Name) → is_some (get t (p ++ n ∷ [])) ≡ false
unfree_leaf t p h e n = by_test (is_some (get t (p ++ n ∷ []))) (λ b. b ≡ false) (λ s. absurd (false≢true (sym e ∙ h p n s))) (λ _. refl)

-- of paths of which none is free
pub deletes_keep : (t : Nodes) (ps : List PathNames) (tx : ℕ) → HasParents t → ((p : PathNames) → has_path p ps ≡ true → is_free (get t p) ≡ false) → HasParents (delete_nodes ps tx t)
deletes_keep t [] tx h f = h
deletes_keep t (p ∷ ps) tx h f =
    deletes_keep (delete_node p tx t) ps tx
    (delete_keeps t p tx h (unfree_leaf t p h (f p (rw (same_path_self p) refl))))
    (λ q s. free_delete t p q tx ∙ by_test (same_path q p) (λ c. cond c false (is_free (get t q)) ≡ false) (λ _. refl) (λ _. f q (rw s (or_true (same_path q p)))))
  where
    or_true : (a : Bool) → (a || true) ≡ true
    or_true true = refl
    or_true false = refl

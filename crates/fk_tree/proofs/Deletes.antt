-- What a tree shows after a delete: path by path, what the edits of that path leave.
use Rattle.std.proofs.Common.{◌≡◌, ℕ, Bool, true, false, cond, ◌&&◌, List, [], ◌∷◌, ◌++◌, Option, Some, None, refl, sym, ◌∙◌, ap, subst}
use Rattle.std.specs.Prelude.{is_some}
use Rattle.std.specs.FinMap.{get, remove, contains_key, get-remove}
use Rattle.std.proofs.lemmas.Bool.{false≢true}
use Rattle.fk_base.specs.Path.{Name, PathNames, name_cmp, same_name, same_path, parent, last_name}
use Rattle.fk_tree.specs.declared.edit.What.TheVariants as what
use Rattle.fk_tree.specs.Sorted.{has_name, drop_name, rises}
use Rattle.fk_tree.specs.Tree.{Bare, Nodes, children, with_names, map_some, node_view}
use Rattle.fk_tree.specs.Edit.{edit, edited, delete_edits}
use Rattle.fk_tree.specs.Apply.{shrunk, at_path, delete_node}
use Rattle.fk_tree.proofs.Order.{name_total, name_exact, path_total, same_path_is, same_child, child_apart, child_not_root, child_parts}
use Rattle.fk_tree.proofs.Rising.{has_without, rises_without}
use Rattle.fk_tree.proofs.Views.{has_children, rising_children, children_of, children_like, get_at_path, some_at_path}
use Rattle.fk_base.proofs.Logic.{by_test}

some_unless : {A : Type 0} (c : Bool) (o : Option A) → is_some (cond c None o) ≡ cond c false (is_some o)
some_unless true o = refl
some_unless false o = refl

no_node : (ns : List Name) (o : Option Bare) → is_some o ≡ false → map_some (with_names ns) o ≡ None
no_node ns None e = refl
no_node ns (Some b) e = absurd (false≢true (sym e))

-- what is left was there, elsewhere
pub some_delete : (t : Nodes) (p q : PathNames) (tx : ℕ) → is_some (get (delete_node p tx t) q) ≡ cond (same_path q p) false (is_some (get t q))
some_delete t p q tx = step (contains_key t p) refl
  where
    step : (c : Bool) → contains_key t p ≡ c → is_some (get (cond c (at_path (parent p) (shrunk tx) (remove t p)) t) q) ≡ cond (same_path q p) false (is_some (get t q))
    step true e = some_at_path (parent p) (shrunk tx) (remove t p) q ∙ ap is_some (get-remove path_total t p q) ∙ some_unless (same_path q p) (get t q)
    step false e = by_test (same_path q p) (λ c. is_some (get t q) ≡ cond c false (is_some (get t q))) (λ s. rw (same_path_is q p s) e) (λ _. refl)

-- the nodes after a delete of the child x of d, which is there
abbrev without_node : Nodes → PathNames → Name → ℕ → Nodes
without_node t d x tx = at_path d (shrunk tx) (remove t (d ++ x ∷ []))

get_delete : (t : Nodes) (p d q : PathNames) (tx : ℕ) → get (at_path d (shrunk tx) (remove t p)) q ≡ cond (same_path q d) (map_some (shrunk tx) (cond (same_path q p) None (get t q))) (cond (same_path q p) None (get t q))
get_delete t p d q tx = rw (get_at_path d (shrunk tx) (remove t p) q, get-remove path_total t p q) refl

some_without : (t : Nodes) (d q : PathNames) (x n : Name) (tx : ℕ) → is_some (get (without_node t d x tx) (q ++ n ∷ [])) ≡ cond (same_path q d && same_name n x) false (has_name n (children t q))
some_without t d q x n tx =
    some_at_path d (shrunk tx) (remove t (d ++ x ∷ [])) (q ++ n ∷ [])
    ∙ ap is_some (get-remove path_total t (d ++ x ∷ []) (q ++ n ∷ []))
    ∙ some_unless (same_path (q ++ n ∷ []) (d ++ x ∷ [])) (get t (q ++ n ∷ []))
    ∙ rw (same_child q d n x, has_children t q n) refl

children_delete : (t : Nodes) (d q : PathNames) (x : Name) (tx : ℕ) → children (without_node t d x tx) q ≡ cond (same_path q d) (drop_name x (children t q)) (children t q)
children_delete t d q x tx =
    children_of _ q _ (rising (same_path q d)) (λ n. some_without t d q x n tx ∙ members n (same_path q d))
  where
    rising : (c : Bool) → rises name_cmp (cond c (drop_name x (children t q)) (children t q)) ≡ true
    rising true = rises_without name_total name_exact x (children t q) (rising_children t q)
    rising false = rising_children t q

    members : (n : Name) (c : Bool) → cond (c && same_name n x) false (has_name n (children t q)) ≡ has_name n (cond c (drop_name x (children t q)) (children t q))
    members n true = sym (has_without name_total name_exact n x (children t q))
    members n false = refl

child_there : (t : Nodes) (d q : PathNames) (x : Name) (tx moment : ℕ) → contains_key t (d ++ x ∷ []) ≡ true
    → node_view (without_node t d x tx) q
    ≡ edited tx moment q (record { path = d ++ x ∷ []; what = what.Remove } ∷ record { path = d; what = what.DropName x } ∷ []) (node_view t q)
child_there t d q x tx moment there =
    rw (children_delete t d q x tx, get_delete t (d ++ x ∷ []) d q tx)
    (by_test (same_path q (d ++ x ∷ []))
    (λ c. map_some (with_names (cond (same_path q d) (drop_name x (children t q)) (children t q))) (cond (same_path q d) (map_some (shrunk tx) (cond c None (get t q))) (cond c None (get t q)))
    ≡ cond (same_path q d) (edit tx moment (what.DropName x) (cond c None (node_view t q))) (cond c None (node_view t q)))
    (λ e. rw (same_path_is q (d ++ x ∷ []) e) (rw (child_apart d x) refl))
    (λ _. step (same_path q d) (children t q) (get t q) (λ e. has_children t q x ∙ rw (same_path_is q d e) there)))
  where
    step : (c : Bool) (ns : List Name) (o : Option Bare) → (c ≡ true → has_name x ns ≡ true) → map_some (with_names (cond c (drop_name x ns) ns)) (cond c (map_some (shrunk tx) o) o) ≡ cond c (edit tx moment (what.DropName x) (map_some (with_names ns) o)) (map_some (with_names ns) o)
    step true ns None f = refl
    step true ns (Some n) f = rw (f refl) refl
    step false ns o f = refl

child_missing : (t : Nodes) (d q : PathNames) (x : Name) (tx moment : ℕ) → contains_key t (d ++ x ∷ []) ≡ false
    → node_view t q ≡ edited tx moment q (record { path = d ++ x ∷ []; what = what.Remove } ∷ record { path = d; what = what.DropName x } ∷ []) (node_view t q)
child_missing t d q x tx moment missing =
    by_test (same_path q (d ++ x ∷ []))
    (λ c. node_view t q ≡ cond (same_path q d) (edit tx moment (what.DropName x) (cond c None (node_view t q))) (cond c None (node_view t q)))
    (λ e. rw (same_path_is q (d ++ x ∷ []) e) (rw (child_apart d x) (no_node _ (get t (d ++ x ∷ [])) missing)))
    (λ _. step (same_path q d) (children t q) (get t q) (λ e. has_children t q x ∙ rw (same_path_is q d e) missing))
  where
    step : (c : Bool) (ns : List Name) (o : Option Bare) → (c ≡ true → has_name x ns ≡ false) → map_some (with_names ns) o ≡ cond c (edit tx moment (what.DropName x) (map_some (with_names ns) o)) (map_some (with_names ns) o)
    step true ns None f = refl
    step true ns (Some n) f = rw (f refl) refl
    step false ns o f = refl

delete_child : (t : Nodes) (d q : PathNames) (x : Name) (tx moment : ℕ) (c : Bool) → contains_key t (d ++ x ∷ []) ≡ c
    → node_view (cond c (without_node t d x tx) t) q
    ≡ edited tx moment q (record { path = d ++ x ∷ []; what = what.Remove } ∷ record { path = d; what = what.DropName x } ∷ []) (node_view t q)
delete_child t d q x tx moment true e = child_there t d q x tx moment e
delete_child t d q x tx moment false e = child_missing t d q x tx moment e

root_children : (t : Nodes) (q : PathNames) (tx : ℕ) → children (at_path [] (shrunk tx) (remove t [])) q ≡ children t q
root_children t q tx = children_like _ t q (λ n. some_at_path [] (shrunk tx) (remove t []) (q ++ n ∷ []) ∙ ap is_some (get-remove path_total t [] (q ++ n ∷ []) ∙ rw (child_not_root q n) refl))

delete_root : (t : Nodes) (q : PathNames) (tx moment : ℕ) (c : Bool) → contains_key t [] ≡ c
    → node_view (cond c (at_path [] (shrunk tx) (remove t [])) t) q ≡ edited tx moment q (record { path = []; what = what.Remove } ∷ []) (node_view t q)
delete_root t q tx moment true e = rw (root_children t q tx, get_delete t [] [] q tx) (step (same_path q []) (children t q) (get t q))
  where
    step : (c : Bool) (ns : List Name) (o : Option Bare) → map_some (with_names ns) (cond c (map_some (shrunk tx) (cond c None o)) (cond c None o)) ≡ cond c None (map_some (with_names ns) o)
    step true ns o = refl
    step false ns o = refl
delete_root t q tx moment false e = by_test (same_path q []) (λ c. node_view t q ≡ cond c None (node_view t q)) (λ s. rw (same_path_is q [] s) (no_node (children t []) (get t []) e)) (λ _. refl)

-- of any path, there or not
pub delete_view : (t : Nodes) (p q : PathNames) (tx moment : ℕ) → node_view (delete_node p tx t) q ≡ edited tx moment q (delete_edits p) (node_view t q)
delete_view t [] q tx moment = delete_root t q tx moment (contains_key t []) refl
delete_view t (x ∷ p) q tx moment =
    subst (λ r. node_view (cond (contains_key t r) (at_path (parent (x ∷ p)) (shrunk tx) (remove t r)) t) q ≡ edited tx moment q (record { path = r; what = what.Remove } ∷ record { path = parent (x ∷ p); what = what.DropName (last_name (x ∷ p)) } ∷ []) (node_view t q))
    (sym (child_parts x p))
    (delete_child t (parent (x ∷ p)) q (last_name (x ∷ p)) tx moment (contains_key t (parent (x ∷ p) ++ last_name (x ∷ p) ∷ [])) refl)

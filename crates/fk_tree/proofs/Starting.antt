-- The tree as it starts.
use Rattle.std.proofs.Common.{◌≡◌, ◌<◌, ℕ, Bool, true, false, cond, List, [], ◌∷◌, ◌++◌, Some, None, refl, sym, ◌∙◌, ap, subst, arith}
use Rattle.std.specs.Prelude.{is_some}
use Rattle.std.specs.FinMap.{get, get-empty, get-insert, empty}
use Rattle.std.proofs.lemmas.Bool.{false≢true}
use Rattle.std.proofs.lemmas.Bool.Decides.{nat_tests}
use Rattle.fk_base.specs.Path.{Name, PathNames, path_cmp, same_path}
use Rattle.fk_tree.specs.Tree.{with_names, node_view, start_tree, root_node}
use Rattle.fk_tree.specs.Rows.{Row, is_of, IsKept}
use Rattle.fk_tree.proofs.Notes.{Sets}
use Rattle.fk_tree.proofs.Order.{path_total, child_not_root}
use Rattle.fk_tree.proofs.Views.{children_of}

pub start_get : (q : PathNames) → get start_tree.nodes q ≡ cond (same_path q []) (Some root_node) None
start_get q = get-insert path_total empty [] root_node q ∙ ap (cond (same_path q []) (Some root_node)) (get-empty path_cmp q)

pub start_child : (q : PathNames) (n : Name) → is_some (get start_tree.nodes (q ++ n ∷ [])) ≡ false
start_child q n = rw (start_get (q ++ n ∷ []), child_not_root q n) refl

start_node : (q : PathNames) → cond (same_path q []) (Some (with_names [] root_node)) None ≡ node_view start_tree.nodes q
start_node [] = rw (children_of start_tree.nodes [] [] refl (start_child []), start_get []) refl
start_node (x ∷ q) = rw (start_get (x ∷ q)) refl

-- no session owns the root
start_noted : (session : ℕ) (p : PathNames) (b : Bool) → 0 < session → is_of session (cond b (Some (with_names [] root_node)) None) ≡ true → ⊥
start_noted session p true l h = grind (arith, nat_tests)
start_noted session p false l h = false≢true h

pub start_kept : (rows : List Row) (sets : Sets) → rows ≡ ([], Some (with_names [] root_node)) ∷ [] → IsKept rows sets
start_kept rows sets e = subst (λ rs. IsKept rs sets) (sym e) (record { named = start_node; parents = λ q n s. absurd (false≢true (sym (start_child q n) ∙ s)); owned = λ s p l h. absurd (start_noted s p (same_path p []) l h) })

-- Rows after edits were written, and the tree that they keep.
use Rattle.std.proofs.Common.{◌≡◌, ℕ, Bool, true, false, cond, ◌||◌, List, [], ◌∷◌, Option, Some, None, refl, sym, ◌∙◌, ap, subst}
use Rattle.std.specs.FinMap.{get, get-empty, get-insert, get-remove, same_map}
use Rattle.std.proofs.lemmas.Bool.{false≢true}
use Rattle.fk_base.specs.Path.{Name, PathNames, path_cmp, same_path}
use Rattle.fk_tree.specs.declared.node.Node.{Node}
use Rattle.fk_tree.specs.declared.edit.Edit.{Edit}
use Rattle.fk_tree.specs.Sorted.{has_path}
use Rattle.fk_tree.specs.Tree.{Bare, Nodes, children, with_names, map_some, node_view}
use Rattle.fk_tree.specs.Edit.{edit, edited}
use Rattle.fk_tree.specs.Touch.{edit_paths}
use Rattle.fk_tree.specs.Rows.{Row, unnamed, row_node, has_row, with_row, nodes_of, HasParents, IsKept, KeepSame, KeepsNotes, AreNoted, is_of, have_rows, changes_have_rows, changes_by, written}
use Rattle.fk_tree.proofs.Notes.{Sets}
use Rattle.fk_tree.proofs.Order.{path_total, path_exact, same_path_is}
use Rattle.fk_base.proofs.Logic.{by_test}

-- THE EDITS OF A PATH
pub edited_have_rows : (tx moment : ℕ) (rows : List Row) (all es : List Edit) → have_rows es rows ≡ true → changes_have_rows (changes_by tx moment rows all es) rows ≡ true
edited_have_rows tx moment rows all [] h = refl
edited_have_rows tx moment rows all (e ∷ es) h = step (has_row e.path rows) h (edited_have_rows tx moment rows all es)
  where
    step : (b : Bool) → cond b (have_rows es rows) false ≡ true → (have_rows es rows ≡ true → changes_have_rows (changes_by tx moment rows all es) rows ≡ true) → cond b (changes_have_rows (changes_by tx moment rows all es) rows) false ≡ true
    step true h f = f h
    step false h f = h

written_edited : (tx moment : ℕ) (p : PathNames) (rows : List Row) (all es : List Edit) (o : Option Node) → written p (changes_by tx moment rows all es) o ≡ cond (has_path p (edit_paths es)) (edited tx moment p all (row_node p rows)) o
written_edited tx moment p rows all [] o = refl
written_edited tx moment p rows all (e ∷ es) o =
    by_test (same_path p e.path)
    (λ b. cond b (edited tx moment e.path all (row_node e.path rows)) (written p (changes_by tx moment rows all es) o) ≡ cond (b || has_path p (edit_paths es)) (edited tx moment p all (row_node p rows)) o)
    (λ s. rw (same_path_is p e.path s) refl)
    (λ _. written_edited tx moment p rows all es o)

-- without an edit of its path a node stays
pub untouched : (tx moment : ℕ) (p : PathNames) (es : List Edit) (o : Option Node) → has_path p (edit_paths es) ≡ false → edited tx moment p es o ≡ o
untouched tx moment p [] o h = refl
untouched tx moment p (e ∷ es) o h = step (same_path p e.path) h (untouched tx moment p es)
  where
    step : (b : Bool) → (b || has_path p (edit_paths es)) ≡ false → ((x : Option Node) → has_path p (edit_paths es) ≡ false → edited tx moment p es x ≡ x) → edited tx moment p es (cond b (edit tx moment e.what o) o) ≡ o
    step true h f = absurd (false≢true (sym h))
    step false h f = f o h

pub written_edits : (tx moment : ℕ) (p : PathNames) (rows : List Row) (es : List Edit) → written p (changes_by tx moment rows es es) (row_node p rows) ≡ edited tx moment p es (row_node p rows)
written_edits tx moment p rows es =
    written_edited tx moment p rows es es (row_node p rows)
    ∙ by_test (has_path p (edit_paths es)) (λ b. cond b (edited tx moment p es (row_node p rows)) (row_node p rows) ≡ edited tx moment p es (row_node p rows)) (λ _. refl) (λ h. sym (untouched tx moment p es (row_node p rows) h))

-- THE TREE
get_nodes : (rs : List Row) (p : PathNames) → get (nodes_of rs) p ≡ map_some unnamed (row_node p rs)
get_nodes [] p = get-empty path_cmp p
get_nodes (r ∷ rs) p = step r.1 (get_nodes rs p)
  where
    apart : (b : Bool) (o x : Option Node) → cond b (map_some unnamed o) (map_some unnamed x) ≡ map_some unnamed (cond b o x)
    apart true o x = refl
    apart false o x = refl

    step : (o : Option Node) → get (nodes_of rs) p ≡ map_some unnamed (row_node p rs) → get (with_row r.0 o (nodes_of rs)) p ≡ map_some unnamed (cond (same_path p r.0) o (row_node p rs))
    step None i = get-remove path_total (nodes_of rs) r.0 p ∙ rw i (apart (same_path p r.0) None (row_node p rs))
    step (Some n) i = get-insert path_total (nodes_of rs) r.0 (unnamed n) p ∙ rw i (apart (same_path p r.0) (Some n) (row_node p rs))

get_viewed : (t : Nodes) (p : PathNames) → get t p ≡ map_some unnamed (node_view t p)
get_viewed t p = step (children t p) (get t p)
  where
    step : (ns : List Name) (o : Option Bare) → o ≡ map_some unnamed (map_some (with_names ns) o)
    step ns None = refl
    step ns (Some b) = refl

-- rows that keep what a tree shows keep that tree
pub keeps_tree : (rs : List Row) (t : Nodes) → ((p : PathNames) → row_node p rs ≡ node_view t p) → nodes_of rs ≡ t
keeps_tree rs t h = same_map path_total path_exact (nodes_of rs) t (λ p. get_nodes rs p ∙ ap (map_some unnamed) (h p) ∙ sym (get_viewed t p))

pub is_kept : (rs : List Row) (sets : Sets) (t : Nodes) → ((p : PathNames) → row_node p rs ≡ node_view t p) → HasParents t → AreNoted rs sets → IsKept rs sets
is_kept rs sets t h w n = record { named = λ p. h p ∙ ap (λ u. node_view u p) (sym (keeps_tree rs t h)); parents = subst HasParents (sym (keeps_tree rs t h)) w; owned = n }

pub same_nodes : (rs os : List Row) (sets : Sets) → IsKept rs sets → KeepSame rs os → nodes_of os ≡ nodes_of rs
same_nodes rs os sets k h = keeps_tree os (nodes_of rs) (λ p. h p ∙ k.named p)

-- rows that keep the same nodes, with more notes
pub same_kept : (rs os : List Row) (sets others : Sets) → IsKept rs sets → KeepSame rs os → KeepsNotes sets others → IsKept os others
same_kept rs os sets others k h n = is_kept os others (nodes_of rs) (λ p. h p ∙ k.named p) k.parents (λ s p l o. n s p (k.owned s p l (sym (ap (is_of s) (h p)) ∙ o)))

-- Several applied requests, and those of them that edit a path.
use Rattle.std.specs.Prelude.{◌≡◌, ◌≢◌, ℕ, Bool, true, false, if◌then◌else◌, ◌||◌, List, [], ◌∷◌, Option}
use Rattle.fk_base.specs.Path.{PathNames}
use Rattle.fk_tree.specs.Sorted.{has_path}
use Rattle.fk_tree.specs.View.{View}
use Rattle.fk_tree.specs.Edit.{after, edited, view_after}
use Rattle.fk_tree.specs.Touch.{edited_paths, edits_at}
use Rattle.fk_tree.specs.declared.applied.Applied.{Applied}
use Rattle.fk_tree.specs.declared.edit.Edit.{Edit}
use Rattle.fk_tree.specs.declared.node.Node.{Node}
use Rattle.fk_tree.specs.Rows.{is_of}

-- those that edit the path
abbrev pub editors : PathNames → List Applied → List Applied
editors p [] = []
editors p (a ∷ done) = if has_path p (edited_paths a) then a ∷ editors p done else editors p done

-- the edits of other paths leave a node alone
abbrev pub OnlyItsEditsCount : Type 0
OnlyItsEditsCount = (tx moment : ℕ) (p : PathNames) (es : List Edit) (o : Option Node) → edited tx moment p es o ≡ edited tx moment p (edits_at p es) o

-- an applied request that doesn't edit a path leaves its node alone
abbrev pub UneditedStays : Type 0
UneditedStays = (v : View) (a : Applied) (p : PathNames) → has_path p (edited_paths a) ≡ false → (after v a).node p ≡ v.node p

-- the node of a path is that after the editors of the path alone
abbrev pub OnlyEditorsCount : Type 0
OnlyEditorsCount = (done : List Applied) (p : PathNames) → (view_after done).node p ≡ (view_after (editors p done)).node p

-- two lists with the same editors of a path leave the same node there
abbrev pub SameEditors : Type 0
SameEditors = (done other : List Applied) (p : PathNames) → editors p done ≡ editors p other → (view_after done).node p ≡ (view_after other).node p

-- whether one of them edits the path
abbrev pub is_edited : PathNames → List Applied → Bool
is_edited p [] = false
is_edited p (a ∷ done) = has_path p (edited_paths a) || is_edited p done

-- a node that a session owns was edited
abbrev pub OwnedWasEdited : Type 0
OwnedWasEdited = (done : List Applied) (session : ℕ) (p : PathNames) → session ≢ 0 → is_of session ((view_after done).node p) ≡ true → is_edited p done ≡ true

-- The paths that an applied request changes, and how.
use Rattle.std.specs.Prelude.{Bool, true, false, if◌then◌else◌, ◌&&◌, List, [], ◌∷◌, ◌++◌}
use Rattle.fk_base.specs.Path.{PathNames, same_path, parent, is_root}
use Rattle.fk_tree.specs.Edit.{effects}
use Rattle.fk_tree.specs.Sorted.{in_path_order}
use Rattle.fk_tree.specs.declared.applied.Applied.{Applied}
use Rattle.fk_tree.specs.declared.applied.Made.{Made}
use Rattle.fk_tree.specs.declared.change.Change.{Change}
use Rattle.fk_tree.specs.declared.change.Change.TheVariants as change
use Rattle.fk_tree.specs.declared.change.Touch.{Touch}
use Rattle.fk_tree.specs.declared.edit.Edit.{Edit}
use Rattle.fk_tree.specs.declared.request.Part.{Part}
use Rattle.fk_tree.specs.declared.request.Part.TheVariants as part
use Rattle.fk_tree.specs.declared.request.Request.{Request}
use Rattle.fk_tree.specs.declared.request.Request.TheVariants as request

abbrev pub same_change : Change → Change → Bool
same_change change.Created change.Created = true
same_change change.Changed change.Changed = true
same_change change.Deleted change.Deleted = true
same_change change.Child change.Child = true
same_change _ _ = false

-- the same path and the same change
abbrev pub same_touch : Touch → Touch → Bool
same_touch a b = same_path a.path b.path && same_change a.change b.change

-- the touches that aren't this one
abbrev pub others : Touch → List Touch → List Touch
others t [] = []
others t (u ∷ us) = if same_touch t u then others t us else u ∷ others t us

-- each pair once, where it stands first
abbrev pub once : List Touch → List Touch
once [] = []
once (t ∷ ts) = t ∷ others t (once ts)

-- the change of a path, then its parent as Child; the root has no parent
abbrev pub with_parent_touched : PathNames → Change → List Touch
with_parent_touched p c = record { path = p; change = c } ∷ (if is_root p then [] else record { path = parent p; change = change.Child } ∷ [])

abbrev pub set_touches : PathNames → List Touch
set_touches p = record { path = p; change = change.Changed } ∷ []

-- so many deletes, one after another
abbrev pub deletes_touches : List PathNames → List Touch
deletes_touches [] = []
deletes_touches (p ∷ ps) = with_parent_touched p change.Deleted ++ deletes_touches ps

abbrev pub part_touches : Part → Made → List Touch
part_touches (part.Create p bytes eph) m = with_parent_touched m.name change.Created
part_touches (part.Set p bytes version) m = set_touches p
part_touches (part.Delete p version) m = with_parent_touched p change.Deleted

abbrev pub parts_touches : List Part → List Made → List Touch
parts_touches [] ms = []
parts_touches (p ∷ ps) [] = []
parts_touches (p ∷ ps) (m ∷ ms) = part_touches p m ++ parts_touches ps ms

-- in the order of the changes, with repeats
abbrev pub touches_of : Applied → Request → List Touch
touches_of a (request.Create p bytes seq eph) = with_parent_touched a.name change.Created
touches_of a (request.Set p bytes version) = set_touches p
touches_of a (request.Delete p version) = with_parent_touched p change.Deleted
touches_of a (request.Close evict) = deletes_touches a.gone
touches_of a (request.Multi ps) = parts_touches ps a.made

-- in the order of the changes, each pair once
abbrev pub touches : Applied → List Touch
touches a = once (touches_of a a.request)

abbrev pub edit_paths : List Edit → List PathNames
edit_paths [] = []
edit_paths (e ∷ es) = e.path ∷ edit_paths es

-- the paths with an edit, in path order, each once
abbrev pub edited_paths : Applied → List PathNames
edited_paths a = in_path_order (edit_paths (effects a))

-- the edits of one path, in their order
abbrev pub edits_at : PathNames → List Edit → List Edit
edits_at p [] = []
edits_at p (e ∷ es) = if same_path p e.path then e ∷ edits_at p es else edits_at p es

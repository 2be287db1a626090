-- The paths that are locked for a request.
use Rattle.std.specs.Prelude.{◌==◌, true, if◌then◌else◌, List, [], ◌∷◌, ◌++◌, Option, Some, None}
use Rattle.fk_base.specs.Path.{PathNames, parent, is_root}
use Rattle.fk_tree.specs.Sorted.{in_path_order}
use Rattle.fk_tree.specs.View.{View}
use Rattle.fk_tree.specs.Fill.{final_path}
use Rattle.fk_tree.specs.declared.node.Node.{Node}
use Rattle.fk_tree.specs.declared.request.Part.{Part}
use Rattle.fk_tree.specs.declared.request.Part.TheVariants as part
use Rattle.fk_tree.specs.declared.request.Request.{Request}
use Rattle.fk_tree.specs.declared.request.Request.TheVariants as request

-- the parent, then the path; the root alone
abbrev pub with_parent : PathNames → List PathNames
with_parent p = if is_root p then p ∷ [] else parent p ∷ p ∷ []

abbrev pub with_parents : List PathNames → List PathNames
with_parents [] = []
with_parents (p ∷ ps) = with_parent p ++ with_parents ps

-- the final path of a sequential create, where its parent is there and has no owner
abbrev pub numbered_path : PathNames → Option Node → List PathNames
numbered_path p None = []
numbered_path p (Some d) = if d.owner == 0 then final_path p true d.made ∷ [] else []

-- the parent, then what its node makes of the path; the root alone
abbrev pub numbered_paths : PathNames → Option Node → List PathNames
numbered_paths p o = if is_root p then p ∷ [] else parent p ∷ numbered_path p o

abbrev pub part_lock_paths : Part → List PathNames
part_lock_paths (part.Create p bytes eph) = with_parent p
part_lock_paths (part.Set p bytes version) = p ∷ []
part_lock_paths (part.Delete p version) = with_parent p

abbrev pub parts_lock_paths : List Part → List PathNames
parts_lock_paths [] = []
parts_lock_paths (p ∷ ps) = part_lock_paths p ++ parts_lock_paths ps

-- The paths to lock for a request, in order, where v shows what was granted so far and `owned` are
-- the paths of the session's own nodes. Only a sequential create reads v, at its parent, and only a
-- close reads `owned`.
abbrev pub lock_paths : View → List PathNames → Request → List PathNames
lock_paths v owned (request.Create p bytes seq eph) = if seq then numbered_paths p (v.node (parent p)) else with_parent p
lock_paths v owned (request.Set p bytes version) = p ∷ []
lock_paths v owned (request.Delete p version) = with_parent p
lock_paths v owned (request.Close evict) = in_path_order (with_parents owned)
lock_paths v owned (request.Multi ps) = in_path_order (parts_lock_paths ps)

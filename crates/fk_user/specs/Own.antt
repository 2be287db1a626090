-- The edits of one path's node.
use Rattle.std.specs.Prelude.{Bool, true, ◌&&◌, List, [], ◌∷◌}
use Rattle.fk_base.specs.Path.{PathNames, same_path}
use Rattle.fk_tree.specs.declared.edit.Edit.{Edit}

-- each of these edits is one of this path's node
abbrev pub are_own : PathNames → List Edit → Bool
are_own p [] = true
are_own p (e ∷ es) = same_path p e.path && are_own p es

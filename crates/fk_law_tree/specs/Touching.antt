-- The paths that an applied request touches.
use Rattle.std.specs.Prelude.{◌≡◌}
use Rattle.fk_base.specs.Path.{PathNames}
use Rattle.fk_tree.specs.Sorted.{has_path}
use Rattle.fk_tree.specs.Touch.{touches, edited_paths}
use Rattle.fk_tree.specs.Watch.{has_touch}
use Rattle.fk_tree.specs.declared.applied.Applied.{Applied}

-- the paths that an applied request touches are those that it edits
abbrev pub TouchPaths : Type 0
TouchPaths = (a : Applied) (p : PathNames) → has_touch p (touches a) ≡ has_path p (edited_paths a)

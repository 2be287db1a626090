-- Applied requests that edit no path in common.
use Rattle.std.specs.Prelude.{◌≡◌, ◌≢◌, true, false}
use Rattle.fk_base.specs.Path.{PathNames}
use Rattle.fk_tree.specs.Sorted.{has_path}
use Rattle.fk_tree.specs.View.{View}
use Rattle.fk_tree.specs.Edit.{after}
use Rattle.fk_tree.specs.Touch.{edited_paths}
use Rattle.fk_tree.specs.declared.applied.Applied.{Applied}
use Rattle.fk_law_tree.specs.Fitting.{Fits}

-- no path is edited by both
abbrev pub AreApart : Applied → Applied → Type 0
AreApart a b = (p : PathNames) → has_path p (edited_paths a) ≡ true → has_path p (edited_paths b) ≡ false

-- a request that fits still does after one of another session that edits none of its paths
abbrev pub FitsAfterOthers : Type 0
FitsAfterOthers = (v : View) (a b : Applied) → Fits v b → a.session ≢ b.session → AreApart a b → Fits (after v a) b

-- two requests that edit no path in common leave the same in either order
abbrev pub ApartCommute : Type 0
ApartCommute = (v : View) (a b : Applied) → AreApart a b → after (after v a) b ≡ after (after v b) a

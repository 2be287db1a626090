-- A path and its text tell the same.
use Rattle.std.specs.Prelude.{◌≡◌, ℕ, true, List, Some}
use Rattle.fk_base.specs.Path.{PathNames, are_names, path_of, path_text}

-- A text that means a path is that path's only text, and each name of the path is a name.
abbrev pub ReadsItsText : Type 0
ReadsItsText = (text : List ℕ) (p : PathNames) → path_of text ≡ Some p → (path_text p ≡ text) × (are_names p ≡ true)

-- The text of any names means their path.
abbrev pub TextReadsBack : Type 0
TextReadsBack = (p : PathNames) → are_names p ≡ true → path_of (path_text p) ≡ Some p

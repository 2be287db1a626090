-- How printed lines are put together.
use Rattle.std.proofs.Common.{◌≡◌, Bool, true, false, refl, List, ◌∷◌, ◌++◌}
use Rattle.fk_print.specs.Words.{Text, marked}
use Rattle.fk_script.specs.Printed.{and_words, beginning, line_text}

-- the beginning of a line and the rest of it
pub line_begins : (wait : Bool) (first : Text) (words : List Text) → line_text (and_words wait ++ first ∷ words) ≡ beginning wait ++ marked first words
line_begins true first words = refl
line_begins false first words = refl

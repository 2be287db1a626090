-- The words that the pieces of a printed line stand for.
use Rattle.std.specs.Prelude.{List, [], ◌∷◌}
use Rattle.std.specs.List.{flat_map}
use Rattle.std.specs.Fmt.{decimal}
use Rattle.fk_print.specs.Words.{Text}
use Rattle.fk_script.specs.Printed.{data_words, version_words, word_if}
use Rattle.fk_script.specs.declared.piece.Piece.{Piece}
use Rattle.fk_script.specs.declared.piece.Piece.TheVariants as piece

abbrev pub piece_words : Piece → List Text
piece_words (piece.Word word) = word.now ∷ []
piece_words (piece.If b word) = word_if b word.now
piece_words (piece.Number number) = decimal number ∷ []
piece_words (piece.Version version) = version_words version
piece_words (piece.Data bytes coded) = data_words coded bytes.now

abbrev pub words_of : List Piece → List Text
words_of pieces = flat_map piece_words pieces

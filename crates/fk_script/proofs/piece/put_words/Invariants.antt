use Rattle.std.proofs.Common.{◌≡◌, ◌++◌, take}
use Rattle.fk_print.specs.Words.{spaced}
use Rattle.fk_script.specs.Pieces.{words_of}
use Rattle.fk_script.proofs.piece.put_words.Given as goal

abbrev pub invariant-loop-one : goal.invariant-loop-one
invariant-loop-one l = l.out ≡ l.initial.out ++ spaced (words_of (take l.one-index l.pieces))

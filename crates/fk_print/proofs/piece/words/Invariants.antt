use Rattle.std.proofs.Common.{◌≡◌, ◌++◌, string_bytes, take}
use Rattle.fk_print.specs.Words.{spaced}
use Rattle.fk_print.specs.Pieces.{words_of}
use Rattle.fk_print.proofs.piece.words.Given as goal

abbrev pub invariant-loop-one : goal.invariant-loop-one
invariant-loop-one l = string_bytes l.out ≡ string_bytes l.initial.out ++ spaced (words_of l.clients (take l.one-index l.pieces))

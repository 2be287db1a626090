use Rattle.std.proofs.Common.{◌≡◌, ◌+◌, drop}
use Rattle.fk_read.specs.ReadWords.{place_from}
use Rattle.fk_read.proofs.piece.place_of.Given as goal

abbrev pub invariant-looking : goal.invariant-looking
invariant-looking l = record { counted : l.place ≡ l.name-index + 1; left : place_from 1 l.name-items l.word ≡ place_from l.place (drop l.name-index l.name-items) l.word }

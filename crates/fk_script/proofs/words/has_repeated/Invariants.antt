use Rattle.std.proofs.Common.{◌≡◌, length}
use Rattle.fk_script.specs.Lines.{has_repeated}
use Rattle.fk_script.proofs.words.has_repeated.Given as goal

abbrev pub invariant-looking : goal.invariant-looking
invariant-looking l = has_repeated l.rest ≡ has_repeated l.fn.words

abbrev pub decreases-looking : goal.decreases-looking
decreases-looking l = length l.rest

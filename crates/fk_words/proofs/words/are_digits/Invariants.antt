use Rattle.std.proofs.Common.{◌≡◌, length}
use Rattle.std.specs.Str.{all_ascii_digits}
use Rattle.fk_words.proofs.words.are_digits.Given as goal

abbrev pub invariant-looking : goal.invariant-looking
invariant-looking l = all_ascii_digits l.rest ≡ all_ascii_digits l.fn.bytes

abbrev pub decreases-looking : goal.decreases-looking
decreases-looking l = length l.rest

use Rattle.std.proofs.Common.{◌≡◌, ◌≤◌, ◌-◌, length, take, false}
use Rattle.std.specs.List.{AllByRecursion}
use Rattle.fk_read.specs.Cut.{is_byte_at}
use Rattle.fk_read.proofs.words.end_of.Given as goal

abbrev pub decreases-looking : goal.decreases-looking
decreases-looking l = length l.text - l.end

abbrev pub invariant-looking : goal.invariant-looking
invariant-looking l = record { within : l.end ≤ length l.text; clear : AllByRecursion (λ b. is_byte_at l.at b ≡ false) (take l.end l.text) }

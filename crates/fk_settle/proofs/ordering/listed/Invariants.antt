use Rattle.std.proofs.Common.{◌≡◌, ◌++◌, length}
use Rattle.fk_settle.proofs.ordering.listed.Given as goal

abbrev pub invariant-listing : goal.invariant-listing
invariant-listing l = l.list.items ++ l.paths.items ≡ l.initial.paths.items

abbrev pub decreases-listing : goal.decreases-listing
decreases-listing l = length l.paths.items

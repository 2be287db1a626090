use Rattle.std.proofs.Common.{◌≡◌, ◌++◌}
use Rattle.std.specs.BTreeMap.{keys}
use Rattle.fk_watch.proofs.listing.epoch_of.Given as goal

abbrev pub invariant-listing : goal.invariant-listing
invariant-listing l = l.ids ++ l.number-iterator ≡ keys l.fired

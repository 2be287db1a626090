use Rattle.std.proofs.Common.{◌≡◌, ◌++◌}
use Rattle.fk_watch.specs.Listing.{those_of}
use Rattle.fk_watch.proofs.listing.fired_by.Given as goal

abbrev pub invariant-listing : goal.invariant-listing
invariant-listing l = l.list ++ those_of l.tx l.number-iterator ≡ those_of l.tx l.fired.entries

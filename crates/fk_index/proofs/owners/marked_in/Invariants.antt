use Rattle.std.proofs.Common.{◌≡◌, map}
use Rattle.std.specs.Map.Iter.{deref_pair}
use Rattle.fk_index.specs.Owners.{marked_keys}
use Rattle.fk_index.proofs.owners.marked_in.Given as goal

abbrev pub invariant-listing : goal.invariant-listing
invariant-listing l = l.paths ≡ marked_keys (map deref_pair l.yielded)

use Rattle.std.proofs.Common.{◌≡◌, ◌≤◌, ◌-◌, drop, length}
use Rattle.fk_store.specs.Owning.{path_from}
use Rattle.fk_settle.proofs.ordering.place_for.Given as goal

abbrev pub invariant-passing : goal.invariant-passing
invariant-passing l = record {
  place : path_from 0 l.path l.paths.items ≡ path_from l.place l.path (drop l.place l.paths.items);
  within : l.place ≤ length l.paths.items;
}

abbrev pub decreases-passing : goal.decreases-passing
decreases-passing l = length l.paths.items - l.place

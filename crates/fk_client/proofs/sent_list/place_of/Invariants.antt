use Rattle.std.proofs.Common.{◌≡◌, ◌≤◌, ◌+◌, ◌-◌, drop, length}
use Rattle.fk_client.specs.Known.{place_of}
use Rattle.fk_client.proofs.sent_list.place_of.Given as goal

abbrev pub invariant-passing : goal.invariant-passing
invariant-passing l = record {
  place : place_of l.k l.items.items ≡ l.place + place_of l.k (drop l.place l.items.items);
  behind : l.told ≤ l.place;
  within : l.place ≤ length l.items.items;
}

abbrev pub decreases-passing : goal.decreases-passing
decreases-passing l = length l.items.items - l.place

use Rattle.std.proofs.Common.{◌≡◌, ◌+◌, ◌++◌, length, map}
use Rattle.fk_client.specs.Standing.{client_of}
use Rattle.fk_spec.specs.Plan.{all_asks}
use Rattle.fk_world.specs.World.{AreShort, new_clients}
use Rattle.fk_world.proofs.making.clients_of.Given as goal

abbrev pub invariant-making : goal.invariant-making
invariant-making l = record {
  made : map client_of l.made.items ++ new_clients (l.session + 1) (all_asks l.rest) ≡ new_clients 1 (all_asks l.fn.blocks);
  count : l.session + length l.rest ≡ length l.fn.blocks;
  so_far : length l.made.items ≡ l.session;
  short : AreShort l.rest;
}

abbrev pub decreases-making : goal.decreases-making
decreases-making l = length l.rest

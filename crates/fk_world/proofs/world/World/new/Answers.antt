use Rattle.std.proofs.Common.{◌≤◌, length, sym, ◌∙◌, ap, subst, arith}
use Rattle.fk_client.specs.Standing.{client_of}
use Rattle.fk_engine.specs.Engine.{engine_of}
use Rattle.fk_script.specs.declared.deployment.Block.{Block}
use Rattle.std.proofs.Common.{List, map}
use Rattle.fk_spec.specs.Plan.{all_asks}
use Rattle.fk_world.specs.World.{AreShort, new_clients}
use Rattle.fk_world.proofs.Beginning.{are_few, are_short, new_sound}
use Rattle.fk_world.proofs.world.World.new.Goals as goal

pub clients_of-requires-clause-few : goal.clients_of-requires-clause-few
clients_of-requires-clause-few g c = subst (λ (bs : List Block). length bs ≤ 64) (sym c.as_slice.ensures) (are_few c.args.deployment c.requires.meant)

pub clients_of-requires-clause-short : goal.clients_of-requires-clause-short
clients_of-requires-clause-short g c = subst AreShort (sym c.as_slice.ensures) (are_short c.args.deployment c.requires.meant)

pub new-requires : goal.new-requires
new-requires g c = let n = c.in_ok-clients.ensures.count ∙ ap (λ (bs : List Block). length bs) c.as_slice.ensures in let f = are_few c.args.deployment c.requires.meant in omega (arith, n, f)

pub invariant_of-result : goal.invariant_of-result
invariant_of-result g c = new_sound c.args.deployment (map client_of c.in_ok-clients.clients.items) (g.T.Table.meaning c.args.table) (engine_of g.T.Table.meaning c.in_ok-engine.engine)
    c.requires.meant c.requires.table (c.in_ok-clients.ensures.clients ∙ ap (λ (bs : List Block). new_clients 1 (all_asks bs)) c.as_slice.ensures) c.in_ok-engine.ensures

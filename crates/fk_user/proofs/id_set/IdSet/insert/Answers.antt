use Rattle.std.proofs.Common.{◌≡◌}
use Rattle.fk_user.specs.Ids.{with_id}
use Rattle.fk_user.proofs.Placing.{placed, with_rises}
use Rattle.fk_user.proofs.id_set.IdSet.insert.Goals as goal

keys_are : (c : goal.In_ok-insert_sorted) → c.insert_sorted.new.self.keys ≡ with_id c.args.id c.self.inside.items.keys
keys_are c = placed c.args.id c.self.inside.items.keys c.insert_sorted.new.self.keys c.self.invariant c.in_ok-insert_sorted.ensures.sorted c.insert_sorted.ensures.unique c.in_ok-insert_sorted.ensures.updates.0

pub invariant_of-self-in_ok-insert_sorted : goal.invariant_of-self-in_ok-insert_sorted
invariant_of-self-in_ok-insert_sorted c = rw (keys_are c) (with_rises c.args.id c.self.inside.items.keys c.self.invariant)

pub returns-in_ok-insert_sorted-clause-ok : goal.returns-in_ok-insert_sorted-clause-ok
returns-in_ok-insert_sorted-clause-ok c = rw (← c.self.view_is) (keys_are c)

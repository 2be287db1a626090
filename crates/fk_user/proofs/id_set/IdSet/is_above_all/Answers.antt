use Rattle.fk_user.proofs.Placing.{above_all}
use Rattle.fk_user.proofs.id_set.IdSet.is_above_all.Goals as goal

pub returns-in-Some : goal.returns-in-Some
returns-in-Some c = rw (← c.self.view_is) (above_all c.args.id c.in-Some.last.now c.self.inside.items.keys c.self.invariant c.in-Some.ensures.key)

use Rattle.fk_watch.proofs.Noting.{found_number, number_missing}
use Rattle.fk_watch.proofs.set_watches.SetWatches.number_of.Goals as goal

pub returns-in-Data-clause-some : goal.returns-in-Data-clause-some
returns-in-Data-clause-some c =
    rw (← c.self.view_is)
    (found_number c.self.inside.watches.entries c.self.inside.on_data c.self.inside.on_child c.args.kind c.args.path.now c.args.session c.number_in.result c.self.invariant (rw c.in-Data.is c.number_in.ensures))

pub returns-in-Data-clause-none : goal.returns-in-Data-clause-none
returns-in-Data-clause-none c =
    rw (← c.self.view_is)
    (number_missing c.self.inside.watches.entries c.self.inside.on_data c.self.inside.on_child c.args.kind c.args.path.now c.args.session c.number_in.result c.self.invariant (rw c.in-Data.is c.number_in.ensures))

pub returns-in-Child-clause-some : goal.returns-in-Child-clause-some
returns-in-Child-clause-some c =
    rw (← c.self.view_is)
    (found_number c.self.inside.watches.entries c.self.inside.on_data c.self.inside.on_child c.args.kind c.args.path.now c.args.session c.number_in-in-Child.result c.self.invariant (rw c.in-Child.is c.number_in-in-Child.ensures))

pub returns-in-Child-clause-none : goal.returns-in-Child-clause-none
returns-in-Child-clause-none c =
    rw (← c.self.view_is)
    (number_missing c.self.inside.watches.entries c.self.inside.on_data c.self.inside.on_child c.args.kind c.args.path.now c.args.session c.number_in-in-Child.result c.self.invariant (rw c.in-Child.is c.number_in-in-Child.ensures))

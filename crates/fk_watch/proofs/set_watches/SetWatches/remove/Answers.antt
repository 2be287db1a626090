use Rattle.std.proofs.Common.{sym}
use Rattle.fk_watch.proofs.Noting.{watch_dropped}
use Rattle.fk_watch.proofs.set_watches.SetWatches.remove.Goals as goal

pub invariant_of-self : goal.invariant_of-self
invariant_of-self c =
    watch_dropped c.self.inside.watches.entries c.remove.new.self.entries c.self.inside.on_data c.self.inside.on_child c.drop_watch.new.on_data c.drop_watch.new.on_child c.args.number c.in-Some.watch
    c.self.invariant (sym c.in-Some.ensures.value) c.drop_watch.ensures c.remove.ensures.updates.0

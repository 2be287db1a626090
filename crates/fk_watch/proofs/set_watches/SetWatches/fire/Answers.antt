use Rattle.std.proofs.lemmas.Result.{on_ok_weaker}
use Rattle.fk_watch.specs.Setting.{at}
use Rattle.fk_watch.proofs.Firing.{touch_fired}
use Rattle.fk_watch.proofs.set_watches.SetWatches.fire.Goals as goal

pub returns-clause-ok : goal.returns-clause-ok
returns-clause-ok c =
    rw (← c.self.view_is)
    (on_ok_weaker c.fire_kind-2.result (λ h n. touch_fired c.args.tx c.args.touch.now c.self.inside.watches.entries c.self.inside.on_data c.self.inside.on_child n
    (at n c.args.fired.now.entries) (at n c.fire_kind.new.fired.entries) (at n c.fire_kind-2.new.fired.entries) c.self.invariant
    c.fire_kind.ensures.ordered c.fire_kind-2.ensures.ordered (c.in_ok-fire_kind.ensures.ok n) (h n)) c.fire_kind-2.ensures.ok)

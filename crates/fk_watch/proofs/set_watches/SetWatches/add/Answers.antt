use Rattle.std.proofs.Common.{ℕ, subst, sym, None, ◌≡◌}
use Rattle.fk_watch.specs.declared.watch.Watch.{Watch}
use Rattle.fk_watch.specs.Setting.{at, HasNot}
use Rattle.fk_watch.proofs.Noting.{watch_added, watch_withdrawn, IsNoted}
use Rattle.fk_watch.proofs.set_watches.SetWatches.add.Goals as goal

pub invariant_of-self-in-Ok : goal.invariant_of-self-in-Ok
invariant_of-self-in-Ok c =
    watch_added c.self.inside.watches.entries c.insert.new.self.entries c.self.inside.on_data c.self.inside.on_child c.add_watch.new.on_data c.add_watch.new.on_child c.args.number c.args.watch
    c.self.invariant (subst (λ ws. at c.args.number ws ≡ None) (sym c.self.view_is) c.requires.free) (subst (HasNot c.args.watch) (sym c.self.view_is) c.requires.new)
    c.in_ok-add_watch.ensures.ok c.in-Ok.ensures.updates.0

pub invariant_of-self-in-Err : goal.invariant_of-self-in-Err
invariant_of-self-in-Err c =
    rw c.in-Err.ensures.err
    (watch_withdrawn c.self.inside.watches.entries c.self.inside.on_data c.self.inside.on_child c.add_watch.new.on_data c.add_watch.new.on_child c.drop_watch.new.on_data c.drop_watch.new.on_child c.args.number c.args.watch
    c.self.invariant (subst (HasNot c.args.watch) (sym c.self.view_is) c.requires.new) c.in_ok-add_watch.ensures.ok
    (subst (λ (y : ℕ × Watch). IsNoted y.1 None c.add_watch.new.on_data c.add_watch.new.on_child c.drop_watch.new.on_data c.drop_watch.new.on_child) c.in-Err.ensures.value_returned c.drop_watch.ensures))

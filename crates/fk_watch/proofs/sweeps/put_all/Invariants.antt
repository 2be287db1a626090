use Rattle.std.proofs.Common.{◌≡◌, cond, drop}
use Rattle.fk_base.specs.Path.{PathNames}
use Rattle.fk_tree.specs.Watch.{has_touch}
use Rattle.fk_watch.specs.Kept.{last_in}
use Rattle.fk_watch.specs.Touched.{KeepsPlaces}
use Rattle.fk_watch.proofs.sweeps.put_all.Given as goal

abbrev pub invariant-putting : goal.invariant-putting
invariant-putting l =
    ((p : PathNames) → cond (has_touch p (drop l.touch-index l.touches)) l.tx (last_in p l.sweeps.entries) ≡ cond (has_touch p l.touches) l.tx (last_in p l.initial.sweeps.entries))
    × KeepsPlaces l.initial.sweeps.entries l.sweeps.entries

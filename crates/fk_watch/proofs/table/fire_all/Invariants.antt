use Rattle.std.proofs.Common.{◌≡◌, ◌≤◌, ℕ, drop, length}
use Rattle.fk_watch.specs.Moving.{KeepsOthers}
use Rattle.fk_watch.specs.Setting.{at}
use Rattle.fk_watch.specs.Sweeping.{fires, or_else}
use Rattle.fk_watch.proofs.table.fire_all.Given as goal

abbrev pub invariant-firing : goal.invariant-firing
invariant-firing l =
    (l.left ≤ length l.touches)
    × ((n : ℕ) → at n l.fired.entries ≡ or_else (fires l.tx (drop l.left l.touches) (at n l.set)) (at n l.initial.fired.entries))
    × KeepsOthers l.tx l.set l.initial.fired.entries l.fired.entries

abbrev pub decreases-firing : goal.decreases-firing
decreases-firing l = l.left

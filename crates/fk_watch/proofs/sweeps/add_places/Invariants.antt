use Rattle.std.proofs.Common.{take}
use Rattle.fk_watch.specs.Touched.{HaveSweeps, KeepsLasts}
use Rattle.fk_watch.proofs.sweeps.add_places.Given as goal

abbrev pub invariant-adding : goal.invariant-adding
invariant-adding l = HaveSweeps (take l.touch-index l.touches) l.sweeps.entries × KeepsLasts l.initial.sweeps.entries l.sweeps.entries

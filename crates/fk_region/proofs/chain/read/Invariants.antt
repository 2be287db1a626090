use Rattle.std.proofs.Common.{◌-◌, length}
use Rattle.fk_region.proofs.Going.{IsReading}
use Rattle.fk_region.proofs.chain.read.Given as goal

abbrev pub invariant-reading : goal.invariant-reading
invariant-reading l = IsReading l.blocks l.first (length l.initial.into) l.into l.at l.done

abbrev pub decreases-reading : goal.decreases-reading
decreases-reading l = length l.initial.into - l.done

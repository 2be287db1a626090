use Rattle.std.proofs.Common.{length}
use Rattle.fk_script.proofs.LinesRead.{IsRead}
use Rattle.fk_script.proofs.read.read_lines.Given as goal

abbrev pub invariant-reading : goal.invariant-reading
invariant-reading l = IsRead l.schedule l.bytes l.number l.progress l.rest

abbrev pub decreases-reading : goal.decreases-reading
decreases-reading l = length l.rest

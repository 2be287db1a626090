use Rattle.std.proofs.Common.{◌≡◌, length}
use Rattle.fk_read.specs.Cut.{lines_in}
use Rattle.fk_read.specs.ReadHistory.{IsRead, nothing_read, read_lines}
use Rattle.fk_read.proofs.reading.read_history.Given as goal

abbrev pub decreases-reading : goal.decreases-reading
decreases-reading l = length l.lines

abbrev pub invariant-reading : goal.invariant-reading
invariant-reading l = record { left : read_lines l.clients nothing_read (lines_in l.text) ≡ read_lines l.clients l.reading l.lines; fits : IsRead l.clients l.reading }

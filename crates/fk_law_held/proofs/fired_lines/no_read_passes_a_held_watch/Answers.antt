use Rattle.fk_law_held.proofs.Passing.{no_read_passes_a_held_watch}
use Rattle.fk_law_held.proofs.fired_lines.no_read_passes_a_held_watch.Goals as goal

pub returns : goal.returns
returns c = no_read_passes_a_held_watch

use Rattle.fk_law_held.proofs.Differing.{waiting_read_registers}
use Rattle.fk_law_held.proofs.held_watches.waiting_read_registers.Goals as goal

pub returns : goal.returns
returns c = waiting_read_registers

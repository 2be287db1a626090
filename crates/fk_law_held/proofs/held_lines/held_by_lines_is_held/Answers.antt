use Rattle.fk_law_held.proofs.Following.{held_by_lines_is_held}
use Rattle.fk_law_held.proofs.held_lines.held_by_lines_is_held.Goals as goal

pub returns : goal.returns
returns c = held_by_lines_is_held

use Rattle.fk_law_held.proofs.Firings.{fired_by_lines_has_fired, firing_stands_in_the_lines}
use Rattle.fk_law_held.proofs.fired_lines.fired_by_lines_has_fired.Goals as goal

pub returns-clause-fired : goal.returns-clause-fired
returns-clause-fired c = fired_by_lines_has_fired

pub returns-clause-stands : goal.returns-clause-stands
returns-clause-stands c = firing_stands_in_the_lines

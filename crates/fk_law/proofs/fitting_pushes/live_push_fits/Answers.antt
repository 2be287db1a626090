use Rattle.fk_law.proofs.Editing.{live_push_edits_what_it_locked, live_push_fits}
use Rattle.fk_law.proofs.fitting_pushes.live_push_fits.Goals as goal

pub returns-clause-fits : goal.returns-clause-fits
returns-clause-fits c = live_push_fits

pub returns-clause-locked : goal.returns-clause-locked
returns-clause-locked c = live_push_edits_what_it_locked

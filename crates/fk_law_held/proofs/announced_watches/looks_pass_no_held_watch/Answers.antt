use Rattle.fk_law_held.proofs.Announcing.{look_passes_no_held_watch, waiting_read_is_clean}
use Rattle.fk_law_held.proofs.announced_watches.looks_pass_no_held_watch.Goals as goal

pub returns-clause-look : goal.returns-clause-look
returns-clause-look c = look_passes_no_held_watch

pub returns-clause-waiting : goal.returns-clause-waiting
returns-clause-waiting c = waiting_read_is_clean

use Rattle.fk_law_drain.proofs.Answering.{begun_are_answered_or_kept}
use Rattle.fk_law_drain.proofs.begun_commands.begun_are_answered_or_kept.Goals as goal

pub returns : goal.returns
returns c = begun_are_answered_or_kept

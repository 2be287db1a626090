use Rattle.fk_law_client.proofs.Arguments.{unfit_refused}
use Rattle.fk_law_client.proofs.replies.unfit_commands_are_refused.Goals as goal

pub returns : goal.returns
returns c = unfit_refused

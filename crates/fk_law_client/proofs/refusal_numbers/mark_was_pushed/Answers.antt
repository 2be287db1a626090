use Rattle.fk_law_client.proofs.Pushed.{mark_pushed}
use Rattle.fk_law_client.proofs.refusal_numbers.mark_was_pushed.Goals as goal

pub returns : goal.returns
returns c = mark_pushed

use Rattle.fk_law_client.proofs.Tracking.{sent_tracked}
use Rattle.fk_law_client.proofs.sent_commands.sent_commands_are_tracked.Goals as goal

pub returns : goal.returns
returns c = sent_tracked

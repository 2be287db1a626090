use Rattle.fk_law_client.proofs.Kept.{kept_commands_have_their_source}
use Rattle.fk_law_client.proofs.kept_commands.kept_commands_have_their_source.Goals as goal

pub returns : goal.returns
returns c = kept_commands_have_their_source

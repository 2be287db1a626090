use Rattle.fk_law.proofs.Closing.{closed_has_no_live_push}
use Rattle.fk_law.proofs.closed_sessions.closed_has_no_live_push.Goals as goal

pub returns : goal.returns
returns c = closed_has_no_live_push

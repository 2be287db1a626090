use Rattle.fk_law.proofs.Closing.{no_commit_after_close}
use Rattle.fk_law.proofs.closed_sessions.no_commit_after_close.Goals as goal

pub returns : goal.returns
returns c = no_commit_after_close

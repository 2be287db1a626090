use Rattle.fk_law.proofs.Closes.{closed_session_owns_nothing}
use Rattle.fk_law.proofs.commit_numbers.closed_session_owns_nothing.Goals as goal

pub returns : goal.returns
returns c = closed_session_owns_nothing

use Rattle.fk_law.proofs.Editing.{view_is_current}
use Rattle.fk_law.proofs.follower_views.view_is_current_while_the_lock_is_own.Goals as goal

pub returns : goal.returns
returns c = view_is_current

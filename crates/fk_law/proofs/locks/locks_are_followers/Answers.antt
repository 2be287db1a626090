use Rattle.fk_law.proofs.Locking.{locks_are_followers}
use Rattle.fk_law.proofs.locks.locks_are_followers.Goals as goal

pub returns : goal.returns
returns c = locks_are_followers

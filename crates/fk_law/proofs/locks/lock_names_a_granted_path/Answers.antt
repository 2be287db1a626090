use Rattle.fk_law.proofs.Locking.{lock_names_a_granted_path}
use Rattle.fk_law.proofs.locks.lock_names_a_granted_path.Goals as goal

pub returns : goal.returns
returns c = lock_names_a_granted_path

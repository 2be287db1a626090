use Rattle.fk_base.proofs.PathOrder.{same_path_is}
use Rattle.fk_base.proofs.path.Path.same.Goals as goal

pub returns-clause-same : goal.returns-clause-same
returns-clause-same c = rw (c.is_eq.ensures, c.compare.ensures) (same_path_is c.args.self.now c.args.other.now)

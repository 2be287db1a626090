use Rattle.std.proofs.Common.{◌≡◌, ◌++◌, drop}
use Rattle.fk_settle.specs.Transaction.{hold_conds, settle_conds}
use Rattle.fk_settle.proofs.settling.settle_conds.Given as goal

abbrev pub invariant-holding : goal.invariant-holding
invariant-holding l = l.conds.items ++ hold_conds l.inv (drop l.path-index l.paths) ≡ settle_conds l.session l.k l.inv l.paths

use Rattle.std.proofs.Common.{◌≡◌, ◌++◌, drop}
use Rattle.fk_settle.specs.Transaction.{change_writes}
use Rattle.fk_settle.proofs.writing.push_changes.Given as goal

abbrev pub invariant-changing : goal.invariant-changing
invariant-changing l = l.writes.items ++ change_writes l.tx l.moment (drop l.edit-index l.edits) ≡ l.initial.writes.items ++ change_writes l.tx l.moment l.edits

use Rattle.std.proofs.Common.{◌≡◌, ◌++◌, drop}
use Rattle.fk_settle.specs.Transaction.{release_writes}
use Rattle.fk_settle.proofs.writing.push_releases.Given as goal

abbrev pub invariant-releasing : goal.invariant-releasing
invariant-releasing l = l.writes.items ++ release_writes (drop l.path-index l.paths) ≡ l.initial.writes.items ++ release_writes l.paths

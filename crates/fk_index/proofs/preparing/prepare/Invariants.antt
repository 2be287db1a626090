use Rattle.fk_index.proofs.Readiness.{ArePrepared}
use Rattle.fk_index.proofs.preparing.prepare.Given as goal

abbrev pub invariant-preparing : goal.invariant-preparing
invariant-preparing l = ArePrepared l.writes l.write-index l.initial.slots l.initial.owners l.waiting l.drafts l.slots l.owners

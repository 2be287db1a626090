use Rattle.std.proofs.Common.{◌≡◌, drop}
use Rattle.fk_lead.specs.Operation.{is_pending}
use Rattle.fk_lead.proofs.committing.is_pending.Given as goal

abbrev pub invariant-seeking : goal.invariant-seeking
invariant-seeking l = is_pending l.tx l.pending ≡ is_pending l.tx (drop l.other-index l.pending)

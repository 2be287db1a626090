use Rattle.fk_agree.proofs.Settling.{expired_is_granted_nothing, loss_is_written, refusal_is_written}
use Rattle.fk_agree.proofs.tables.refusal_is_written.Goals as goal

pub returns-clause-refusal : goal.returns-clause-refusal
returns-clause-refusal c = refusal_is_written

pub returns-clause-bare : goal.returns-clause-bare
returns-clause-bare c = expired_is_granted_nothing

pub returns-clause-loss : goal.returns-clause-loss
returns-clause-loss c = loss_is_written

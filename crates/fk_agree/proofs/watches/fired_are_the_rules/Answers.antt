use Rattle.fk_agree.proofs.Sweeping.{fired_are_the_rules}
use Rattle.fk_agree.proofs.Sweeping.{epoch_is_the_rules}
use Rattle.fk_agree.proofs.watches.fired_are_the_rules.Goals as goal

pub returns-clause-fired : goal.returns-clause-fired
returns-clause-fired c = fired_are_the_rules

pub returns-clause-epoch : goal.returns-clause-epoch
returns-clause-epoch c = epoch_is_the_rules

use Rattle.fk_agree.proofs.Counting.{heads_are_the_rules, lanes_are_counted}
use Rattle.fk_agree.proofs.lanes.heads_are_the_rules.Goals as goal

pub returns-clause-counted : goal.returns-clause-counted
returns-clause-counted c = lanes_are_counted

pub returns-clause-heads : goal.returns-clause-heads
returns-clause-heads c = heads_are_the_rules

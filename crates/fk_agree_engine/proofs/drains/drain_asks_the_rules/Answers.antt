use Rattle.fk_agree_engine.proofs.Asks.{flight_is_the_rules, next_of_drain_is_the_rules, ready_is_the_rules}
use Rattle.fk_agree_engine.proofs.drains.drain_asks_the_rules.Goals as goal

pub returns-clause-flight : goal.returns-clause-flight
returns-clause-flight c = flight_is_the_rules

pub returns-clause-next : goal.returns-clause-next
returns-clause-next c = next_of_drain_is_the_rules

pub returns-clause-ready : goal.returns-clause-ready
returns-clause-ready c = ready_is_the_rules

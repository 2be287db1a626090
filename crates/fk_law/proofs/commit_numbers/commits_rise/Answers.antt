use Rattle.fk_law.proofs.Beyond.{commits_rise, live_push_is_newest}
use Rattle.fk_law.proofs.commit_numbers.commits_rise.Goals as goal

pub returns-clause-live : goal.returns-clause-live
returns-clause-live c = live_push_is_newest

pub returns-clause-all : goal.returns-clause-all
returns-clause-all c = commits_rise

use Rattle.fk_agree.proofs.Carried.{live_push_is_its_message, push_is_its_commit}
use Rattle.fk_agree.proofs.pushes.push_is_its_commit.Goals as goal

pub returns-clause-committed : goal.returns-clause-committed
returns-clause-committed c = push_is_its_commit

pub returns-clause-live : goal.returns-clause-live
returns-clause-live c = live_push_is_its_message

use Rattle.std.proofs.Common.{ap, refl}
use Rattle.fk_engine.specs.Machines as machine
use Rattle.fk_engine.specs.Reads.{nothing_read}
use Rattle.fk_engine.proofs.Oks.{ok_all}
use Rattle.fk_engine.proofs.Steps.{same_services}
use Rattle.fk_engine.proofs.machine.Machine.operate.Goals as goal
use Rattle.fk_follow.specs.Standing.{follower_of}
use Rattle.fk_lead.specs.Standing.{leader_of}
use Rattle.fk_base.proofs.Logic.{ok_each}

pub returns-in-Follower-clause-op : goal.returns-in-Follower-clause-op
returns-in-Follower-clause-op g c = rw c.in-Follower.is (ok_each c.step.result c.step.ensures (λ o h r i. h.op r.owned i))

pub returns-in-Follower-clause-machine : goal.returns-in-Follower-clause-machine
returns-in-Follower-clause-machine g c = rw c.in-Follower.is (ok_all c.step.result c.step.ensures (λ o h r i. ap machine.Follower (h.machine r.owned i)))

pub returns-in-Follower-clause-services : goal.returns-in-Follower-clause-services
returns-in-Follower-clause-services g c = rw c.in-Follower.is (ok_all c.step.result c.step.ensures (λ o h. same_services _ _ h.table h.post refl refl))

pub returns-in-Follower-clause-given : goal.returns-in-Follower-clause-given
returns-in-Follower-clause-given g c = rw c.in-Follower.is (ok_all c.step.result c.step.ensures (λ o h. (record nothing_read { owned = (follower_of c.step.new.self).follower.owned }, h.given)))

pub returns-in-Follower-clause-sent : goal.returns-in-Follower-clause-sent
returns-in-Follower-clause-sent g c = rw c.in-Follower.is (ok_all c.step.result c.step.ensures (λ o h. h.sent))

pub returns-in-Leader-clause-op : goal.returns-in-Leader-clause-op
returns-in-Leader-clause-op g c = rw c.in-Leader.is (ok_each c.step-in-Leader.result c.step-in-Leader.ensures (λ o h r i. h.op r.swept i))

pub returns-in-Leader-clause-machine : goal.returns-in-Leader-clause-machine
returns-in-Leader-clause-machine g c = rw c.in-Leader.is (ok_all c.step-in-Leader.result c.step-in-Leader.ensures (λ o h r i. ap machine.Leader (h.machine r.swept i)))

pub returns-in-Leader-clause-services : goal.returns-in-Leader-clause-services
returns-in-Leader-clause-services g c = rw c.in-Leader.is (ok_all c.step-in-Leader.result c.step-in-Leader.ensures (λ o h. same_services _ _ h.table h.post h.watches h.user))

pub returns-in-Leader-clause-given : goal.returns-in-Leader-clause-given
returns-in-Leader-clause-given g c = rw c.in-Leader.is (ok_all c.step-in-Leader.result c.step-in-Leader.ensures (λ o h. (record nothing_read { swept = (leader_of c.step-in-Leader.new.self).swept }, h.given)))

pub returns-in-Leader-clause-sent : goal.returns-in-Leader-clause-sent
returns-in-Leader-clause-sent g c = rw c.in-Leader.is (ok_all c.step-in-Leader.result c.step-in-Leader.ensures (λ o h. h.sent))

pub returns-in-Teller-clause-op : goal.returns-in-Teller-clause-op
returns-in-Teller-clause-op g c = rw c.in-Teller.is (ok_each c.step-in-Teller.result c.step-in-Teller.ensures (λ o h r i. h.op))

pub returns-in-Teller-clause-machine : goal.returns-in-Teller-clause-machine
returns-in-Teller-clause-machine g c = rw c.in-Teller.is (ok_all c.step-in-Teller.result c.step-in-Teller.ensures (λ o h r i. ap machine.Teller h.machine))

pub returns-in-Teller-clause-services : goal.returns-in-Teller-clause-services
returns-in-Teller-clause-services g c = rw c.in-Teller.is (ok_all c.step-in-Teller.result c.step-in-Teller.ensures (λ o h. same_services _ _ refl h.post h.watches refl))

pub returns-in-Teller-clause-given : goal.returns-in-Teller-clause-given
returns-in-Teller-clause-given g c = rw c.in-Teller.is (ok_all c.step-in-Teller.result c.step-in-Teller.ensures (λ o h. (nothing_read, tt)))

pub returns-in-Teller-clause-sent : goal.returns-in-Teller-clause-sent
returns-in-Teller-clause-sent g c = rw c.in-Teller.is (ok_all c.step-in-Teller.result c.step-in-Teller.ensures (λ o h. h.sent))

pub returns-in-Beat-clause-op : goal.returns-in-Beat-clause-op
returns-in-Beat-clause-op g c = rw c.in-Beat.is (ok_each c.step-in-Beat.result c.step-in-Beat.ensures (λ o h r i. h.op))

pub returns-in-Beat-clause-machine : goal.returns-in-Beat-clause-machine
returns-in-Beat-clause-machine g c = rw c.in-Beat.is (ok_all c.step-in-Beat.result c.step-in-Beat.ensures (λ o h r i. ap machine.Beat h.machine))

pub returns-in-Beat-clause-services : goal.returns-in-Beat-clause-services
returns-in-Beat-clause-services g c = rw c.in-Beat.is (ok_all c.step-in-Beat.result c.step-in-Beat.ensures (λ o h. same_services _ _ h.table h.post refl refl))

pub returns-in-Beat-clause-given : goal.returns-in-Beat-clause-given
returns-in-Beat-clause-given g c = rw c.in-Beat.is (ok_all c.step-in-Beat.result c.step-in-Beat.ensures (λ o h. (nothing_read, tt)))

pub returns-in-Beat-clause-sent : goal.returns-in-Beat-clause-sent
returns-in-Beat-clause-sent g c = rw c.in-Beat.is (ok_all c.step-in-Beat.result c.step-in-Beat.ensures (λ o h. h.sent))

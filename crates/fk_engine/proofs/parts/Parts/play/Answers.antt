use Rattle.std.proofs.Common.{subst}
use Rattle.fk_engine.specs.Fit.{FitsEvent}
use Rattle.fk_engine.specs.Parts.{parts_of}
use Rattle.fk_engine.proofs.Oks.{ok_always}
use Rattle.fk_engine.proofs.Reading.{beat_given, clock_given, crash_given, deliver_given, fail_turn_given, lead_given, turn_given, watch_given}
use Rattle.fk_engine.proofs.parts.Parts.play.Goals as goal

pub returns-in-Client-clause-op : goal.returns-in-Client-clause-op
returns-in-Client-clause-op g c = rw c.in-Client.is c.turn.ensures.op

pub returns-in-Client-clause-lines : goal.returns-in-Client-clause-lines
returns-in-Client-clause-lines g c = rw c.in-Client.is c.turn.ensures.lines

pub returns-in-Client-clause-after : goal.returns-in-Client-clause-after
returns-in-Client-clause-after g c = rw c.in-Client.is c.turn.ensures.after

pub returns-in-Client-clause-given : goal.returns-in-Client-clause-given
returns-in-Client-clause-given g c = rw c.in-Client.is (ok_always c.turn.result (turn_given (parts_of g.T.Table.meaning c.args.self.now) c.in-Client.session (subst (FitsEvent (parts_of g.T.Table.meaning c.args.self.now)) c.in-Client.is c.requires)))

pub returns-in-Deliver-clause-op : goal.returns-in-Deliver-clause-op
returns-in-Deliver-clause-op g c = rw c.in-Deliver.is c.deliver.ensures.op

pub returns-in-Deliver-clause-lines : goal.returns-in-Deliver-clause-lines
returns-in-Deliver-clause-lines g c = rw c.in-Deliver.is c.deliver.ensures.lines

pub returns-in-Deliver-clause-after : goal.returns-in-Deliver-clause-after
returns-in-Deliver-clause-after g c = rw c.in-Deliver.is c.deliver.ensures.after

pub returns-in-Deliver-clause-given : goal.returns-in-Deliver-clause-given
returns-in-Deliver-clause-given g c = rw c.in-Deliver.is (ok_always c.deliver.result (deliver_given (parts_of g.T.Table.meaning c.args.self.now) c.in-Deliver.session (subst (FitsEvent (parts_of g.T.Table.meaning c.args.self.now)) c.in-Deliver.is c.requires)))

pub returns-in-Leader-clause-op : goal.returns-in-Leader-clause-op
returns-in-Leader-clause-op g c = rw c.in-Leader.is c.lead.ensures.op

pub returns-in-Leader-clause-lines : goal.returns-in-Leader-clause-lines
returns-in-Leader-clause-lines g c = rw c.in-Leader.is c.lead.ensures.lines

pub returns-in-Leader-clause-after : goal.returns-in-Leader-clause-after
returns-in-Leader-clause-after g c = rw c.in-Leader.is c.lead.ensures.after

pub returns-in-Leader-clause-given : goal.returns-in-Leader-clause-given
returns-in-Leader-clause-given g c = rw c.in-Leader.is (ok_always c.lead.result (lead_given (parts_of g.T.Table.meaning c.args.self.now) (subst (FitsEvent (parts_of g.T.Table.meaning c.args.self.now)) c.in-Leader.is c.requires)))

pub returns-in-Watch-clause-op : goal.returns-in-Watch-clause-op
returns-in-Watch-clause-op g c = rw c.in-Watch.is c.watch.ensures.op

pub returns-in-Watch-clause-lines : goal.returns-in-Watch-clause-lines
returns-in-Watch-clause-lines g c = rw c.in-Watch.is c.watch.ensures.lines

pub returns-in-Watch-clause-after : goal.returns-in-Watch-clause-after
returns-in-Watch-clause-after g c = rw c.in-Watch.is c.watch.ensures.after

pub returns-in-Watch-clause-given : goal.returns-in-Watch-clause-given
returns-in-Watch-clause-given g c = rw c.in-Watch.is (ok_always c.watch.result (watch_given (parts_of g.T.Table.meaning c.args.self.now) (subst (FitsEvent (parts_of g.T.Table.meaning c.args.self.now)) c.in-Watch.is c.requires)))

pub returns-in-Beat-clause-op : goal.returns-in-Beat-clause-op
returns-in-Beat-clause-op g c = rw c.in-Beat.is c.beat.ensures.op

pub returns-in-Beat-clause-lines : goal.returns-in-Beat-clause-lines
returns-in-Beat-clause-lines g c = rw c.in-Beat.is c.beat.ensures.lines

pub returns-in-Beat-clause-after : goal.returns-in-Beat-clause-after
returns-in-Beat-clause-after g c = rw c.in-Beat.is c.beat.ensures.after

pub returns-in-Beat-clause-given : goal.returns-in-Beat-clause-given
returns-in-Beat-clause-given g c = rw c.in-Beat.is (ok_always c.beat.result (beat_given (parts_of g.T.Table.meaning c.args.self.now) c.in-Beat.session))

pub returns-in-Step-clause-op : goal.returns-in-Step-clause-op
returns-in-Step-clause-op g c = rw c.in-Step.is c.step.ensures.op

pub returns-in-Step-clause-lines : goal.returns-in-Step-clause-lines
returns-in-Step-clause-lines g c = rw c.in-Step.is c.step.ensures.lines

pub returns-in-Step-clause-after : goal.returns-in-Step-clause-after
returns-in-Step-clause-after g c = rw c.in-Step.is c.step.ensures.after

pub returns-in-Step-clause-given : goal.returns-in-Step-clause-given
returns-in-Step-clause-given g c = rw c.in-Step.is c.step.ensures.given

pub returns-in-Fail-clause-op : goal.returns-in-Fail-clause-op
returns-in-Fail-clause-op g c = rw c.in-Fail.is c.fail.ensures.op

pub returns-in-Fail-clause-lines : goal.returns-in-Fail-clause-lines
returns-in-Fail-clause-lines g c = rw c.in-Fail.is c.fail.ensures.lines

pub returns-in-Fail-clause-after : goal.returns-in-Fail-clause-after
returns-in-Fail-clause-after g c = rw c.in-Fail.is c.fail.ensures.after

pub returns-in-Fail-clause-given : goal.returns-in-Fail-clause-given
returns-in-Fail-clause-given g c = rw c.in-Fail.is c.fail.ensures.given

pub returns-in-FailClient-clause-op : goal.returns-in-FailClient-clause-op
returns-in-FailClient-clause-op g c = rw c.in-FailClient.is c.fail_turn.ensures.op

pub returns-in-FailClient-clause-lines : goal.returns-in-FailClient-clause-lines
returns-in-FailClient-clause-lines g c = rw c.in-FailClient.is c.fail_turn.ensures.lines

pub returns-in-FailClient-clause-after : goal.returns-in-FailClient-clause-after
returns-in-FailClient-clause-after g c = rw c.in-FailClient.is c.fail_turn.ensures.after

pub returns-in-FailClient-clause-given : goal.returns-in-FailClient-clause-given
returns-in-FailClient-clause-given g c = rw c.in-FailClient.is (ok_always c.fail_turn.result (fail_turn_given (parts_of g.T.Table.meaning c.args.self.now) c.in-FailClient.session (subst (FitsEvent (parts_of g.T.Table.meaning c.args.self.now)) c.in-FailClient.is c.requires)))

pub returns-in-Crash-clause-op : goal.returns-in-Crash-clause-op
returns-in-Crash-clause-op g c = rw c.in-Crash.is c.crash.ensures.op

pub returns-in-Crash-clause-lines : goal.returns-in-Crash-clause-lines
returns-in-Crash-clause-lines g c = rw c.in-Crash.is c.crash.ensures.lines

pub returns-in-Crash-clause-after : goal.returns-in-Crash-clause-after
returns-in-Crash-clause-after g c = rw c.in-Crash.is c.crash.ensures.after

pub returns-in-Crash-clause-given : goal.returns-in-Crash-clause-given
returns-in-Crash-clause-given g c = rw c.in-Crash.is (crash_given (parts_of g.T.Table.meaning c.args.self.now) c.in-Crash.function)

pub returns-in-Clock-clause-op : goal.returns-in-Clock-clause-op
returns-in-Clock-clause-op g c = rw c.in-Clock.is c.show.ensures.op

pub returns-in-Clock-clause-lines : goal.returns-in-Clock-clause-lines
returns-in-Clock-clause-lines g c = rw c.in-Clock.is c.show.ensures.lines

pub returns-in-Clock-clause-after : goal.returns-in-Clock-clause-after
returns-in-Clock-clause-after g c = rw c.in-Clock.is c.show.ensures.after

pub returns-in-Clock-clause-given : goal.returns-in-Clock-clause-given
returns-in-Clock-clause-given g c = rw c.in-Clock.is (clock_given (parts_of g.T.Table.meaning c.args.self.now) c.in-Clock.moment)

pub returns-in-Client-clause-sent : goal.returns-in-Client-clause-sent
returns-in-Client-clause-sent g c = rw c.in-Client.is (ok_always c.turn.result tt)

pub returns-in-Deliver-clause-sent : goal.returns-in-Deliver-clause-sent
returns-in-Deliver-clause-sent g c = rw c.in-Deliver.is (ok_always c.deliver.result tt)

pub returns-in-Leader-clause-sent : goal.returns-in-Leader-clause-sent
returns-in-Leader-clause-sent g c = rw c.in-Leader.is (ok_always c.lead.result tt)

pub returns-in-Watch-clause-sent : goal.returns-in-Watch-clause-sent
returns-in-Watch-clause-sent g c = rw c.in-Watch.is (ok_always c.watch.result tt)

pub returns-in-Beat-clause-sent : goal.returns-in-Beat-clause-sent
returns-in-Beat-clause-sent g c = rw c.in-Beat.is (ok_always c.beat.result tt)

pub returns-in-Step-clause-sent : goal.returns-in-Step-clause-sent
returns-in-Step-clause-sent g c = rw c.in-Step.is c.step.ensures.sent

pub returns-in-Fail-clause-sent : goal.returns-in-Fail-clause-sent
returns-in-Fail-clause-sent g c = rw c.in-Fail.is c.fail.ensures.sent

pub returns-in-FailClient-clause-sent : goal.returns-in-FailClient-clause-sent
returns-in-FailClient-clause-sent g c = rw c.in-FailClient.is (ok_always c.fail_turn.result tt)

pub returns-in-Crash-clause-sent : goal.returns-in-Crash-clause-sent
returns-in-Crash-clause-sent g c = rw c.in-Crash.is tt

pub returns-in-Clock-clause-sent : goal.returns-in-Clock-clause-sent
returns-in-Clock-clause-sent g c = rw c.in-Clock.is tt

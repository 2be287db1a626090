use Rattle.std.proofs.Common.{◌∙◌, ap}
use Rattle.fk_tree.specs.Touch.{touches}
use Rattle.fk_watch.specs.Kept.{watches_of}
use Rattle.fk_lead.proofs.Sweeps.{swept_given, swept_leader, swept_op, swept_watches}
use Rattle.fk_lead.specs.Meaning.{touches_of}
use Rattle.fk_lead.specs.Standing.{leader_of}
use Rattle.fk_lead.proofs.leader.Leader.sweep.Goals as goal

-- src/sweeping.rt
pub returns-clause-op : goal.returns-clause-op
unfolding leader_of
returns-clause-op c =
    swept_op (watches_of c.args.watches.now) c.args.self.now.inv c.args.self.now.tx _ (touches_of (leader_of c.args.self.now)) c.sweep-answer.result c.swept.result
    (c.in_ok-touches.ensures ∙ ap touches c.in_ok-applied.ensures) c.sweep-answer.ensures.answer c.swept.ensures.some c.swept.ensures.op

pub returns-clause-leader : goal.returns-clause-leader
unfolding leader_of
returns-clause-leader c =
    swept_leader (watches_of c.args.watches.now) c.args.self.now.inv c.args.self.now.tx _ (touches_of (leader_of c.args.self.now)) c.sweep-answer.result c.swept.result (leader_of c.args.self.now) (leader_of c.swept.new.self)
    (c.in_ok-touches.ensures ∙ ap touches c.in_ok-applied.ensures) c.sweep-answer.ensures.answer c.swept.ensures.some c.swept.ensures.op c.swept.ensures.leader

pub returns-clause-given : goal.returns-clause-given
unfolding leader_of
returns-clause-given c =
    swept_given (watches_of c.args.watches.now) c.args.self.now.inv c.args.self.now.tx _ (touches_of (leader_of c.args.self.now)) c.sweep-answer.result c.swept.result (leader_of c.args.self.now) (leader_of c.swept.new.self)
    (c.in_ok-touches.ensures ∙ ap touches c.in_ok-applied.ensures) c.sweep-answer.ensures.answer c.swept.ensures.some c.swept.ensures.op c.swept.ensures.leader

pub returns-clause-watches : goal.returns-clause-watches
unfolding leader_of
returns-clause-watches c =
    swept_watches (watches_of c.args.watches.now) (watches_of c.sweep-answer.new.self) c.args.self.now.tx _ (touches_of (leader_of c.args.self.now)) c.sweep-answer.result c.swept.result
    (c.in_ok-touches.ensures ∙ ap touches c.in_ok-applied.ensures) c.sweep-answer.ensures.answer c.sweep-answer.ensures.after c.swept.ensures.some

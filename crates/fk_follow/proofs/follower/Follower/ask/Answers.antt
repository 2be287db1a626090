use Rattle.std.proofs.Common.{sym, ◌∙◌}
use Rattle.fk_store.specs.Conds.{session_of}
use Rattle.fk_follow.specs.Standing.{follower_of}
use Rattle.fk_follow.proofs.Stages.{some_is}
use Rattle.fk_follow.proofs.follower.Follower.ask.Goals as goal

pub returns-in-Some-clause-follower : goal.returns-in-Some-clause-follower
unfolding follower_of
returns-in-Some-clause-follower g c owned now =
    let t = g.T.Table.meaning c.args.table.now in
    c.answered.ensures.follower t owned now (some_is t.armed c.in-Some.shown (session_of t c.args.self.now.session) (sym c.in-Some.is ∙ c.in_ok-session_at.ensures.record))

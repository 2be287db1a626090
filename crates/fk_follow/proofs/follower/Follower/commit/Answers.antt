use Rattle.std.proofs.Common.{◌≡◌, ◌∙◌, ap, subst}
use Rattle.std.specs.Prelude.{IfOk}
use Rattle.fk_settle.specs.Verdicts.{commit_by, verdict_of}
use Rattle.fk_follow.specs.Standing.{follower_of}
use Rattle.fk_follow.proofs.Answering.{commit_said}
use Rattle.fk_follow.proofs.follower.Follower.commit.Goals as goal

pub returns-clause-op : goal.returns-clause-op
unfolding follower_of
returns-clause-op g c =
    let t = g.T.Table.meaning c.args.table.now in
    let f = c.args.self.now in
    subst (λ y. IfOk c.committed.result (λ o. o ≡ y))
    (ap (commit_by f.inv c.args.tx) (c.in_ok-verdict.ensures.verdict ∙ ap (λ ps. verdict_of t f.session f.k f.inv ps) (c.as_slice-2.ensures.value ∙ c.in_ok-paths.ensures)) ∙ commit_said t f.inv c.args.tx (follower_of f).follower)
    c.committed.ensures.op

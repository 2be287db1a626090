use Rattle.fk_follow.proofs.Owning.{listed}
use Rattle.fk_follow.proofs.reading.owned_at.Goals as goal

pub returns-in-List-clause-owned : goal.returns-in-List-clause-owned
returns-in-List-clause-owned g c qs a =
    let calm = c.in-List.ensures.owned.0 in
    listed (g.T.Table.meaning c.args.table.now) c.args.session c.in-List.paths qs calm c.in-List.ensures.owned.1 (a calm)

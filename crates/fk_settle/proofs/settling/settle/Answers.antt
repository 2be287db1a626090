use Rattle.std.proofs.Common.{◌∙◌, ap}
use Rattle.fk_store.specs.Conds.{are_fit_conds}
use Rattle.fk_settle.proofs.Verdicts.{fit_conds}
use Rattle.fk_settle.proofs.settling.settle.Goals as goal

pub transact-requires-clause-conds : goal.transact-requires-clause-conds
transact-requires-clause-conds g c =
    ap (are_fit_conds (g.T.Table.meaning c.args.table.now)) (c.as_slice.ensures.value ∙ c.in_ok-conds.ensures) ∙ fit_conds (g.T.Table.meaning c.args.table.now) c.args.session c.args.k c.args.inv c.args.paths.now c.requires.session

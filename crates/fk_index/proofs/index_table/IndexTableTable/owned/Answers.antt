use Rattle.std.proofs.Common.{◌≤◌, ◌<◌, ◌+◌, length, sym, ◌∙◌, ap, arith}
use Rattle.fk_index.specs.declared.index_table.IndexTable.{IndexTable}
use Rattle.fk_index.specs.Owners.{is_marked}
use Rattle.fk_index.proofs.Numbering.{numbered}
use Rattle.fk_index.proofs.index_table.IndexTableTable.owned.Goals as goal

pub returns-in-Ok-clause-owned : goal.returns-in-Ok-clause-owned
returns-in-Ok-clause-owned c =
    let there : (1 ≤ c.args.session) × (c.args.session < 1 + length c.args.self.now.sessions.items) = numbered c.args.session c.args.self.now.sessions.items c.requires in (
      sym c.fails.ensures.answer ∙ c.if-fails.false,
      record {
        rising = c.in-Ok.ensures.rising;
        exact = λ p.
            c.in-Ok.ensures.exact p
            ∙ ap (λ (t : IndexTable). is_marked t.owners c.args.session p) (c.fails.ensures.same c.if-fails.false)
            ∙ c.args.self.now.owned c.args.session p (omega (arith, there.0));
      },
    )

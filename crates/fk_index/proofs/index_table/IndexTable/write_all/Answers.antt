use Rattle.std.proofs.Common.{refl, ◌∙◌}
use Rattle.fk_tree.proofs.Keeping.{any_err}
use Rattle.fk_index.specs.Drafts.{node_over}
use Rattle.fk_index.specs.Slots.{record_at}
use Rattle.fk_index.specs.Tables.{table_of}
use Rattle.fk_index.proofs.Meanings.{same_all, wrote_all}
use Rattle.fk_index.proofs.Parts.{all_parts}
use Rattle.fk_index.proofs.index_table.IndexTable.write_all.Goals as goal

pub returns-clause-ok : goal.returns-clause-ok
returns-clause-ok c =
    wrote_all c.args.writes.now (table_of c.args.self.now) _
    (λ p. c.write_prepared.ensures.records p ∙ all_parts p c.args.writes.now (node_over c.in_ok-drafts.drafts c.prepare.new.slots p) (record_at c.prepare.new.slots p) (record_at c.args.self.now.slots p) (c.in_ok-drafts.ensures.ok.nodes p) (c.in_ok-drafts.ensures.ok.rests p))
    (λ s. c.put_sessions.ensures s ∙ rw c.as_slice.ensures.value at (c.in_ok-sessions.ensures.records s))
    c.done_after-self.ensures refl refl

pub returns-in_err-drafts-clause-err : goal.returns-in_err-drafts-clause-err
returns-in_err-drafts-clause-err c = any_err c.from_residual-in_err-drafts.result (same_all (table_of c.args.self.now) _ c.in_err-drafts.ensures.err.records (λ s. refl) refl refl refl)

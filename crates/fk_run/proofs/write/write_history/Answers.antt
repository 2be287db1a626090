use Rattle.std.proofs.Common.{◌∙◌, refl, sym, arith}
use Rattle.fk_run.proofs.Fronts.{entries, entry}
use Rattle.fk_run.proofs.Texts.{entry_more, piece_is}
use Rattle.fk_run.proofs.write.write_history.Goals as goal

pub writing-preserved : goal.writing-preserved
writing-preserved g c = record {
  added = entry_more c.args.clients.now c.as_slice-entry-items.result.now c.writing.entry-index c.entry-item.result _ _ _ c.as_bytes.result.now
      c.writing-test.true c.entry-item.is (piece_is c.append_entry.result _ _ _ _ (sym c.is_err.ensures.value ∙ c.if-is_err.false) c.append_entry.ensures c.clear.ensures.bytes c.as_bytes.ensures.value)
      c.writing.invariant.added (c.in-Done.ensures.done refl);
  later = omega (arith, c.in-Done.ensures.later);
}

pub returns-then-is_err-clause-front : goal.returns-then-is_err-clause-front
returns-then-is_err-clause-front g c = λ _. entries c.args.clients.now c.args.history.now c.writing.entry-index c.as_slice-entry-items.result.now _ _
    c.as_slice-entry-items.ensures c.writing.invariant.added

pub returns-in-Failed-clause-front : goal.returns-in-Failed-clause-front
returns-in-Failed-clause-front g c = λ _. entry c.args.clients.now c.args.history.now c.writing.entry-index c.as_slice-entry-items.result.now c.entry-item.result c.as_bytes.result.now _ _ _
    c.as_slice-entry-items.ensures c.writing-test.true c.entry-item.is
    (piece_is c.append_entry.result _ _ _ _ (sym c.is_err.ensures.value ∙ c.if-is_err.false) c.append_entry.ensures c.clear.ensures.bytes c.as_bytes.ensures.value)
    c.writing.invariant.added (c.in-Failed.ensures.front refl)

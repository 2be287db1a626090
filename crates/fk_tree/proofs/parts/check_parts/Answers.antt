use Rattle.std.proofs.Common.{◌+◌, sym, ◌∙◌, ap}
use Rattle.fk_tree.specs.Check.{check_part}
use Rattle.fk_tree.specs.Edit.{after_edits}
use Rattle.fk_tree.specs.Rows.{shown}
use Rattle.fk_tree.proofs.Parting.{check_goes}
use Rattle.fk_tree.proofs.parts.check_parts.Goals as goal

pub checking-preserved : goal.checking-preserved
checking-preserved c = (
  ap (λ n. n + 1) c.checking.invariant.0,
  λ closed.
      c.checking.invariant.1 closed
      ∙ check_goes (shown c.args.slots.now.entries closed) c.args.session c.checking.place c.args.parts.now c.checking.edits c.push_after.new.edits c.checking.part-index c.part-item.result c.part-item.result c.checking-test.true c.part-item.is
      (sym c.in-None.is ∙ c.in_ok-part_code.ensures closed ∙ ap (λ es. check_part (after_edits (shown c.args.slots.now.entries closed) 0 0 es) c.part-item.result) c.as_slice.ensures)
      (c.in_ok-push_after.ensures closed),
)

use Rattle.std.proofs.Common.{◌++◌, ◌∙◌, ap}
use Rattle.std.proofs.Common.{drop, ◌+◌}
use Rattle.fk_tree.specs.Edit.{after_edits}
use Rattle.fk_tree.specs.Fill.{fill_part, fill_parts}
use Rattle.fk_tree.specs.Rows.{shown}
use Rattle.fk_tree.proofs.Parting.{fill_goes}
use Rattle.fk_tree.proofs.parts.fill_parts.Goals as goal

pub filling-preserved : goal.filling-preserved
filling-preserved c = λ closed.
    ap (λ ms. ms ++ fill_parts (after_edits (shown c.args.slots.now.entries closed) 0 0 c.push_after.new.edits) c.args.session (drop (c.filling.part-index + 1) c.args.parts.now)) c.in_ok-push.ensures.ok
    ∙ fill_goes (shown c.args.slots.now.entries closed) c.args.session c.args.parts.now c.filling.edits c.push_after.new.edits c.filling.made c.in_ok-part_made.field-0 c.filling.part-index c.part-item.result c.part-item.result c.filling-test.true c.part-item.is
    (c.in_ok-part_made.ensures closed ∙ ap (λ es. fill_part (after_edits (shown c.args.slots.now.entries closed) 0 0 es) c.part-item.result) c.as_slice.ensures)
    (c.in_ok-push_after.ensures closed)
    ∙ c.filling.invariant closed

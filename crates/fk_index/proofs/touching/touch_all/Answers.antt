use Rattle.std.proofs.Common.{◌+◌, drop, sym, ◌∙◌, ap}
use Rattle.fk_index.specs.Parts.{has_slot_of, rests_written}
use Rattle.fk_index.specs.Slots.{record_at}
use Rattle.fk_index.proofs.Parts.{rests_step, same_slots, slot_there}
use Rattle.fk_index.proofs.touching.touch_all.Goals as goal

pub touch-requires : goal.touch-requires
touch-requires c = ap (has_slot_of c.touching.slots) c.write-item.is ∙ slot_there c.args.writes.now c.touching.write-index c.write-item.result c.touching.slots c.touching-test.true c.touching.invariant.0

pub touching-preserved : goal.touching-preserved
touching-preserved c = (
  same_slots c.args.writes.now c.touching.slots c.touch.new.slots c.touch.ensures.slots c.touching.invariant.0,
  λ p.
      c.touching.invariant.1 p
      ∙ rests_step p c.args.writes.now c.touching.write-index c.write-item.result (record_at c.touching.slots p) c.touching-test.true c.write-item.is
      ∙ ap (rests_written p (drop (c.touching.write-index + 1) c.args.writes.now)) (sym (c.touch.ensures.records p)),
)

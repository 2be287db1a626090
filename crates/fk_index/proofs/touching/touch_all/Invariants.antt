use Rattle.std.proofs.Common.{◌≡◌, true, drop}
use Rattle.fk_base.specs.Path.{PathNames}
use Rattle.fk_index.specs.Parts.{have_slots, rests_written}
use Rattle.fk_index.specs.Slots.{record_at}
use Rattle.fk_index.proofs.touching.touch_all.Given as goal

abbrev pub invariant-touching : goal.invariant-touching
invariant-touching l =
    (have_slots l.slots l.writes ≡ true)
    × ((p : PathNames) → rests_written p l.writes (record_at l.initial.slots p) ≡ rests_written p (drop l.write-index l.writes) (record_at l.slots p))

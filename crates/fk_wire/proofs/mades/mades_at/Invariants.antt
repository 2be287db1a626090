use Rattle.std.proofs.Common.{◌≡◌, [], length}
use Rattle.json.specs.Value.{items_view}
use Rattle.fk_wire.specs.Json.{items_onto}
use Rattle.fk_wire.specs.Mades.{AreTypedMades, made_from}
use Rattle.fk_wire.proofs.mades.mades_at.Given as goal

abbrev pub invariant-reading : goal.invariant-reading
invariant-reading l = (items_onto made_from l.mades (items_view l.left) ≡ items_onto made_from [] (items_view l.initial.left)) × AreTypedMades l.mades

abbrev pub decreases-reading : goal.decreases-reading
decreases-reading l = length l.left

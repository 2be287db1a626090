use Rattle.std.proofs.Common.{◌≡◌, [], length}
use Rattle.json.specs.Value.{items_view}
use Rattle.fk_wire.specs.Json.{items_onto}
use Rattle.fk_wire.specs.Fired.{AreLimitedFired, AreTypedFired, fired_from}
use Rattle.fk_wire.proofs.watches.fired_list_at.Given as goal

abbrev pub invariant-reading : goal.invariant-reading
invariant-reading l =
    (items_onto fired_from l.fired (items_view l.left) ≡ items_onto fired_from [] (items_view l.initial.left))
    × AreLimitedFired l.fired × AreTypedFired l.fired

abbrev pub decreases-reading : goal.decreases-reading
decreases-reading l = length l.left

use Rattle.std.proofs.Common.{◌≡◌, map, take}
use Rattle.serde_json.specs.View.{view}
use Rattle.fk_wire.specs.Fired.{AreTypedFired, fired_data}
use Rattle.fk_wire.proofs.watches.fired_list_value.Given as goal

abbrev pub invariant-writing : goal.invariant-writing
invariant-writing l = (map view l.items.items ≡ map fired_data (take l.fired-index l.list)) × AreTypedFired (take l.fired-index l.list)

use Rattle.std.proofs.Common.{◌≡◌, map, take}
use Rattle.serde_json.specs.View.{view}
use Rattle.fk_wire.specs.Mades.{AreTypedMades, made_data}
use Rattle.fk_wire.proofs.mades.mades_value.Given as goal

abbrev pub invariant-writing : goal.invariant-writing
invariant-writing l = (map view l.list.items ≡ map made_data (take l.made-index l.mades)) × AreTypedMades (take l.made-index l.mades)

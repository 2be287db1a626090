use Rattle.std.proofs.Common.{◌≡◌, map, take}
use Rattle.std.specs.List.{AllByRecursion}
use Rattle.serde_json.specs.View.{view}
use Rattle.fk_wire.specs.Limits.{IsTypedPart}
use Rattle.fk_wire.specs.Ops.{part_data}
use Rattle.fk_wire.proofs.op.parts_value.Given as goal

abbrev pub invariant-writing : goal.invariant-writing
invariant-writing l = (map view l.items.items ≡ map part_data (take l.part-index l.parts)) × AllByRecursion IsTypedPart (take l.part-index l.parts)

use Rattle.std.proofs.Common.{◌≡◌, [], length}
use Rattle.std.specs.List.{AllByRecursion}
use Rattle.json.specs.Value.{items_view}
use Rattle.fk_wire.specs.Json.{items_onto}
use Rattle.fk_wire.specs.Limits.{IsLimitedPart, IsTypedPart}
use Rattle.fk_wire.specs.Ops.{part_from}
use Rattle.fk_wire.proofs.op.parts_from.Given as goal

abbrev pub invariant-reading : goal.invariant-reading
invariant-reading l = (items_onto part_from l.parts (items_view l.left) ≡ items_onto part_from [] (items_view l.fn.items)) × AllByRecursion IsLimitedPart l.parts × AllByRecursion IsTypedPart l.parts

abbrev pub decreases-reading : goal.decreases-reading
decreases-reading l = length l.left

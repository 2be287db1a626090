use Rattle.std.proofs.Common.{◌≡◌, [], length}
use Rattle.std.specs.List.{AllByRecursion}
use Rattle.json.specs.Value.{items_view}
use Rattle.fk_wire.specs.Json.{items_onto, path_from}
use Rattle.fk_base.specs.Limits.{IsPath}
use Rattle.fk_wire.proofs.reading.paths_from.Given as goal

abbrev pub invariant-reading : goal.invariant-reading
invariant-reading l = (items_onto path_from l.paths (items_view l.left) ≡ items_onto path_from [] (items_view l.fn.items)) × AllByRecursion IsPath l.paths

abbrev pub decreases-reading : goal.decreases-reading
decreases-reading l = length l.left

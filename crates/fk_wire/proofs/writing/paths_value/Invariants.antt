use Rattle.std.proofs.Common.{◌≡◌, map, take}
use Rattle.std.specs.List.{AllByRecursion}
use Rattle.serde_json.specs.View.{view}
use Rattle.fk_wire.specs.Json.{path_data}
use Rattle.fk_base.specs.Limits.{IsPath}
use Rattle.fk_wire.proofs.writing.paths_value.Given as goal

abbrev pub invariant-writing : goal.invariant-writing
invariant-writing l = (map view l.items.items ≡ map path_data (take l.path-index l.paths)) × AllByRecursion IsPath (take l.path-index l.paths)

use Rattle.std.proofs.Common.{◌≡◌, ◌++◌, take}
use Rattle.std.specs.List.{flat_map}
use Rattle.fk_script.specs.Printed.{block_text}
use Rattle.fk_script.proofs.print.put_clients.Given as goal

abbrev pub invariant-writing : goal.invariant-writing
invariant-writing l = l.out ≡ l.initial.out ++ flat_map block_text (take l.block-index l.clients)

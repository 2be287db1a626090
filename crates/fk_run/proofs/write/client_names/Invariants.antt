use Rattle.std.proofs.Common.{◌≡◌, take}
use Rattle.fk_run.specs.Run.{names_of}
use Rattle.fk_run.proofs.write.client_names.Given as goal

abbrev pub invariant-naming : goal.invariant-naming
invariant-naming l = l.names ≡ names_of (take l.block-index l.block-items)

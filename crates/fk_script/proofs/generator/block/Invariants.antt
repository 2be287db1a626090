use Rattle.std.proofs.Common.{◌≡◌, ◌*◌}
use Rattle.fk_script.specs.Generate.{generated_commands, state_after}
use Rattle.fk_script.proofs.generator.block.Given as goal

abbrev pub invariant-commanding : goal.invariant-commanding
invariant-commanding l = record {
  commands : l.commands ≡ generated_commands l.fn.draws.state l.before;
  state : l.draws.state ≡ state_after l.fn.draws.state (2 * l.before);
}

use Rattle.std.proofs.Common.{◌≡◌, ◌*◌}
use Rattle.fk_script.specs.Generate.{generated_turns, state_after}
use Rattle.fk_script.proofs.generator.turns.Given as goal

abbrev pub invariant-turning : goal.invariant-turning
invariant-turning l = record {
  turns : l.turns ≡ generated_turns l.fn.draws.state l.before;
  state : l.draws.state ≡ state_after l.fn.draws.state (2 * l.before);
}

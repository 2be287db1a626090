use Rattle.std.proofs.Common.{◌≡◌, ◌++◌, take}
use Rattle.std.specs.List.{flat_map}
use Rattle.fk_script.specs.Printed.{block_names, line_text, turn_words}
use Rattle.fk_script.proofs.print.put_schedule.Given as goal

abbrev pub invariant-writing : goal.invariant-writing
invariant-writing l = l.out ≡ l.initial.out ++ flat_map (λ t. line_text (turn_words (block_names l.clients) t)) (take l.turn-index l.turns)

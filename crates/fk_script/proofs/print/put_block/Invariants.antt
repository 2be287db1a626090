use Rattle.std.proofs.Common.{◌≡◌, ◌++◌, take}
use Rattle.std.specs.List.{flat_map}
use Rattle.fk_script.specs.Printed.{command_words, line_text}
use Rattle.fk_script.proofs.print.put_block.Given as goal

abbrev pub invariant-writing : goal.invariant-writing
invariant-writing l = l.out ≡ l.initial.out ++ flat_map (λ c. line_text (command_words c)) (take l.command-index l.command-items)

use Rattle.std.proofs.Common.{◌≡◌, ◌∷◌, ◌++◌, codes, take}
use Rattle.std.specs.List.{flat_map}
use Rattle.fk_print.specs.Words.{spaced}
use Rattle.fk_script.specs.Printed.{part_words}
use Rattle.fk_script.proofs.print_command.put_parts.Given as goal

abbrev pub invariant-writing : goal.invariant-writing
invariant-writing l = l.out ≡ l.initial.out ++ spaced (flat_map (λ q. codes ";" ∷ part_words q) (take l.part-index l.others))

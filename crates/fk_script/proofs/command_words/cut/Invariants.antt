use Rattle.std.proofs.Common.{◌≡◌}
use Rattle.std.specs.Prelude.{map}
use Rattle.fk_script.specs.Phrases.{phrase}
use Rattle.fk_script.proofs.command_words.cut.Given as goal

-- the parts so far
abbrev pub invariant-cutting : goal.invariant-cutting
invariant-cutting l = l.parts.items ≡ map phrase (map (λ x. x.now) l.yielded)

use Rattle.std.proofs.Common.{◌≡◌, take}
use Rattle.std.specs.Prelude.{map}
use Rattle.fk_script.specs.Phrases.{part_of}
use Rattle.fk_script.proofs.command_words.commands_of.Given as goal

abbrev pub invariant-telling : goal.invariant-telling
invariant-telling l = l.commands ≡ map part_of (take l.part-index l.parts)

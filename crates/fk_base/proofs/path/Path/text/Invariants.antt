use Rattle.std.proofs.Common.{◌≡◌, take}
use Rattle.fk_base.specs.Path.{names_text}
use Rattle.fk_base.proofs.path.Path.text.Given as goal

abbrev pub invariant-writing : goal.invariant-writing
invariant-writing l = l.text ≡ names_text (take l.name-index l.name-items)

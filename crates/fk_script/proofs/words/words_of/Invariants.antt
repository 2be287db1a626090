use Rattle.std.proofs.Common.{◌≡◌}
use Rattle.std.specs.Prelude.{filter, map, not}
use Rattle.fk_script.specs.Lines.{is_empty}
use Rattle.fk_script.proofs.words.words_of.Given as goal

-- the pieces so far that aren't empty
abbrev pub invariant-cutting : goal.invariant-cutting
invariant-cutting l = l.words.items ≡ filter (λ word. not (is_empty word)) (map (λ x. x.now) l.yielded)

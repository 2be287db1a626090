use Rattle.std.proofs.Common.{◌≡◌, ◌++◌, drop}
use Rattle.fk_tree.specs.Edit.{parts_edits}
use Rattle.fk_tree.proofs.effect_list.push_parts.Given as goal

abbrev pub invariant-making : goal.invariant-making
invariant-making l = l.edits ++ parts_edits l.session (drop l.place l.parts) (drop l.place l.made) ≡ l.initial.edits ++ parts_edits l.session l.parts l.made

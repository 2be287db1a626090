use Rattle.std.proofs.Common.{◌≡◌, ◌++◌, drop}
use Rattle.fk_tree.specs.Touch.{edits_at}
use Rattle.fk_user.proofs.own.own_edits.Given as goal

abbrev pub invariant-choosing : goal.invariant-choosing
invariant-choosing l = l.own ++ edits_at l.path (drop l.change-index l.edits) ≡ edits_at l.path l.edits

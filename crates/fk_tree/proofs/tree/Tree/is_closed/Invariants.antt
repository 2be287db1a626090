use Rattle.std.proofs.Common.{◌≡◌, drop}
use Rattle.fk_tree.specs.View.{is_in}
use Rattle.fk_tree.proofs.tree.Tree.is_closed.Given as goal

abbrev pub invariant-seeking : goal.invariant-seeking
invariant-seeking l = is_in l.session l.closed-items ≡ is_in l.session (drop l.closed-index l.closed-items)

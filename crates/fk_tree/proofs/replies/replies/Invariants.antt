use Rattle.std.proofs.Common.{◌≡◌, ◌++◌, drop}
use Rattle.fk_tree.specs.Apply.{part_replies}
use Rattle.fk_tree.proofs.replies.replies.Given as goal

abbrev pub invariant-answering : goal.invariant-answering
invariant-answering l = l.replies ++ part_replies (drop l.place l.parts) (drop l.place l.made) ≡ part_replies l.parts l.made

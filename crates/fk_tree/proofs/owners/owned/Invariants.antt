use Rattle.std.proofs.Common.{◌≡◌, map}
use Rattle.fk_tree.specs.Rows.{those_of}
use Rattle.fk_tree.proofs.owners.owned.Given as goal

abbrev pub invariant-listing : goal.invariant-listing
invariant-listing l = l.owned ≡ those_of l.session l.slots.entries (map (λ p. p.now) l.yielded)

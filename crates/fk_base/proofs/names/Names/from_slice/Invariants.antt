use Rattle.std.proofs.Common.{◌≡◌, take}
use Rattle.fk_base.proofs.names.Names.from_slice.Given as goal

abbrev pub invariant-copying : goal.invariant-copying
invariant-copying l = l.copies.items ≡ take l.item-index l.items

use Rattle.std.proofs.Common.{◌≡◌, take}
use Rattle.fk_wire.proofs.fired.FiredList.copy.Given as goal

abbrev pub invariant-copying : goal.invariant-copying
invariant-copying l = l.items.items ≡ take l.item-index l.item-items

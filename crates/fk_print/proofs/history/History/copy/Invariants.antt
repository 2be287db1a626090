use Rattle.std.proofs.Common.{◌≡◌, take}
use Rattle.fk_print.proofs.history.History.copy.Given as goal

abbrev pub invariant-copying : goal.invariant-copying
invariant-copying l = l.items.items ≡ take l.item-index l.item-items

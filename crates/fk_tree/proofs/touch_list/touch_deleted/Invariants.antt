use Rattle.std.proofs.Common.{◌≡◌, drop}
use Rattle.fk_tree.specs.Touch.{deletes_touches}
use Rattle.fk_tree.specs.Touching.{all_put, AreIndexed}
use Rattle.fk_tree.proofs.touch_list.touch_deleted.Given as goal

abbrev pub invariant-deleting : goal.invariant-deleting
invariant-deleting l = (all_put (deletes_touches (drop l.path-index l.paths)) l.set.touches ≡ all_put (deletes_touches l.paths) l.initial.set.touches) × AreIndexed l.set

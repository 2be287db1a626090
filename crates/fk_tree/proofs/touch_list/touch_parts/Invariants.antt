use Rattle.std.proofs.Common.{◌≡◌, drop}
use Rattle.fk_tree.specs.Touch.{parts_touches}
use Rattle.fk_tree.specs.Touching.{all_put, AreIndexed}
use Rattle.fk_tree.proofs.touch_list.touch_parts.Given as goal

abbrev pub invariant-making : goal.invariant-making
invariant-making l = (all_put (parts_touches (drop l.place l.parts) (drop l.place l.made)) l.set.touches ≡ all_put (parts_touches l.parts l.made) l.initial.set.touches) × AreIndexed l.set

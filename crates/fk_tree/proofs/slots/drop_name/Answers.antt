use Rattle.std.proofs.Common.{◌≡◌, true, subst}
use Rattle.fk_base.specs.Path.{name_cmp}
use Rattle.fk_tree.specs.Edit.{without_child}
use Rattle.fk_tree.specs.Rows.{names_of}
use Rattle.fk_tree.specs.Sorted.{rises}
use Rattle.fk_tree.proofs.Looking.{slot_is, one_changed, none_changed}
use Rattle.fk_tree.proofs.slots.drop_name.Goals as goal

pub drop_sorted-requires : goal.drop_sorted-requires
drop_sorted-requires c = subst (λ o. rises name_cmp (names_of o) ≡ true) (slot_is c.args.slots.now c.args.path.now c.in-Some.slot.now c.in-Some.ensures.value) c.requires

pub returns-in-Some : goal.returns-in-Some
returns-in-Some c = record { nodes = one_changed c.args.slots.now c.args.path.now c.get_mut.follows.lender (without_child c.args.name.now c.args.tx) c.in-Some.slot.now c.drop_sorted.new.node c.in-Some.ensures.value c.get_mut.follows.holds c.drop_sorted.ensures }

pub returns-in-None : goal.returns-in-None
returns-in-None c = record { nodes = none_changed c.args.slots.now c.get_mut.follows.lender-at-none c.args.path.now (without_child c.args.name.now c.args.tx) c.in-None.ensures.value c.get_mut.follows.holds-at-none }

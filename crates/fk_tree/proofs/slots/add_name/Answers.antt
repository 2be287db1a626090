use Rattle.std.proofs.Common.{◌≡◌, true, subst}
use Rattle.std.proofs.lemmas.Result.{on_ok_weaker, on_err_weaker}
use Rattle.fk_base.specs.Path.{name_cmp}
use Rattle.fk_tree.specs.Edit.{with_child}
use Rattle.fk_tree.specs.Rows.{names_of}
use Rattle.fk_tree.specs.Sorted.{rises}
use Rattle.fk_tree.proofs.Looking.{slot_is, one_changed, none_changed, same_written, rows_written}
use Rattle.fk_tree.proofs.slots.add_name.Goals as goal

pub add_sorted-requires : goal.add_sorted-requires
add_sorted-requires c = subst (λ o. rises name_cmp (names_of o) ≡ true) (slot_is c.args.slots.now c.args.path.now c.in-Some.slot.now c.in-Some.ensures.value) c.requires

pub returns-in-None-clause-ok : goal.returns-in-None-clause-ok
returns-in-None-clause-ok c = none_changed c.args.slots.now c.get_mut.follows.lender-at-none c.args.path.now (with_child c.args.name.now c.args.tx) c.in-None.ensures.value c.get_mut.follows.holds-at-none

pub returns-in-Some-clause-ok : goal.returns-in-Some-clause-ok
returns-in-Some-clause-ok c = on_ok_weaker c.add_sorted.result (λ s. one_changed c.args.slots.now c.args.path.now c.get_mut.follows.lender (with_child c.args.name.now c.args.tx) c.in-Some.slot.now c.add_sorted.new.node c.in-Some.ensures.value c.get_mut.follows.holds s) c.add_sorted.ensures.ok

pub returns-in-Some-clause-err : goal.returns-in-Some-clause-err
returns-in-Some-clause-err c = on_err_weaker c.add_sorted.result (λ s. same_written c.args.slots.now c.args.path.now c.get_mut.follows.lender c.in-Some.slot.now c.add_sorted.new.node c.in-Some.ensures.value c.get_mut.follows.holds s) c.add_sorted.ensures.err

pub returns-in-Some-clause-rows : goal.returns-in-Some-clause-rows
returns-in-Some-clause-rows c = rows_written c.args.slots.now c.args.path.now c.get_mut.follows.lender c.in-Some.slot.now c.add_sorted.new.node c.in-Some.ensures.value c.get_mut.follows.holds

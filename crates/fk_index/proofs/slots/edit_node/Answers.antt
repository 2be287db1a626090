use Rattle.std.proofs.Common.{◌≡◌, true, refl, subst, sym}
use Rattle.fk_base.specs.Path.{name_cmp}
use Rattle.fk_tree.specs.Edit.{edit}
use Rattle.fk_tree.specs.Rows.{names_of}
use Rattle.fk_tree.specs.Sorted.{rises}
use Rattle.fk_index.specs.Parts.{with_node}
use Rattle.fk_index.specs.Slots.{flat, node_of}
use Rattle.fk_index.proofs.Finding.{changed, err_so, missing, same_written, slots_written}
use Rattle.fk_index.proofs.slots.edit_node.Goals as goal
use Rattle.fk_base.proofs.Logic.{ok_so}

pub edit_in-requires : goal.edit_in-requires
edit_in-requires c = subst (λ o. rises name_cmp (names_of (node_of (flat o))) ≡ true) (sym c.in-Some.ensures.value) c.requires

pub returns-in-None-clause-ok : goal.returns-in-None-clause-ok
returns-in-None-clause-ok c = missing c.args.slots.now c.get_mut.follows.lender-at-none c.args.change.now.path (λ o. with_node (edit c.args.tx c.args.moment c.args.change.now.what (node_of o)) o) c.in-None.ensures.value refl c.get_mut.follows.holds-at-none

pub returns-in-Some-clause-ok : goal.returns-in-Some-clause-ok
returns-in-Some-clause-ok c = ok_so c.edit_in.result c.edit_in.ensures.ok (changed c.args.slots.now c.args.change.now.path c.get_mut.follows.lender (λ o. with_node (edit c.args.tx c.args.moment c.args.change.now.what (node_of o)) o) c.in-Some.kept.now c.edit_in.new.kept c.in-Some.ensures.value c.get_mut.follows.holds)

pub returns-in-Some-clause-err : goal.returns-in-Some-clause-err
returns-in-Some-clause-err c = err_so c.edit_in.result c.edit_in.ensures.err (same_written c.args.slots.now c.args.change.now.path c.get_mut.follows.lender c.in-Some.kept.now c.edit_in.new.kept c.in-Some.ensures.value c.get_mut.follows.holds)

pub returns-in-Some-clause-slots : goal.returns-in-Some-clause-slots
returns-in-Some-clause-slots c = slots_written c.args.slots.now c.args.change.now.path c.get_mut.follows.lender c.in-Some.kept.now c.edit_in.new.kept c.in-Some.ensures.value c.get_mut.follows.holds

use Rattle.std.proofs.Common.{sym, ◌∙◌, ap}
use Rattle.fk_base.specs.Path.{name_cmp}
use Rattle.fk_tree.specs.Edit.{edit}
use Rattle.fk_tree.specs.Rows.{names_of}
use Rattle.fk_tree.specs.Sorted.{rises}
use Rattle.fk_index.proofs.Drafting.{drafted_is, staged_here, staged_other, undrafted}
use Rattle.fk_index.proofs.drafts.stage.Goals as goal

pub returns-then-contains_key-clause-edited : goal.returns-then-contains_key-clause-edited
returns-then-contains_key-clause-edited c tx moment = ap (edit tx moment c.args.change.now.what) (drafted_is c.args.drafts.now c.args.slots.now c.args.change.now.path (sym c.contains_key.ensures ∙ c.if-contains_key.true))

pub returns-then-contains_key-clause-rising : goal.returns-then-contains_key-clause-rising
returns-then-contains_key-clause-rising c = ap (λ o. rises name_cmp (names_of o)) (drafted_is c.args.drafts.now c.args.slots.now c.args.change.now.path (sym c.contains_key.ensures ∙ c.if-contains_key.true)) ∙ c.requires c.args.change.now.path

pub base_of-requires : goal.base_of-requires
base_of-requires c = ap (λ o. rises name_cmp (names_of o)) (sym (undrafted c.args.drafts.now c.args.slots.now c.args.change.now.path (sym c.contains_key.ensures ∙ c.if-contains_key.false))) ∙ c.requires c.args.change.now.path

pub returns-clause-edited : goal.returns-clause-edited
returns-clause-edited c tx moment =
    ap (edit tx moment c.args.change.now.what) (staged_here c.args.drafts.now c.insert.new.self c.args.change.now.path c.in_ok-node.node (rw c.in_ok-copy.ensures at c.in_ok-insert.ensures.updates.0))
    ∙ c.in_ok-node.ensures.edited tx moment
    ∙ ap (edit tx moment c.args.change.now.what) (sym (undrafted c.args.drafts.now c.args.slots.now c.args.change.now.path (sym c.contains_key.ensures ∙ c.if-contains_key.false)))

pub returns-clause-rising : goal.returns-clause-rising
returns-clause-rising c = ap (λ o. rises name_cmp (names_of o)) (staged_here c.args.drafts.now c.insert.new.self c.args.change.now.path c.in_ok-node.node (rw c.in_ok-copy.ensures at c.in_ok-insert.ensures.updates.0)) ∙ c.in_ok-node.ensures.rising

pub returns-clause-others : goal.returns-clause-others
returns-clause-others c = staged_other c.args.drafts.now c.insert.new.self c.args.slots.now c.args.change.now.path c.in_ok-node.node (rw c.in_ok-copy.ensures at c.in_ok-insert.ensures.updates.0)

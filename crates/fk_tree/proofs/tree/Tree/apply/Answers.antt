use Rattle.std.proofs.Common.{subst, sym, ◌∙◌, ap}
use Rattle.fk_tree.specs.Apply.{apply, IsFilled}
use Rattle.fk_tree.proofs.Keeping.{any_err, more_noted}
use Rattle.fk_tree.proofs.Whole.{new_path, rising, applied_kept, applied_tree, same_tree, still_kept}
use Rattle.fk_tree.proofs.tree.Tree.apply.Goals as goal

pub write-requires-clause-rising : goal.write-requires-clause-rising
write-requires-clause-rising c = rising c.self.inside.slots.entries c.self.inside.owners c.self.invariant

pub write-requires-clause-free : goal.write-requires-clause-free
write-requires-clause-free c = new_path c.self.inside.slots.entries c.self.inside.owners c.self.inside.closed.items c.args.applied.now c.self.invariant (subst (λ t. IsFilled t c.args.applied.now) (sym c.self.view_is) c.requires.filled)

pub invariant_of-self-in_err-write : goal.invariant_of-self-in_err-write
invariant_of-self-in_err-write c =
    still_kept c.self.inside.slots.entries c.write.new.slots.entries c.self.inside.owners c.write.new.owners c.self.invariant c.in_err-write.ensures.err
    (c.write.ensures.noted (more_noted c.self.inside.slots.entries c.self.inside.owners c.note_makes.new.owners c.self.invariant.owned c.note_makes.ensures.notes))

pub returns-in_err-write-clause-err : goal.returns-in_err-write-clause-err
returns-in_err-write-clause-err c =
    any_err c.from_residual-in_err-write.result
    (same_tree c.self.inside.slots.entries c.write.new.slots.entries c.self.inside.owners c.self.inside.closed.items c.write.new.closed.items c.self.invariant c.in_err-write.ensures.err c.in_err-write.ensures.open ∙ c.self.view_is)

pub invariant_of-self-2 : goal.invariant_of-self-2
invariant_of-self-2 c =
    applied_kept c.self.inside.slots.entries c.write.new.slots.entries c.self.inside.owners c.write.new.owners c.self.inside.closed.items c.args.applied.now c.self.invariant
    (subst (λ t. IsFilled t c.args.applied.now) (sym c.self.view_is) c.requires.filled) c.in_ok-write.ensures.ok
    (c.write.ensures.noted (more_noted c.self.inside.slots.entries c.self.inside.owners c.note_makes.new.owners c.self.invariant.owned c.note_makes.ensures.notes))

pub returns-clause-tree : goal.returns-clause-tree
returns-clause-tree c =
    applied_tree c.self.inside.slots.entries c.write.new.slots.entries c.self.inside.owners c.self.inside.closed.items c.write.new.closed.items c.args.applied.now c.self.invariant
    (subst (λ t. IsFilled t c.args.applied.now) (sym c.self.view_is) c.requires.filled) c.in_ok-write.ensures.ok c.in_ok-write.ensures.closed
    ∙ ap (λ t. apply t c.args.applied.now) c.self.view_is

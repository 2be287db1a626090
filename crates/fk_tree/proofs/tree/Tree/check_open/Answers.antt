use Rattle.std.proofs.Common.{◌≡◌, None, subst}
use Rattle.std.specs.Prelude.{IfErr, OnOk}
use Rattle.fk_tree.specs.Check.{IsFault}
use Rattle.fk_tree.specs.View.{is_in}
use Rattle.fk_tree.proofs.Whole.{checked}
use Rattle.fk_tree.proofs.tree.Tree.check_open.Goals as goal

pub returns-in-Set-clause-passes : goal.returns-in-Set-clause-passes
returns-in-Set-clause-passes c = subst (λ o. OnOk c.check_open.result (o ≡ None)) (checked c.self.inside.slots.entries c.self.inside.owners c.self.inside.closed.items c.args.self.now c.args.session c.args.request.now c.self.invariant c.self.view_is) (c.check_open.ensures.passes (λ s. is_in s c.self.inside.closed.items))

pub returns-in-Set-clause-refused : goal.returns-in-Set-clause-refused
returns-in-Set-clause-refused c = subst (λ o. IfErr c.check_open.result (λ e. IsFault e o)) (checked c.self.inside.slots.entries c.self.inside.owners c.self.inside.closed.items c.args.self.now c.args.session c.args.request.now c.self.invariant c.self.view_is) (c.check_open.ensures.refused (λ s. is_in s c.self.inside.closed.items))

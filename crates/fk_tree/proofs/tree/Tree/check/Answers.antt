use Rattle.std.proofs.Common.{◌≡◌, None, false, sym, subst, ◌∙◌}
use Rattle.std.specs.Prelude.{IfErr, OnOk}
use Rattle.fk_tree.specs.Check.{IsFault}
use Rattle.fk_tree.specs.View.{look}
use Rattle.fk_tree.proofs.Whole.{open_check}
use Rattle.fk_tree.proofs.tree.Tree.check.Goals as goal

pub returns-clause-passes : goal.returns-clause-passes
returns-clause-passes c = subst (λ o. OnOk c.check_open.result (o ≡ None)) (sym (open_check (look c.args.self.now) c.args.session c.args.request.now (sym c.is_closed.ensures ∙ c.if-is_closed.false))) c.check_open.ensures.passes

pub returns-clause-refused : goal.returns-clause-refused
returns-clause-refused c = subst (λ o. IfErr c.check_open.result (λ e. IsFault e o)) (sym (open_check (look c.args.self.now) c.args.session c.args.request.now (sym c.is_closed.ensures ∙ c.if-is_closed.false))) c.check_open.ensures.refused

use Rattle.std.proofs.Common.{◌∙◌, ap}
use Rattle.fk_tree.specs.Fill.{fill}
use Rattle.fk_tree.specs.View.{is_in}
use Rattle.fk_tree.proofs.Whole.{filled, of_child}
use Rattle.fk_tree.proofs.tree.Tree.fill.Goals as goal

pub returns : goal.returns
returns c =
    filled c.self.inside.slots.entries c.self.inside.owners c.self.inside.closed.items c.args.tx c.args.moment c.args.session c.args.k c.args.request.now c.in_ok-copy.field-0 c.in_ok-created_path.field-0 c.new_version.result c.in_ok-gone.field-0 c.in_ok-made.field-0
    c.self.invariant c.requires.session c.in_ok-copy.ensures
    (c.in_ok-created_path.ensures (λ s. is_in s c.self.inside.closed.items) (of_child c.args.self.now c.args.session c.args.request.now c.requires.passes))
    (c.new_version.ensures (λ s. is_in s c.self.inside.closed.items))
    c.in_ok-gone.ensures.gone c.in_ok-gone.ensures.rises
    (c.in_ok-made.ensures (λ s. is_in s c.self.inside.closed.items))
    ∙ ap (λ t. fill t c.args.tx c.args.moment c.args.session c.args.k c.args.request.now) c.self.view_is

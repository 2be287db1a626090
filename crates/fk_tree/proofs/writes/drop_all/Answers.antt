use Rattle.std.proofs.Common.{cond, sym, ◌∙◌, ap}
use Rattle.fk_base.specs.Path.{same_path}
use Rattle.fk_tree.specs.Edit.{edit}
use Rattle.fk_tree.proofs.Keeping.{edited_more}
use Rattle.fk_tree.proofs.writes.drop_all.Goals as goal

pub dropping-preserved : goal.dropping-preserved
dropping-preserved c = (
  λ moment p.
      c.drop_one.ensures.nodes moment p
      ∙ ap (λ o. cond (same_path p c.change-item.result.path) (edit c.args.tx moment c.change-item.result.what o) o) (c.dropping.invariant.0 moment p)
      ∙ sym (edited_more c.args.tx moment p c.args.edits.now c.dropping.change-index c.change-item.result _ c.dropping-test.true c.change-item.is),
  λ n. c.drop_one.ensures.noted (c.dropping.invariant.1 n),
  c.drop_one.ensures.rising,
)

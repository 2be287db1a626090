use Rattle.std.proofs.Common.{rules, ◌∙◌, ap, take, drop}
use Rattle.fk_region.proofs.Going.{wrote_one}
use Rattle.fk_region.proofs.chain.write.Goals as goal

pub writing-preserved : goal.writing-preserved
writing-preserved c =
    wrote_one c.args.blocks.now c.args.first c.args.bytes.now c.writing.blocks c.writing.at c.writing.rest.now c.split_at.result.0.now c.split_at.result.1.now c.fill.new.self c.writing.invariant
    (search rules)
    (c.split_at.ensures.front ∙ ap (λ n. take n c.writing.rest.now) c.min.ensures)
    (c.split_at.ensures.back ∙ ap (λ n. drop n c.writing.rest.now) c.min.ensures)
    c.fill.ensures

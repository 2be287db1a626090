use Rattle.fk_base.proofs.PathTexts.{names_text_more}
use Rattle.fk_base.proofs.path.Path.text.Goals as goal

pub writing-preserved : goal.writing-preserved
writing-preserved c =
    let more = names_text_more c.as_slice-name-items.result.now c.writing.name-index c.name-item.result c.writing-test.true c.name-item.is in
    cc (more, c.in_ok-push_str-2.ensures.ok, c.in_ok-push_str.ensures.ok, c.writing.invariant, c.as_str.ensures)

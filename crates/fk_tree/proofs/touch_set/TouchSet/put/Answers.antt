use Rattle.std.proofs.Common.{sym, ◌∙◌}
use Rattle.fk_tree.proofs.Indexing.{put_new, put_again, retouched}
use Rattle.fk_tree.proofs.touch_set.TouchSet.put.Goals as goal

pub returns-in_ok-push : goal.returns-in_ok-push
returns-in_ok-push c = put_new _ _ _ _ _ _ c.requires (λ u. retouched c.note.new.self c.push.new.self u ∙ c.in_ok-note.ensures.after u) (sym c.if-branch.true ∙ c.in_ok-note.ensures.fresh) c.in_ok-note.ensures.same (rw c.in_ok-copy.ensures at c.in_ok-push.ensures.ok)

pub returns-else-branch : goal.returns-else-branch
returns-else-branch c = put_again _ _ _ _ _ c.requires c.in_ok-note.ensures.after (sym c.if-branch.false ∙ c.in_ok-note.ensures.fresh) c.in_ok-note.ensures.same

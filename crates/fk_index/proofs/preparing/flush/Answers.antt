use Rattle.std.proofs.Common.{◌≡◌, subst, sym}
use Rattle.std.specs.Prelude.{OnOk}
use Rattle.fk_base.specs.Path.{PathNames}
use Rattle.fk_index.specs.Drafts.{node_over}
use Rattle.fk_index.specs.Waiting.{pended}
use Rattle.fk_index.proofs.preparing.flush.Goals as goal

pub returns-in-Some : goal.returns-in-Some
returns-in-Some c = subst (λ w. OnOk c.draft_edit.result ((p : PathNames) → node_over c.draft_edit.new.drafts c.args.slots.now p ≡ pended w p (node_over c.args.drafts.now c.args.slots.now p))) (sym c.in-Some.is) c.draft_edit.ensures

use Rattle.std.proofs.Common.{false}
use Rattle.std.proofs.lemmas.Result.{on_ok_weaker}
use Rattle.fk_tree.specs.Shown.{rows_view}
use Rattle.fk_tree.proofs.Showing.{put_shown}
use Rattle.fk_tree.proofs.rows.Rows.put.Goals as goal

pub returns-clause-ok : goal.returns-clause-ok
unfolding rows_view
returns-clause-ok c = on_ok_weaker c.put_node.result (λ e. put_shown c.args.self.now.slots.entries c.put_node.new.slots.entries c.args.path c.args.node (λ s. false) e) c.put_node.ensures.ok

use Rattle.fk_law.proofs.Stamping.{final_below_the_sweep, published_are_stamped, record_is_the_node}
use Rattle.fk_law.proofs.user_records.record_shows_the_tree.Goals as goal

pub returns-clause-stamped : goal.returns-clause-stamped
returns-clause-stamped c = published_are_stamped

pub returns-clause-node : goal.returns-clause-node
returns-clause-node c = record_is_the_node

pub returns-clause-stays : goal.returns-clause-stays
returns-clause-stays c = final_below_the_sweep

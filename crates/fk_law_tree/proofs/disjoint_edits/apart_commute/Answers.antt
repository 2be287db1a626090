use Rattle.fk_law_tree.proofs.Parting.{apart_commute}
use Rattle.fk_law_tree.proofs.disjoint_edits.apart_commute.Goals as goal

pub returns : goal.returns
returns c = apart_commute

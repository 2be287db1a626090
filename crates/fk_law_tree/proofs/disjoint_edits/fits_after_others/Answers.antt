use Rattle.fk_law_tree.proofs.Parting.{fits_after_others}
use Rattle.fk_law_tree.proofs.disjoint_edits.fits_after_others.Goals as goal

pub returns : goal.returns
returns c = fits_after_others

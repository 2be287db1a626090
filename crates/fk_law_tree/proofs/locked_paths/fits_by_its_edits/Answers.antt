use Rattle.fk_law_tree.proofs.Holding.{fits_by_its_edits}
use Rattle.fk_law_tree.proofs.locked_paths.fits_by_its_edits.Goals as goal

pub returns : goal.returns
returns c = fits_by_its_edits

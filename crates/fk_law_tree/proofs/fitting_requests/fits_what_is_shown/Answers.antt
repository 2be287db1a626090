use Rattle.fk_law_tree.proofs.Growing.{fits_what_is_shown}
use Rattle.fk_law_tree.proofs.fitting_requests.fits_what_is_shown.Goals as goal

pub returns : goal.returns
returns c = fits_what_is_shown

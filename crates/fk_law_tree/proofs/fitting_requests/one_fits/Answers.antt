use Rattle.fk_law_tree.proofs.Matching.{one_fits}
use Rattle.fk_law_tree.proofs.fitting_requests.one_fits.Goals as goal

pub returns : goal.returns
returns c = one_fits

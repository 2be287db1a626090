use Rattle.fk_law.proofs.Closes.{commit_fits_at_its_number, later_numbers_leave}
use Rattle.fk_law.proofs.commit_numbers.commit_fits_at_its_number.Goals as goal

pub returns-clause-fits : goal.returns-clause-fits
returns-clause-fits c = commit_fits_at_its_number

pub returns-clause-others : goal.returns-clause-others
returns-clause-others c = later_numbers_leave

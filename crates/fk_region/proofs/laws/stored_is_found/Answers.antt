use Rattle.fk_region.proofs.Keeping.{found_with}
use Rattle.fk_region.proofs.laws.stored_is_found.Goals as goal

pub returns : goal.returns
returns c = λ t bytes m. found_with (record { ticket = t; bytes = bytes }) m.kept

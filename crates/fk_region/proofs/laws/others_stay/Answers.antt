use Rattle.fk_region.proofs.Keeping.{others_with, others_without}
use Rattle.fk_region.proofs.laws.others_stay.Goals as goal

pub returns : goal.returns
returns c = λ t u m e. (λ bytes. others_with u (record { ticket = t; bytes = bytes }) m.kept e, others_without u t m.kept e)

use Rattle.std.proofs.Common.{refl}
use Rattle.fk_live.proofs.worked.new_desk_offers_turns.Goals as goal

pub returns : goal.returns
returns c = record { first = refl; second = refl; third = refl }

use Rattle.fk_agree_notify.proofs.Beating.{beat_is_fit}
use Rattle.fk_agree_notify.proofs.beats.beat_is_fit.Goals as goal

pub returns : goal.returns
returns c = beat_is_fit

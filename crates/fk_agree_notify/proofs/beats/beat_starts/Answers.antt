use Rattle.fk_agree_notify.proofs.Beating.{beat_starts}
use Rattle.fk_agree_notify.proofs.beats.beat_starts.Goals as goal

pub returns : goal.returns
returns c = beat_starts

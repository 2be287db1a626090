-- The messages of worked runs, evaluated.
use Rattle.std.proofs.Common.{refl}
use Rattle.std.specs.Fmt.{digits}
use Rattle.base64.specs.Rfc4648.{encode_symbols}
use Rattle.serde_json.proofs.OnLiterals.{serde_json_on_literals}
use Rattle.fk_stand.specs.Outcomes.{EvictionIsTold, LossIsTold, PartsAreSaid, RefusalIsTold}
use Rattle.fk_stand.specs.Worked.{CreateIsPushed, CreateIsSent, CreateIsTold, CreateTakesABlock, WatchIsTold}

pub create_sent : CreateIsSent
unfolding serde_json_on_literals digits encode_symbols
create_sent = refl

pub create_pushed : CreateIsPushed
unfolding serde_json_on_literals digits encode_symbols
create_pushed = refl

pub create_told : CreateIsTold
unfolding serde_json_on_literals digits
create_told = refl

pub create_blocks : CreateTakesABlock
unfolding serde_json_on_literals digits encode_symbols
create_blocks = (refl, refl)

pub watch_told : WatchIsTold
unfolding serde_json_on_literals digits
watch_told = (refl, refl)

pub refusal_told : RefusalIsTold
unfolding serde_json_on_literals digits
refusal_told = refl

pub loss_told : LossIsTold
unfolding serde_json_on_literals digits
loss_told = refl

pub eviction_told : EvictionIsTold
unfolding serde_json_on_literals digits encode_symbols
eviction_told = (refl, refl, refl, refl)

pub parts_said : PartsAreSaid
unfolding serde_json_on_literals digits encode_symbols
parts_said = (refl, refl)

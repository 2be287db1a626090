-- Entries that do not follow the entries before them, and are refused.
use Rattle.std.proofs.Common.{Bool, true, false, List, [], ◌∷◌, refl}
use Rattle.std.proofs.lemmas.Bool.{false≢true}
use Rattle.fk_print.specs.declared.line.Line.{Line}
use Rattle.fk_print.specs.declared.op.Op.{Op}
use Rattle.fk_print.specs.declared.op.Op.TheVariants as op
use Rattle.fk_refused.proofs.Telling.{apart}
use Rattle.fk_refused.specs.Rules.{BeatOfNoClient, DeliveryToNoClient, FailureOfNoClient, OtherLines, OtherOperation, TurnOfClientZero, TurnOfNoClient}

abbrev is_read : Op → Bool
is_read (op.Read session command stamp) = true
is_read _ = false

abbrev prints : List Line → Bool
prints [] = false
prints (l ∷ ls) = true

pub other_operation : OtherOperation
other_operation r = apart (λ x. is_read x.op) r.1.0 refl refl

pub other_lines : OtherLines
other_lines r = apart (λ x. prints x.lines) r.1.0 refl refl

pub turn_of_no_client : TurnOfNoClient
turn_of_no_client r = false≢true r.1.1

pub turn_of_client_zero : TurnOfClientZero
turn_of_client_zero r = false≢true r.1.1

pub delivery_to_no_client : DeliveryToNoClient
delivery_to_no_client r = false≢true r.1.1

pub beat_of_no_client : BeatOfNoClient
beat_of_no_client r = false≢true r.1.1

pub failure_of_no_client : FailureOfNoClient
failure_of_no_client r = false≢true r.1.1

-- Ends at which not all is answered, and are refused. Most change the run of a create in one drain.
use Rattle.std.proofs.Common.{ℕ, Bool, true, false, List, [], ◌∷◌, refl, sym}
use Rattle.std.proofs.lemmas.Bool.{false≢true}
use Rattle.fk_spec.specs.Lanes.{Message}
use Rattle.fk_refused.proofs.Telling.{apart, some_none}
use Rattle.fk_refused.specs.Unanswered.{CommandWithoutItsLine, FunctionInFlight, MessageIsLeft, NoteIsLeft, OtherClientIsAnswered, OtherCommandIsAnswered, PingIsOwed, PushIsLeft, RequestIsLeft, SecondClientWithoutItsLine, SecondCommandWithoutItsLine}

abbrev is_empty : List ℕ → Bool
is_empty [] = true
is_empty (n ∷ ns) = false

abbrev is_quiet : List Message → Bool
is_quiet [] = true
is_quiet (m ∷ ms) = false

pub command_without_its_line : CommandWithoutItsLine
command_without_its_line r = false≢true r.clients.0.commands.0

pub second_command_without_its_line : SecondCommandWithoutItsLine
second_command_without_its_line r = false≢true r.clients.0.commands.1.0

pub second_client_without_its_line : SecondClientWithoutItsLine
second_client_without_its_line r = false≢true r.clients.1.0.commands.0

pub other_command_is_answered : OtherCommandIsAnswered
other_command_is_answered r = false≢true r.clients.0.commands.0

pub other_client_is_answered : OtherClientIsAnswered
other_client_is_answered r = false≢true r.clients.0.commands.0

pub function_in_flight : FunctionInFlight
function_in_flight r = apart is_empty (sym r.functions) refl refl

pub push_is_left : PushIsLeft
push_is_left r = some_none r.leader

pub request_is_left : RequestIsLeft
request_is_left r = some_none r.clients.0.lane

pub message_is_left : MessageIsLeft
message_is_left r = apart is_quiet (sym r.clients.0.inbox) refl refl

pub note_is_left : NoteIsLeft
note_is_left r = some_none r.watch

pub ping_is_owed : PingIsOwed
ping_is_owed r = apart is_empty (sym r.clients.0.pings) refl refl

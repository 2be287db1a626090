-- A client of the machine, as the rules know it: it makes the rules' operation, and comes to the rules' client.
use Rattle.std.specs.Prelude.{◌≡◌, List, [], ◌∷◌, Option, Some, None}
use Rattle.fk_print.specs.declared.op.Op.{Op}
use Rattle.fk_spec.specs.Client.{Client, Result, Sent, acted, by_result, flushed, op_of_client}
use Rattle.fk_spec.specs.Sight.{Sight}
use Rattle.fk_client.specs.Known.{by_outcome, known}
use Rattle.fk_client.specs.declared.unanswered.Outcome.{Outcome}
use Rattle.fk_client.specs.declared.unanswered.Unanswered.{Unanswered}

abbrev pub sent_known : Unanswered → Sent
sent_known s = record { command = s.command; k = s.k; result = known s.outcome }

abbrev pub all_known : List Unanswered → List Sent
all_known [] = []
all_known (s ∷ ss) = sent_known s ∷ all_known ss

-- what the rules know of a client: all but what its commits told beside their number
abbrev pub client_known : Client Unanswered → Client Sent
client_known x = record {
  begun = x.begun;
  sent = all_known x.sent;
  held = x.held;
  owed = x.owed;
  reading = x.reading;
  closed = x.closed;
}

abbrev pub told_known : Option Outcome → Option Result
told_known None = None
told_known (Some o) = Some (known o)

-- It makes the operation that the rules' client makes.
abbrev pub MakesTheSameOp : Type 0
MakesTheSameOp = (s : Sight) (x : Client Unanswered)
    → op_of_client by_outcome s x ≡ op_of_client by_result s (client_known x)

-- After each operation the rules know of it what their client comes to.
abbrev pub ComesToTheSame : Type 0
ComesToTheSame = (s : Sight) (told : Option Outcome) (o : Op) (x : Client Unanswered)
    → client_known (flushed by_outcome (acted by_outcome s told o x))
    ≡ flushed by_result (acted by_result s (told_known told) o (client_known x))

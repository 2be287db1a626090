-- Where a client has the commands from that it keeps after one of its operations.
use Rattle.std.specs.Prelude.{◌≡◌, ℕ, true, List, Option, Some, None}
use Rattle.fk_base.specs.declared.code.Code.TheVariants as code
use Rattle.fk_print.specs.declared.entry.Entry.{Entry}
use Rattle.fk_print.specs.declared.op.Op.{Op}
use Rattle.fk_print.specs.declared.op.Op.TheVariants as op
use Rattle.fk_spec.specs.Plan.{Plan, asked}
use Rattle.fk_spec.specs.Shown.{seen_by}
use Rattle.fk_spec.specs.Settling.{Outcome}
use Rattle.fk_spec.specs.Client.{client_of, is_open, is_unfit, local_result, Open, Plain, Sent, Settled}
use Rattle.fk_law_client.specs.Lines.{IsAmong, kept_after}

-- the command that an operation of client c, which has seen this number, begins and keeps
abbrev pub begun_by : Plan → ℕ → ℕ → Op → Option Sent
begun_by p c seen (op.Send session command k) = Some (record { command = command; k = k; result = Open })
begun_by p c seen (op.SendFault session command) = Some (record { command = command; k = 0; result = Plain code.ConnectionLoss })
begun_by p c seen (op.Local session command) = Some (record { command = command; k = 0; result = local_result (is_unfit (asked p c command)) seen })
begun_by p c seen _ = None

-- the client was told the outcome of this command, of which it knew nothing
pub record WasTold (p : Plan) (c : ℕ) (h : List Entry) (s : Sent) : Type 0 where
  pub sent : Sent
  pub among : IsAmong sent (client_of p c h).sent
  pub unknown : is_open sent.result ≡ true
  pub outcome : Outcome
  pub told : s ≡ record sent { result = Settled outcome }

-- A kept command was kept before, or its outcome was told now, or it was begun now.
pub data KeptFrom (p : Plan) (c : ℕ) (h : List Entry) (o : Op) (s : Sent) : Type 0 where
  Before : IsAmong s (client_of p c h).sent → KeptFrom p c h o s
  Told : WasTold p c h s → KeptFrom p c h o s
  Begun : begun_by p c (seen_by c h) o ≡ Some s → KeptFrom p c h o s

abbrev pub KeptCommandsHaveTheirSource : Type 0
KeptCommandsHaveTheirSource = (p : Plan) (c : ℕ) (h : List Entry) (o : Op) (s : Sent) → IsAmong s (kept_after p c h o) → KeptFrom p c h o s

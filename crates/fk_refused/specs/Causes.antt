-- Refusals that have no cause, and are refused. The first change the run of a create under a missing parent, whose
-- reply stands at place 0 and whose sending at 9.
use Rattle.std.specs.Prelude.{true, false, List, [], ◌∷◌, codes}
use Rattle.fk_print.specs.declared.line.Line.{Line}
use Rattle.fk_print.specs.declared.line.Shown.{Shown}
use Rattle.fk_script.specs.declared.deployment.Deployment.{Deployment}
use Rattle.fk_spec.specs.Plan.{plan_of}
use Rattle.fk_spec.specs.Refusals.{RefusalsFit}
use Rattle.fk_spec.specs.Scenarios.{creating, entry, orphan_entries, no_path_entries}
use Rattle.fk_refused.specs.Changing.{printing, doing, starting_from, two_clients, only_printing}
use Rattle.fk_base.specs.declared.code.Code.TheVariants as code
use Rattle.fk_print.specs.declared.event.Event.TheVariants as event
use Rattle.fk_print.specs.declared.line.Act.TheVariants as act
use Rattle.fk_print.specs.declared.line.Line.TheVariants as line
use Rattle.fk_print.specs.declared.line.Shown.TheVariants as shown
use Rattle.fk_print.specs.declared.line.Verb.TheVariants as verb
use Rattle.fk_print.specs.declared.op.Op.TheVariants as op
use Rattle.fk_script.specs.declared.command.Command.TheVariants as command
use Rattle.fk_spec.specs.OwnWatch as own
use Rattle.fk_spec.specs.CreateThenGet as got
use Rattle.fk_spec.specs.Failures as failing

-- the create is answered by this
abbrev pub answered : Shown → List Line
answered s = line.Reply 1 1 verb.Create s ∷ []

-- a client reads the root twice; the other creates `/x`
abbrev pub twice_read : Deployment
twice_read = two_clients (command.Ls (codes "/") false ∷ command.Ls (codes "/") false ∷ []) (command.Create (codes "/x") [] false false true ∷ [])

-- its session was closed by transaction 1, and it has read tree 2
abbrev pub closed_and_read : List Line
closed_and_read = line.Reply 1 1 verb.Ls (shown.Listed 2 (codes "x" ∷ []))
    ∷ line.Tx (record { tx = 2; moment = 0; session = 2; k = 1; act = act.Create (codes "x" ∷ []) [] false false })
    ∷ line.Tx (record { tx = 1; moment = 0; session = 1; k = 1; act = act.Close true [] })
    ∷ []

-- A command that fits is refused for its arguments.
abbrev pub BadArgumentsThatFit : Type 0
BadArgumentsThatFit = RefusalsFit (plan_of (creating (codes "/m/y") (codes "v"))) (printing 0 (answered (shown.Plain code.BadArguments)) orphan_entries) → ⊥

-- A command that does not fit is refused with another code.
abbrev pub UnfitIsRefusedOtherwise : Type 0
UnfitIsRefusedOtherwise = RefusalsFit (plan_of (creating (codes "x") (codes "v"))) (printing 0 (answered (shown.Refused code.NoNode 0 0)) no_path_entries) → ⊥

-- A command that does not fit is done.
abbrev pub UnfitIsDone : Type 0
UnfitIsDone = RefusalsFit (plan_of (creating (codes "x") (codes "v"))) (printing 0 (answered (shown.Created 0 (codes "x" ∷ []))) no_path_entries) → ⊥

-- A refusal has a code that the tree does not give.
abbrev pub OtherCode : Type 0
OtherCode = RefusalsFit (plan_of (creating (codes "/m/y") (codes "v"))) (printing 0 (answered (shown.Refused code.NodeExists 0 0)) orphan_entries) → ⊥

-- A refusal of a single request shows a place.
abbrev pub OtherPlace : Type 0
OtherPlace = RefusalsFit (plan_of (creating (codes "/m/y") (codes "v"))) (printing 0 (answered (shown.Refused code.NoNode 0 1)) orphan_entries) → ⊥

-- A command is refused that was not sent.
abbrev pub RefusedUnsent : Type 0
RefusedUnsent = RefusalsFit (plan_of (creating (codes "/m/y") (codes "v"))) (doing 9 op.Idle orphan_entries) → ⊥

-- A command is refused where another was sent.
abbrev pub OtherWasSent : Type 0
OtherWasSent = RefusalsFit (plan_of (creating (codes "/m/y") (codes "v"))) (doing 9 (op.Send 1 2 1) orphan_entries) → ⊥

-- A command is refused where another client sent its own.
abbrev pub OtherClientSent : Type 0
OtherClientSent = RefusalsFit (plan_of (creating (codes "/m/y") (codes "v"))) (doing 9 (op.Send 2 1 1) orphan_entries) → ⊥

-- A refusal speaks of a tree below the one that its client had seen.
abbrev pub BelowWhatWasSeen : Type 0
BelowWhatWasSeen = RefusalsFit (plan_of own.deployed) (printing 0 (line.Reply 1 3 verb.Set (shown.Refused code.NoNode 0 0) ∷ []) own.entries) → ⊥

-- A read is refused for a session that is not closed.
abbrev pub ExpiredWhileOpen : Type 0
ExpiredWhileOpen = RefusalsFit (plan_of got.deployed) (printing 0 (line.Reply 1 2 verb.Get (shown.Refused code.SessionExpired 1 0) ∷ []) got.entries) → ⊥

-- A read is refused for its closed session at a tree below the one that its client had seen.
abbrev pub ExpiredBelowWhatWasSeen : Type 0
ExpiredBelowWhatWasSeen = RefusalsFit (plan_of twice_read) (entry (event.Client 1) (op.Local 1 2) (line.Reply 1 2 verb.Ls (shown.Refused code.SessionExpired 1 0) ∷ []) ∷ only_printing closed_and_read) → ⊥

-- A command is answered with a lost connection where its sending did not fail.
abbrev pub LossWithoutAFault : Type 0
LossWithoutAFault = RefusalsFit (plan_of failing.deployed) (doing 0 op.Idle (starting_from 25 failing.entries)) → ⊥

-- A command is answered with a lost connection where the sending of another failed.
abbrev pub LossOfAnotherCommand : Type 0
LossOfAnotherCommand = RefusalsFit (plan_of failing.deployed) (doing 0 (op.SendFault 1 2) (starting_from 25 failing.entries)) → ⊥

-- A command is answered with a lost connection where the sending of another client failed.
abbrev pub LossOfAnotherClient : Type 0
LossOfAnotherClient = RefusalsFit (plan_of failing.deployed) (doing 0 (op.SendFault 2 1) (starting_from 25 failing.entries)) → ⊥

-- A command is answered with a lost connection before its sending failed.
abbrev pub FaultBehindItsLoss : Type 0
FaultBehindItsLoss = RefusalsFit (plan_of failing.deployed) (entry (event.FailClient 1) (op.SendFault 1 1) [] ∷ doing 0 op.Idle (starting_from 25 failing.entries)) → ⊥

-- A read is answered with an error of a service where none failed.
abbrev pub ErrorWithoutAFault : Type 0
ErrorWithoutAFault = RefusalsFit (plan_of failing.deployed) (doing 0 op.Idle (starting_from 24 failing.entries)) → ⊥

-- A read is answered with an error of a service where the read of another command failed.
abbrev pub ErrorOfAnotherCommand : Type 0
ErrorOfAnotherCommand = RefusalsFit (plan_of failing.deployed) (doing 0 (op.ReadFault 1 3) (starting_from 24 failing.entries)) → ⊥

-- A read is answered with an error of a service where the read of another client failed.
abbrev pub ErrorOfAnotherClient : Type 0
ErrorOfAnotherClient = RefusalsFit (plan_of failing.deployed) (doing 0 (op.ReadFault 2 2) (starting_from 24 failing.entries)) → ⊥

-- A command is answered with a code of the tree that speaks of no number.
abbrev pub CodeOfNoNumber : Type 0
CodeOfNoNumber = RefusalsFit (plan_of failing.deployed) (printing 0 (line.Reply 1 1 verb.Create (shown.Plain code.NoNode) ∷ []) (starting_from 25 failing.entries)) → ⊥

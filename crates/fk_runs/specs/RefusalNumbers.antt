-- Refusals speak of the tree that they were checked on. Each entry is copied from the printed history of
-- the case `numbers-of-refusals`.
use Rattle.std.specs.Prelude.{pos, negsuc, true, false, List, [], ◌∷◌, codes}
use Rattle.fk_base.specs.declared.code.Code.TheVariants as code
use Rattle.fk_print.specs.declared.entry.Entry.{Entry}
use Rattle.fk_print.specs.declared.event.Event.TheVariants as event
use Rattle.fk_print.specs.declared.line.Act.TheVariants as act
use Rattle.fk_print.specs.declared.line.Line.TheVariants as line
use Rattle.fk_print.specs.declared.line.Shown.TheVariants as shown
use Rattle.fk_print.specs.declared.line.Verb.TheVariants as verb
use Rattle.fk_print.specs.declared.op.Op.TheVariants as op
use Rattle.fk_script.specs.declared.command.Command.TheVariants as command
use Rattle.fk_script.specs.declared.deployment.Deployment.{Deployment}
use Rattle.fk_script.specs.declared.deployment.Turn.TheVariants as turn
use Rattle.fk_spec.specs.Scenarios.{entry}
use Rattle.fk_spec.specs.Schedule.{Answered, Scheduled}
use Rattle.fk_runs.specs.Playing.{IsPlayed}

abbrev pub deployed : Deployment
deployed = record { config = record { lock = 10; beat = 30 }; clients = (record { name = (codes "a"); commands = ((command.Create (codes "/x") (codes "0") false false true) ∷ (command.Set (codes "/x") (codes "1") (negsuc 0) false) ∷ (command.Set (codes "/z") (codes "1") (pos 9) false) ∷ []) } ∷ record { name = (codes "b"); commands = ((command.Create (codes "/x") (codes "1") false false true) ∷ (command.Set (codes "/z") [] (pos 1) true) ∷ []) } ∷ record { name = (codes "c"); commands = ((command.Create (codes "/x") (codes "2") false false true) ∷ []) } ∷ record { name = (codes "d"); commands = ((command.Create (codes "/q") (codes "1") false false true) ∷ []) } ∷ record { name = (codes "e"); commands = ((command.Create (codes "/x") (codes "3") false false true) ∷ (command.Set (codes "/x") [] (pos 9) true) ∷ []) } ∷ record { name = (codes "f"); commands = ((command.Set (codes "/x") [] (pos 9) true) ∷ []) } ∷ []); turns = ((turn.One (event.Client 1)) ∷ (turn.One (event.Deliver 1)) ∷ (turn.One (event.Step 1)) ∷ (turn.One (event.Step 1)) ∷ (turn.One (event.Step 1)) ∷ (turn.One (event.Step 1)) ∷ (turn.One (event.Step 1)) ∷ (turn.One (event.Step 1)) ∷ (turn.One (event.Step 1)) ∷ (turn.One event.Leader) ∷ (turn.One (event.Step 2)) ∷ (turn.One (event.Step 2)) ∷ (turn.One (event.Step 2)) ∷ (turn.One (event.Step 2)) ∷ (turn.One (event.Step 2)) ∷ (turn.One (event.Step 2)) ∷ (turn.One (event.Step 2)) ∷ (turn.One (event.Step 2)) ∷ (turn.One (event.Step 2)) ∷ (turn.One (event.Step 2)) ∷ (turn.One (event.Step 2)) ∷ (turn.One (event.Step 2)) ∷ (turn.One (event.Client 1)) ∷ (turn.One (event.Client 1)) ∷ (turn.One (event.Client 1)) ∷ (turn.One (event.Client 1)) ∷ (turn.One (event.Deliver 1)) ∷ (turn.One (event.Step 3)) ∷ (turn.One (event.Step 3)) ∷ (turn.One (event.Step 3)) ∷ (turn.One (event.Step 3)) ∷ (turn.One (event.Step 3)) ∷ (turn.One (event.Step 3)) ∷ (turn.One (event.Deliver 1)) ∷ (turn.One (event.Step 4)) ∷ (turn.One (event.Step 4)) ∷ (turn.One (event.Step 4)) ∷ (turn.One (event.Step 4)) ∷ (turn.One (event.Step 4)) ∷ (turn.One (event.Client 3)) ∷ (turn.One (event.Deliver 3)) ∷ (turn.One (event.Step 5)) ∷ (turn.One (event.Step 5)) ∷ (turn.One (event.Step 5)) ∷ (turn.One (event.Step 5)) ∷ (turn.One (event.Step 5)) ∷ (turn.One (event.Step 5)) ∷ (turn.One (event.Client 2)) ∷ (turn.One (event.Deliver 2)) ∷ (turn.One (event.Step 6)) ∷ (turn.One (event.Step 6)) ∷ (turn.One (event.Step 6)) ∷ (turn.One (event.Step 6)) ∷ (turn.One (event.Step 6)) ∷ (turn.One (event.Step 6)) ∷ (turn.One event.Leader) ∷ (turn.One (event.Step 7)) ∷ (turn.One (event.Step 7)) ∷ (turn.One (event.Step 7)) ∷ (turn.One (event.Step 7)) ∷ (turn.One (event.Step 7)) ∷ (turn.One (event.Step 7)) ∷ (turn.One (event.Step 7)) ∷ (turn.One (event.Step 7)) ∷ (turn.One (event.Step 7)) ∷ (turn.One (event.Step 7)) ∷ (turn.One (event.Client 1)) ∷ (turn.One (event.Client 1)) ∷ (turn.One (event.Client 1)) ∷ (turn.One (event.Client 1)) ∷ (turn.One (event.Client 3)) ∷ (turn.One (event.Client 3)) ∷ (turn.One (event.Client 2)) ∷ (turn.One (event.Client 2)) ∷ (turn.One (event.Client 2)) ∷ (turn.One (event.Client 2)) ∷ []); scheduled = true }

-- the newest first
abbrev pub entries : List Entry
entries = entry (event.Client 6) (op.LookOk 6 1 3) ((line.Reply 6 1 verb.Set (shown.Refused code.BadVersion 2 0)) ∷ [])
    ∷ entry (event.Client 6) (op.TakeRefused 6 1) []
    ∷ entry (event.Step 13) (op.AckOk 13) []
    ∷ entry (event.Step 13) (op.Reply 13 6 1) []
    ∷ entry (event.Step 13) (op.RefuseOk 13 code.BadVersion 0 2) []
    ∷ entry (event.Step 13) (op.LockOk 13 ((codes "x") ∷ [])) []
    ∷ entry (event.Step 13) (op.SessionNew 13) []
    ∷ entry (event.Deliver 6) (op.Follower 13 6 1) []
    ∷ entry (event.Client 6) (op.Send 6 1 1) []
    ∷ entry (event.Client 5) (op.LookOk 5 2 3) ((line.Reply 5 2 verb.Set (shown.Refused code.BadVersion 3 0)) ∷ [])
    ∷ entry (event.Client 5) (op.TakeRefused 5 2) []
    ∷ entry (event.Step 12) (op.AckOk 12) []
    ∷ entry (event.Step 12) (op.Reply 12 5 2) []
    ∷ entry (event.Step 12) (op.RefuseOk 12 code.BadVersion 0 3) []
    ∷ entry (event.Step 12) (op.LockOk 12 ((codes "x") ∷ [])) []
    ∷ entry (event.Step 12) (op.SessionNew 12) []
    ∷ entry (event.Deliver 5) (op.Follower 12 5 2) []
    ∷ entry (event.Client 5) (op.Send 5 2 2) []
    ∷ entry (event.Client 5) (op.LookOk 5 1 3) ((line.Reply 5 1 verb.Create (shown.Refused code.NodeExists 3 0)) ∷ [])
    ∷ entry (event.Client 5) (op.TakeRefused 5 1) []
    ∷ entry (event.Step 11) (op.AckOk 11) []
    ∷ entry (event.Step 11) (op.Reply 11 5 1) []
    ∷ entry (event.Step 11) (op.RefuseOk 11 code.NodeExists 0 3) []
    ∷ entry (event.Step 11) (op.LockOk 11 ((codes "x") ∷ [])) []
    ∷ entry (event.Step 11) (op.LockOk 11 []) []
    ∷ entry (event.Step 11) (op.SessionNew 11) []
    ∷ entry (event.Deliver 5) (op.Follower 11 5 1) []
    ∷ entry (event.Client 5) (op.Send 5 1 1) []
    ∷ entry (event.Client 4) (op.LookOk 4 1 3) ((line.Reply 4 1 verb.Create (shown.Created 3 ((codes "q") ∷ []))) ∷ [])
    ∷ entry (event.Client 4) (op.TakeDone 4 1 3) []
    ∷ entry (event.Step 10) (op.AckOk 10) []
    ∷ entry (event.Step 10) (op.DoneOk 10 3) []
    ∷ entry (event.Step 10) (op.Reply 10 4 1) []
    ∷ entry (event.Step 10) (op.PublishOk 10 3) ((line.Tx (record { tx = 3; moment = 11; session = 4; k = 1; act = act.Create ((codes "q") ∷ []) (codes "1") false false })) ∷ [])
    ∷ entry (event.Step 10) (op.PutOk 10 3 ((codes "q") ∷ [])) []
    ∷ entry (event.Step 10) (op.PutOk 10 3 []) []
    ∷ entry (event.Step 10) (op.SweepOk 10 3 0) []
    ∷ entry (event.Step 10) (op.PendingYes 10 3) []
    ∷ entry (event.Step 10) (op.CommitSettled 10 3 1) []
    ∷ entry event.Leader (op.Leader 10 3) []
    ∷ entry (event.Step 9) (op.AckOk 9) []
    ∷ entry (event.Step 9) (op.CommitOk 9 3) []
    ∷ entry (event.Step 9) (op.Push 9 3) []
    ∷ entry (event.Step 9) (op.LockOk 9 ((codes "q") ∷ [])) []
    ∷ entry (event.Step 9) (op.LockOk 9 []) []
    ∷ entry (event.Step 9) (op.SessionNew 9) []
    ∷ entry (event.Deliver 4) (op.Follower 9 4 1) []
    ∷ entry (event.Client 4) (op.Send 4 1 1) []
    ∷ entry (event.Client 2) (op.LookOk 2 2 2) ((line.Reply 2 2 verb.Set (shown.Refused code.NoNode 2 0)) ∷ [])
    ∷ entry (event.Client 2) (op.TakeRefused 2 2) []
    ∷ entry (event.Step 8) (op.AckOk 8) []
    ∷ entry (event.Step 8) (op.Reply 8 2 2) []
    ∷ entry (event.Step 8) (op.RefuseOk 8 code.NoNode 0 2) []
    ∷ entry (event.Step 8) (op.LockOk 8 ((codes "z") ∷ [])) []
    ∷ entry (event.Step 8) (op.SessionNew 8) []
    ∷ entry (event.Deliver 2) (op.Follower 8 2 2) []
    ∷ entry (event.Clock 11) (op.Clock 11) []
    ∷ entry (event.Client 2) op.Idle []
    ∷ entry (event.Client 2) (op.Send 2 2 2) []
    ∷ entry (event.Client 2) (op.LookOk 2 1 2) ((line.Reply 2 1 verb.Create (shown.Refused code.NodeExists 2 0)) ∷ [])
    ∷ entry (event.Client 2) (op.TakeRefused 2 1) []
    ∷ entry (event.Client 3) (op.LookOk 3 1 2) ((line.Reply 3 1 verb.Create (shown.Refused code.NodeExists 2 0)) ∷ [])
    ∷ entry (event.Client 3) (op.TakeRefused 3 1) []
    ∷ entry (event.Client 1) (op.LookOk 1 3 2) ((line.Reply 1 3 verb.Set (shown.Refused code.NoNode 2 0)) ∷ [])
    ∷ entry (event.Client 1) (op.LookOk 1 2 2) ((line.Reply 1 2 verb.Set (shown.Version 2 1)) ∷ [])
    ∷ entry (event.Client 1) (op.TakeDone 1 2 2) []
    ∷ entry (event.Client 1) (op.TakeRefused 1 3) []
    ∷ entry (event.Step 7) op.Idle []
    ∷ entry (event.Step 7) op.Idle []
    ∷ entry (event.Step 7) (op.AckOk 7) []
    ∷ entry (event.Step 7) (op.DoneOk 7 2) []
    ∷ entry (event.Step 7) (op.Reply 7 1 2) []
    ∷ entry (event.Step 7) (op.PublishOk 7 2) ((line.Tx (record { tx = 2; moment = 0; session = 1; k = 2; act = act.Set ((codes "x") ∷ []) (codes "1") (negsuc 0) })) ∷ [])
    ∷ entry (event.Step 7) (op.PutOk 7 2 ((codes "x") ∷ [])) []
    ∷ entry (event.Step 7) (op.SweepOk 7 2 0) []
    ∷ entry (event.Step 7) (op.PendingYes 7 2) []
    ∷ entry (event.Step 7) (op.CommitSettled 7 2 3) []
    ∷ entry event.Leader (op.Leader 7 2) []
    ∷ entry (event.Step 6) (op.AckOk 6) []
    ∷ entry (event.Step 6) (op.Reply 6 2 1) []
    ∷ entry (event.Step 6) (op.RefuseOk 6 code.NodeExists 0 2) []
    ∷ entry (event.Step 6) (op.LockOk 6 ((codes "x") ∷ [])) []
    ∷ entry (event.Step 6) (op.LockOk 6 []) []
    ∷ entry (event.Step 6) (op.SessionNew 6) []
    ∷ entry (event.Deliver 2) (op.Follower 6 2 1) []
    ∷ entry (event.Client 2) (op.Send 2 1 1) []
    ∷ entry (event.Step 5) (op.AckOk 5) []
    ∷ entry (event.Step 5) (op.Reply 5 3 1) []
    ∷ entry (event.Step 5) (op.RefuseOk 5 code.NodeExists 0 2) []
    ∷ entry (event.Step 5) (op.LockOk 5 ((codes "x") ∷ [])) []
    ∷ entry (event.Step 5) (op.LockOk 5 []) []
    ∷ entry (event.Step 5) (op.SessionNew 5) []
    ∷ entry (event.Deliver 3) (op.Follower 5 3 1) []
    ∷ entry (event.Client 3) (op.Send 3 1 1) []
    ∷ entry (event.Step 4) (op.AckOk 4) []
    ∷ entry (event.Step 4) (op.Reply 4 1 3) []
    ∷ entry (event.Step 4) (op.RefuseOk 4 code.NoNode 0 2) []
    ∷ entry (event.Step 4) (op.LockOk 4 ((codes "z") ∷ [])) []
    ∷ entry (event.Step 4) (op.SessionNew 4) []
    ∷ entry (event.Deliver 1) (op.Follower 4 1 3) []
    ∷ entry (event.Step 3) op.Idle []
    ∷ entry (event.Step 3) (op.AckOk 3) []
    ∷ entry (event.Step 3) (op.CommitOk 3 2) []
    ∷ entry (event.Step 3) (op.Push 3 2) []
    ∷ entry (event.Step 3) (op.LockOk 3 ((codes "x") ∷ [])) []
    ∷ entry (event.Step 3) (op.SessionNew 3) []
    ∷ entry (event.Deliver 1) (op.Follower 3 1 2) []
    ∷ entry (event.Client 1) (op.Send 1 3 3) []
    ∷ entry (event.Client 1) (op.Send 1 2 2) []
    ∷ entry (event.Client 1) (op.LookOk 1 1 1) ((line.Reply 1 1 verb.Create (shown.Created 1 ((codes "x") ∷ []))) ∷ [])
    ∷ entry (event.Client 1) (op.TakeDone 1 1 1) []
    ∷ entry (event.Step 2) op.Idle []
    ∷ entry (event.Step 2) op.Idle []
    ∷ entry (event.Step 2) op.Idle []
    ∷ entry (event.Step 2) (op.AckOk 2) []
    ∷ entry (event.Step 2) (op.DoneOk 2 1) []
    ∷ entry (event.Step 2) (op.Reply 2 1 1) []
    ∷ entry (event.Step 2) (op.PublishOk 2 1) ((line.Tx (record { tx = 1; moment = 0; session = 1; k = 1; act = act.Create ((codes "x") ∷ []) (codes "0") false false })) ∷ [])
    ∷ entry (event.Step 2) (op.PutOk 2 1 ((codes "x") ∷ [])) []
    ∷ entry (event.Step 2) (op.PutOk 2 1 []) []
    ∷ entry (event.Step 2) (op.SweepOk 2 1 0) []
    ∷ entry (event.Step 2) (op.PendingYes 2 1) []
    ∷ entry (event.Step 2) (op.CommitSettled 2 1 1) []
    ∷ entry event.Leader (op.Leader 2 1) []
    ∷ entry (event.Step 1) op.Idle []
    ∷ entry (event.Step 1) (op.AckOk 1) []
    ∷ entry (event.Step 1) (op.CommitOk 1 1) []
    ∷ entry (event.Step 1) (op.Push 1 1) []
    ∷ entry (event.Step 1) (op.LockOk 1 ((codes "x") ∷ [])) []
    ∷ entry (event.Step 1) (op.LockOk 1 []) []
    ∷ entry (event.Step 1) (op.SessionNew 1) []
    ∷ entry (event.Deliver 1) (op.Follower 1 1 1) []
    ∷ entry (event.Client 1) (op.Send 1 1 1) []
    ∷ []

abbrev pub RefusalNumbersIsPlayed : Type 0
RefusalNumbersIsPlayed = IsPlayed deployed entries

-- its events are the deployment's turns and a last drain,
abbrev pub RefusalNumbersIsScheduled : Type 0
RefusalNumbersIsScheduled = Scheduled deployed entries

-- and all is answered
abbrev pub RefusalNumbersIsAnswered : Type 0
RefusalNumbersIsAnswered = Answered deployed entries

-- Paths and data at their limits, and beyond them. Each entry is copied from the printed history of
-- the case `at-the-limits`.
use Rattle.std.specs.Prelude.{negsuc, true, false, List, [], ◌∷◌, ◌++◌, codes}
use Rattle.fk_base.specs.declared.code.Code.TheVariants as code
use Rattle.fk_tree.specs.declared.reply.PartReply.TheVariants as part_reply
use Rattle.fk_tree.specs.declared.request.Part.TheVariants as part
use Rattle.fk_print.specs.declared.entry.Entry.{Entry}
use Rattle.fk_print.specs.declared.event.Event.TheVariants as event
use Rattle.fk_print.specs.declared.line.Act.TheVariants as act
use Rattle.fk_print.specs.declared.line.Line.TheVariants as line
use Rattle.fk_print.specs.declared.line.Shown.TheVariants as shown
use Rattle.fk_print.specs.declared.line.Verb.TheVariants as verb
use Rattle.fk_print.specs.declared.op.Op.TheVariants as op
use Rattle.fk_script.specs.declared.command.Command.TheVariants as command
use Rattle.fk_script.specs.declared.command.PartCommand.TheVariants as part_command
use Rattle.fk_script.specs.declared.deployment.Deployment.{Deployment}
use Rattle.fk_spec.specs.Scenarios.{entry}
use Rattle.fk_spec.specs.Schedule.{Answered, Scheduled}
use Rattle.fk_runs.specs.Playing.{IsPlayed, many}

abbrev pub deployed : Deployment
deployed = record { config = record { lock = 10; beat = 30 }; clients = (record { name = (codes "a"); commands = ((command.Create (codes "/big") (122 ∷ many 16383 122) false false true) ∷ (command.Create (codes "/big") (122 ∷ many 16384 122) false false true) ∷ (command.Create (47 ∷ many 501 115) (codes "1") true false true) ∷ (command.Create (47 ∷ many 502 115) (codes "1") true false true) ∷ (command.Create (47 ∷ many 511 112) (codes "1") false false true) ∷ (command.Create (47 ∷ many 512 112) (codes "1") false false true) ∷ (command.Delete (codes "/") (negsuc 0) true) ∷ (command.Multi ((part_command.Create (47 ∷ many 511 113) (codes "1") false) ∷ (part_command.Set (codes "/") (codes "5") (negsuc 0)) ∷ []) true) ∷ (command.Multi ((part_command.Create (47 ∷ many 512 113) (codes "1") false) ∷ []) true) ∷ (command.Multi ((part_command.Set (codes "/") (codes "5") (negsuc 0)) ∷ (part_command.Delete (codes "/") (negsuc 0)) ∷ []) true) ∷ (command.Multi ((part_command.Set (codes "/") (codes "6") (negsuc 0)) ∷ (part_command.Set (codes "/") (codes "7") (negsuc 0)) ∷ []) true) ∷ (command.Multi ((part_command.Create (codes "/m1") (codes "1") false) ∷ (part_command.Create (codes "/m2") (codes "2") false) ∷ []) false) ∷ (command.Set (codes "/") (codes "8") (negsuc 0) false) ∷ (command.Ls (codes "/") false) ∷ []) } ∷ []); turns = []; scheduled = false }

-- the newest first
abbrev pub entries : List Entry
entries = entry (event.Client 1) (op.LookOk 1 14 7) ((line.Reply 1 14 verb.Ls (shown.Listed 7 ((codes "big") ∷ (codes "m1") ∷ (codes "m2") ∷ (112 ∷ many 510 112) ∷ (113 ∷ many 510 113) ∷ (115 ∷ many 500 115 ++ codes "0000000001") ∷ []))) ∷ [])
    ∷ entry (event.Client 1) (op.Read 1 14 7) []
    ∷ entry (event.Client 1) (op.LookOk 1 13 7) ((line.Reply 1 13 verb.Set (shown.Version 7 4)) ∷ [])
    ∷ entry (event.Client 1) (op.TakeDone 1 7 7) []
    ∷ entry (event.Step 14) (op.AckOk 14) []
    ∷ entry (event.Step 14) (op.DoneOk 14 7) []
    ∷ entry (event.Step 14) (op.Reply 14 1 7) []
    ∷ entry (event.Step 14) (op.PublishOk 14 7) ((line.Tx (record { tx = 7; moment = 11; session = 1; k = 7; act = act.Set [] (codes "8") (negsuc 0) })) ∷ [])
    ∷ entry (event.Step 14) (op.PutOk 14 7 []) []
    ∷ entry (event.Step 14) (op.SweepOk 14 7 0) []
    ∷ entry (event.Step 14) (op.PendingYes 14 7) []
    ∷ entry (event.Step 14) (op.CommitSettled 14 7 7) []
    ∷ entry event.Leader (op.Leader 14 7) []
    ∷ entry (event.Step 13) (op.AckOk 13) []
    ∷ entry (event.Step 13) (op.CommitOk 13 7) []
    ∷ entry (event.Step 13) (op.Push 13 7) []
    ∷ entry (event.Step 13) (op.LockOk 13 []) []
    ∷ entry (event.Step 13) (op.SessionNew 13) []
    ∷ entry (event.Deliver 1) (op.Follower 13 1 7) []
    ∷ entry (event.Client 1) (op.Send 1 13 7) []
    ∷ entry (event.Client 1) (op.LookOk 1 12 6) ((line.Reply 1 12 verb.Multi (shown.Multi 6 ((part_reply.Created ((codes "m1") ∷ [])) ∷ (part_reply.Created ((codes "m2") ∷ [])) ∷ []))) ∷ [])
    ∷ entry (event.Client 1) (op.TakeDone 1 6 6) []
    ∷ entry (event.Step 12) (op.AckOk 12) []
    ∷ entry (event.Step 12) (op.DoneOk 12 6) []
    ∷ entry (event.Step 12) (op.Reply 12 1 6) []
    ∷ entry (event.Step 12) (op.PublishOk 12 6) ((line.Tx (record { tx = 6; moment = 11; session = 1; k = 6; act = act.Multi ((part.Create ((codes "m1") ∷ []) (codes "1") false) ∷ (part.Create ((codes "m2") ∷ []) (codes "2") false) ∷ []) })) ∷ [])
    ∷ entry (event.Step 12) (op.PutOk 12 6 ((codes "m2") ∷ [])) []
    ∷ entry (event.Step 12) (op.PutOk 12 6 ((codes "m1") ∷ [])) []
    ∷ entry (event.Step 12) (op.PutOk 12 6 []) []
    ∷ entry (event.Step 12) (op.SweepOk 12 6 0) []
    ∷ entry (event.Step 12) (op.PendingYes 12 6) []
    ∷ entry (event.Step 12) (op.CommitSettled 12 6 6) []
    ∷ entry event.Leader (op.Leader 12 6) []
    ∷ entry (event.Step 11) (op.AckOk 11) []
    ∷ entry (event.Step 11) (op.CommitOk 11 6) []
    ∷ entry (event.Step 11) (op.Push 11 6) []
    ∷ entry (event.Step 11) (op.LockOk 11 ((codes "m2") ∷ [])) []
    ∷ entry (event.Step 11) (op.LockOk 11 ((codes "m1") ∷ [])) []
    ∷ entry (event.Step 11) (op.LockOk 11 []) []
    ∷ entry (event.Step 11) (op.SessionNew 11) []
    ∷ entry (event.Deliver 1) (op.Follower 11 1 6) []
    ∷ entry (event.Client 1) (op.Send 1 12 6) []
    ∷ entry (event.Client 1) (op.LookOk 1 11 5) ((line.Reply 1 11 verb.Multi (shown.Multi 5 ((part_reply.Version 2) ∷ (part_reply.Version 3) ∷ []))) ∷ [])
    ∷ entry (event.Client 1) (op.TakeDone 1 5 5) []
    ∷ entry (event.Step 10) (op.AckOk 10) []
    ∷ entry (event.Step 10) (op.DoneOk 10 5) []
    ∷ entry (event.Step 10) (op.Reply 10 1 5) []
    ∷ entry (event.Step 10) (op.PublishOk 10 5) ((line.Tx (record { tx = 5; moment = 11; session = 1; k = 5; act = act.Multi ((part.Set [] (codes "6") (negsuc 0)) ∷ (part.Set [] (codes "7") (negsuc 0)) ∷ []) })) ∷ [])
    ∷ entry (event.Step 10) (op.PutOk 10 5 []) []
    ∷ entry (event.Step 10) (op.SweepOk 10 5 0) []
    ∷ entry (event.Step 10) (op.PendingYes 10 5) []
    ∷ entry (event.Step 10) (op.CommitSettled 10 5 5) []
    ∷ entry event.Leader (op.Leader 10 5) []
    ∷ entry (event.Step 9) (op.AckOk 9) []
    ∷ entry (event.Step 9) (op.CommitOk 9 5) []
    ∷ entry (event.Step 9) (op.Push 9 5) []
    ∷ entry (event.Step 9) (op.LockOk 9 []) []
    ∷ entry (event.Step 9) (op.SessionNew 9) []
    ∷ entry (event.Deliver 1) (op.Follower 9 1 5) []
    ∷ entry (event.Client 1) (op.Send 1 11 5) []
    ∷ entry (event.Client 1) (op.Local 1 10) ((line.Reply 1 10 verb.Multi (shown.Plain code.BadArguments)) ∷ [])
    ∷ entry (event.Client 1) (op.Local 1 9) ((line.Reply 1 9 verb.Multi (shown.Plain code.BadArguments)) ∷ [])
    ∷ entry (event.Client 1) (op.LookOk 1 8 4) ((line.Reply 1 8 verb.Multi (shown.Multi 4 ((part_reply.Created ((113 ∷ many 510 113) ∷ [])) ∷ (part_reply.Version 1) ∷ []))) ∷ [])
    ∷ entry (event.Client 1) (op.TakeDone 1 4 4) []
    ∷ entry (event.Step 8) (op.AckOk 8) []
    ∷ entry (event.Step 8) (op.DoneOk 8 4) []
    ∷ entry (event.Step 8) (op.Reply 8 1 4) []
    ∷ entry (event.Step 8) (op.PublishOk 8 4) ((line.Tx (record { tx = 4; moment = 11; session = 1; k = 4; act = act.Multi ((part.Create ((113 ∷ many 510 113) ∷ []) (codes "1") false) ∷ (part.Set [] (codes "5") (negsuc 0)) ∷ []) })) ∷ [])
    ∷ entry (event.Step 8) (op.PutOk 8 4 ((113 ∷ many 510 113) ∷ [])) []
    ∷ entry (event.Step 8) (op.PutOk 8 4 []) []
    ∷ entry (event.Step 8) (op.SweepOk 8 4 0) []
    ∷ entry (event.Step 8) (op.PendingYes 8 4) []
    ∷ entry (event.Step 8) (op.CommitSettled 8 4 4) []
    ∷ entry event.Leader (op.Leader 8 4) []
    ∷ entry (event.Step 7) (op.AckOk 7) []
    ∷ entry (event.Step 7) (op.CommitOk 7 4) []
    ∷ entry (event.Step 7) (op.Push 7 4) []
    ∷ entry (event.Step 7) (op.LockOk 7 ((113 ∷ many 510 113) ∷ [])) []
    ∷ entry (event.Step 7) (op.LockOk 7 []) []
    ∷ entry (event.Step 7) (op.SessionNew 7) []
    ∷ entry (event.Deliver 1) (op.Follower 7 1 4) []
    ∷ entry (event.Client 1) (op.Send 1 8 4) []
    ∷ entry (event.Client 1) (op.Local 1 7) ((line.Reply 1 7 verb.Delete (shown.Plain code.BadArguments)) ∷ [])
    ∷ entry (event.Client 1) (op.Local 1 6) ((line.Reply 1 6 verb.Create (shown.Plain code.BadArguments)) ∷ [])
    ∷ entry (event.Client 1) (op.LookOk 1 5 3) ((line.Reply 1 5 verb.Create (shown.Created 3 ((112 ∷ many 510 112) ∷ []))) ∷ [])
    ∷ entry (event.Client 1) (op.TakeDone 1 3 3) []
    ∷ entry (event.Step 6) (op.AckOk 6) []
    ∷ entry (event.Step 6) (op.DoneOk 6 3) []
    ∷ entry (event.Step 6) (op.Reply 6 1 3) []
    ∷ entry (event.Step 6) (op.PublishOk 6 3) ((line.Tx (record { tx = 3; moment = 11; session = 1; k = 3; act = act.Create ((112 ∷ many 510 112) ∷ []) (codes "1") false false })) ∷ [])
    ∷ entry (event.Step 6) (op.PutOk 6 3 ((112 ∷ many 510 112) ∷ [])) []
    ∷ entry (event.Step 6) (op.PutOk 6 3 []) []
    ∷ entry (event.Step 6) (op.SweepOk 6 3 0) []
    ∷ entry (event.Step 6) (op.PendingYes 6 3) []
    ∷ entry (event.Step 6) (op.CommitSettled 6 3 3) []
    ∷ entry event.Leader (op.Leader 6 3) []
    ∷ entry (event.Step 5) (op.AckOk 5) []
    ∷ entry (event.Step 5) (op.CommitOk 5 3) []
    ∷ entry (event.Step 5) (op.Push 5 3) []
    ∷ entry (event.Step 5) (op.LockOk 5 ((112 ∷ many 510 112) ∷ [])) []
    ∷ entry (event.Step 5) (op.LockOk 5 []) []
    ∷ entry (event.Step 5) (op.SessionNew 5) []
    ∷ entry (event.Deliver 1) (op.Follower 5 1 3) []
    ∷ entry (event.Client 1) (op.Send 1 5 3) []
    ∷ entry (event.Client 1) (op.Local 1 4) ((line.Reply 1 4 verb.Create (shown.Plain code.BadArguments)) ∷ [])
    ∷ entry (event.Client 1) (op.LookOk 1 3 2) ((line.Reply 1 3 verb.Create (shown.Created 2 ((115 ∷ many 500 115 ++ codes "0000000001") ∷ []))) ∷ [])
    ∷ entry (event.Client 1) (op.TakeDone 1 2 2) []
    ∷ entry (event.Step 4) (op.AckOk 4) []
    ∷ entry (event.Step 4) (op.DoneOk 4 2) []
    ∷ entry (event.Step 4) (op.Reply 4 1 2) []
    ∷ entry (event.Step 4) (op.PublishOk 4 2) ((line.Tx (record { tx = 2; moment = 11; session = 1; k = 2; act = act.Create ((115 ∷ many 500 115 ++ codes "0000000001") ∷ []) (codes "1") true false })) ∷ [])
    ∷ entry (event.Step 4) (op.PutOk 4 2 ((115 ∷ many 500 115 ++ codes "0000000001") ∷ [])) []
    ∷ entry (event.Step 4) (op.PutOk 4 2 []) []
    ∷ entry (event.Step 4) (op.SweepOk 4 2 0) []
    ∷ entry (event.Step 4) (op.PendingYes 4 2) []
    ∷ entry (event.Step 4) (op.CommitSettled 4 2 2) []
    ∷ entry event.Leader (op.Leader 4 2) []
    ∷ entry (event.Step 3) (op.AckOk 3) []
    ∷ entry (event.Step 3) (op.CommitOk 3 2) []
    ∷ entry (event.Step 3) (op.Push 3 2) []
    ∷ entry (event.Step 3) (op.LockOk 3 ((115 ∷ many 500 115 ++ codes "0000000001") ∷ [])) []
    ∷ entry (event.Step 3) (op.LockOk 3 []) []
    ∷ entry (event.Step 3) (op.SessionNew 3) []
    ∷ entry (event.Deliver 1) (op.Follower 3 1 2) []
    ∷ entry (event.Client 1) (op.Send 1 3 2) []
    ∷ entry (event.Client 1) (op.Local 1 2) ((line.Reply 1 2 verb.Create (shown.Plain code.BadArguments)) ∷ [])
    ∷ entry (event.Client 1) (op.LookOk 1 1 1) ((line.Reply 1 1 verb.Create (shown.Created 1 ((codes "big") ∷ []))) ∷ [])
    ∷ entry (event.Client 1) (op.TakeDone 1 1 1) []
    ∷ entry (event.Step 2) (op.AckOk 2) []
    ∷ entry (event.Step 2) (op.DoneOk 2 1) []
    ∷ entry (event.Step 2) (op.Reply 2 1 1) []
    ∷ entry (event.Step 2) (op.PublishOk 2 1) ((line.Tx (record { tx = 1; moment = 11; session = 1; k = 1; act = act.Create ((codes "big") ∷ []) (122 ∷ many 16383 122) false false })) ∷ [])
    ∷ entry (event.Step 2) (op.PutOk 2 1 ((codes "big") ∷ [])) []
    ∷ entry (event.Step 2) (op.PutOk 2 1 []) []
    ∷ entry (event.Step 2) (op.SweepOk 2 1 0) []
    ∷ entry (event.Step 2) (op.PendingYes 2 1) []
    ∷ entry (event.Step 2) (op.CommitSettled 2 1 1) []
    ∷ entry event.Leader (op.Leader 2 1) []
    ∷ entry (event.Step 1) (op.AckOk 1) []
    ∷ entry (event.Step 1) (op.CommitOk 1 1) []
    ∷ entry (event.Step 1) (op.Push 1 1) []
    ∷ entry (event.Step 1) (op.LockOk 1 ((codes "big") ∷ [])) []
    ∷ entry (event.Step 1) (op.LockOk 1 []) []
    ∷ entry (event.Step 1) (op.SessionNew 1) []
    ∷ entry (event.Deliver 1) (op.Follower 1 1 1) []
    ∷ entry (event.Client 1) (op.Send 1 1 1) []
    ∷ entry (event.Clock 11) (op.Clock 11) []
    ∷ []

abbrev pub AtTheLimitsIsPlayed : Type 0
AtTheLimitsIsPlayed = IsPlayed deployed entries

-- its events are the deployment's turns and a last drain,
abbrev pub AtTheLimitsIsScheduled : Type 0
AtTheLimitsIsScheduled = Scheduled deployed entries

-- and all is answered
abbrev pub AtTheLimitsIsAnswered : Type 0
AtTheLimitsIsAnswered = Answered deployed entries

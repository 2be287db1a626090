-- Requests of several parts: made, refused as a whole, and deleted. Each expected entry is copied from the printed history.
use Rattle.std.specs.Prelude.{◌≡◌, negsuc, true, false, List, [], ◌∷◌, codes}
use Rattle.fk_base.specs.declared.code.Code.TheVariants as code
use Rattle.fk_tree.specs.declared.reply.PartReply.TheVariants as part_reply
use Rattle.fk_tree.specs.declared.request.Part.TheVariants as part
use Rattle.fk_print.specs.declared.entry.Entry.{Entry}
use Rattle.fk_print.specs.declared.event.Event.{Event}
use Rattle.fk_print.specs.declared.event.Event.TheVariants as event
use Rattle.fk_print.specs.declared.line.Act.TheVariants as act
use Rattle.fk_print.specs.declared.line.Line.TheVariants as line
use Rattle.fk_print.specs.declared.line.Shown.TheVariants as shown
use Rattle.fk_print.specs.declared.line.Verb.TheVariants as verb
use Rattle.fk_print.specs.declared.op.Op.TheVariants as op
use Rattle.fk_script.specs.declared.command.Command.TheVariants as command
use Rattle.fk_script.specs.declared.command.PartCommand.TheVariants as part_command
use Rattle.fk_script.specs.declared.deployment.Deployment.{Deployment}
use Rattle.fk_spec.specs.Plan.{plan_of}
use Rattle.fk_spec.specs.Scenarios.{entry, played}

abbrev pub deployed : Deployment
deployed = record { config = record { lock = 10; beat = 30 }; clients = (record { name = (codes "a"); commands = ((command.Multi ((part_command.Create (codes "/a") (codes "1") false) ∷ (part_command.Set (codes "/a") (codes "2") (negsuc 0)) ∷ (part_command.Create (codes "/a/b") [] false) ∷ []) true) ∷ (command.Get (codes "/a") false) ∷ (command.Multi ((part_command.Set (codes "/a") (codes "3") (negsuc 0)) ∷ (part_command.Delete (codes "/m") (negsuc 0)) ∷ []) true) ∷ (command.Get (codes "/a") false) ∷ (command.Multi ((part_command.Delete (codes "/a/b") (negsuc 0)) ∷ (part_command.Delete (codes "/a") (negsuc 0)) ∷ []) true) ∷ []) } ∷ []); turns = []; scheduled = false }

abbrev pub events : List Event
events = ((event.Clock 11) ∷ (event.Client 1) ∷ (event.Deliver 1) ∷ (event.Step 1) ∷ (event.Step 1) ∷ (event.Step 1) ∷ (event.Step 1) ∷ (event.Step 1) ∷ (event.Step 1) ∷ (event.Step 1) ∷ event.Leader ∷ (event.Step 2) ∷ (event.Step 2) ∷ (event.Step 2) ∷ (event.Step 2) ∷ (event.Step 2) ∷ (event.Step 2) ∷ (event.Step 2) ∷ (event.Step 2) ∷ (event.Step 2) ∷ (event.Step 2) ∷ (event.Client 1) ∷ (event.Client 1) ∷ (event.Client 1) ∷ (event.Client 1) ∷ (event.Client 1) ∷ (event.Deliver 1) ∷ (event.Step 3) ∷ (event.Step 3) ∷ (event.Step 3) ∷ (event.Step 3) ∷ (event.Step 3) ∷ (event.Step 3) ∷ (event.Step 3) ∷ (event.Client 1) ∷ (event.Client 1) ∷ (event.Client 1) ∷ (event.Client 1) ∷ (event.Client 1) ∷ (event.Deliver 1) ∷ (event.Step 4) ∷ (event.Step 4) ∷ (event.Step 4) ∷ (event.Step 4) ∷ (event.Step 4) ∷ (event.Step 4) ∷ (event.Step 4) ∷ event.Leader ∷ (event.Step 5) ∷ (event.Step 5) ∷ (event.Step 5) ∷ (event.Step 5) ∷ (event.Step 5) ∷ (event.Step 5) ∷ (event.Step 5) ∷ (event.Step 5) ∷ (event.Step 5) ∷ (event.Step 5) ∷ (event.Client 1) ∷ (event.Client 1) ∷ [])

-- the newest first
abbrev pub entries : List Entry
entries = entry (event.Client 1) (op.LookOk 1 5 2) ((line.Reply 1 5 verb.Multi (shown.Multi 2 (part_reply.Deleted ∷ part_reply.Deleted ∷ []))) ∷ [])
    ∷ entry (event.Client 1) (op.TakeDone 1 3 2) []
    ∷ entry (event.Step 5) (op.AckOk 5) []
    ∷ entry (event.Step 5) (op.DoneOk 5 2) []
    ∷ entry (event.Step 5) (op.Reply 5 1 3) []
    ∷ entry (event.Step 5) (op.PublishOk 5 2) ((line.Tx (record { tx = 2; moment = 11; session = 1; k = 3; act = act.Multi ((part.Delete ((codes "a") ∷ (codes "b") ∷ []) (negsuc 0)) ∷ (part.Delete ((codes "a") ∷ []) (negsuc 0)) ∷ []) })) ∷ [])
    ∷ entry (event.Step 5) (op.PutOk 5 2 ((codes "a") ∷ (codes "b") ∷ [])) []
    ∷ entry (event.Step 5) (op.PutOk 5 2 ((codes "a") ∷ [])) []
    ∷ entry (event.Step 5) (op.PutOk 5 2 []) []
    ∷ entry (event.Step 5) (op.SweepOk 5 2 0) []
    ∷ entry (event.Step 5) (op.PendingYes 5 2) []
    ∷ entry (event.Step 5) (op.CommitSettled 5 2 3) []
    ∷ entry event.Leader (op.Leader 5 2) []
    ∷ entry (event.Step 4) (op.AckOk 4) []
    ∷ entry (event.Step 4) (op.CommitOk 4 2) []
    ∷ entry (event.Step 4) (op.Push 4 2) []
    ∷ entry (event.Step 4) (op.LockOk 4 ((codes "a") ∷ (codes "b") ∷ [])) []
    ∷ entry (event.Step 4) (op.LockOk 4 ((codes "a") ∷ [])) []
    ∷ entry (event.Step 4) (op.LockOk 4 []) []
    ∷ entry (event.Step 4) (op.SessionNew 4) []
    ∷ entry (event.Deliver 1) (op.Follower 4 1 3) []
    ∷ entry (event.Client 1) (op.Send 1 5 3) []
    ∷ entry (event.Client 1) (op.LookOk 1 4 1) ((line.Reply 1 4 verb.Get (shown.Got 1 (codes "2") (record { czxid = 1; mzxid = 1; pzxid = 1; ctime = 11; mtime = 11; version = 1; cversion = 1; aversion = 0; owner = 0; length = 1; children = 1 }))) ∷ [])
    ∷ entry (event.Client 1) (op.Read 1 4 1) []
    ∷ entry (event.Client 1) (op.LookOk 1 3 1) ((line.Reply 1 3 verb.Multi (shown.Refused code.NoNode 1 2)) ∷ [])
    ∷ entry (event.Client 1) (op.TakeRefused 1 2) []
    ∷ entry (event.Step 3) (op.AckOk 3) []
    ∷ entry (event.Step 3) (op.Reply 3 1 2) []
    ∷ entry (event.Step 3) (op.RefuseOk 3 code.NoNode 2 1) []
    ∷ entry (event.Step 3) (op.LockOk 3 ((codes "m") ∷ [])) []
    ∷ entry (event.Step 3) (op.LockOk 3 ((codes "a") ∷ [])) []
    ∷ entry (event.Step 3) (op.LockOk 3 []) []
    ∷ entry (event.Step 3) (op.SessionNew 3) []
    ∷ entry (event.Deliver 1) (op.Follower 3 1 2) []
    ∷ entry (event.Client 1) (op.Send 1 3 2) []
    ∷ entry (event.Client 1) (op.LookOk 1 2 1) ((line.Reply 1 2 verb.Get (shown.Got 1 (codes "2") (record { czxid = 1; mzxid = 1; pzxid = 1; ctime = 11; mtime = 11; version = 1; cversion = 1; aversion = 0; owner = 0; length = 1; children = 1 }))) ∷ [])
    ∷ entry (event.Client 1) (op.Read 1 2 1) []
    ∷ entry (event.Client 1) (op.LookOk 1 1 1) ((line.Reply 1 1 verb.Multi (shown.Multi 1 ((part_reply.Created ((codes "a") ∷ [])) ∷ (part_reply.Version 1) ∷ (part_reply.Created ((codes "a") ∷ (codes "b") ∷ [])) ∷ []))) ∷ [])
    ∷ entry (event.Client 1) (op.TakeDone 1 1 1) []
    ∷ entry (event.Step 2) (op.AckOk 2) []
    ∷ entry (event.Step 2) (op.DoneOk 2 1) []
    ∷ entry (event.Step 2) (op.Reply 2 1 1) []
    ∷ entry (event.Step 2) (op.PublishOk 2 1) ((line.Tx (record { tx = 1; moment = 11; session = 1; k = 1; act = act.Multi ((part.Create ((codes "a") ∷ []) (codes "1") false) ∷ (part.Set ((codes "a") ∷ []) (codes "2") (negsuc 0)) ∷ (part.Create ((codes "a") ∷ (codes "b") ∷ []) [] false) ∷ []) })) ∷ [])
    ∷ entry (event.Step 2) (op.PutOk 2 1 ((codes "a") ∷ (codes "b") ∷ [])) []
    ∷ entry (event.Step 2) (op.PutOk 2 1 ((codes "a") ∷ [])) []
    ∷ entry (event.Step 2) (op.PutOk 2 1 []) []
    ∷ entry (event.Step 2) (op.SweepOk 2 1 0) []
    ∷ entry (event.Step 2) (op.PendingYes 2 1) []
    ∷ entry (event.Step 2) (op.CommitSettled 2 1 1) []
    ∷ entry event.Leader (op.Leader 2 1) []
    ∷ entry (event.Step 1) (op.AckOk 1) []
    ∷ entry (event.Step 1) (op.CommitOk 1 1) []
    ∷ entry (event.Step 1) (op.Push 1 1) []
    ∷ entry (event.Step 1) (op.LockOk 1 ((codes "a") ∷ (codes "b") ∷ [])) []
    ∷ entry (event.Step 1) (op.LockOk 1 ((codes "a") ∷ [])) []
    ∷ entry (event.Step 1) (op.LockOk 1 []) []
    ∷ entry (event.Step 1) (op.SessionNew 1) []
    ∷ entry (event.Deliver 1) (op.Follower 1 1 1) []
    ∷ entry (event.Client 1) (op.Send 1 1 1) []
    ∷ entry (event.Clock 11) (op.Clock 11) []
    ∷ []

abbrev pub MultiIsPlayed : Type 0
MultiIsPlayed = played (plan_of deployed) events [] ≡ entries

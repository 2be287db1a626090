-- Functions in flight: where each stands, read from its own lines.
use Rattle.std.specs.Prelude.{ℕ, zero, suc, ◌==◌, Bool, true, false, if◌then◌else◌, List, [], ◌∷◌, ◌++◌, Option, Some, None}
use Rattle.fk_print.specs.declared.entry.Entry.{Entry}
use Rattle.fk_print.specs.declared.op.Op.{Op}
use Rattle.fk_print.specs.declared.op.Op.TheVariants as op
use Rattle.fk_print.specs.declared.op.Word.{Word}
use Rattle.fk_print.specs.declared.op.Word.TheVariants as word
use Rattle.fk_spec.specs.Plan.{Plan}
use Rattle.fk_spec.specs.Start.{Start, Task, Follows, Leads, Notifies, Probes, started_in, starts_of}
use Rattle.fk_spec.specs.Follower.{Follower, begin, next_follower, follower_op}
use Rattle.fk_spec.specs.Follower as follower
use Rattle.fk_spec.specs.Leader.{next_leader, leader_op}
use Rattle.fk_spec.specs.Leader as leader
use Rattle.fk_spec.specs.Teller.{Note, note_of, to_tell, next_teller, teller_op}
use Rattle.fk_spec.specs.Teller as teller
use Rattle.fk_spec.specs.Heartbeat.{next_beat, beat_op}
use Rattle.fk_spec.specs.Heartbeat as heartbeat

-- the function whose operation this line is; a start line is none
abbrev pub actor : Op → Option ℕ
actor (op.Crash n) = Some n
actor (op.Fault n word) = Some n
actor (op.SessionNew n) = Some n
actor (op.SessionClosed n) = Some n
actor (op.SessionApplied n) = Some n
actor (op.SessionRefused n) = Some n
actor (op.SessionPast n) = Some n
actor (op.Owned n count) = Some n
actor (op.LockOk n path) = Some n
actor (op.LockBusy n path holder moment) = Some n
actor (op.Push n tx) = Some n
actor (op.RefuseOk n code place at) = Some n
actor (op.RefuseSettled n code place at settled) = Some n
actor (op.RefuseLock n code place at path holder moment) = Some n
actor (op.LostOk n) = Some n
actor (op.LostSettled n settled) = Some n
actor (op.CommitOk n tx) = Some n
actor (op.CommitSettled n tx settled) = Some n
actor (op.CommitLock n tx path holder moment) = Some n
actor (op.Reply n session k) = Some n
actor (op.AckOk n) = Some n
actor (op.AckGone n) = Some n
actor (op.PendingYes n tx) = Some n
actor (op.PendingNo n tx) = Some n
actor (op.DropOk n tx) = Some n
actor (op.DropMiss n tx done) = Some n
actor (op.SweepOk n tx fired) = Some n
actor (op.SweepMiss n tx swept fired) = Some n
actor (op.PutOk n tx path) = Some n
actor (op.PutMiss n tx path stamp) = Some n
actor (op.PublishOk n tx) = Some n
actor (op.PublishMiss n tx mark) = Some n
actor (op.Notify n tx note) = Some n
actor (op.DoneOk n tx) = Some n
actor (op.DoneMiss n tx done) = Some n
actor (op.Tell n session watch) = Some n
actor (op.Told n tx) = Some n
actor (op.ProbeClosed n) = Some n
actor (op.ProbeFresh n) = Some n
actor (op.ProbeWaiting n) = Some n
actor (op.ProbeLate n ping moment) = Some n
actor (op.Ping n session) = Some n
actor (op.NoteOk n) = Some n
actor (op.NoteMiss n ping) = Some n
actor (op.Evict n k) = Some n
actor _ = None

-- a function: not in flight, or a follower, a leader, a watch function or a heartbeat where it stands
pub data Place : Type 0 where
  Absent : Place
  Following : (f : Follower) → Place
  Leading : (tx : ℕ) (stage : leader.Stage) → Place
  Telling : (note tx : ℕ) (stage : teller.Stage) → Place
  Beating : (session : ℕ) (stage : heartbeat.Stage) → Place

abbrev pub telling : ℕ → Option Note → Place
telling w None = Absent
telling w (Some x) = Telling w x.tx (to_tell x.fired)

-- where a function stands that was started for this task; `h` are the entries before
abbrev pub placed : Plan → List Entry → Task → Place
placed p h (Follows session k) = Following (begin session k)
placed p h (Leads tx) = Leading tx leader.Commit
placed p h (Notifies note) = telling note (note_of p note h)
placed p h (Probes session) = Beating session heartbeat.Probe

abbrev pub follow_on : follower.Stage → Follower → Place
follow_on follower.Ended f = Absent
follow_on _ f = Following f

abbrev pub lead_on : ℕ → leader.Stage → Place
lead_on t leader.Ended = Absent
lead_on t s = Leading t s

abbrev pub tell_on : ℕ → ℕ → teller.Stage → Place
tell_on w t teller.Ended = Absent
tell_on w t s = Telling w t s

abbrev pub beat_on : ℕ → heartbeat.Stage → Place
beat_on c heartbeat.Ended = Absent
beat_on c s = Beating c s

-- where a function stands after one of its operations
abbrev pub moved : Plan → List Entry → Op → Place → Place
moved p h o Absent = Absent
moved p h o (Following f) = let g = next_follower p h o f in follow_on g.stage g
moved p h o (Leading t s) = lead_on t (next_leader p h t o s)
moved p h o (Telling w t s) = tell_on w t (next_teller o s)
moved p h o (Beating c s) = beat_on c (next_beat o)

abbrev pub started_at : Plan → ℕ → List Entry → Option Start → Place → Place
started_at p n h None x = x
started_at p n h (Some s) x = if s.function == n then placed p h s.task else x

abbrev pub place_by : Plan → ℕ → List Entry → Op → Option ℕ → Place → Place
place_by p n h o None x = started_at p n h (started_in o) x
place_by p n h o (Some m) x = if m == n then moved p h o x else x

-- where function n stands
abbrev pub place_of : Plan → ℕ → List Entry → Place
place_of p n [] = Absent
place_of p n (e ∷ h) = place_by p n h e.op (actor e.op) (place_of p n h)

abbrev pub is_absent : Place → Bool
is_absent Absent = true
is_absent _ = false

-- the operation that function n makes
abbrev pub function_op : Plan → List Entry → ℕ → Place → Op
function_op p h n Absent = op.Idle
function_op p h n (Following f) = follower_op p h n f f.stage
function_op p h n (Leading t s) = leader_op p h n t s
function_op p h n (Telling w t s) = teller_op h n w t s
function_op p h n (Beating c s) = beat_op p h n c s

-- the word of the operation before which a function stands
abbrev pub follower_word : follower.Stage → Word
follower_word follower.Session = word.Session
follower_word follower.Owned = word.Owned
follower_word (follower.Lock path) = word.Lock
follower_word follower.Push = word.Push
follower_word (follower.Refuse refusal at) = word.Refuse
follower_word (follower.Expire at) = word.Refuse
follower_word (follower.Commit tx) = word.Commit
follower_word follower.Lost = word.Lost
follower_word follower.Reply = word.Reply
follower_word follower.Ack = word.Ack
follower_word follower.Ended = word.Ack

abbrev pub leader_word : leader.Stage → Word
leader_word leader.Commit = word.Commit
leader_word leader.Pending = word.Pending
leader_word leader.Drop = word.Drop
leader_word leader.Sweep = word.Sweep
leader_word (leader.Put path others) = word.Put
leader_word leader.Publish = word.Publish
leader_word leader.Notify = word.Notify
leader_word leader.Reply = word.Reply
leader_word leader.Done = word.Done
leader_word leader.Ack = word.Ack
leader_word leader.Ended = word.Ack

abbrev pub teller_word : teller.Stage → Word
teller_word (teller.Tell firing others) = word.Tell
teller_word teller.Told = word.Told
teller_word teller.Ack = word.Ack
teller_word teller.Ended = word.Ack

abbrev pub beat_word : heartbeat.Stage → Word
beat_word heartbeat.Probe = word.Probe
beat_word heartbeat.Ping = word.Ping
beat_word heartbeat.Note = word.Note
beat_word heartbeat.Evict = word.Evict
beat_word heartbeat.Ended = word.Evict

-- the operation of function n fails, and the function ends
abbrev pub fault_op : ℕ → Place → Op
fault_op n Absent = op.Idle
fault_op n (Following f) = op.Fault n (follower_word f.stage)
fault_op n (Leading t s) = op.Fault n (leader_word s)
fault_op n (Telling w t s) = op.Fault n (teller_word s)
fault_op n (Beating c s) = op.Fault n (beat_word s)

-- the functions up to this number that are in flight, in rising order
abbrev pub in_flight_to : Plan → ℕ → List Entry → List ℕ
in_flight_to p zero h = []
in_flight_to p (suc n) h = if is_absent (place_of p (suc n) h) then in_flight_to p n h else in_flight_to p n h ++ (suc n) ∷ []

-- the functions in flight, in rising order
abbrev pub in_flight : Plan → List Entry → List ℕ
in_flight p h = in_flight_to p (starts_of h) h

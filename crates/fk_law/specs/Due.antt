-- What each operation line says of the entries before it.
use Rattle.std.specs.Prelude.{◌≡◌, ◌≢◌, ℕ, ◌+◌, ◌<◌, ◌≤◌, true, false, List, ◌∷◌, Option, Some, None}
use Rattle.fk_base.specs.Path.{PathNames}
use Rattle.fk_base.specs.declared.code.Code.{Code}
use Rattle.fk_base.specs.declared.code.Code.TheVariants as code
use Rattle.fk_tree.specs.Sorted.{in_path_order}
use Rattle.fk_tree.specs.declared.request.Request.{Request}
use Rattle.fk_print.specs.declared.entry.Entry.{Entry}
use Rattle.fk_print.specs.declared.op.Op.{Op}
use Rattle.fk_print.specs.declared.op.Op.TheVariants as op
use Rattle.fk_spec.specs.Plan.{Plan, asked, is_client}
use Rattle.fk_spec.specs.Start.{Follows, Push, clock_of, starts_of, task_of, pushes_of, push_of, sends_of, written}
use Rattle.fk_spec.specs.Locks.{Loss, last_grant, may_grant, granted, first_passed}
use Rattle.fk_spec.specs.Settling as settling
use Rattle.fk_spec.specs.Settling.{Outcome, Committed, settled_of, outcome_of, is_pending, done_of, swept_of, mark_of}
use Rattle.fk_spec.specs.Stored.{stored_view, stamp_of}
use Rattle.fk_spec.specs.Lanes.{session_head, leader_head, watch_head, notes_of, Message, Done, Evicted, Kept, Watch, Ping, inbox_of}
use Rattle.fk_spec.specs.Follower.{Follower}
use Rattle.fk_spec.specs.Follower as follower
use Rattle.fk_spec.specs.Leader as leader
use Rattle.fk_spec.specs.Teller as teller
use Rattle.fk_spec.specs.Heartbeat as heartbeat
use Rattle.fk_spec.specs.Function.{Place, Following, Leading, Telling, Beating, place_of, is_absent}
use Rattle.fk_spec.specs.Next.{IsHistory}
use Rattle.fk_law.specs.Operations.{OperationSays}

-- push t's function, which works on message k of session c
pub record IsPushOf (t n c k : ℕ) (h : List Entry) : Type 0 where
  pub push : Push
  pub pushed : push_of t h ≡ Some push
  pub function : push.function ≡ n
  pub task : task_of n h ≡ Some (Follows c k)

-- function n, where it stands, is about to commit push t of function m, which works on message k of session c
abbrev pub Commits : ℕ → ℕ → ℕ → ℕ → ℕ → List Entry → Place → Type 0
Commits n t m c k h (Following f) = (f.stage ≡ follower.Commit t) × (m ≡ n) × (f.session ≡ c) × (f.k ≡ k)
Commits n t m c k h (Leading s stage) = (stage ≡ leader.Commit) × (s ≡ t) × IsPushOf t m c k h
Commits n t m c k h _ = ⊥

-- no lock of function n has passed on
abbrev pub HoldsAll : ℕ → List Entry → Type 0
HoldsAll n h = first_passed n h (in_path_order (granted n h)) ≡ None

-- function n, where it stands, is about to refuse with this code at this number
abbrev pub Refuses : ℕ → Code → ℕ → ℕ → List Entry → follower.Stage → Type 0
Refuses n cd place at h (follower.Refuse r a) = (r.code ≡ cd) × (r.place ≡ place) × (a ≡ at) × HoldsAll n h
Refuses n cd place at h (follower.Expire a) = (cd ≡ code.SessionExpired) × (place ≡ 0) × (a ≡ at)
Refuses n cd place at h _ = ⊥

abbrev pub RefusesNext : follower.Stage → Type 0
RefusesNext (follower.Refuse r a) = Unit {0}
RefusesNext (follower.Expire a) = Unit {0}
RefusesNext _ = ⊥

abbrev pub Replies : ℕ → ℕ → List Entry → Place → Type 0
Replies c k h (Following f) = (f.stage ≡ follower.Reply) × (f.session ≡ c) × (f.k ≡ k)
Replies c k h (Leading t stage) = (stage ≡ leader.Reply) × (m : ℕ) × IsPushOf t m c k h
Replies c k h _ = ⊥

-- the message that a function is about to remove is its lane's head
abbrev pub Acks : List Entry → Place → Type 0
Acks h (Following f) = (f.stage ≡ follower.Ack) × (session_head f.session h ≡ Some f.k)
Acks h (Leading t stage) = (stage ≡ leader.Ack) × (leader_head h ≡ Some t)
Acks h (Telling w t stage) = (stage ≡ teller.Ack) × (watch_head h ≡ Some w)
Acks h _ = ⊥

abbrev pub StandsBeforeAck : Place → Type 0
StandsBeforeAck (Following f) = f.stage ≡ follower.Ack
StandsBeforeAck (Leading t stage) = stage ≡ leader.Ack
StandsBeforeAck (Telling w t stage) = stage ≡ teller.Ack
StandsBeforeAck _ = ⊥

abbrev pub Pings : ℕ → Place → Type 0
Pings c (Beating s stage) = (stage ≡ heartbeat.Ping) × (s ≡ c)
Pings c _ = ⊥

abbrev pub Tells : ℕ → ℕ → Place → Type 0
Tells c w (Telling note t (teller.Tell f fs)) = (f.watch.session ≡ c) × (f.watch.id ≡ w)
Tells c w _ = ⊥

abbrev pub IsApplied : Option Outcome → Type 0
IsApplied (Some (Committed t)) = Unit {0}
IsApplied _ = ⊥

-- a follower is in flight
abbrev pub IsFollower : Plan → ℕ → List Entry → Follower → Type 0
IsFollower p n h f = place_of p n h ≡ Following f

-- What each kind of operation line says of the entries before it.
abbrev pub IsDue : Plan → List Entry → Op → Type 0
IsDue p h (op.Clock moment) = clock_of h ≤ moment
IsDue p h (op.Follower n c k) = (n ≡ starts_of h + 1) × (session_head c h ≡ Some k)
IsDue p h (op.Leader n t) = (n ≡ starts_of h + 1) × (leader_head h ≡ Some t)
IsDue p h (op.Teller n w) = (n ≡ starts_of h + 1) × (watch_head h ≡ Some w)
IsDue p h (op.Beat n c) = (n ≡ starts_of h + 1) × (is_client p c ≡ true)
IsDue p h (op.Crash n) = is_absent (place_of p n h) ≡ false
IsDue p h (op.Fault n word) = is_absent (place_of p n h) ≡ false
IsDue p h (op.SessionNew n) = (f : Follower) × IsFollower p n h f × (f.stage ≡ follower.Session) × (settled_of f.session h + 1 ≡ f.k) × ((stored_view p h).closed f.session ≡ false)
IsDue p h (op.SessionClosed n) = (f : Follower) × IsFollower p n h f × (f.stage ≡ follower.Session) × (settled_of f.session h + 1 ≡ f.k) × ((stored_view p h).closed f.session ≡ true)
IsDue p h (op.SessionApplied n) = (f : Follower) × IsFollower p n h f × (f.stage ≡ follower.Session) × (settled_of f.session h ≡ f.k) × IsApplied (outcome_of f.session f.k h)
IsDue p h (op.SessionRefused n) = (f : Follower) × IsFollower p n h f × (f.stage ≡ follower.Session) × (settled_of f.session h ≡ f.k) × (IsApplied (outcome_of f.session f.k h) → ⊥)
IsDue p h (op.SessionPast n) = (f : Follower) × IsFollower p n h f × (f.stage ≡ follower.Session) × (settled_of f.session h + 1 ≢ f.k) × (settled_of f.session h ≢ f.k)
IsDue p h (op.Owned n count) = (f : Follower) × IsFollower p n h f × (f.stage ≡ follower.Owned)
IsDue p h (op.LockOk n path) = (f : Follower) × IsFollower p n h f × (f.stage ≡ follower.Lock path) × (may_grant p.lock h (last_grant path h) ≡ true)
IsDue p h (op.LockBusy n path holder moment) = (f : Follower) × IsFollower p n h f × (f.stage ≡ follower.Lock path) × (last_grant path h ≡ Some (record { holder = holder; moment = moment })) × (may_grant p.lock h (last_grant path h) ≡ false)
IsDue p h (op.Push n t) = (f : Follower) × IsFollower p n h f × (f.stage ≡ follower.Push) × (t ≡ pushes_of h + 1)
IsDue p h (op.RefuseOk n cd place at) = (f : Follower) × IsFollower p n h f × (settled_of f.session h + 1 ≡ f.k) × Refuses n cd place at h f.stage
IsDue p h (op.RefuseSettled n cd place at settled) = (f : Follower) × IsFollower p n h f × (settled_of f.session h + 1 ≢ f.k) × RefusesNext f.stage
IsDue p h (op.RefuseLock n cd place at path holder moment) = (f : Follower) × IsFollower p n h f × (settled_of f.session h + 1 ≡ f.k) × RefusesNext f.stage × (first_passed n h (in_path_order (granted n h)) ≡ Some (record { path = path; holder = holder; moment = moment }))
IsDue p h (op.LostOk n) = (f : Follower) × IsFollower p n h f × (f.stage ≡ follower.Lost) × (settled_of f.session h + 1 ≡ f.k)
IsDue p h (op.LostSettled n settled) = (f : Follower) × IsFollower p n h f × (f.stage ≡ follower.Lost) × (settled_of f.session h + 1 ≢ f.k)
IsDue p h (op.CommitOk n t) = (m c k : ℕ) × Commits n t m c k h (place_of p n h) × (settled_of c h + 1 ≡ k) × HoldsAll m h
IsDue p h (op.CommitSettled n t settled) = (m c k : ℕ) × Commits n t m c k h (place_of p n h) × (settled_of c h + 1 ≢ k)
IsDue p h (op.CommitLock n t path holder moment) = (m c k : ℕ) × Commits n t m c k h (place_of p n h) × (settled_of c h + 1 ≡ k) × (first_passed m h (in_path_order (granted m h)) ≡ Some (record { path = path; holder = holder; moment = moment }))
IsDue p h (op.Reply n c k) = Replies c k h (place_of p n h)
IsDue p h (op.AckOk n) = Acks h (place_of p n h)
IsDue p h (op.AckGone n) = StandsBeforeAck (place_of p n h)
IsDue p h (op.PendingYes n t) = (place_of p n h ≡ Leading t leader.Pending) × (is_pending t h ≡ true)
IsDue p h (op.PendingNo n t) = (place_of p n h ≡ Leading t leader.Pending) × (is_pending t h ≡ false)
IsDue p h (op.DropOk n t) = (place_of p n h ≡ Leading t leader.Drop) × (done_of h < t)
IsDue p h (op.DropMiss n t done) = (place_of p n h ≡ Leading t leader.Drop) × (t ≤ done_of h)
IsDue p h (op.SweepOk n t fired) = (place_of p n h ≡ Leading t leader.Sweep) × (swept_of h < t)
IsDue p h (op.SweepMiss n t swept fired) = (place_of p n h ≡ Leading t leader.Sweep) × (t ≤ swept_of h)
IsDue p h (op.PutOk n t path) = (others : List PathNames) × (place_of p n h ≡ Leading t (leader.Put path others)) × (stamp_of path h < t)
IsDue p h (op.PutMiss n t path stamp) = (others : List PathNames) × (place_of p n h ≡ Leading t (leader.Put path others)) × (t ≤ stamp_of path h)
IsDue p h (op.PublishOk n t) = (place_of p n h ≡ Leading t leader.Publish) × (mark_of h < t)
IsDue p h (op.PublishMiss n t mark) = (place_of p n h ≡ Leading t leader.Publish) × (t ≤ mark_of h)
IsDue p h (op.Notify n t note) = (place_of p n h ≡ Leading t leader.Notify) × (note ≡ notes_of h + 1)
IsDue p h (op.DoneOk n t) = (place_of p n h ≡ Leading t leader.Done) × (done_of h < t)
IsDue p h (op.DoneMiss n t done) = (place_of p n h ≡ Leading t leader.Done) × (t ≤ done_of h)
IsDue p h (op.Tell n c watch) = Tells c watch (place_of p n h)
IsDue p h (op.Told n t) = (w : ℕ) × (place_of p n h ≡ Telling w t teller.Told)
IsDue p h (op.ProbeClosed n) = (c : ℕ) × (place_of p n h ≡ Beating c heartbeat.Probe)
IsDue p h (op.ProbeFresh n) = (c : ℕ) × (place_of p n h ≡ Beating c heartbeat.Probe)
IsDue p h (op.ProbeWaiting n) = (c : ℕ) × (place_of p n h ≡ Beating c heartbeat.Probe)
IsDue p h (op.ProbeLate n ping moment) = (c : ℕ) × (place_of p n h ≡ Beating c heartbeat.Probe)
IsDue p h (op.Ping n c) = place_of p n h ≡ Beating c heartbeat.Ping
IsDue p h (op.NoteOk n) = (c : ℕ) × (place_of p n h ≡ Beating c heartbeat.Note)
IsDue p h (op.NoteMiss n ping) = (c : ℕ) × (place_of p n h ≡ Beating c heartbeat.Note)
IsDue p h (op.Evict n k) = (c : ℕ) × (place_of p n h ≡ Beating c heartbeat.Evict) × (k ≡ sends_of c h + 1)
IsDue p h (op.Send c command k) = (k ≡ sends_of c h + 1) × (r : Request) × (written (asked p c command) ≡ Some r) × OperationSays p c h (op.Send c command k)
IsDue p h (op.TakeDone c k t) = (ms : List Message) × (inbox_of p c h ≡ Done k t ∷ ms) × OperationSays p c h (op.TakeDone c k t)
IsDue p h (op.TakeEvicted c k t) = (ms : List Message) × (inbox_of p c h ≡ Evicted k t ∷ ms) × OperationSays p c h (op.TakeEvicted c k t)
IsDue p h (op.TakeRefused c k) = (o : Outcome) × (ms : List Message) × (inbox_of p c h ≡ Kept k o ∷ ms) × OperationSays p c h (op.TakeRefused c k)
IsDue p h (op.TakeLost c k) = (loss : Option Loss) × (ms : List Message) × (inbox_of p c h ≡ Kept k (settling.Passed loss) ∷ ms) × OperationSays p c h (op.TakeLost c k)
IsDue p h (op.TakeWatch c watch) = (ms : List Message) × (inbox_of p c h ≡ Watch watch ∷ ms) × OperationSays p c h (op.TakeWatch c watch)
IsDue p h (op.TakePing c ping) = (ms : List Message) × (inbox_of p c h ≡ Ping ping ∷ ms) × OperationSays p c h (op.TakePing c ping)
IsDue p h (op.Pong c ping) = OperationSays p c h (op.Pong c ping)
IsDue p h (op.TakeFault c) = OperationSays p c h (op.TakeFault c)
IsDue p h (op.LookOk c command mark) = OperationSays p c h (op.LookOk c command mark)
IsDue p h (op.LookHeld c command mark watch) = OperationSays p c h (op.LookHeld c command mark watch)
IsDue p h (op.LookBehind c command mark) = OperationSays p c h (op.LookBehind c command mark)
IsDue p h (op.LookFault c command) = OperationSays p c h (op.LookFault c command)
IsDue p h (op.WatchSet c command watch) = OperationSays p c h (op.WatchSet c command watch)
IsDue p h (op.WatchSwept c command t) = OperationSays p c h (op.WatchSwept c command t)
IsDue p h (op.WatchFault c command) = OperationSays p c h (op.WatchFault c command)
IsDue p h (op.SendFault c command) = OperationSays p c h (op.SendFault c command)
IsDue p h (op.Read c command stamp) = OperationSays p c h (op.Read c command stamp)
IsDue p h (op.ReadFault c command) = OperationSays p c h (op.ReadFault c command)
IsDue p h (op.Local c command) = OperationSays p c h (op.Local c command)
IsDue p h _ = Unit {0}

-- Each entry of a history is due.
abbrev pub EveryEntryIsDue : Type 0
EveryEntryIsDue = (p : Plan) (e : Entry) (h : List Entry) → IsHistory p (e ∷ h) → IsDue p h e.op

-- The heartbeat: it pings a session, or evicts one that didn't answer in time.
use Rattle.std.specs.Prelude.{ℕ, ◌+◌, nat_le, nat_lt, if◌then◌else◌, List}
use Rattle.fk_base.specs.Times.{has_passed}
use Rattle.fk_print.specs.declared.entry.Entry.{Entry}
use Rattle.fk_print.specs.declared.op.Op.{Op}
use Rattle.fk_print.specs.declared.op.Op.TheVariants as op
use Rattle.fk_spec.specs.Plan.{Plan}
use Rattle.fk_spec.specs.Start.{clock_of, sends_of}
use Rattle.fk_spec.specs.Stored.{stored_view}
use Rattle.fk_spec.specs.Pings.{Noted, noted_of, pong_of}

-- the operation before which a heartbeat stands
pub data Stage : Type 0 where
  Probe : Stage
  Ping : Stage
  Note : Stage
  Evict : Stage
  Ended : Stage

-- what comes after each answer
abbrev pub next_beat : Op → Stage
next_beat (op.ProbeFresh n) = Ping
next_beat (op.ProbeLate n ping moment) = Evict
next_beat (op.Ping n session) = Note
next_beat _ = Ended

-- A ping that isn't answered is waited for, and is late once the clock exceeds its moment by more than
-- the deployment's beat.
abbrev pub unanswered_op : ℕ → ℕ → ℕ → Noted → Op
unanswered_op n beat clock x = if has_passed beat x.moment clock then op.ProbeLate n x.ping x.moment else op.ProbeWaiting n

abbrev pub open_op : ℕ → ℕ → ℕ → ℕ → Noted → Op
open_op n beat clock pong x = if nat_le x.ping pong then op.ProbeFresh n else unanswered_op n beat clock x

abbrev pub probe_op : Plan → List Entry → ℕ → ℕ → Op
probe_op p h n c = if (stored_view p h).closed c then op.ProbeClosed n else open_op n p.beat (clock_of h) (pong_of c h) (noted_of c h)

-- a ping is noted unless one of its number or beyond was
abbrev pub note_op : List Entry → ℕ → ℕ → Op
note_op h n c = if nat_lt (noted_of c h).ping n then op.NoteOk n else op.NoteMiss n (noted_of c h).ping

-- the operation that heartbeat n of session c makes
abbrev pub beat_op : Plan → List Entry → ℕ → ℕ → Stage → Op
beat_op p h n c Probe = probe_op p h n c
beat_op p h n c Ping = op.Ping n c
beat_op p h n c Note = note_op h n c
beat_op p h n c Evict = op.Evict n (sends_of c h + 1)
beat_op p h n c Ended = op.Idle

-- What the conditional table holds after a history.
use Rattle.std.specs.Prelude.{ℕ, Bool, false, if◌then◌else◌, ◌||◌, not, List, [], ◌∷◌, ◌++◌, Option, Some, None, is_some}
use Rattle.fk_base.specs.Path.{PathNames, is_root}
use Rattle.fk_print.specs.declared.entry.Entry.{Entry}
use Rattle.fk_print.specs.declared.op.Op.{Op}
use Rattle.fk_print.specs.declared.op.Op.TheVariants as op
use Rattle.fk_store.specs.declared.lock.Lock.{Lock}
use Rattle.fk_store.specs.declared.node_record.NodeRecord.{NodeRecord}
use Rattle.fk_store.specs.declared.outcome.Outcome.{Outcome}
use Rattle.fk_store.specs.declared.outcome.Outcome.TheVariants as kept
use Rattle.fk_store.specs.declared.session_record.SessionRecord.{SessionRecord}
use Rattle.fk_store.specs.Locks.{no_lock}
use Rattle.fk_store.specs.Meaning.{Meaning}
use Rattle.fk_store.specs.Writes.{without}
use Rattle.fk_spec.specs.Plan.{Plan, is_client}
use Rattle.fk_spec.specs.Start.{is_session}
use Rattle.fk_spec.specs.Locks.{Grant, Loss, last_grant, has_released}
use Rattle.fk_spec.specs.Settling as settling
use Rattle.fk_spec.specs.Settling.{settled_of, outcome_of, session_of_push, last_of_session, done_of}
use Rattle.fk_spec.specs.Stored.{stored_view, last_edit}
use Rattle.fk_spec.specs.Pings.{noted_of, pong_of}

-- the lock of a grant: held until its function's commit or refusal releases it
abbrev pub lock_from : List Entry → Option Grant → Lock
lock_from h None = no_lock
lock_from h (Some g) = record { inv = g.holder; moment = g.moment; held = not (has_released g.holder h) }

-- a path's lock is its last grant
abbrev pub lock_after : PathNames → List Entry → Lock
lock_after path h = lock_from h (last_grant path h)

-- the root has a record from the start, and each other path from its first grant on
abbrev pub has_record : PathNames → List Entry → Bool
has_record path h = is_root path || is_some (last_grant path h)

-- The record of a path: the node that the commits leave, its lock, and the last commit that edited it.
abbrev pub node_record : Plan → PathNames → List Entry → NodeRecord
node_record p path h = record { node = (stored_view p h).node path; lock = lock_after path h; last = last_edit p path h }

abbrev pub lost_as : Loss → Outcome
lost_as x = kept.Lost x.path x.own x.found x.moment

-- an outcome as it is kept; a loss that was settled has a lock that was lost
abbrev pub kept_as : Option settling.Outcome → Outcome
kept_as None = kept.Nothing
kept_as (Some (settling.Committed tx)) = kept.Applied tx
kept_as (Some (settling.Refused code place at)) = kept.Refused code at place
kept_as (Some (settling.Passed None)) = kept.Nothing
kept_as (Some (settling.Passed (Some x))) = lost_as x

abbrev pub pending_in : ℕ → List Entry → Op → List ℕ → List ℕ
pending_in c h (op.CommitOk function tx) ts = if is_session c (session_of_push tx h) then ts ++ tx ∷ [] else ts
pending_in c h (op.DoneOk function tx) ts = without tx ts
pending_in c h _ ts = ts

-- the commits of session c that no leader finished, in the order of the commits
abbrev pub pending_of : ℕ → List Entry → List ℕ
pending_of c [] = []
pending_of c (e ∷ h) = pending_in c h e.op (pending_of c h)

-- The record of a session: its last settled request with its outcome, its last commit, whether it is closed, the
-- commits that are pending, its last noted ping and its greatest answer.
abbrev pub session_record : Plan → ℕ → List Entry → SessionRecord
session_record p c h = record {
  settled = settled_of c h;
  outcome = kept_as (outcome_of c (settled_of c h) h);
  last = last_of_session c h;
  closed = (stored_view p h).closed c;
  pending = pending_of c h;
  ping = (noted_of c h).ping;
  ping_at = (noted_of c h).moment;
  pong = pong_of c h;
}

-- What the table holds after a history: its sessions are the clients. It is calm, and its calls failed so many
-- times.
abbrev pub table_after : Plan → List Entry → ℕ → Meaning
table_after p h faults = record {
  nodes = λ path. if has_record path h then Some (node_record p path h) else None;
  sessions = λ c. if is_client p c then Some (session_record p c h) else None;
  done = done_of h;
  armed = false;
  faults = faults;
}

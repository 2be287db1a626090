-- What a table means: a finite map from paths to node records, a record for each session, and a number
-- done; whether the next call fails, and how often one failed.
use Rattle.std.specs.Prelude.{ℕ, nat_le, Bool, true, false, if◌then◌else◌, ◌&&◌, [], Option, Some, None}
use Rattle.fk_base.specs.Path.{PathNames, is_root}
use Rattle.fk_base.specs.Faults.{one_more}
use Rattle.fk_tree.specs.Tree.{root_node, with_names}
use Rattle.fk_store.specs.declared.lock.Lock.{Lock}
use Rattle.fk_store.specs.declared.node_record.NodeRecord.{NodeRecord}
use Rattle.fk_store.specs.declared.outcome.Outcome.TheVariants as outcome
use Rattle.fk_store.specs.declared.session_record.SessionRecord.{SessionRecord}
use Rattle.fk_store.specs.Locks.{no_lock}

pub record Meaning : Type 0 where
  pub nodes : PathNames → Option NodeRecord
  pub sessions : ℕ → Option SessionRecord
  pub done : ℕ
  pub armed : Bool
  pub faults : ℕ

-- a record without a node, never locked and never changed
abbrev pub no_record : NodeRecord
no_record = record { node = None; lock = no_lock; last = 0 }

-- a path without a record counts as one with an empty record
abbrev pub or_no_record : Option NodeRecord → NodeRecord
or_no_record None = no_record
or_no_record (Some r) = r

-- the lock of a path
abbrev pub lock_of : Meaning → PathNames → Lock
lock_of m p = (or_no_record (m.nodes p)).lock

-- the record of a session that did nothing yet
abbrev pub new_session : SessionRecord
new_session = record { settled = 0; outcome = outcome.Nothing; last = 0; closed = false; pending = []; ping = 0; ping_at = 0; pong = 0 }

abbrev pub or_new_session : Option SessionRecord → SessionRecord
or_new_session None = new_session
or_new_session (Some r) = r

-- the root as it starts, never locked
abbrev pub root_record : NodeRecord
root_record = record { node = Some (with_names [] root_node); lock = no_lock; last = 0 }

-- A new table has the root's record alone, an empty record for each session from 1 on, and the number
-- done 0.
abbrev pub new_table : ℕ → Meaning
new_table count = record {
  nodes = λ p. if is_root p then Some root_record else None;
  sessions = λ s. if nat_le 1 s && nat_le s count then Some new_session else None;
  done = 0;
  armed = false;
  faults = 0;
}

-- the next call fails
abbrev pub armed : Meaning → Meaning
armed m = record m { armed = true }

-- the next call doesn't fail
abbrev pub calmed : Meaning → Meaning
calmed m = record m { armed = false }

-- A call that may fail does so exactly where the table is armed. It then raises the count of faults,
-- calms the table and changes nothing else.
abbrev pub called : Meaning → Meaning
called m = if m.armed then record m { armed = false; faults = one_more m.faults } else m

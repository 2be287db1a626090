-- The writes of a transaction: what each makes of the record of a path, of the record of a session and of
-- the number done.
use Rattle.std.specs.Prelude.{ℕ, ◌==◌, max, Bool, true, false, if◌then◌else◌, ◌&&◌, List, [], ◌∷◌, ◌++◌, Option, Some, None, is_some}
use Rattle.fk_base.specs.Path.{PathNames, same_path}
use Rattle.fk_tree.specs.Edit.{edit}
use Rattle.fk_tree.specs.Tree.{map_some}
use Rattle.fk_tree.specs.declared.edit.Edit.{Edit}
use Rattle.fk_store.specs.declared.node_record.NodeRecord.{NodeRecord}
use Rattle.fk_store.specs.declared.session_record.SessionRecord.{SessionRecord}
use Rattle.fk_store.specs.declared.write.Write.{Write}
use Rattle.fk_store.specs.declared.write.Write.TheVariants as write
use Rattle.fk_store.specs.Locks.{granted, released}
use Rattle.fk_store.specs.Meaning.{Meaning, or_no_record}

-- RECORDS OF PATHS
-- the lock is granted; a path without a record gets one without a node
abbrev pub grant_record : ℕ → ℕ → Option NodeRecord → Option NodeRecord
grant_record inv moment o = Some (record (or_no_record o) { lock = granted inv moment })

-- the lock is no longer held; a path without a record stays so
abbrev pub release_record : Option NodeRecord → Option NodeRecord
release_record None = None
release_record (Some r) = Some (record r { lock = released r.lock })

-- the node is edited, and the transaction is the record's last; a path without a record gets one first
abbrev pub change_record : Edit → ℕ → ℕ → Option NodeRecord → Option NodeRecord
change_record e tx moment o = Some (record (or_no_record o) { node = edit tx moment e.what (or_no_record o).node; last = tx })

-- whether a write is one of the record of this path
abbrev pub is_of_path : PathNames → Write → Bool
is_of_path p (write.Grant q inv moment) = same_path p q
is_of_path p (write.Release q) = same_path p q
is_of_path p (write.Change e tx moment) = same_path p e.path
is_of_path p _ = false

-- what a write makes of the record of its path
abbrev pub record_by : Write → Option NodeRecord → Option NodeRecord
record_by (write.Grant q inv moment) o = grant_record inv moment o
record_by (write.Release q) o = release_record o
record_by (write.Change e tx moment) o = change_record e tx moment o
record_by _ o = o

abbrev pub record_after : Write → PathNames → Option NodeRecord → Option NodeRecord
record_after w p o = if is_of_path p w then record_by w o else o

-- what these writes, in their order, make of the record of a path
abbrev pub records_written : PathNames → List Write → Option NodeRecord → Option NodeRecord
records_written p [] o = o
records_written p (w ∷ ws) o = records_written p ws (record_after w p o)

-- RECORDS OF SESSIONS
-- the list without the number
abbrev pub without : ℕ → List ℕ → List ℕ
without n [] = []
without n (m ∷ ms) = if m == n then without n ms else m ∷ without n ms

-- whether a write is one of the record of this session
abbrev pub is_of_session : ℕ → Write → Bool
is_of_session s (write.Settle t k o) = t == s
is_of_session s (write.CloseSession t) = t == s
is_of_session s (write.AddPending t tx) = t == s
is_of_session s (write.PopPending t tx) = t == s
is_of_session s (write.Ping t n moment) = t == s
is_of_session s (write.Pong t n) = t == s
is_of_session s _ = false

-- what a write makes of the record of its session
abbrev pub session_by : Write → SessionRecord → SessionRecord
session_by (write.Settle t k o) r = record r { settled = k; outcome = o }
session_by (write.CloseSession t) r = record r { closed = true }
session_by (write.AddPending t tx) r = record r { pending = r.pending ++ tx ∷ []; last = tx }
session_by (write.PopPending t tx) r = record r { pending = without tx r.pending }
session_by (write.Ping t n moment) r = record r { ping = n; ping_at = moment }
session_by (write.Pong t n) r = record r { pong = max r.pong n }
session_by _ r = r

abbrev pub session_after : Write → ℕ → SessionRecord → SessionRecord
session_after w s r = if is_of_session s w then session_by w r else r

-- what these writes, in their order, make of the record of a session
abbrev pub session_written : ℕ → List Write → SessionRecord → SessionRecord
session_written s [] r = r
session_written s (w ∷ ws) r = session_written s ws (session_after w s r)

-- THE TABLE
abbrev pub done_after : Write → ℕ → ℕ
done_after (write.Done n) d = n
done_after _ d = d

abbrev pub done_written : List Write → ℕ → ℕ
done_written [] d = d
done_written (w ∷ ws) d = done_written ws (done_after w d)

-- the table after a write
abbrev pub written : Write → Meaning → Meaning
written w m = record {
  nodes = λ p. record_after w p (m.nodes p);
  sessions = λ s. map_some (session_after w s) (m.sessions s);
  done = done_after w m.done;
  armed = m.armed;
  faults = m.faults;
}

-- the table after these writes, in their order
abbrev pub all_written : List Write → Meaning → Meaning
all_written [] m = m
all_written (w ∷ ws) m = all_written ws (written w m)

-- the session that a write names exists
abbrev pub is_fit_write : Meaning → Write → Bool
is_fit_write m (write.Settle s k o) = is_some (m.sessions s)
is_fit_write m (write.CloseSession s) = is_some (m.sessions s)
is_fit_write m (write.AddPending s tx) = is_some (m.sessions s)
is_fit_write m (write.PopPending s tx) = is_some (m.sessions s)
is_fit_write m (write.Ping s n moment) = is_some (m.sessions s)
is_fit_write m (write.Pong s n) = is_some (m.sessions s)
is_fit_write m _ = true

abbrev pub are_fit_writes : Meaning → List Write → Bool
are_fit_writes m [] = true
are_fit_writes m (w ∷ ws) = is_fit_write m w && are_fit_writes m ws

-- What the answers of a table's calls say of the table before the call, and what it means after it.
use Rattle.std.specs.Prelude.{◌≡◌, ℕ, Bool, true, false, List, Option, Some, None}
use Rattle.fk_base.specs.Path.{PathNames, path_cmp}
use Rattle.fk_tree.specs.Sorted.{has_path, rises}
use Rattle.fk_tree.specs.Rows.{is_of}
use Rattle.fk_store.specs.declared.answer.Seen.{Seen}
use Rattle.fk_store.specs.declared.answer.Seen.TheVariants as seen
use Rattle.fk_store.specs.declared.answer.Owned.{Owned}
use Rattle.fk_store.specs.declared.answer.Owned.TheVariants as owned
use Rattle.fk_store.specs.declared.answer.Taken.{Taken}
use Rattle.fk_store.specs.declared.answer.Taken.TheVariants as taken
use Rattle.fk_store.specs.declared.answer.Transact.{Transact}
use Rattle.fk_store.specs.declared.answer.Transact.TheVariants as transact
use Rattle.fk_store.specs.declared.cond.Cond.{Cond}
use Rattle.fk_store.specs.declared.node_record.NodeRecord.{NodeRecord}
use Rattle.fk_store.specs.declared.session_record.SessionRecord.{SessionRecord}
use Rattle.fk_store.specs.declared.write.Write.{Write}
use Rattle.fk_store.specs.declared.write.Write.TheVariants as write
use Rattle.fk_store.specs.Locks.{is_free}
use Rattle.fk_store.specs.Meaning.{Meaning, called, lock_of}
use Rattle.fk_store.specs.Conds.{first_missed}
use Rattle.fk_store.specs.Writes.{all_written, grant_record, written}

-- Here is the record of the path, Missing where there is none, Failed exactly where the table is armed.
abbrev pub IsNodeSeen : Meaning → PathNames → Seen NodeRecord → Type 0
IsNodeSeen m p (seen.Here r) = (m.armed ≡ false) × (m.nodes p ≡ Some r.now)
IsNodeSeen m p seen.Missing = (m.armed ≡ false) × (m.nodes p ≡ None)
IsNodeSeen m p seen.Failed = m.armed ≡ true

abbrev pub IsSessionSeen : Meaning → ℕ → Seen SessionRecord → Type 0
IsSessionSeen m s (seen.Here r) = (m.armed ≡ false) × (m.sessions s ≡ Some r.now)
IsSessionSeen m s seen.Missing = (m.armed ≡ false) × (m.sessions s ≡ None)
IsSessionSeen m s seen.Failed = m.armed ≡ true

-- whether a record has a node of this owner
abbrev pub has_owner : ℕ → Option NodeRecord → Bool
has_owner s None = false
has_owner s (Some r) = is_of s r.node

-- the paths whose node has this owner, in path order
pub record AreOwned (m : Meaning) (s : ℕ) (ps : List PathNames) : Type 0 where
  pub rising : rises path_cmp ps ≡ true
  pub exact : (p : PathNames) → has_path p ps ≡ has_owner s (m.nodes p)

abbrev pub IsOwned : Meaning → ℕ → Owned → Type 0
IsOwned m s (owned.List ps) = (m.armed ≡ false) × AreOwned m s ps
IsOwned m s owned.Failed = m.armed ≡ true
IsOwned m s owned.NoMemory = m.armed ≡ false

-- Done where all conditions hold, Missed with the first that fails; Failed exactly where the table is
-- armed.
abbrev pub IsTransact : Meaning → List Cond → Transact → Type 0
IsTransact m cs transact.Done = (m.armed ≡ false) × (first_missed m cs ≡ None)
IsTransact m cs (transact.Missed place found) = (m.armed ≡ false) × (first_missed m cs ≡ Some (record { place = place; found = found }))
IsTransact m cs transact.Failed = m.armed ≡ true
IsTransact m cs transact.NoMemory = m.armed ≡ false

-- The table after a transaction: at Done all writes were made, in order, as one step; else nothing was.
abbrev pub after_transact : Meaning → List Write → Transact → Meaning
after_transact m ws transact.Done = all_written ws m
after_transact m ws (transact.Missed place found) = m
after_transact m ws transact.Failed = called m
after_transact m ws transact.NoMemory = m

-- Granted, with the record after the grant, where the lock may be granted; Busy, with the held lock, where
-- it may not; Failed exactly where the table is armed.
abbrev pub IsTaken : Meaning → PathNames → ℕ → ℕ → ℕ → Taken → Type 0
IsTaken m p inv now time (taken.Granted r) = (m.armed ≡ false) × (is_free now time (lock_of m p) ≡ true) × (grant_record inv now (m.nodes p) ≡ Some r.now)
IsTaken m p inv now time (taken.Busy l) = (m.armed ≡ false) × (is_free now time (lock_of m p) ≡ false) × (l ≡ lock_of m p)
IsTaken m p inv now time taken.Failed = m.armed ≡ true
IsTaken m p inv now time taken.NoMemory = m.armed ≡ false

-- The table after a lock was taken: at Granted with the grant; else nothing changed.
abbrev pub after_take : Meaning → PathNames → ℕ → ℕ → Taken → Meaning
after_take m p inv now (taken.Granted r) = written (write.Grant p inv now) m
after_take m p inv now (taken.Busy l) = m
after_take m p inv now taken.Failed = called m
after_take m p inv now taken.NoMemory = m

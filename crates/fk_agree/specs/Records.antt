-- The table after the other lines of a history.
use Rattle.std.specs.Prelude.{◌≡◌, ℕ, List, [], ◌∷◌, length, Some}
use Rattle.fk_base.specs.Path.{PathNames}
use Rattle.fk_base.specs.declared.code.Code.{Code}
use Rattle.fk_tree.specs.Sorted.{has_path}
use Rattle.fk_print.specs.declared.entry.Entry.{Entry}
use Rattle.fk_print.specs.declared.op.Op.{Op}
use Rattle.fk_print.specs.declared.op.Op.TheVariants as op
use Rattle.fk_store.specs.Meaning.{new_table}
use Rattle.fk_store.specs.Writes.{all_written, written}
use Rattle.fk_store.specs.declared.outcome.Outcome.TheVariants as kept
use Rattle.fk_store.specs.declared.write.Write.TheVariants as write
use Rattle.fk_settle.specs.Transaction.{refuse_writes}
use Rattle.fk_stand.specs.Tables.{kept_as, table_after}
use Rattle.fk_spec.specs.Plan.{Plan}
use Rattle.fk_spec.specs.Start.{Probes, clock_of, task_of}
use Rattle.fk_spec.specs.Locks.{granted, loss_of}
use Rattle.fk_spec.specs.Settling.{Passed}
use Rattle.fk_spec.specs.Follower.{Follower}
use Rattle.fk_spec.specs.Follower as follower
use Rattle.fk_spec.specs.Function.{Following, place_of}
use Rattle.fk_spec.specs.Next.{IsHistory}
use Rattle.fk_law.specs.Due.{IsPushOf}

-- A new table for so many sessions is what the rules say of no history.
abbrev pub NewTableStands : Type 0
NewTableStands = (p : Plan) → new_table (length p.asks) ≡ table_after p [] 0

-- a line that changes no record
abbrev pub LeavesRecords : Op → Type 0
LeavesRecords (op.LockOk function path) = ⊥
LeavesRecords (op.CommitOk function tx) = ⊥
LeavesRecords (op.RefuseOk function code place at) = ⊥
LeavesRecords (op.LostOk function) = ⊥
LeavesRecords (op.DropOk function tx) = ⊥
LeavesRecords (op.DoneOk function tx) = ⊥
LeavesRecords (op.NoteOk function) = ⊥
LeavesRecords (op.Pong session ping) = ⊥
LeavesRecords _ = Unit {0}

-- It leaves the table as it is.
abbrev pub RecordsStay : Type 0
RecordsStay = (p : Plan) (faults : ℕ) (e : Entry) (h : List Entry) → LeavesRecords e.op → table_after p (e ∷ h) faults ≡ table_after p h faults

-- A granted lock is what its write makes.
abbrev pub GrantIsWritten : Type 0
GrantIsWritten =
    (p : Plan) (n faults : ℕ) (path : PathNames) (e : Entry) (h : List Entry) → IsHistory p (e ∷ h) → e.op ≡ op.LockOk n path
    → written (write.Grant path n (clock_of h)) (table_after p h faults) ≡ table_after p (e ∷ h) faults

-- A refusal is what its writes make, where these release the paths that its follower was granted.
abbrev pub RefusalIsWritten : Type 0
RefusalIsWritten =
    (p : Plan) (n place at faults : ℕ) (code : Code) (e : Entry) (h : List Entry) (f : Follower) (paths : List PathNames) → IsHistory p (e ∷ h) → e.op ≡ op.RefuseOk n code place at → place_of p n h ≡ Following f
    → ((q : PathNames) → has_path q paths ≡ has_path q (granted n h))
    → all_written (refuse_writes f.session f.k (kept.Refused code at place) paths) (table_after p h faults) ≡ table_after p (e ∷ h) faults

-- A follower that refuses a request of a closed session was granted nothing.
abbrev pub ExpiredIsGrantedNothing : Type 0
ExpiredIsGrantedNothing = (p : Plan) (n at : ℕ) (h : List Entry) (f : Follower) → IsHistory p h → place_of p n h ≡ Following f → f.stage ≡ follower.Expire at → granted n h ≡ []

-- A loss is what its write makes.
abbrev pub LossIsWritten : Type 0
LossIsWritten =
    (p : Plan) (n faults : ℕ) (e : Entry) (h : List Entry) (f : Follower) → IsHistory p (e ∷ h) → e.op ≡ op.LostOk n → place_of p n h ≡ Following f
    → all_written (refuse_writes f.session f.k (kept_as (Some (Passed (loss_of n h)))) []) (table_after p h faults) ≡ table_after p (e ∷ h) faults

-- A push that is done, or dropped, is what its writes make: the number done, and one pending commit less.
abbrev pub FinishIsWritten : Type 0
FinishIsWritten =
    (p : Plan) (n t m c k faults : ℕ) (e : Entry) (h : List Entry) → IsHistory p (e ∷ h) → e.op ≡ op.DoneOk n t → IsPushOf t m c k h
    → all_written (write.Done t ∷ write.PopPending c t ∷ []) (table_after p h faults) ≡ table_after p (e ∷ h) faults

abbrev pub DropIsWritten : Type 0
DropIsWritten =
    (p : Plan) (n t faults : ℕ) (e : Entry) (h : List Entry) → IsHistory p (e ∷ h) → e.op ≡ op.DropOk n t
    → all_written (write.Done t ∷ []) (table_after p h faults) ≡ table_after p (e ∷ h) faults

-- A ping that is noted, and an answer to one, are what their writes make.
abbrev pub PingIsWritten : Type 0
PingIsWritten =
    (p : Plan) (n c faults : ℕ) (e : Entry) (h : List Entry) → e.op ≡ op.NoteOk n → task_of n h ≡ Some (Probes c)
    → all_written (write.Ping c n (clock_of h) ∷ []) (table_after p h faults) ≡ table_after p (e ∷ h) faults

abbrev pub PongIsWritten : Type 0
PongIsWritten =
    (p : Plan) (c ping faults : ℕ) (e : Entry) (h : List Entry) → e.op ≡ op.Pong c ping
    → written (write.Pong c ping) (table_after p h faults) ≡ table_after p (e ∷ h) faults

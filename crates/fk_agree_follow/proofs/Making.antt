-- The operations that a follower makes, and what each of them leaves.
use Rattle.std.specs.Prelude.{◌+◌, ◌==◌, if◌then◌else◌}
use Rattle.std.proofs.Common.{◌≡◌, ℕ, Bool, true, false, List, refl, sym, ap, Option, Some, None}
use Rattle.std.proofs.lemmas.Bool.{false≢true}
use Rattle.fk_base.specs.Path.{PathNames}
use Rattle.fk_base.specs.declared.code.Code.TheVariants as code
use Rattle.fk_print.specs.declared.op.Op.{Op}
use Rattle.fk_print.specs.declared.op.Op.TheVariants as op
use Rattle.fk_queue.specs.Letters.{head_number}
use Rattle.fk_queue.specs.Meaning as post
use Rattle.fk_queue.specs.declared.lane.Lane.TheVariants as lane
use Rattle.fk_store.specs.Conds.{session_of}
use Rattle.fk_store.specs.Locks.{is_free}
use Rattle.fk_store.specs.Meaning as table
use Rattle.fk_store.specs.Meaning.{lock_of}
use Rattle.fk_store.specs.declared.lock.Lock.{Lock}
use Rattle.fk_store.specs.declared.outcome.Outcome.{Outcome}
use Rattle.fk_store.specs.declared.outcome.Outcome.TheVariants as kept
use Rattle.fk_store.specs.declared.session_record.SessionRecord.{SessionRecord}
use Rattle.fk_tree.specs.Check.{Refusal}
use Rattle.fk_follow.specs.Meaning.{is_end}
use Rattle.fk_settle.specs.Held as settle
use Rattle.fk_follow.specs.Operation.{calm_op, lock_op, locked, session_op, settled_op}
use Rattle.fk_spec.specs.Follower as stage
use Rattle.fk_spec.specs.Follower.{Follower, Stage, ack_op, commit_locked, is_number, refuse_locked, unsettled_op}
use Rattle.fk_spec.specs.Function.{actor}
use Rattle.fk_spec.specs.Locks as locks
use Rattle.fk_agree.specs.Stored.{LeavesStore}
use Rattle.fk_agree.specs.Watched.{LeavesWatches}
use Rattle.fk_base.proofs.Logic.{by_test}

-- an operation that follower n may make, where its services don't fail
abbrev pub Made : ℕ → Op → Type 0
Made n (op.SessionNew m) = m ≡ n
Made n (op.SessionClosed m) = m ≡ n
Made n (op.SessionApplied m) = m ≡ n
Made n (op.SessionRefused m) = m ≡ n
Made n (op.SessionPast m) = m ≡ n
Made n (op.Owned m count) = m ≡ n
Made n (op.LockOk m path) = m ≡ n
Made n (op.LockBusy m path holder moment) = m ≡ n
Made n (op.Push m tx) = m ≡ n
Made n (op.RefuseOk m cd place at) = m ≡ n
Made n (op.RefuseSettled m cd place at settled) = m ≡ n
Made n (op.RefuseLock m cd place at path holder moment) = m ≡ n
Made n (op.CommitOk m tx) = m ≡ n
Made n (op.CommitSettled m tx settled) = m ≡ n
Made n (op.CommitLock m tx path holder moment) = m ≡ n
Made n (op.LostOk m) = m ≡ n
Made n (op.LostSettled m settled) = m ≡ n
Made n (op.Reply m session k) = m ≡ n
Made n (op.AckOk m) = m ≡ n
Made n (op.AckGone m) = m ≡ n
Made n _ = ⊥

pub made_by : (n : ℕ) (o : Op) → Made n o → actor o ≡ Some n
made_by n (op.SessionNew m) i = ap Some i
made_by n (op.SessionClosed m) i = ap Some i
made_by n (op.SessionApplied m) i = ap Some i
made_by n (op.SessionRefused m) i = ap Some i
made_by n (op.SessionPast m) i = ap Some i
made_by n (op.Owned m count) i = ap Some i
made_by n (op.LockOk m path) i = ap Some i
made_by n (op.LockBusy m path holder moment) i = ap Some i
made_by n (op.Push m tx) i = ap Some i
made_by n (op.RefuseOk m cd place at) i = ap Some i
made_by n (op.RefuseSettled m cd place at settled) i = ap Some i
made_by n (op.RefuseLock m cd place at path holder moment) i = ap Some i
made_by n (op.CommitOk m tx) i = ap Some i
made_by n (op.CommitSettled m tx settled) i = ap Some i
made_by n (op.CommitLock m tx path holder moment) i = ap Some i
made_by n (op.LostOk m) i = ap Some i
made_by n (op.LostSettled m settled) i = ap Some i
made_by n (op.Reply m session k) i = ap Some i
made_by n (op.AckOk m) i = ap Some i
made_by n (op.AckGone m) i = ap Some i
made_by n o i = absurd i

-- what a follower makes leaves the user storage and the table of watches
pub made_spares : (n : ℕ) (o : Op) → Made n o → LeavesStore o × LeavesWatches o
made_spares n (op.PutOk m tx path) i = absurd i
made_spares n (op.PublishOk m tx) i = absurd i
made_spares n (op.WatchSet c command id) i = absurd i
made_spares n (op.SweepOk m tx fired) i = absurd i
made_spares n (op.Told m tx) i = absurd i
made_spares n o i = (tt, tt)

-- ---- by its stages

settled_all : (P : Op → Type 0) (n : ℕ) (o : Outcome) → P (op.SessionApplied n) → P (op.SessionRefused n) → P (settled_op n o)
settled_all P n kept.Nothing a b = b
settled_all P n (kept.Applied tx) a b = a
settled_all P n (kept.Refused cd at place) a b = b
settled_all P n (kept.Lost path own found moment) a b = b

-- what holds of each answer about a session
pub session_all : (P : Op → Type 0) (n k : ℕ) (r : SessionRecord) → P (op.SessionNew n) → P (op.SessionClosed n) → P (op.SessionApplied n) → P (op.SessionRefused n) → P (op.SessionPast n) → P (session_op n k r)
session_all P n k r a b c d e =
    by_test (r.settled + 1 == k) (λ z. P (if z then unsettled_op n r.closed else if r.settled == k then settled_op n r.outcome else op.SessionPast n)) (λ _. by_test r.closed (λ z. P (if z then op.SessionClosed n else op.SessionNew n)) (λ _. b) (λ _. a))
    (λ _. by_test (r.settled == k) (λ z. P (if z then settled_op n r.outcome else op.SessionPast n)) (λ _. settled_all P n r.outcome c d) (λ _. e))

pub lock_all : (P : Op → Type 0) (now time n : ℕ) (path : PathNames) (x : Lock) → P (op.LockOk n path) → P (op.LockBusy n path x.inv x.moment) → P (lock_op now time n path x)
lock_all P now time n path x a b = by_test (is_free now time x) (λ z. P (if z then op.LockOk n path else op.LockBusy n path x.inv x.moment)) (λ _. a) (λ _. b)

pub ack_all : (P : Op → Type 0) (n own : ℕ) (o : Option ℕ) → P (op.AckOk n) → P (op.AckGone n) → P (ack_op n own o)
ack_all P n own o a b = by_test (is_number own o) (λ z. P (if z then op.AckOk n else op.AckGone n)) (λ _. a) (λ _. b)

-- a transaction that settles: where it is made, where it isn't the next, and where a lock passed on
pub by_settling : (P : Op → Type 0) (b : Bool) (o : Option locks.Passed) (f : Option locks.Passed → Op) (s : Op) → P (f None) → P s → ((x : locks.Passed) → P (f (Some x))) → P (if b then f o else s)
by_settling P true None f s a b c = a
by_settling P true (Some x) f s a b c = c x
by_settling P false o f s a b c = b

refuse_made : (n : ℕ) (r : Refusal) (at : ℕ) (o : Option locks.Passed) (b : Bool) (s : ℕ) → Made n (if b then refuse_locked n r at o else op.RefuseSettled n r.code r.place at s)
refuse_made n r at o b s = by_settling (Made n) b o (refuse_locked n r at) (op.RefuseSettled n r.code r.place at s) refl refl (λ x. refl)

commit_made : (n tx : ℕ) (o : Option locks.Passed) (b : Bool) (s : ℕ) → Made n (if b then commit_locked n tx o else op.CommitSettled n tx s)
commit_made n tx o b s = by_settling (Made n) b o (commit_locked n tx) (op.CommitSettled n tx s) refl refl (λ x. refl)

pub either : (P : Op → Type 0) (b : Bool) (x y : Op) → P x → P y → P (if b then x else y)
either P true x y a b = a
either P false x y a b = b

-- a follower that stands before a stage makes one of these
pub stage_makes : (t : table.Meaning) (q : post.Meaning) (now time : ℕ) (owned : List PathNames) (n : ℕ) (f : Follower) (x : Stage) → is_end x ≡ false → Made n (calm_op t q now time owned n f x)
stage_makes t q now time owned n f stage.Session e = session_all (Made n) n f.k (session_of t f.session) refl refl refl refl refl
stage_makes t q now time owned n f stage.Owned e = refl
stage_makes t q now time owned n f (stage.Lock path) e = lock_all (Made n) now time n path (lock_of t path) refl refl
stage_makes t q now time owned n f stage.Push e = refl
stage_makes t q now time owned n f (stage.Refuse r at) e = refuse_made n r at (settle.first_passed n t (locked f)) ((session_of t f.session).settled + 1 == f.k) (session_of t f.session).settled
stage_makes t q now time owned n f (stage.Expire at) e = either (Made n) ((session_of t f.session).settled + 1 == f.k) (op.RefuseOk n code.SessionExpired 0 at) (op.RefuseSettled n code.SessionExpired 0 at (session_of t f.session).settled) refl refl
stage_makes t q now time owned n f (stage.Commit tx) e = commit_made n tx (settle.first_passed n t (locked f)) ((session_of t f.session).settled + 1 == f.k) (session_of t f.session).settled
stage_makes t q now time owned n f stage.Lost e = either (Made n) ((session_of t f.session).settled + 1 == f.k) (op.LostOk n) (op.LostSettled n (session_of t f.session).settled) refl refl
stage_makes t q now time owned n f stage.Reply e = refl
stage_makes t q now time owned n f stage.Ack e = ack_all (Made n) n f.k (head_number (q.lanes (lane.Session f.session))) refl refl
stage_makes t q now time owned n f stage.Ended e = absurd (false≢true (sym e))

-- The follower: it locks, validates, pushes and commits one request of a session.
use Rattle.std.specs.Prelude.{ℕ, ◌+◌, ◌==◌, Bool, false, if◌then◌else◌, List, [], ◌∷◌, ◌++◌, Option, Some, None, max, length}
use Rattle.fk_base.specs.Path.{PathNames, same_path}
use Rattle.fk_base.specs.declared.code.Code.TheVariants as code
use Rattle.fk_tree.specs.Check.{Refusal, check}
use Rattle.fk_tree.specs.Edit.{closes}
use Rattle.fk_tree.specs.Locks.{lock_paths}
use Rattle.fk_tree.specs.Sorted.{in_path_order}
use Rattle.fk_tree.specs.View.{View}
use Rattle.fk_tree.specs.declared.node.Node.{Node}
use Rattle.fk_tree.specs.declared.request.Request.{Request}
use Rattle.fk_print.specs.declared.entry.Entry.{Entry}
use Rattle.fk_print.specs.declared.op.Op.{Op}
use Rattle.fk_print.specs.declared.op.Op.TheVariants as op
use Rattle.fk_spec.specs.Plan.{Plan, item_after}
use Rattle.fk_spec.specs.Start.{pushes_of, request_of, seen_with}
use Rattle.fk_spec.specs.Settling.{Outcome, Committed, settled_of, outcome_of, last_of_session, is_next_to_settle}
use Rattle.fk_spec.specs.Locks.{Grant, last_grant, may_grant, granted, first_passed}
use Rattle.fk_spec.specs.Locks as locks
use Rattle.fk_spec.specs.Stored.{committed_of, stored_view, last_edit, owned_after}
use Rattle.fk_spec.specs.Lanes.{session_head}

-- the operation before which a follower stands
pub data Stage : Type 0 where
  Session : Stage
  Owned : Stage
  Lock : (path : PathNames) → Stage
  Push : Stage
  Refuse : (refusal : Refusal) (at : ℕ) → Stage
  Expire : (at : ℕ) → Stage
  Commit : (tx : ℕ) → Stage
  Lost : Stage
  Reply : Stage
  Ack : Stage
  Ended : Stage

-- a lock that was granted, with the node and the last commit that its record showed
pub record Granted : Type 0 where
  pub path : PathNames
  pub node : Option Node
  pub last : ℕ

-- A follower in flight: its message, the last commit of its session when it began, the nodes that its
-- session owned, what it was granted, and where it stands.
pub record Follower : Type 0 where
  pub session : ℕ
  pub k : ℕ
  pub last : ℕ
  pub owned : List PathNames
  pub granted : List Granted
  pub stage : Stage

-- the paths of granted records, in the order of the grants
abbrev pub paths_of : List Granted → List PathNames
paths_of [] = []
paths_of (g ∷ gs) = g.path ∷ paths_of gs

abbrev pub begin : ℕ → ℕ → Follower
begin session k = record { session = session; k = k; last = 0; owned = []; granted = []; stage = Session }

abbrev pub node_in : List Granted → PathNames → Option Node
node_in [] p = None
node_in (g ∷ gs) p = if same_path g.path p then g.node else node_in gs p

-- what the granted records show; what isn't granted counts as missing
abbrev pub view_of : List Granted → View
view_of gs = record { node = node_in gs; closed = λ s. false }

abbrev pub greatest_last : List Granted → ℕ
greatest_last [] = 0
greatest_last (g ∷ gs) = max g.last (greatest_last gs)

-- A refusal's number: the greatest of what the client had seen when it sent, the last commit of its
-- session, and the last commit of each granted record.
abbrev pub refusal_number : ℕ → Follower → ℕ
refusal_number seen f = max seen (max f.last (greatest_last f.granted))

-- it pushes where the check passes on what was granted
abbrev pub decided : ℕ → Follower → Option Refusal → Stage
decided seen f None = Push
decided seen f (Some r) = Refuse r (refusal_number seen f)

-- the next path to lock, or the decision after the last one
abbrev pub next_stage : ℕ → Request → Follower → Option PathNames → Stage
next_stage seen r f (Some p) = Lock p
next_stage seen r f None = decided seen f (check (view_of f.granted) f.session r)

abbrev pub to_lock : ℕ → Request → Follower → Follower
to_lock seen r f = record f { stage = next_stage seen r f (item_after (lock_paths (view_of f.granted) f.owned r) (length f.granted)) }

-- a close first reads which nodes its session owns
abbrev pub to_begin : ℕ → Request → Follower → Follower
to_begin seen r f = if closes r then record f { stage = Owned } else to_lock seen r f

abbrev pub with_granted : Plan → List Entry → PathNames → Follower → Follower
with_granted p h path f = record f { granted = f.granted ++ record { path = path; node = (stored_view p h).node path; last = last_edit p path h } ∷ [] }

-- What comes after each answer. `r` is its request, `h` are the entries before.
abbrev pub next_with : Plan → List Entry → Request → Op → Follower → Follower
next_with p h r (op.SessionNew n) f = to_begin (seen_with f.session f.k h) r (record f { last = last_of_session f.session h })
next_with p h r (op.SessionClosed n) f = record f { stage = Expire (max (seen_with f.session f.k h) (last_of_session f.session h)) }
next_with p h r (op.SessionApplied n) f = record f { stage = Ack }
next_with p h r (op.SessionRefused n) f = record f { stage = Reply }
next_with p h r (op.SessionPast n) f = record f { stage = Ack }
next_with p h r (op.Owned n count) f = to_lock (seen_with f.session f.k h) r (record f { owned = owned_after f.session (committed_of p h) })
next_with p h r (op.LockOk n path) f = to_lock (seen_with f.session f.k h) r (with_granted p h path f)
next_with p h r (op.LockBusy n path holder moment) f = f
next_with p h r (op.Push n tx) f = record f { stage = Commit tx }
next_with p h r (op.CommitOk n tx) f = record f { stage = Ack }
next_with p h r (op.CommitSettled n tx settled) f = record f { stage = Session }
next_with p h r (op.CommitLock n tx path holder moment) f = record f { stage = Lost }
next_with p h r (op.RefuseOk n code place at) f = record f { stage = Reply }
next_with p h r (op.RefuseSettled n code place at settled) f = record f { stage = Session }
next_with p h r (op.RefuseLock n code place at path holder moment) f = record f { stage = Lost }
next_with p h r (op.LostOk n) f = record f { stage = Reply }
next_with p h r (op.LostSettled n settled) f = record f { stage = Session }
next_with p h r (op.Reply n session k) f = record f { stage = Ack }
next_with p h r _ f = record f { stage = Ended }

abbrev pub next_for : Plan → List Entry → Option Request → Op → Follower → Follower
next_for p h None o f = record f { stage = Ended }
next_for p h (Some r) o f = next_with p h r o f

-- the follower after one of its operations
abbrev pub next_follower : Plan → List Entry → Op → Follower → Follower
next_follower p h o f = next_for p h (request_of p f.session f.k h) o f

abbrev pub settled_op : ℕ → Option Outcome → Op
settled_op n (Some (Committed tx)) = op.SessionApplied n
settled_op n _ = op.SessionRefused n

abbrev pub unsettled_op : ℕ → Bool → Op
unsettled_op n closed = if closed then op.SessionClosed n else op.SessionNew n

-- the session's next request, its last one, or one that is past
abbrev pub session_op : Plan → List Entry → ℕ → ℕ → ℕ → Op
session_op p h n c k =
    if is_next_to_settle c k h then unsettled_op n ((stored_view p h).closed c) else if settled_of c h == k then settled_op n (outcome_of c k h) else op.SessionPast n

abbrev pub busy_op : ℕ → PathNames → Option Grant → Op
busy_op n path None = op.LockOk n path
busy_op n path (Some g) = op.LockBusy n path g.holder g.moment

abbrev pub lock_op : ℕ → List Entry → ℕ → PathNames → Op
lock_op lock h n path = if may_grant lock h (last_grant path h) then op.LockOk n path else busy_op n path (last_grant path h)

abbrev pub commit_locked : ℕ → ℕ → Option locks.Passed → Op
commit_locked n tx None = op.CommitOk n tx
commit_locked n tx (Some x) = op.CommitLock n tx x.path x.holder x.moment

-- A push commits where its request is the session's next to settle and its function still holds every
-- path that it was granted.
abbrev pub commit_op : List Entry → ℕ → ℕ → ℕ → ℕ → ℕ → Op
commit_op h n tx holder c k =
    if is_next_to_settle c k h then commit_locked n tx (first_passed holder h (in_path_order (granted holder h))) else op.CommitSettled n tx (settled_of c h)

abbrev pub refuse_locked : ℕ → Refusal → ℕ → Option locks.Passed → Op
refuse_locked n r at None = op.RefuseOk n r.code r.place at
refuse_locked n r at (Some x) = op.RefuseLock n r.code r.place at x.path x.holder x.moment

-- a refusal is settled under the same conditions
abbrev pub refuse_op : List Entry → ℕ → Refusal → ℕ → ℕ → ℕ → Op
refuse_op h n r at c k =
    if is_next_to_settle c k h then refuse_locked n r at (first_passed n h (in_path_order (granted n h))) else op.RefuseSettled n r.code r.place at (settled_of c h)

-- a request of a closed session is refused under the first of them alone
abbrev pub expire_op : List Entry → ℕ → ℕ → ℕ → ℕ → Op
expire_op h n at c k = if is_next_to_settle c k h then op.RefuseOk n code.SessionExpired 0 at else op.RefuseSettled n code.SessionExpired 0 at (settled_of c h)

abbrev pub lost_op : List Entry → ℕ → ℕ → ℕ → Op
lost_op h n c k = if is_next_to_settle c k h then op.LostOk n else op.LostSettled n (settled_of c h)

abbrev pub is_number : ℕ → Option ℕ → Bool
is_number n None = false
is_number n (Some m) = m == n

-- a message is removed where it is its lane's head
abbrev pub ack_op : ℕ → ℕ → Option ℕ → Op
ack_op n own head = if is_number own head then op.AckOk n else op.AckGone n

-- the operation that follower n makes
abbrev pub follower_op : Plan → List Entry → ℕ → Follower → Stage → Op
follower_op p h n f Session = session_op p h n f.session f.k
follower_op p h n f Owned = op.Owned n (length (owned_after f.session (committed_of p h)))
follower_op p h n f (Lock path) = lock_op p.lock h n path
follower_op p h n f Push = op.Push n (pushes_of h + 1)
follower_op p h n f (Refuse r at) = refuse_op h n r at f.session f.k
follower_op p h n f (Expire at) = expire_op h n at f.session f.k
follower_op p h n f (Commit tx) = commit_op h n tx n f.session f.k
follower_op p h n f Lost = lost_op h n f.session f.k
follower_op p h n f Reply = op.Reply n f.session f.k
follower_op p h n f Ack = ack_op n f.k (session_head f.session h)
follower_op p h n f Ended = op.Idle

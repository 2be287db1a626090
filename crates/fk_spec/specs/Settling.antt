-- How requests are settled: one after another in each session, each once.
use Rattle.std.specs.Prelude.{ℕ, ◌+◌, ◌==◌, Bool, false, if◌then◌else◌, ◌&&◌, ◌||◌, not, List, [], ◌∷◌, Option, Some, None, max}
use Rattle.fk_base.specs.declared.code.Code.{Code}
use Rattle.fk_print.specs.declared.entry.Entry.{Entry}
use Rattle.fk_print.specs.declared.op.Op.{Op}
use Rattle.fk_print.specs.declared.op.Op.TheVariants as op
use Rattle.fk_spec.specs.Locks.{Loss, loss_of}
use Rattle.fk_spec.specs.Start.{Push, task_of, session_followed, is_session, push_of}

-- the session that push t is of
abbrev pub session_of_function : List Entry → Option Push → Option ℕ
session_of_function h None = None
session_of_function h (Some p) = session_followed (task_of p.function h)

abbrev pub session_of_push : ℕ → List Entry → Option ℕ
session_of_push t h = session_of_function h (push_of t h)

-- what became of a request: it was applied, refused with a code that holds at a number, or its lock
-- had passed on
pub data Outcome : Type 0 where
  Committed : (tx : ℕ) → Outcome
  Refused : (code : Code) (place at : ℕ) → Outcome
  Passed : (loss : Option Loss) → Outcome

-- a line that settles: the session and the outcome
pub record Settling : Type 0 where
  pub session : ℕ
  pub outcome : Outcome

abbrev pub settling : Option ℕ → Outcome → Option Settling
settling None o = None
settling (Some c) o = Some (record { session = c; outcome = o })

-- a commit settles a request of its push's session, a refusal or a loss one of its follower's
abbrev pub settled_in : List Entry → Op → Option Settling
settled_in h (op.CommitOk function tx) = settling (session_of_push tx h) (Committed tx)
settled_in h (op.RefuseOk function code place at) = settling (session_followed (task_of function h)) (Refused code place at)
settled_in h (op.LostOk function) = settling (session_followed (task_of function h)) (Passed (loss_of function h))
settled_in h _ = None

abbrev pub count_settling : ℕ → Option Settling → ℕ → ℕ
count_settling c None n = n
count_settling c (Some s) n = if s.session == c then n + 1 else n

-- how many requests of session c are settled
abbrev pub settled_of : ℕ → List Entry → ℕ
settled_of c [] = 0
settled_of c (e ∷ h) = count_settling c (settled_in h e.op) (settled_of c h)

-- whether request k of session c is the next to settle
abbrev pub is_next_to_settle : ℕ → ℕ → List Entry → Bool
is_next_to_settle c k h = settled_of c h + 1 == k

abbrev pub outcome_here : ℕ → ℕ → ℕ → Option Settling → Option Outcome → Option Outcome
outcome_here c k n None o = o
outcome_here c k n (Some s) o = if (s.session == c) && (n + 1 == k) then Some s.outcome else o

-- the outcome of request k of session c: that of its k-th settling
abbrev pub outcome_of : ℕ → ℕ → List Entry → Option Outcome
outcome_of c k [] = None
outcome_of c k (e ∷ h) = outcome_here c k (settled_of c h) (settled_in h e.op) (outcome_of c k h)

abbrev pub commits : ℕ → Op → Bool
commits t (op.CommitOk function tx) = tx == t
commits t _ = false

-- whether push t was committed
abbrev pub is_committed : ℕ → List Entry → Bool
is_committed t [] = false
is_committed t (e ∷ h) = commits t e.op || is_committed t h

abbrev pub finishes : ℕ → Op → Bool
finishes t (op.DoneOk function tx) = tx == t
finishes t _ = false

-- whether a leader finished push t after it was committed
abbrev pub is_finished : ℕ → List Entry → Bool
is_finished t [] = false
is_finished t (e ∷ h) = finishes t e.op || is_finished t h

-- whether push t stands in its session's pending list
abbrev pub is_pending : ℕ → List Entry → Bool
is_pending t h = is_committed t h && not (is_finished t h)

abbrev pub last_for : ℕ → List Entry → Op → ℕ → ℕ
last_for c h (op.CommitOk function tx) n = if is_session c (session_of_push tx h) then tx else n
last_for c h _ n = n

-- the last push that was committed for session c, 0 where there is none
abbrev pub last_of_session : ℕ → List Entry → ℕ
last_of_session c [] = 0
last_of_session c (e ∷ h) = last_for c h e.op (last_of_session c h)

abbrev pub done_in : Op → ℕ → ℕ
done_in (op.DropOk function tx) n = max tx n
done_in (op.DoneOk function tx) n = max tx n
done_in _ n = n

-- the greatest push that a leader finished or dropped
abbrev pub done_of : List Entry → ℕ
done_of [] = 0
done_of (e ∷ h) = done_in e.op (done_of h)

abbrev pub swept_in : Op → ℕ → ℕ
swept_in (op.SweepOk function tx fired) n = max tx n
swept_in _ n = n

-- the greatest push for which the watches were swept
abbrev pub swept_of : List Entry → ℕ
swept_of [] = 0
swept_of (e ∷ h) = swept_in e.op (swept_of h)

abbrev pub mark_in : Op → ℕ → ℕ
mark_in (op.PublishOk function tx) n = max tx n
mark_in _ n = n

-- the mark: the greatest push that was published
abbrev pub mark_of : List Entry → ℕ
mark_of [] = 0
mark_of (e ∷ h) = mark_in e.op (mark_of h)

-- Where a follower stands after its operation: one line for each answer.
use Rattle.std.specs.Prelude.{◌≡◌, ℕ, List, [], ◌∷◌, ◌++◌, max, Result, IfOk}
use Rattle.fk_base.specs.Path.{PathNames}
use Rattle.fk_print.specs.declared.op.Op.{Op}
use Rattle.fk_print.specs.declared.op.Op.TheVariants as op
use Rattle.fk_queue.specs.Meaning as post
use Rattle.fk_store.specs.Conds.{session_of}
use Rattle.fk_store.specs.Meaning as table
use Rattle.fk_store.specs.Meaning.{or_no_record}
use Rattle.fk_store.specs.declared.outcome.Outcome.{Outcome}
use Rattle.fk_store.specs.declared.session_record.SessionRecord.{SessionRecord}
use Rattle.fk_store.specs.declared.outcome.Outcome.TheVariants as kept
use Rattle.fk_spec.specs.Follower.{Follower, Granted, Stage, to_begin, to_lock}
use Rattle.fk_spec.specs.Follower as stage
use Rattle.fk_follow.specs.Meaning.{Meaning, own_moment}
use Rattle.fk_follow.specs.Operation.{step_op}
use Rattle.fk_follow.specs.Sketches.{grant_for}

-- it goes on as this, without a moment and an outcome
abbrev pub going_on : Follower → Meaning → Meaning
going_on f m = record {
  inv = m.inv;
  message = m.message;
  follower = f;
  owns = m.owns;
  moment = 0;
  outcome = kept.Nothing;
}

abbrev pub standing : Stage → Follower → Follower
standing s f = record f { stage = s }

abbrev pub going_to : Stage → Meaning → Meaning
going_to s m = going_on (standing s m.follower) m

-- before a commit, with the moment of its push
abbrev pub committing : ℕ → ℕ → Meaning → Meaning
committing tx now m = record {
  inv = m.inv;
  message = m.message;
  follower = standing (stage.Commit tx) m.follower;
  owns = m.owns;
  moment = now;
  outcome = kept.Nothing;
}

-- with an outcome that is to be settled, or that was kept
abbrev pub with_outcome : Stage → Outcome → Meaning → Meaning
with_outcome s o m = record {
  inv = m.inv;
  message = m.message;
  follower = standing s m.follower;
  owns = m.owns;
  moment = 0;
  outcome = o;
}

-- a lock that it was granted has passed on
abbrev pub losing : PathNames → ℕ → ℕ → Meaning → Meaning
losing path holder moment m = with_outcome stage.Lost (kept.Lost path (own_moment path m.owns 0) holder moment) m

-- what the record of a path holds
abbrev pub granted_at : table.Meaning → PathNames → Granted
granted_at t path = record {
  path = path;
  node = (or_no_record (t.nodes path)).node;
  last = (or_no_record (t.nodes path)).last;
}

abbrev pub with_granted : Granted → Follower → Follower
with_granted g f = record f { granted = f.granted ++ g ∷ [] }

abbrev pub with_own : PathNames → ℕ → Meaning → Meaning
with_own path now m = record m { owns = m.owns ++ record { path = path; moment = now } ∷ [] }

-- having this, it locks its next path, or decides after the last one
abbrev pub locking : Follower → Meaning → Meaning
locking f m = going_on (to_lock m.message.seen m.message.request f) m

-- having this, it begins
abbrev pub beginning : Follower → Meaning → Meaning
beginning f m = going_on (to_begin m.message.seen m.message.request f) m

-- it was granted one more lock at this moment, and goes on
abbrev pub holding : Granted → ℕ → Meaning → Meaning
holding g now m = locking (with_granted g m.follower) (with_own g.path now m)

-- the last commit of its session
abbrev pub last_in : table.Meaning → Meaning → ℕ
last_in t m = (session_of t m.follower.session).last

-- What comes after each answer, on this table at this moment. `owned` is what the table gives for the session's
-- own nodes.
abbrev pub next_with : table.Meaning → List PathNames → ℕ → Op → Meaning → Meaning
next_with t owned now (op.SessionNew n) m = beginning (record m.follower { last = last_in t m }) m
next_with t owned now (op.SessionClosed n) m = going_to (stage.Expire (max m.message.seen (last_in t m))) m
next_with t owned now (op.SessionApplied n) m = going_to stage.Ack m
next_with t owned now (op.SessionRefused n) m = with_outcome stage.Reply (session_of t m.follower.session).outcome m
next_with t owned now (op.SessionPast n) m = going_to stage.Ack m
next_with t owned now (op.Owned n count) m = locking (record m.follower { owned = owned }) m
next_with t owned now (op.LockOk n path) m = holding (grant_for m.message.request (granted_at t path)) now m
next_with t owned now (op.LockBusy n path holder moment) m = m
next_with t owned now (op.Push n tx) m = committing tx now m
next_with t owned now (op.CommitOk n tx) m = going_to stage.Ack m
next_with t owned now (op.CommitSettled n tx settled) m = going_to stage.Session m
next_with t owned now (op.CommitLock n tx path holder moment) m = losing path holder moment m
next_with t owned now (op.RefuseOk n code place at) m = with_outcome stage.Reply (kept.Refused code at place) m
next_with t owned now (op.RefuseSettled n code place at settled) m = going_to stage.Session m
next_with t owned now (op.RefuseLock n code place at path holder moment) m = losing path holder moment m
next_with t owned now (op.LostOk n) m = with_outcome stage.Reply m.outcome m
next_with t owned now (op.LostSettled n settled) m = going_to stage.Session m
next_with t owned now (op.Reply n session k) m = going_to stage.Ack m
next_with t owned now _ m = going_to stage.Ended m

-- The follower after its operation on these services at this moment.
abbrev pub after_step : table.Meaning → post.Meaning → ℕ → ℕ → List PathNames → Meaning → Meaning
after_step t q now time owned m = next_with t owned now (step_op t q now time owned m) m

-- What comes after its operation on this table is `new`, whatever list and moment it is given.
abbrev pub GoesOnAt : {E : Type 0} → table.Meaning → Result Op E → Meaning → Meaning → Type 0
GoesOnAt t r old new = (owned : List PathNames) (now : ℕ) → IfOk r (λ o. new ≡ next_with t owned now o old)

-- the same on every table whose record of its session is this
abbrev pub GoesOnFrom : {E : Type 0} → SessionRecord → Result Op E → Meaning → Meaning → Type 0
GoesOnFrom s r old new = (t : table.Meaning) (owned : List PathNames) (now : ℕ)
    → session_of t old.follower.session ≡ s → IfOk r (λ o. new ≡ next_with t owned now o old)

-- the same on every table
abbrev pub GoesOn : {E : Type 0} → Result Op E → Meaning → Meaning → Type 0
GoesOn r old new = (t : table.Meaning) → GoesOnAt t r old new

-- the same of an operation that was made
abbrev pub GoesOnAfter : Op → Meaning → Meaning → Type 0
GoesOnAfter o old new = (t : table.Meaning) (owned : List PathNames) (now : ℕ) → new ≡ next_with t owned now o old

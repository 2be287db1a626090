-- Where a leader stands after its operation: one line for each answer.
use Rattle.std.specs.Prelude.{◌≡◌, List, [], ◌∷◌, Result, IfOk}
use Rattle.fk_print.specs.declared.op.Op.{Op}
use Rattle.fk_print.specs.declared.op.Op.TheVariants as op
use Rattle.fk_queue.specs.Meaning as post
use Rattle.fk_store.specs.Meaning as table
use Rattle.fk_user.specs.Meaning as user
use Rattle.fk_watch.specs.Meaning.{Watches}
use Rattle.fk_wire.specs.declared.fired.Fired.{Fired}
use Rattle.fk_spec.specs.Leader.{Stage, after_put, to_put}
use Rattle.fk_spec.specs.Leader as stage
use Rattle.fk_lead.specs.Meaning.{Meaning, Swept, paths_of}
use Rattle.fk_lead.specs.Operation.{step_op}

abbrev pub going_to : Stage → Meaning → Meaning
going_to s m = record m { stage = s }

-- it swept, and puts the first path that its push edits; where there is none, it publishes
abbrev pub having_swept : Swept → Meaning → Meaning
having_swept s m = record m { stage = to_put (paths_of m); swept = s }

-- fired watches are notified before the reply
abbrev pub to_notify : List Fired → Stage
to_notify [] = stage.Reply
to_notify (f ∷ fs) = stage.Notify

-- What comes after each answer. `s` is what the watches gave.
abbrev pub next_with : Swept → Op → Meaning → Meaning
next_with s (op.CommitOk n tx) m = going_to stage.Sweep m
next_with s (op.CommitSettled n tx settled) m = going_to stage.Pending m
next_with s (op.CommitLock n tx path holder moment) m = going_to stage.Pending m
next_with s (op.PendingYes n tx) m = going_to stage.Sweep m
next_with s (op.PendingNo n tx) m = going_to stage.Drop m
next_with s (op.DropOk n tx) m = going_to stage.Ack m
next_with s (op.DropMiss n tx done) m = going_to stage.Ack m
next_with s (op.SweepOk n tx fired) m = having_swept s m
next_with s (op.SweepMiss n tx swept fired) m = having_swept s m
next_with s (op.PutOk n tx path) m = going_to (after_put m.stage) m
next_with s (op.PutMiss n tx path stamp) m = going_to (after_put m.stage) m
next_with s (op.PublishOk n tx) m = going_to (to_notify m.swept.fired) m
next_with s (op.PublishMiss n tx mark) m = going_to (to_notify m.swept.fired) m
next_with s (op.Notify n tx note) m = going_to stage.Reply m
next_with s (op.Reply n session k) m = going_to stage.Done m
next_with s (op.DoneOk n tx) m = going_to stage.Ack m
next_with s (op.DoneMiss n tx done) m = going_to stage.Ack m
next_with s _ m = going_to stage.Ended m

-- What comes after its operation is `new`, whatever the watches gave.
abbrev pub GoesOn : {E : Type 0} → Result Op E → Meaning → Meaning → Type 0
GoesOn r old new = (s : Swept) → IfOk r (λ o. new ≡ next_with s o old)

-- the same of an operation that was made
abbrev pub GoesOnAfter : Op → Meaning → Meaning → Type 0
GoesOnAfter o old new = (s : Swept) → new ≡ next_with s o old

-- The leader after its operation on these services.
abbrev pub after_step : table.Meaning → post.Meaning → Watches → user.Meaning → Swept → Meaning → Meaning
after_step t q w u s m = next_with s (step_op t q w u s m) m

-- What a leader means: its invocation, its push, and where it stands as a history sees it.
use Rattle.std.specs.Prelude.{ℕ, Bool, true, false, List, []}
use Rattle.fk_base.specs.Path.{PathNames}
use Rattle.fk_tree.specs.Edit.{effects}
use Rattle.fk_tree.specs.Touch.{edited_paths, touches, edits_at}
use Rattle.fk_tree.specs.declared.applied.Applied.{Applied}
use Rattle.fk_tree.specs.declared.change.Touch.{Touch}
use Rattle.fk_tree.specs.declared.edit.Edit.{Edit}
use Rattle.fk_wire.specs.declared.fired.Fired.{Fired}
use Rattle.fk_wire.specs.declared.message.Pushed.{Pushed}
use Rattle.fk_spec.specs.Leader.{Stage}
use Rattle.fk_spec.specs.Leader as stage
use Rattle.fk_settle.specs.Transaction.{applied_as}

-- what a leader got from its sweep: what its push fired and isn't told, and the epoch
pub record Swept : Type 0 where
  pub fired : List Fired
  pub epoch : List ℕ

-- before its sweep it got nothing
abbrev pub nothing_swept : Swept
nothing_swept = record { fired = []; epoch = [] }

-- `message` is push `tx`
pub record Meaning : Type 0 where
  pub inv : ℕ
  pub tx : ℕ
  pub message : Pushed
  pub stage : Stage
  pub swept : Swept

-- a leader that starts on a push
abbrev pub started : ℕ → ℕ → Pushed → Meaning
started inv tx message = record { inv = inv; tx = tx; message = message; stage = stage.Commit; swept = nothing_swept }

abbrev pub is_end : Stage → Bool
is_end stage.Commit = false
is_end stage.Pending = false
is_end stage.Drop = false
is_end stage.Sweep = false
is_end (stage.Put path others) = false
is_end stage.Publish = false
is_end stage.Notify = false
is_end stage.Reply = false
is_end stage.Done = false
is_end stage.Ack = false
is_end stage.Ended = true

abbrev pub is_ended : Meaning → Bool
is_ended m = is_end m.stage

-- ---- what its push says

-- the push as it is applied under its number
abbrev pub applied_of : Meaning → Applied
applied_of m = applied_as m.tx m.message

-- what a sweep of the push touches
abbrev pub touches_of : Meaning → List Touch
touches_of m = touches (applied_of m)

-- the paths that the push edits, in path order, each once
abbrev pub paths_of : Meaning → List PathNames
paths_of m = edited_paths (applied_of m)

-- the push's edits of one path, in their order
abbrev pub edits_of : PathNames → Meaning → List Edit
edits_of path m = edits_at path (effects (applied_of m))

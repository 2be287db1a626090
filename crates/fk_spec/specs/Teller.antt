-- The watch function: it tells the clients of a note which of their watches fired.
use Rattle.std.specs.Prelude.{ℕ, ◌==◌, if◌then◌else◌, List, [], ◌∷◌, Option, Some, None}
use Rattle.fk_print.specs.declared.entry.Entry.{Entry}
use Rattle.fk_print.specs.declared.op.Op.{Op}
use Rattle.fk_print.specs.declared.op.Op.TheVariants as op
use Rattle.fk_spec.specs.Plan.{Plan}
use Rattle.fk_spec.specs.Start.{or_else}
use Rattle.fk_spec.specs.Watches.{Firing, swept_by}
use Rattle.fk_spec.specs.Lanes.{watch_head}
use Rattle.fk_spec.specs.Follower.{ack_op}

-- a note: the push that fired watches, and those watches, in rising number
pub record Note : Type 0 where
  pub tx : ℕ
  pub fired : List Firing

abbrev pub note_in : Plan → ℕ → List Entry → Op → Option Note
note_in p w h (op.Notify function tx note) = if note == w then Some (record { tx = tx; fired = (swept_by p function h).fired }) else None
note_in p w h _ = None

-- note w, with what its leader's sweep fired
abbrev pub note_of : Plan → ℕ → List Entry → Option Note
note_of p w [] = None
note_of p w (e ∷ h) = or_else (note_in p w h e.op) (note_of p w h)

-- the operation before which a watch function stands
pub data Stage : Type 0 where
  Tell : (firing : Firing) (others : List Firing) → Stage
  Told : Stage
  Ack : Stage
  Ended : Stage

-- the next watch to tell, or that all are told
abbrev pub to_tell : List Firing → Stage
to_tell [] = Told
to_tell (f ∷ fs) = Tell f fs

abbrev pub after_tell : Stage → Stage
after_tell (Tell f fs) = to_tell fs
after_tell s = s

-- what comes after each answer
abbrev pub next_teller : Op → Stage → Stage
next_teller (op.Tell n session watch) s = after_tell s
next_teller (op.Told n tx) s = Ack
next_teller _ s = Ended

-- the operation that watch function n makes on note w of push t
abbrev pub teller_op : List Entry → ℕ → ℕ → ℕ → Stage → Op
teller_op h n w t (Tell f fs) = op.Tell n f.watch.session f.watch.id
teller_op h n w t Told = op.Told n t
teller_op h n w t Ack = ack_op n w (watch_head h)
teller_op h n w t Ended = op.Idle

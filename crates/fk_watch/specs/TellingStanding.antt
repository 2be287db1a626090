-- What the fields of a watch function mean.
use Rattle.std.specs.Prelude.{ℕ, ◌+◌, drop}
use Rattle.fk_wire.specs.declared.fired.Fired.{Fired}
use Rattle.fk_wire.specs.declared.message.Note.{Note}
use Rattle.fk_spec.specs.Teller.{Stage, to_tell}
use Rattle.fk_spec.specs.Teller as stage
use Rattle.fk_watch.specs.Notes.{firing_as, firings_as}
use Rattle.fk_watch.specs.Telling.{Meaning}
use Rattle.fk_watch.specs.declared.teller.Teller.{Teller}
use Rattle.fk_watch.specs.declared.teller.TellerState.{TellerState}
use Rattle.fk_watch.specs.declared.teller.TellerState.TheVariants as state

-- the first `count` watches of the note are told
abbrev pub stage_of : Note → ℕ → TellerState → Stage
stage_of note count state.Tell = to_tell (firings_as note.tx (drop count note.fired))
stage_of note count state.Ack = stage.Ack
stage_of note count state.Ended = stage.Ended

-- it tells this watch next, having told `count` of its note
abbrev pub telling : Note → ℕ → Fired → Stage
telling note count f = stage.Tell (firing_as note.tx f) (firings_as note.tx (drop (count + 1) note.fired))

-- what a watch function means; code above doesn't look into it
unfoldable pub teller_of : Teller → Meaning
teller_of t = record { inv = t.inv; number = t.number; tx = t.note.tx; stage = stage_of t.note t.count t.state }

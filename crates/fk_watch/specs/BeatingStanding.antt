-- What the fields of a heartbeat mean.
use Rattle.fk_spec.specs.Heartbeat.{Stage}
use Rattle.fk_spec.specs.Heartbeat as stage
use Rattle.fk_watch.specs.Beating.{Meaning}
use Rattle.fk_watch.specs.declared.beat.Beat.{Beat}
use Rattle.fk_watch.specs.declared.beat.BeatState.{BeatState}
use Rattle.fk_watch.specs.declared.beat.BeatState.TheVariants as state

abbrev pub stage_of : BeatState → Stage
stage_of state.Probe = stage.Probe
stage_of state.Ping = stage.Ping
stage_of state.Note = stage.Note
stage_of state.Evict = stage.Evict
stage_of state.Ended = stage.Ended

-- what a heartbeat means; code above doesn't look into it
unfoldable pub beat_of : Beat → Meaning
beat_of b = record { inv = b.inv; session = b.session; stage = stage_of b.state }

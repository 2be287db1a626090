-- What the fields of a leader mean.
use Rattle.std.specs.Prelude.{List}
use Rattle.fk_base.specs.Path.{PathNames}
use Rattle.fk_spec.specs.Leader.{Stage}
use Rattle.fk_spec.specs.Leader as stage
use Rattle.fk_lead.specs.Meaning.{Meaning}
use Rattle.fk_lead.specs.declared.leader.Leader.{Leader}
use Rattle.fk_lead.specs.declared.state.State.{State}
use Rattle.fk_lead.specs.declared.state.State.TheVariants as state

-- `others` are the paths that are to be put after the first
abbrev pub stage_of : List PathNames → State → Stage
stage_of others state.Commit = stage.Commit
stage_of others state.Pending = stage.Pending
stage_of others state.Drop = stage.Drop
stage_of others state.Sweep = stage.Sweep
stage_of others (state.Put path) = stage.Put path others
stage_of others state.Publish = stage.Publish
stage_of others state.Notify = stage.Notify
stage_of others state.Reply = stage.Reply
stage_of others state.Done = stage.Done
stage_of others state.Ack = stage.Ack
stage_of others state.Ended = stage.Ended

-- what a leader means; code above doesn't look into it
unfoldable pub leader_of : Leader → Meaning
leader_of l = record {
  inv = l.inv;
  tx = l.tx;
  message = l.message;
  stage = stage_of l.others.items l.state;
  swept = record { fired = l.fired; epoch = l.epoch };
}

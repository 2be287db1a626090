-- How many messages the lanes are given.
use Rattle.std.specs.Prelude.{◌≤◌, List, length}
use Rattle.fk_print.specs.declared.entry.Entry.{Entry}
use Rattle.fk_queue.specs.declared.lane.Lane.{Lane}
use Rattle.fk_spec.specs.Plan.{Plan}
use Rattle.fk_stand.specs.Posts.{lane_after}

-- After a history no lane was given more messages than there are entries.
abbrev pub LanesAreBounded : Type 0
LanesAreBounded = (p : Plan) (l : Lane) (h : List Entry) → (lane_after p l h).given ≤ length h

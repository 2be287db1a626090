-- What the lanes hold after a history.
use Rattle.std.specs.Prelude.{ℕ, Bool, false, if◌then◌else◌, List, [], ◌∷◌, length, option_map, Option, Some, None}
use Rattle.fk_print.specs.declared.entry.Entry.{Entry}
use Rattle.fk_print.specs.declared.op.Op.{Op}
use Rattle.fk_print.specs.declared.op.Op.TheVariants as op
use Rattle.fk_queue.specs.declared.lane.Lane.{Lane}
use Rattle.fk_queue.specs.declared.lane.Lane.TheVariants as lane
use Rattle.fk_queue.specs.Lanes.{is_lane}
use Rattle.fk_queue.specs.Letters.{LaneState, empty_lane, with_letter, without_head}
use Rattle.fk_queue.specs.Meaning.{Meaning}
use Rattle.fk_wire.specs.declared.version.Version.TheVariants as version
use Rattle.fk_wire.specs.NoteText.{note_text}
use Rattle.fk_wire.specs.PushedText.{pushed_text}
use Rattle.fk_wire.specs.SentText.{sent_text}
use Rattle.fk_wire.specs.TellText.{tell_text}
use Rattle.fk_spec.specs.Plan.{Plan}
use Rattle.fk_spec.specs.Start.{task_of}
use Rattle.fk_spec.specs.Lanes.{follows_session, leads, notifies, takes}
use Rattle.fk_stand.specs.Messages.{sent_message, push_message, note_message, tell_message}

-- the text that this line puts into a lane, in the second version
abbrev pub letter_in : Plan → Lane → List Entry → Op → Option (List ℕ)
letter_in p lane.Leader h o = option_map (pushed_text version.Two) (push_message p h o)
letter_in p lane.Watch h o = option_map (note_text version.Two) (note_message p h o)
letter_in p (lane.Session c) h o = option_map (sent_text version.Two) (sent_message p c h o)
letter_in p (lane.Inbox c) h o = option_map (tell_text version.Two) (tell_message p c h o)

-- whether a function that acknowledges its message removes it from this lane
abbrev pub acks : Lane → ℕ → List Entry → Bool
acks lane.Leader n h = leads (task_of n h)
acks lane.Watch n h = notifies (task_of n h)
acks (lane.Session c) n h = follows_session c (task_of n h)
acks (lane.Inbox c) n h = false

-- whether a client that takes a message takes it from this lane
abbrev pub is_taken : Lane → Op → Bool
is_taken (lane.Inbox c) o = takes c o
is_taken _ o = false

-- whether this line removes the head of a lane
abbrev pub removes : Lane → List Entry → Op → Bool
removes l h (op.AckOk n) = acks l n h
removes l h o = is_taken l o

abbrev pub removed : Bool → LaneState → LaneState
removed b s = if b then without_head s else s

abbrev pub lane_step : Option (List ℕ) → Bool → LaneState → LaneState
lane_step None b s = removed b s
lane_step (Some bytes) b s = with_letter bytes s

-- A lane after a history: how many messages it was given, and those that aren't removed, each as the text of what
-- its line sent.
abbrev pub lane_after : Plan → Lane → List Entry → LaneState
lane_after p l [] = empty_lane
lane_after p l (e ∷ h) = lane_step (letter_in p l h e.op) (removes l h e.op) (lane_after p l h)

-- What the post holds after a history; it is calm, and its calls failed so many times.
abbrev pub post_after : Plan → List Entry → ℕ → Meaning
post_after p h faults = record {
  sessions = length p.asks;
  lanes = λ l. if is_lane (length p.asks) l then lane_after p l h else empty_lane;
  armed = false;
  faults = faults;
}

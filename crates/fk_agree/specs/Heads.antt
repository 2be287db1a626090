-- The messages at the heads of the lanes of functions.
use Rattle.std.specs.Prelude.{◌≡◌, ℕ, List, map, Some}
use Rattle.fk_print.specs.declared.entry.Entry.{Entry}
use Rattle.fk_queue.specs.declared.lane.Lane.TheVariants as lane
use Rattle.fk_queue.specs.Letters.{head_bytes}
use Rattle.fk_tree.specs.declared.request.Request.{Request}
use Rattle.fk_watch.specs.Notes.{fired_as}
use Rattle.fk_wire.specs.NoteText.{note_text}
use Rattle.fk_wire.specs.PushedText.{pushed_text}
use Rattle.fk_wire.specs.SentText.{sent_text}
use Rattle.fk_wire.specs.declared.message.Note.{Note}
use Rattle.fk_wire.specs.declared.message.Pushed.{Pushed}
use Rattle.fk_wire.specs.declared.version.Version.TheVariants as version
use Rattle.fk_stand.specs.Messages.{push_message_of}
use Rattle.fk_stand.specs.Posts.{lane_after}
use Rattle.fk_spec.specs.Plan.{Plan}
use Rattle.fk_spec.specs.Start.{request_of, seen_with}
use Rattle.fk_spec.specs.Lanes.{leader_head, session_head, watch_head}
use Rattle.fk_spec.specs.Teller as teller
use Rattle.fk_spec.specs.Teller.{note_of}
use Rattle.fk_spec.specs.Next.{IsHistory}

-- the text of message k of session c: its request, with what its client had seen
pub record IsRequestText (p : Plan) (c k : ℕ) (h : List Entry) (bytes : List ℕ) : Type 0 where
  pub request : Request
  pub requested : request_of p c k h ≡ Some request
  pub text : bytes ≡ sent_text version.Two (record { request = request; seen = seen_with c k h })

-- the text of push t
pub record IsPushText (p : Plan) (t : ℕ) (h : List Entry) (bytes : List ℕ) : Type 0 where
  pub push : Pushed
  pub pushed : push_message_of p t h ≡ Some push
  pub text : bytes ≡ pushed_text version.Two push

-- a note as its message tells it
abbrev pub note_as : teller.Note → Note
note_as x = record { tx = x.tx; fired = map fired_as x.fired }

-- the text of note w
pub record IsTextOfNote (p : Plan) (w : ℕ) (h : List Entry) (bytes : List ℕ) : Type 0 where
  pub note : teller.Note
  pub noted : note_of p w h ≡ Some note
  pub text : bytes ≡ note_text version.Two (note_as note)

-- The head of each lane of functions is the text of the message that the rules name.
abbrev pub SessionHeadIsItsRequest : Type 0
SessionHeadIsItsRequest = (p : Plan) (c k : ℕ) (h : List Entry) → IsHistory p h → session_head c h ≡ Some k → IsRequestText p c k h (head_bytes (lane_after p (lane.Session c) h))

abbrev pub LeaderHeadIsItsPush : Type 0
LeaderHeadIsItsPush = (p : Plan) (t : ℕ) (h : List Entry) → IsHistory p h → leader_head h ≡ Some t → IsPushText p t h (head_bytes (lane_after p lane.Leader h))

abbrev pub WatchHeadIsItsNote : Type 0
WatchHeadIsItsNote = (p : Plan) (w : ℕ) (h : List Entry) → IsHistory p h → watch_head h ≡ Some w → IsTextOfNote p w h (head_bytes (lane_after p lane.Watch h))

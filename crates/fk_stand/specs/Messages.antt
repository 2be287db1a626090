-- The messages that lines of a history put into lanes.
use Rattle.std.specs.Prelude.{ℕ, ◌==◌, if◌then◌else◌, List, [], ◌∷◌, map, option_map, option_and_then, Option, Some, None}
use Rattle.fk_base.specs.Path.{PathNames}
use Rattle.fk_tree.specs.Fill.{fill_name, fill_version, fill_made}
use Rattle.fk_tree.specs.declared.request.Request.{Request}
use Rattle.fk_tree.specs.declared.request.Request.TheVariants as request
use Rattle.fk_print.specs.declared.entry.Entry.{Entry}
use Rattle.fk_print.specs.declared.op.Op.{Op}
use Rattle.fk_print.specs.declared.op.Op.TheVariants as op
use Rattle.fk_store.specs.declared.outcome.Outcome.{Outcome}
use Rattle.fk_store.specs.declared.outcome.Outcome.TheVariants as kept
use Rattle.fk_watch.specs.Notes.{fired_as, watch_tell}
use Rattle.fk_wire.specs.declared.message.Note.{Note}
use Rattle.fk_wire.specs.declared.message.Pushed.{Pushed}
use Rattle.fk_wire.specs.declared.message.Sent.{Sent}
use Rattle.fk_wire.specs.declared.message.Tell.{Tell}
use Rattle.fk_wire.specs.declared.message.Tell.TheVariants as tell
use Rattle.fk_spec.specs.Plan.{Plan}
use Rattle.fk_spec.specs.Start.{Origin, clock_of, or_else, request_from, request_of, seen_from, sent_in}
use Rattle.fk_spec.specs.Settling as settling
use Rattle.fk_spec.specs.Stored.{owned_among}
use Rattle.fk_spec.specs.Watches.{firing_of, swept_by}
use Rattle.fk_spec.specs.Lanes as lanes
use Rattle.fk_spec.specs.Lanes.{posted_in}
use Rattle.fk_spec.specs.Follower.{Follower, paths_of, view_of}
use Rattle.fk_spec.specs.Function.{Place, Following, place_of}
use Rattle.fk_stand.specs.Tables.{kept_as}

-- ---- a session's lane

abbrev pub sent_from : Plan → ℕ → Option Origin → Option Sent
sent_from p c o = option_map (λ r. record { request = r; seen = seen_from o }) (request_from p c o)

-- the message that this line puts into the lane of session c: a request, with what its client had seen
abbrev pub sent_message : Plan → ℕ → List Entry → Op → Option Sent
sent_message p c h o = sent_from p c (sent_in c h o)

-- ---- the leader's lane

-- of the nodes that its session owned, those that it owns in the granted records
abbrev pub gone_of : Follower → Request → List PathNames
gone_of f (request.Close evict) = owned_among f.session (view_of f.granted) f.owned
gone_of f _ = []

-- The push of follower n: its request at this moment, as it is filled on the records that its locks gave, and the
-- paths of those locks.
abbrev pub push_with : ℕ → ℕ → Follower → Request → Pushed
push_with n moment f r = record {
  session = f.session;
  k = f.k;
  inv = n;
  moment = moment;
  request = r;
  name = fill_name (view_of f.granted) r;
  version = fill_version (view_of f.granted) r;
  gone = gone_of f r;
  made = fill_made (view_of f.granted) f.session r;
  paths = paths_of f.granted;
}

abbrev pub push_by : Plan → List Entry → ℕ → Place → Option Pushed
push_by p h n (Following f) = option_map (push_with n (clock_of h) f) (request_of p f.session f.k h)
push_by p h n _ = None

-- the message that this line puts into the leader's lane
abbrev pub push_message : Plan → List Entry → Op → Option Pushed
push_message p h (op.Push n tx) = push_by p h n (place_of p n h)
push_message p h _ = None

abbrev pub push_here : Plan → ℕ → List Entry → Op → Option Pushed
push_here p t h (op.Push n tx) = if tx == t then push_message p h (op.Push n tx) else None
push_here p t h _ = None

-- the message of push t
abbrev pub push_message_of : Plan → ℕ → List Entry → Option Pushed
push_message_of p t [] = None
push_message_of p t (e ∷ h) = or_else (push_here p t h e.op) (push_message_of p t h)

-- ---- the watch lane

-- the message that this line puts into the watch lane: what the leader's sweep fired
abbrev pub note_message : Plan → List Entry → Op → Option Note
note_message p h (op.Notify n tx note) = Some (record { tx = tx; fired = map fired_as (swept_by p n h).fired })
note_message p h _ = None

-- ---- a client's inbox

-- a leader's reply carries what the push says of its result
abbrev pub done_tell : ℕ → ℕ → Pushed → Tell
done_tell k tx x = tell.Done k tx x.name x.version x.made

-- a follower's reply tells the outcome that was kept; a commit is told by a leader
abbrev pub outcome_tell : ℕ → Outcome → Option Tell
outcome_tell k kept.Nothing = None
outcome_tell k (kept.Applied tx) = None
outcome_tell k (kept.Refused code at place) = Some (tell.Refused k code at place)
outcome_tell k (kept.Lost path own found moment) = Some (tell.Lost k path own found moment)

-- the same of an outcome as the rules have it
abbrev pub kept_tell : ℕ → settling.Outcome → Option Tell
kept_tell k o = outcome_tell k (kept_as (Some o))

abbrev pub tell_of : Plan → List Entry → lanes.Message → Option Tell
tell_of p h (lanes.Done k tx) = option_map (done_tell k tx) (push_message_of p tx h)
tell_of p h (lanes.Evicted k tx) = Some (tell.Evicted k tx)
tell_of p h (lanes.Kept k outcome) = kept_tell k outcome
tell_of p h (lanes.Watch id) = option_map watch_tell (firing_of p id h)
tell_of p h (lanes.Ping n) = Some (tell.Ping n)

-- the message that this line puts into the inbox of client c
abbrev pub tell_message : Plan → ℕ → List Entry → Op → Option Tell
tell_message p c h o = option_and_then (tell_of p h) (posted_in p c h o)

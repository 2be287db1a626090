-- Followers, where the services stand as a history says.
use Rattle.std.specs.Prelude.{◌≡◌, ◌≢◌, ℕ, ◌<◌, ◌^◌, ◌⊎◌, false, List, ◌∷◌, length, Some}
use Rattle.fk_base.specs.Path.{PathNames}
use Rattle.fk_tree.specs.declared.request.Request.{Request}
use Rattle.fk_print.specs.declared.entry.Entry.{Entry}
use Rattle.fk_print.specs.declared.op.Op.TheVariants as op
use Rattle.fk_queue.specs.Letters.{head_bytes}
use Rattle.fk_queue.specs.Meaning as post
use Rattle.fk_queue.specs.declared.lane.Lane.TheVariants as lane
use Rattle.fk_store.specs.Meaning as table
use Rattle.fk_store.specs.declared.outcome.Outcome.TheVariants as kept
use Rattle.fk_user.specs.Meaning as user
use Rattle.fk_watch.specs.Meaning.{Watches}
use Rattle.fk_follow.specs.Fit.{IsFit, IsRead}
use Rattle.fk_follow.specs.Meaning.{Meaning, is_ended, own_moment, started}
use Rattle.fk_follow.specs.Next.{after_step}
use Rattle.fk_follow.specs.Operation.{step_op}
use Rattle.fk_follow.specs.Services.{post_after_step, push_at, table_after_step}
use Rattle.fk_follow.specs.Sketches.{follower_for}
use Rattle.fk_base.specs.Limits.{IsNumber}
use Rattle.fk_wire.specs.SentText.{IsSent, IsSentText}
use Rattle.fk_wire.specs.declared.message.Sent.{Sent}
use Rattle.fk_stand.specs.Messages.{push_message_of}
use Rattle.fk_stand.specs.Posts.{lane_after}
use Rattle.fk_stand.specs.Standing.{Standing}
use Rattle.fk_stand.specs.Tables.{kept_as}
use Rattle.fk_spec.specs.Plan.{Plan}
use Rattle.fk_spec.specs.Start.{clock_of, request_of, seen_with}
use Rattle.fk_spec.specs.Locks as rules
use Rattle.fk_spec.specs.Locks.{loss_of}
use Rattle.fk_spec.specs.Settling.{Passed, outcome_of}
use Rattle.fk_spec.specs.Follower.{Follower, Stage}
use Rattle.fk_spec.specs.Follower as stage
use Rattle.fk_spec.specs.Function.{Following, actor, fault_op, function_op, place_of}
use Rattle.fk_spec.specs.Next.{IsHistory}
use Rattle.fk_agree.specs.Ends.{HasEnded}

-- What a follower keeps where it stands: before a commit its push at the push's moment, before a loss is settled that
-- loss, and before a reply the outcome of its request; else nothing.
abbrev pub Keeps : Plan → ℕ → List Entry → Meaning → Stage → Type 0
Keeps p n h m (stage.Commit tx) = (push_message_of p tx h ≡ Some (push_at m.moment m)) × (m.outcome ≡ kept.Nothing)
Keeps p n h m stage.Lost = m.outcome ≡ kept_as (Some (Passed (loss_of n h)))
Keeps p n h m stage.Reply = m.outcome ≡ kept_as (outcome_of m.follower.session m.follower.k h)
Keeps p n h m _ = m.outcome ≡ kept.Nothing

-- A follower is function n of a history: it makes its operations under that number, it hasn't ended, and it stands
-- where the history says, with what its request reads of the nodes that it was granted; its message is its request as
-- the history says, with what its client had seen; each of its grants has the moment that the history says.
pub record IsFollower (p : Plan) (n : ℕ) (h : List Entry) (m : Meaning) : Type 0 where
  pub inv : m.inv ≡ n
  pub going : is_ended m ≡ false
  pub whole : Follower
  pub stands : place_of p n h ≡ Following whole
  pub sketched : m.follower ≡ follower_for m.message.request whole
  pub requested : request_of p m.follower.session m.follower.k h ≡ Some m.message.request
  pub seen : m.message.seen ≡ seen_with m.follower.session m.follower.k h
  pub written : IsSent m.message
  pub owns : (path : PathNames) → own_moment path m.owns 0 ≡ rules.own_moment n path h
  pub keeps : Keeps p n h m m.follower.stage

-- the message of request k of session c can be written
abbrev pub IsReadableRequest : Plan → ℕ → ℕ → List Entry → Type 0
IsReadableRequest p c k h = (r : Request) → request_of p c k h ≡ Some r → IsSent (record { request = r; seen = seen_with c k h })

-- A follower that starts on the message that its lane's head is read as is the function of the start line.
abbrev pub FollowerStarts : Type 0
FollowerStarts =
    (p : Plan) (n c k : ℕ) (e : Entry) (h : List Entry) (x : Sent) → IsHistory p (e ∷ h) → e.op ≡ op.Follower n c k → IsReadableRequest p c k h → IsSentText (head_bytes (lane_after p (lane.Session c) h)) x
    → IsFollower p n (e ∷ h) (started n c k x)

-- It makes the operation that the rules name, where `owned` is what the table gives for its session's nodes.
abbrev pub FollowerMakesItsOperation : Type 0
FollowerMakesItsOperation =
    (p : Plan) (n : ℕ) (h : List Entry) (m : Meaning) (t : table.Meaning) (q : post.Meaning) (u : user.Meaning) (w : Watches) (owned : List PathNames) → IsHistory p h → Standing p h t q u w → IsFollower p n h m → IsRead t owned m
    → step_op t q (clock_of h) p.lock owned m ≡ function_op p h n (place_of p n h)

-- Where the services fail, it makes the fault that they name.
abbrev pub FollowerFails : Type 0
FollowerFails =
    (p : Plan) (n now time : ℕ) (h : List Entry) (m : Meaning) (t : table.Meaning) (q : post.Meaning) (owned : List PathNames) → IsFollower p n h m
    → step_op (table.armed t) (post.armed q) now time owned m ≡ fault_op n (place_of p n h)

-- After its operation it is the function still, or has ended where the history says so.
abbrev pub FollowerGoesOn : Type 0
FollowerGoesOn =
    (p : Plan) (n : ℕ) (e : Entry) (h : List Entry) (m : Meaning) (t : table.Meaning) (q : post.Meaning) (u : user.Meaning) (w : Watches) (owned : List PathNames) → IsHistory p (e ∷ h) → Standing p h t q u w → IsFollower p n h m → IsRead t owned m
    → e.op ≡ step_op t q (clock_of h) p.lock owned m
    → IsFollower p n (e ∷ h) (after_step t q (clock_of h) p.lock owned m) ⊎ HasEnded p n (e ∷ h) (is_ended (after_step t q (clock_of h) p.lock owned m))

-- After its fault it has ended, as the history says.
abbrev pub FollowerEndsByFault : Type 0
FollowerEndsByFault =
    (p : Plan) (n now time : ℕ) (e : Entry) (h : List Entry) (m : Meaning) (t : table.Meaning) (q : post.Meaning) (owned : List PathNames) → IsFollower p n h m → e.op ≡ step_op (table.armed t) (post.armed q) now time owned m
    → HasEnded p n (e ∷ h) (is_ended (after_step (table.armed t) (post.armed q) now time owned m))

-- The lines of others leave it.
abbrev pub OthersLeaveFollowers : Type 0
OthersLeaveFollowers = (p : Plan) (n : ℕ) (e : Entry) (h : List Entry) (m : Meaning) → IsHistory p (e ∷ h) → IsFollower p n h m → actor e.op ≢ Some n → IsFollower p n (e ∷ h) m

-- What its operation needs holds in a history shorter than 2^62 whose clock is within the limits of messages, whether
-- the services fail or not.
abbrev pub FollowerIsFit : Type 0
FollowerIsFit =
    (p : Plan) (n : ℕ) (h : List Entry) (m : Meaning) (t : table.Meaning) (q : post.Meaning) (u : user.Meaning) (w : Watches) → IsHistory p h → length h < 2 ^ 62 → IsNumber (clock_of h) → Standing p h t q u w → IsFollower p n h m
    → IsFit t q (clock_of h) m × IsFit (table.armed t) (post.armed q) (clock_of h) m

-- Its operation leaves the services as the longer history says.
abbrev pub FollowerIsWritten : Type 0
FollowerIsWritten =
    (p : Plan) (n : ℕ) (e : Entry) (h : List Entry) (m : Meaning) (t : table.Meaning) (q : post.Meaning) (u : user.Meaning) (w : Watches) (owned : List PathNames) → IsHistory p (e ∷ h) → Standing p h t q u w → IsFollower p n h m → IsRead t owned m
    → e.op ≡ step_op t q (clock_of h) p.lock owned m
    → Standing p (e ∷ h) (table_after_step t (clock_of h) p.lock m) (post_after_step q (clock_of h) m) u w

-- So does its fault, once the services that it didn't call are calmed.
abbrev pub FollowerFaultIsWritten : Type 0
FollowerFaultIsWritten =
    (p : Plan) (n : ℕ) (e : Entry) (h : List Entry) (m : Meaning) (t : table.Meaning) (q : post.Meaning) (u : user.Meaning) (w : Watches) (owned : List PathNames) → IsHistory p (e ∷ h) → Standing p h t q u w → IsFollower p n h m
    → e.op ≡ step_op (table.armed t) (post.armed q) (clock_of h) p.lock owned m
    → Standing p (e ∷ h) (table.calmed (table_after_step (table.armed t) (clock_of h) p.lock m)) (post.calmed (post_after_step (post.armed q) (clock_of h) m)) u w

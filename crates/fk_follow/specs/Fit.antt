-- What an operation of a follower needs.
use Rattle.std.specs.Prelude.{◌≡◌, ◌≢◌, ℕ, ◌≤◌, ◌<◌, ◌-◌, ◌^◌, List, true, false, ⊤, is_some}
use Rattle.fk_base.specs.Path.{PathNames}
use Rattle.fk_store.specs.Answers.{AreOwned}
use Rattle.fk_spec.specs.Follower.{Stage}
use Rattle.fk_spec.specs.Follower as stage
use Rattle.fk_queue.specs.Lanes.{is_session}
use Rattle.fk_queue.specs.Meaning as post
use Rattle.fk_queue.specs.declared.lane.Lane.TheVariants as lane
use Rattle.fk_store.specs.Conds.{session_of}
use Rattle.fk_store.specs.Meaning as table
use Rattle.fk_store.specs.declared.outcome.Outcome.{Outcome}
use Rattle.fk_store.specs.declared.outcome.Outcome.TheVariants as kept
use Rattle.fk_store.specs.declared.session_record.SessionRecord.{SessionRecord}
use Rattle.fk_wire.specs.Limits.{IsLimitedRequest}
use Rattle.fk_base.specs.Limits.{IsNumber}
use Rattle.fk_follow.specs.Meaning.{Meaning, is_ended}

-- the numbers of what was kept
abbrev pub IsLimitedOutcome : Outcome → Type 0
IsLimitedOutcome kept.Nothing = ⊤
IsLimitedOutcome (kept.Applied tx) = ⊤
IsLimitedOutcome (kept.Refused code at place) = IsNumber at
IsLimitedOutcome (kept.Lost path own found moment) = IsNumber own × IsNumber found × IsNumber moment

-- the numbers of a follower, its request and the moment are within the limits of messages
pub record IsLimited (now : ℕ) (m : Meaning) : Type 0 where
  pub inv : IsNumber m.inv
  pub k : IsNumber m.follower.k
  pub moment : IsNumber now
  pub request : IsLimitedRequest m.message.request
  pub outcome : IsLimitedOutcome m.outcome

-- its session exists in both services, and the lanes that it pushes to may be given one more message
pub record HasSession (t : table.Meaning) (q : post.Meaning) (session : ℕ) : Type 0 where
  pub table : is_some (t.sessions session) ≡ true
  pub post : is_session q.sessions session ≡ true
  pub pushes : (q.lanes lane.Leader).given < 2 ^ 63 - 1
  pub inbox : (q.lanes (lane.Inbox session)).given < 2 ^ 63 - 1

-- where request k is the session's last settled one, its outcome was kept
abbrev pub KeepsOutcome : ℕ → SessionRecord → Type 0
KeepsOutcome k s = s.settled ≡ k → s.outcome ≢ kept.Nothing

-- It has not ended; its message is numbered from 1, and where it is the session's last settled one, an outcome was
-- kept.
pub record IsFit (t : table.Meaning) (q : post.Meaning) (now : ℕ) (m : Meaning) : Type 0 where
  pub going : is_ended m ≡ false
  pub first : 1 ≤ m.follower.k
  pub kept : KeepsOutcome m.follower.k (session_of t m.follower.session)
  pub session : HasSession t q m.follower.session
  pub limits : IsLimited now m

-- where the table isn't armed, these are the paths that it gives for the session's nodes; there is one such list
abbrev pub IsListOf : table.Meaning → ℕ → List PathNames → Type 0
IsListOf t session owned = t.armed ≡ false → AreOwned t session owned

-- Where the follower asks for its session's nodes, these are the paths that the table gives; another operation
-- reads no such list.
abbrev pub IsReadAt : table.Meaning → ℕ → List PathNames → Stage → Type 0
IsReadAt t session owned stage.Session = ⊤
IsReadAt t session owned stage.Owned = IsListOf t session owned
IsReadAt t session owned (stage.Lock path) = ⊤
IsReadAt t session owned stage.Push = ⊤
IsReadAt t session owned (stage.Refuse refusal at) = ⊤
IsReadAt t session owned (stage.Expire at) = ⊤
IsReadAt t session owned (stage.Commit tx) = ⊤
IsReadAt t session owned stage.Lost = ⊤
IsReadAt t session owned stage.Reply = ⊤
IsReadAt t session owned stage.Ack = ⊤
IsReadAt t session owned stage.Ended = ⊤

abbrev pub IsRead : table.Meaning → List PathNames → Meaning → Type 0
IsRead t owned m = IsReadAt t m.follower.session owned m.follower.stage

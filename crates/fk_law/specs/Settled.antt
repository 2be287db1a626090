-- Requests of a session are settled one after another, each once.
use Rattle.std.specs.Prelude.{◌≡◌, ℕ, ◌+◌, ◌≤◌, ◌++◌, true, false, List, ◌∷◌, Some}
use Rattle.fk_print.specs.declared.entry.Entry.{Entry}
use Rattle.fk_print.specs.declared.op.Op.TheVariants as op
use Rattle.fk_spec.specs.Plan.{Plan}
use Rattle.fk_spec.specs.Start.{Follows, task_of, sends_of}
use Rattle.fk_spec.specs.Settling.{Settling, Outcome, Committed, settled_in, settled_of, outcome_of, is_committed}
use Rattle.fk_spec.specs.Lanes.{follows_session, removed_by}
use Rattle.fk_spec.specs.Follower.{Follower}
use Rattle.fk_spec.specs.Function.{Following, place_of}
use Rattle.fk_spec.specs.Next.{IsHistory}
use Rattle.fk_law.specs.Due.{IsDue, IsPushOf}
use Rattle.fk_law.specs.Progress.{Progress, Works, Replies, Acks, progress}

-- Each message that a follower was started for stands in its session's lane, at most one beyond the
-- removed ones.
abbrev pub MessageIsReached : Type 0
MessageIsReached = (p : Plan) (n c k : ℕ) (h : List Entry) → IsHistory p h → task_of n h ≡ Some (Follows c k) → (1 ≤ k) × (k ≤ removed_by (follows_session c) h + 1) × (k ≤ sends_of c h)

-- a settling of its session's next request: a function was started for it
pub record IsNext (h : List Entry) (s : Settling) : Type 0 where
  pub function : ℕ
  pub k : ℕ
  pub task : task_of function h ≡ Some (Follows s.session k)
  pub next : settled_of s.session h + 1 ≡ k

-- What an entry settles is its session's next request.
abbrev pub SettlesTheNext : Type 0
SettlesTheNext = (p : Plan) (e : Entry) (h : List Entry) (s : Settling) → IsHistory p (e ∷ h) → settled_in h e.op ≡ Some s → IsNext h s

-- The settled requests of a session are the removed ones, or one more.
abbrev pub SettledIsRemovedOrOneMore : Type 0
SettledIsRemovedOrOneMore = (p : Plan) (c : ℕ) (h : List Entry) → IsHistory p h → (removed_by (follows_session c) h ≤ settled_of c h) × (settled_of c h ≤ removed_by (follows_session c) h + 1)

abbrev pub SettledWereSent : Type 0
SettledWereSent = (p : Plan) (c : ℕ) (h : List Entry) → IsHistory p h → settled_of c h ≤ sends_of c h

-- what is settled of the request of a follower that answers or ends
abbrev pub Answered : ℕ → ℕ → Progress → Type 0
Answered settled k Acks = k ≤ settled
Answered settled k Replies = k ≤ settled
Answered settled k _ = Unit {0}

-- A follower that stands before its reply or its end: its request is settled.
abbrev pub AnsweredIsSettled : Type 0
AnsweredIsSettled = (p : Plan) (n : ℕ) (h : List Entry) (f : Follower) → IsHistory p h → place_of p n h ≡ Following f → Answered (settled_of f.session h) f.k (progress f.stage)

-- A follower that stands between its session line and its push or refusal has pushed nothing.
abbrev pub AtWorkIsUnpushed : Type 0
AtWorkIsUnpushed = (p : Plan) (t n c k : ℕ) (h : List Entry) (f : Follower) → IsHistory p h → place_of p n h ≡ Following f → progress f.stage ≡ Works → IsPushOf t n c k h → ⊥

-- a committed push: its request is settled, and that is its outcome
pub record IsCommittedPush (t : ℕ) (h : List Entry) : Type 0 where
  pub function : ℕ
  pub session : ℕ
  pub k : ℕ
  pub is_of : IsPushOf t function session k h
  pub settled : k ≤ settled_of session h
  pub outcome : outcome_of session k h ≡ Some (Committed t)

abbrev pub CommittedIsSettled : Type 0
CommittedIsSettled = (p : Plan) (t : ℕ) (h : List Entry) → IsHistory p h → is_committed t h ≡ true → IsCommittedPush t h

-- A push commits at most once.
abbrev pub CommitsOnce : Type 0
CommitsOnce = (p : Plan) (n t : ℕ) (h : List Entry) → IsHistory p h → IsDue p h (op.CommitOk n t) → is_committed t h ≡ false

-- A request has an outcome exactly where it is settled.
abbrev pub SettledHaveAnOutcome : Type 0
SettledHaveAnOutcome = (p : Plan) (c k : ℕ) (h : List Entry) → IsHistory p h → 1 ≤ k → k ≤ settled_of c h → (o : Outcome) × (outcome_of c k h ≡ Some o)

abbrev pub OutcomeIsOfASettled : Type 0
OutcomeIsOfASettled = (p : Plan) (c k : ℕ) (h : List Entry) (o : Outcome) → IsHistory p h → outcome_of c k h ≡ Some o → (1 ≤ k) × (k ≤ settled_of c h)

-- An outcome never changes.
abbrev pub OutcomeNeverChanges : Type 0
OutcomeNeverChanges = (p : Plan) (c k : ℕ) (h more : List Entry) (o : Outcome) → IsHistory p (more ++ h) → outcome_of c k h ≡ Some o → outcome_of c k (more ++ h) ≡ Some o

-- A request whose outcome is a commit: its push was committed.
abbrev pub AppliedIsCommitted : Type 0
AppliedIsCommitted = (p : Plan) (c k t : ℕ) (h : List Entry) → IsHistory p h → outcome_of c k h ≡ Some (Committed t) → (is_committed t h ≡ true) × (n : ℕ) × IsPushOf t n c k h

-- Each request is one transaction at most.
abbrev pub OneCommitForEachRequest : Type 0
OneCommitForEachRequest = (p : Plan) (t n s m c k : ℕ) (h : List Entry) → IsHistory p h → IsPushOf t n c k h → IsPushOf s m c k h → is_committed t h ≡ true → is_committed s h ≡ true → t ≡ s

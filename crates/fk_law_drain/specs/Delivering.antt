-- What became of a request is told, once its message is removed and its push is done.
use Rattle.std.specs.Prelude.{◌≡◌, ℕ, ◌==◌, ◌<◌, ◌≤◌, ◌&&◌, ◌||◌, ◌⊎◌, Bool, true, false, List, [], ◌∷◌, Some}
use Rattle.fk_print.specs.declared.entry.Entry.{Entry}
use Rattle.fk_spec.specs.Plan.{Plan}
use Rattle.fk_spec.specs.Settling.{Committed, done_of, is_committed, outcome_of}
use Rattle.fk_spec.specs.Lanes.{follows_session, inbox_of, removed_by, Done, Kept, Message}
use Rattle.fk_spec.specs.Client.{client_of, is_open, Sent}
use Rattle.fk_spec.specs.Next.{IsHistory}
use Rattle.fk_law.specs.Due.{IsPushOf}
use Rattle.fk_law_reply.specs.Plans.{HasFittingVerbs}

-- whether nothing is known yet of a command among these that was sent with message k
abbrev pub awaits_outcome : ℕ → List Sent → Bool
awaits_outcome k [] = false
awaits_outcome k (s ∷ ss) = ((s.k == k) && is_open s.result) || awaits_outcome k ss

-- whether a message tells what became of request k
abbrev pub tells_outcome : ℕ → Message → Bool
tells_outcome k (Done j tx) = j == k
tells_outcome k (Kept j o) = j == k
tells_outcome k _ = false

-- whether one of these messages does
abbrev pub is_outcome_told : ℕ → List Message → Bool
is_outcome_told k [] = false
is_outcome_told k (m ∷ ms) = tells_outcome k m || is_outcome_told k ms

-- as long as client c waits for what became of request k, a message of its inbox tells it
abbrev pub IsReplied : Plan → ℕ → ℕ → List Entry → Type 0
IsReplied p c k h = awaits_outcome k (client_of p c h).sent ≡ true → is_outcome_told k (inbox_of p c h) ≡ true

-- request k of session c was committed by a push that isn't done
pub record IsUnderWay (c k : ℕ) (h : List Entry) : Type 0 where
  pub tx : ℕ
  pub outcome : outcome_of c k h ≡ Some (Committed tx)
  pub undone : done_of h < tx

-- A request whose message was removed is replied to, or its push isn't done yet.
abbrev pub RemovedMessageIsRepliedOrCommitted : Type 0
RemovedMessageIsRepliedOrCommitted = (p : Plan) (c k : ℕ) (h : List Entry) → HasFittingVerbs p → IsHistory p h → 1 ≤ k → k ≤ removed_by (follows_session c) h → IsReplied p c k h ⊎ IsUnderWay c k h

-- The request of a committed push that is done is replied to.
abbrev pub DonePushIsReplied : Type 0
DonePushIsReplied = (p : Plan) (t n c k : ℕ) (h : List Entry) → HasFittingVerbs p → IsHistory p h → is_committed t h ≡ true → t ≤ done_of h → IsPushOf t n c k h → IsReplied p c k h

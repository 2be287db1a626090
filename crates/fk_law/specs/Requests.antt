-- Requests: what was sent, pushed and committed.
use Rattle.std.specs.Prelude.{◌≡◌, ℕ, ◌≤◌, ◌++◌, true, List, Some}
use Rattle.fk_tree.specs.declared.applied.Applied.{Applied}
use Rattle.fk_tree.specs.declared.request.Request.{Request}
use Rattle.fk_print.specs.declared.entry.Entry.{Entry}
use Rattle.fk_spec.specs.Plan.{Plan}
use Rattle.fk_spec.specs.Start.{sends_of, request_of, pushed_of}
use Rattle.fk_spec.specs.Settling.{is_committed}
use Rattle.fk_spec.specs.Stored.{committed_as}
use Rattle.fk_spec.specs.Next.{IsHistory}
use Rattle.fk_law.specs.Due.{IsPushOf}

-- Each message that was sent has a request.
abbrev pub SentHasARequest : Type 0
SentHasARequest = (p : Plan) (c k : ℕ) (h : List Entry) → IsHistory p h → 1 ≤ k → k ≤ sends_of c h → (r : Request) × (request_of p c k h ≡ Some r)

-- Only a message that was sent has one.
abbrev pub RequestWasSent : Type 0
RequestWasSent = (p : Plan) (c k : ℕ) (h : List Entry) (r : Request) → IsHistory p h → request_of p c k h ≡ Some r → (1 ≤ k) × (k ≤ sends_of c h)

-- It never changes.
abbrev pub RequestNeverChanges : Type 0
RequestNeverChanges = (p : Plan) (c k : ℕ) (h more : List Entry) (r : Request) → IsHistory p (more ++ h) → request_of p c k h ≡ Some r → request_of p c k (more ++ h) ≡ Some r

-- A push asks for the request of its message.
abbrev pub PushAsksForItsRequest : Type 0
PushAsksForItsRequest = (p : Plan) (t n c k : ℕ) (h : List Entry) → IsHistory p h → (i : IsPushOf t n c k h) → (r : Request) × (request_of p c k h ≡ Some r) × (pushed_of p t h ≡ Some (record { session = c; k = k; moment = i.push.moment; request = r }))

abbrev pub PushedNeverChanges : Type 0
PushedNeverChanges = (p : Plan) (t n c k : ℕ) (h more : List Entry) → IsHistory p (more ++ h) → IsPushOf t n c k h → pushed_of p t (more ++ h) ≡ pushed_of p t h

-- What was committed is there exactly for the committed pushes, and never changes.
abbrev pub CommittedIsFilled : Type 0
CommittedIsFilled = (p : Plan) (t : ℕ) (h : List Entry) → IsHistory p h → is_committed t h ≡ true → (a : Applied) × (committed_as p t h ≡ Some a) × (a.tx ≡ t)

abbrev pub FilledIsCommitted : Type 0
FilledIsCommitted = (p : Plan) (t : ℕ) (h : List Entry) (a : Applied) → IsHistory p h → committed_as p t h ≡ Some a → (is_committed t h ≡ true) × (a.tx ≡ t)

abbrev pub CommittedNeverChanges : Type 0
CommittedNeverChanges = (p : Plan) (t : ℕ) (h more : List Entry) (a : Applied) → IsHistory p (more ++ h) → committed_as p t h ≡ Some a → committed_as p t (more ++ h) ≡ Some a

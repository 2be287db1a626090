-- Inboxes: what their messages say of requests and watches.
use Rattle.std.specs.Prelude.{◌≡◌, ℕ, ◌≤◌, Bool, true, false, List, [], ◌∷◌, Some}
use Rattle.fk_print.specs.declared.entry.Entry.{Entry}
use Rattle.fk_spec.specs.Plan.{Plan}
use Rattle.fk_spec.specs.Start.{request_of}
use Rattle.fk_spec.specs.Settling.{is_committed, mark_of, outcome_of}
use Rattle.fk_spec.specs.Lanes.{Message, Done, Evicted, Kept, Watch, Ping, inbox_of, is_evict}
use Rattle.fk_spec.specs.Next.{IsHistory}
use Rattle.fk_law.specs.Due.{IsPushOf, IsApplied}
use Rattle.fk_law_watch.specs.Telling.{is_announced}

-- push t is of request k of session c, was committed and is at most the mark; it evicts or doesn't
pub record IsPublishedPush (p : Plan) (c k t : ℕ) (evicts : Bool) (h : List Entry) : Type 0 where
  pub function : ℕ
  pub is_of : IsPushOf t function c k h
  pub committed : is_committed t h ≡ true
  pub published : t ≤ mark_of h
  pub evicting : is_evict (request_of p c k h) ≡ evicts

-- what a message of client c's inbox says
abbrev pub IsTrueMessage : Plan → ℕ → List Entry → Message → Type 0
IsTrueMessage p c h (Done k tx) = IsPublishedPush p c k tx false h
IsTrueMessage p c h (Evicted k tx) = IsPublishedPush p c k tx true h
IsTrueMessage p c h (Kept k o) = (outcome_of c k h ≡ Some o) × (IsApplied (Some o) → ⊥)
IsTrueMessage p c h (Watch watch) = is_announced watch h ≡ true
IsTrueMessage p c h (Ping ping) = Unit {0}

abbrev pub AreTrueMessages : Plan → ℕ → List Entry → List Message → Type 0
AreTrueMessages p c h [] = Unit {0}
AreTrueMessages p c h (m ∷ ms) = IsTrueMessage p c h m × AreTrueMessages p c h ms

-- A message that a push is done, or that it evicted, is of a published push of the client's request; one
-- that tells an outcome tells that of the request, which isn't a commit; one of a watch is of an announced
-- one.
abbrev pub InboxMessagesAreTrue : Type 0
InboxMessagesAreTrue = (p : Plan) (c : ℕ) (h : List Entry) → IsHistory p h → AreTrueMessages p c h (inbox_of p c h)

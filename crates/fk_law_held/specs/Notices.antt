-- Each notification fits its watch, and a client's are in the order of the transactions.
use Rattle.std.specs.Prelude.{◌≡◌, ℕ, ◌<◌, ◌≤◌, true, List, [], ◌∷◌, ◌++◌, Some}
use Rattle.fk_print.specs.declared.entry.Entry.{Entry}
use Rattle.fk_spec.specs.Plan.{Plan}
use Rattle.fk_spec.specs.Settling.{mark_of}
use Rattle.fk_spec.specs.Lanes as lanes
use Rattle.fk_spec.specs.Lanes.{Message, inbox_of}
use Rattle.fk_spec.specs.Watches.{Firing, firing_of}
use Rattle.fk_spec.specs.Client.{client_of, contains}
use Rattle.fk_spec.specs.PublicLines.{last_notice, lines_of}
use Rattle.fk_spec.specs.Promises.{NotificationsFit}
use Rattle.fk_spec.specs.Next.{IsHistory}
use Rattle.fk_law_reply.specs.Plans.{HasFittingVerbs}
use Rattle.fk_law_held.specs.Announced.{TellsOf}

-- before a message of a watch stand those of each of these watches that fired at a lesser push
abbrev pub StandsBehind : Plan → List Entry → List ℕ → List Message → Message → Type 0
StandsBehind p h held before (lanes.Watch j) = (i : ℕ) (f g : Firing) → contains i held ≡ true → firing_of p i h ≡ Some f → firing_of p j h ≡ Some g → f.tx < g.tx → TellsOf i before
StandsBehind p h held before _ = Unit {0}

abbrev pub AreInOrder : Plan → List Entry → List ℕ → List Message → List Message → Type 0
AreInOrder p h held before [] = Unit {0}
AreInOrder p h held before (m ∷ ms) = StandsBehind p h held before m × AreInOrder p h held (before ++ m ∷ []) ms

-- An inbox tells of the held watches in the order of the pushes that fired them.
abbrev pub InboxIsInOrder : Type 0
InboxIsInOrder = (p : Plan) (c : ℕ) (h : List Entry) → IsHistory p h → AreInOrder p h (client_of p c h).held [] (inbox_of p c h)

-- Each held watch that has fired did so at the last notification of its client or beyond, which is at most the mark.
pub record IsBehindNotices (p : Plan) (c : ℕ) (h : List Entry) : Type 0 where
  pub published : last_notice c (lines_of h) ≤ mark_of h
  pub behind : (id : ℕ) (f : Firing) → contains id (client_of p c h).held ≡ true → firing_of p id h ≡ Some f → last_notice c (lines_of h) ≤ f.tx

abbrev pub HeldAreBehindNotices : Type 0
HeldAreBehindNotices = (p : Plan) (c : ℕ) (h : List Entry) → HasFittingVerbs p → IsHistory p h → IsBehindNotices p c h

-- Each notification is of a watch that its client holds and that has fired, at that transaction and with that
-- change; a client's notifications are in the order of the transactions.
abbrev pub NotificationsFitTheWatches : Type 0
NotificationsFitTheWatches = (p : Plan) (h : List Entry) → HasFittingVerbs p → IsHistory p h → NotificationsFit p h

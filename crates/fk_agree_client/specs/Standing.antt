-- A client of the machine that stands where a history says.
use Rattle.std.specs.Prelude.{◌≡◌, ℕ, ⊤, List, [], ◌∷◌, Option, Some}
use Rattle.fk_tree.specs.Apply.{reply_of}
use Rattle.fk_tree.specs.declared.applied.Applied.{Applied}
use Rattle.fk_print.specs.declared.entry.Entry.{Entry}
use Rattle.fk_spec.specs.Plan.{Plan, Ask, asks_in, nth}
use Rattle.fk_spec.specs.Replies.{shown_reply}
use Rattle.fk_spec.specs.Shown.{seen_by}
use Rattle.fk_spec.specs.Stored.{committed_as}
use Rattle.fk_spec.specs.Client.{Client, client_of}
use Rattle.fk_client.specs.Knowing.{client_known}
use Rattle.fk_client.specs.Meaning.{Meaning}
use Rattle.fk_client.specs.Shown.{shown_commit}
use Rattle.fk_client.specs.declared.unanswered.Outcome.{Outcome}
use Rattle.fk_client.specs.declared.unanswered.Outcome.TheVariants as outcome
use Rattle.fk_client.specs.declared.unanswered.Unanswered.{Unanswered}

-- what a commit told of a command that asks this is what its push was committed as
abbrev pub TellsItsCommit : Plan → List Entry → Option Ask → Outcome → Type 0
TellsItsCommit p h a (outcome.Done tx name version made) = (x : Applied) × (committed_as p tx h ≡ Some x) × (shown_commit tx name version made a ≡ shown_reply tx (reply_of x))
TellsItsCommit p h a outcome.Open = ⊤
TellsItsCommit p h a (outcome.Refused code at place) = ⊤
TellsItsCommit p h a (outcome.Lost path own found moment) = ⊤
TellsItsCommit p h a (outcome.Plain code) = ⊤
TellsItsCommit p h a (outcome.Expired at) = ⊤

abbrev pub AllTell : Plan → List Entry → List Ask → List Unanswered → Type 0
AllTell p h asks [] = ⊤
AllTell p h asks (s ∷ ss) = TellsItsCommit p h (nth asks s.command) s.outcome × AllTell p h asks ss

-- client c after a history, where it holds this
abbrev pub standing : Plan → ℕ → List Entry → Client Unanswered → Meaning
standing p c h x = record { session = c; asks = asks_in p c; seen = seen_by c h; client = x }

-- What it holds is what the rules know of it, with what its commits told.
pub record Holds (p : Plan) (c : ℕ) (h : List Entry) (x : Client Unanswered) : Type 0 where
  pub known : client_known x ≡ client_of p c h
  pub told : AllTell p h (asks_in p c) x.sent

-- A client stands where a history says: it is that client, has seen what its lines show, and holds what the rules know.
pub record IsClient (p : Plan) (c : ℕ) (h : List Entry) (m : Meaning) : Type 0 where
  pub client : Client Unanswered
  pub is : m ≡ standing p c h client
  pub holds : Holds p c h client

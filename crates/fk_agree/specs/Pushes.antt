-- The message of a push and what the push is committed as.
use Rattle.std.specs.Prelude.{◌≡◌, ℕ, List, ◌∷◌, Some}
use Rattle.fk_tree.specs.declared.applied.Applied.{Applied}
use Rattle.fk_print.specs.declared.entry.Entry.{Entry}
use Rattle.fk_wire.specs.declared.message.Pushed.{Pushed}
use Rattle.fk_settle.specs.Transaction.{applied_as}
use Rattle.fk_stand.specs.Messages.{push_message_of}
use Rattle.fk_spec.specs.Plan.{Plan}
use Rattle.fk_spec.specs.Start as start
use Rattle.fk_spec.specs.Start.{pushed_of}
use Rattle.fk_spec.specs.Stored.{committed_of, committed_as, filled_after}
use Rattle.fk_spec.specs.Locks.{granted}
use Rattle.fk_spec.specs.Next.{IsHistory}
use Rattle.fk_law.specs.Due.{IsPushOf}
use Rattle.fk_law.specs.Losing.{IsLive}

-- What a push's message applies under its number is what the push was committed as.
abbrev pub PushIsItsCommit : Type 0
PushIsItsCommit = (p : Plan) (t : ℕ) (h : List Entry) (x : Pushed) (a : Applied) → IsHistory p h → push_message_of p t h ≡ Some x → committed_as p t h ≡ Some a → applied_as t x ≡ a

-- Where the push can still commit, it is what the commits so far would fill it as.
abbrev pub LivePushIsItsMessage : Type 0
LivePushIsItsMessage = (p : Plan) (t : ℕ) (h : List Entry) (x : Pushed) (y : start.Pushed) → IsHistory p h → IsLive t h → push_message_of p t h ≡ Some x → pushed_of p t h ≡ Some y → applied_as t x ≡ filled_after (committed_of p h) t y

-- A push's message tells its function and its request, and the paths that its function was granted.
pub record Tells (x : Pushed) (n c k : ℕ) (h : List Entry) : Type 0 where
  pub inv : x.inv ≡ n
  pub session : x.session ≡ c
  pub number : x.k ≡ k
  pub paths : x.paths ≡ granted n h

abbrev pub MessageTellsItsPush : Type 0
MessageTellsItsPush = (p : Plan) (t n c k : ℕ) (h : List Entry) (x : Pushed) → IsHistory p h → IsPushOf t n c k h → push_message_of p t h ≡ Some x → Tells x n c k h

-- Each push has its message, and keeps it.
abbrev pub PushHasItsMessage : Type 0
PushHasItsMessage = (p : Plan) (t n c k : ℕ) (h : List Entry) → IsHistory p h → IsPushOf t n c k h → (x : Pushed) × (push_message_of p t h ≡ Some x)

abbrev pub MessageNeverChanges : Type 0
MessageNeverChanges = (p : Plan) (t : ℕ) (e : Entry) (h : List Entry) (x : Pushed) → IsHistory p (e ∷ h) → push_message_of p t h ≡ Some x → push_message_of p t (e ∷ h) ≡ Some x

-- What a client makes of services that stand as a history says.
use Rattle.std.specs.Prelude.{◌≡◌, ℕ, true, List, [], ◌∷◌, Option, Some}
use Rattle.fk_print.specs.declared.entry.Entry.{Entry}
use Rattle.fk_queue.specs.Meaning as post
use Rattle.fk_store.specs.Meaning as table
use Rattle.fk_user.specs.Meaning as user
use Rattle.fk_watch.specs.Meaning as watches
use Rattle.fk_watch.specs.Meaning.{Watches}
use Rattle.fk_wire.specs.declared.message.Tell.{Tell}
use Rattle.fk_stand.specs.Standing.{Standing}
use Rattle.fk_spec.specs.Plan.{Plan, asks_in, is_client}
use Rattle.fk_spec.specs.Lanes.{inbox_of}
use Rattle.fk_spec.specs.Client.{client_in, client_op, failed_op}
use Rattle.fk_spec.specs.Next.{IsHistory}
use Rattle.fk_law_watch.specs.FirstNumbers.{ReadsAreReads}
use Rattle.fk_client.specs.Meaning.{Meaning, new_client}
use Rattle.fk_client.specs.Operation.{step_op}
use Rattle.fk_client.specs.Shown.{after_by, lines_by}
use Rattle.fk_agree_client.specs.Inbox.{FirstTells}
use Rattle.fk_agree_client.specs.Standing.{IsClient}

-- A new client stands where no history says.
abbrev pub NewClientStands : Type 0
NewClientStands = (p : Plan) (c : ℕ) → IsClient p c [] (new_client c (asks_in p c))

-- A client stands where a history says, and this is what is read at the head of its inbox.
pub record Looks (p : Plan) (c : ℕ) (h : List Entry) (told : Option Tell) (m : Meaning) : Type 0 where
  pub history : IsHistory p h
  pub client : is_client p c ≡ true
  pub stands : IsClient p c h m
  pub head : FirstTells p h (inbox_of p c h) told

-- On the services of its history it makes the operation that the rules say.
abbrev pub ClientMakesItsOp : Type 0
ClientMakesItsOp =
    (p : Plan) (c : ℕ) (h : List Entry) (told : Option Tell) (m : Meaning) (t : table.Meaning) (q : post.Meaning) (u : user.Meaning) (w : Watches) → Looks p c h told m → Standing p h t q u w
    → step_op t q w u told m ≡ client_op p c h

-- Where each service is to fail, it makes the failed one.
abbrev pub ClientFails : Type 0
ClientFails =
    (p : Plan) (c : ℕ) (h : List Entry) (told : Option Tell) (m : Meaning) (t : table.Meaning) (q : post.Meaning) (u : user.Meaning) (w : Watches) → Looks p c h told m → Standing p h t q u w
    → step_op (table.armed t) (post.armed q) (watches.armed w) (user.armed u) told m ≡ failed_op (client_op p c h)

-- After its operation it prints what the rules say, and stands where the longer history says.
abbrev pub ClientPrintsItsLines : Type 0
ClientPrintsItsLines =
    (p : Plan) (c : ℕ) (e : Entry) (h : List Entry) (told : Option Tell) (m : Meaning) (t : table.Meaning) (q : post.Meaning) (u : user.Meaning) (w : Watches) → ReadsAreReads p → IsHistory p (e ∷ h) → client_in e.op ≡ Some c
    → Looks p c h told m → Standing p h t q u w → lines_by q w u told e.op m ≡ e.lines

abbrev pub ClientGoesOn : Type 0
ClientGoesOn =
    (p : Plan) (c : ℕ) (e : Entry) (h : List Entry) (told : Option Tell) (m : Meaning) (t : table.Meaning) (q : post.Meaning) (u : user.Meaning) (w : Watches) → ReadsAreReads p → IsHistory p (e ∷ h) → client_in e.op ≡ Some c
    → Looks p c h told m → Standing p h t q u w → IsClient p c (e ∷ h) (after_by q w u told e.op m)

-- The operation of another leaves it where it stands.
abbrev pub OthersLeaveIt : Type 0
OthersLeaveIt = (p : Plan) (c : ℕ) (e : Entry) (h : List Entry) (m : Meaning) → IsHistory p (e ∷ h) → (client_in e.op ≡ Some c → ⊥) → IsClient p c h m → IsClient p c (e ∷ h) m

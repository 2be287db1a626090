-- The numbers under which commands are sent, and what a client keeps of each.
use Rattle.std.specs.Prelude.{◌≡◌, ℕ, ◌==◌, ◌<◌, ◌≤◌, ◌++◌, ◌⊎◌, true, if◌then◌else◌, List, ◌∷◌, Option, Some, None}
use Rattle.fk_base.specs.declared.code.Code.TheVariants as code
use Rattle.fk_tree.specs.declared.request.Request.{Request}
use Rattle.fk_print.specs.declared.entry.Entry.{Entry}
use Rattle.fk_spec.specs.Plan.{Plan, Ask, Unfit, Writes, asked}
use Rattle.fk_spec.specs.Start.{request_of, seen_with}
use Rattle.fk_spec.specs.Client.{client_in, client_of, Result, Plain, Expired, Sent}
use Rattle.fk_spec.specs.Promises.{sent_as}
use Rattle.fk_spec.specs.Refusals.{has_failed_send, seen_at}
use Rattle.fk_spec.specs.Next.{IsHistory}
use Rattle.fk_law_client.specs.Lines.{IsAmong, kept_after}

-- A client never begins fewer commands.
abbrev pub BegunNeverFalls : Type 0
BegunNeverFalls = (p : Plan) (c : ℕ) (h more : List Entry) → IsHistory p (more ++ h) → (client_of p c h).begun ≤ (client_of p c (more ++ h)).begun

-- Only a command that its client began was sent.
abbrev pub OnlyBegunWereSent : Type 0
OnlyBegunWereSent = (p : Plan) (c i : ℕ) (h : List Entry) → IsHistory p h → (client_of p c h).begun < i → sent_as c i h ≡ None

-- Under which number a begun command was sent, if it was, never changes.
abbrev pub SentNumberNeverChanges : Type 0
SentNumberNeverChanges = (p : Plan) (c i : ℕ) (h more : List Entry) → IsHistory p (more ++ h) → i ≤ (client_of p c h).begun → sent_as c i (more ++ h) ≡ sent_as c i h

-- a number of a message, where it is one
abbrev pub message_number : ℕ → Option ℕ
message_number k = if k == 0 then None else Some k

-- Why the client itself answers a command: it is unfit, its sending failed, or its session is known as closed,
-- at what the client had seen.
abbrev pub HasOwnCause : ℕ → ℕ → List Entry → Ask → Result → Type 0
HasOwnCause c i h a (Plain code.BadArguments) = a.want ≡ Unfit
HasOwnCause c i h a (Plain code.ConnectionLoss) = has_failed_send c i h ≡ true
HasOwnCause c i h a (Plain code) = ⊥
HasOwnCause c i h a (Expired at) = seen_at c i h ≡ Some at
HasOwnCause c i h a _ = Unit {0}

-- message k of session c is command i, which asks for a change; the client had seen as much as it notes
pub record IsMessage (p : Plan) (c : ℕ) (h : List Entry) (i k : ℕ) (a : Ask) : Type 0 where
  pub request : Request
  pub writes : a.want ≡ Writes request
  pub asks : request_of p c k h ≡ Some request
  pub seen : ℕ
  pub seen_with_it : seen_with c k h ≡ seen
  pub seen_then : seen_at c i h ≡ Some seen

-- a command that client c, which began this many, keeps: one of the deployment's, with the number under which it
-- was sent; what was sent is a write
pub record IsEntered (p : Plan) (c begun : ℕ) (h : List Entry) (s : Sent) : Type 0 where
  pub is_begun : s.command ≤ begun
  pub ask : Ask
  pub is_asked : asked p c s.command ≡ Some ask
  pub number : sent_as c s.command h ≡ message_number s.k
  pub message : (s.k ≡ 0) ⊎ IsMessage p c h s.command s.k ask
  pub cause : HasOwnCause c s.command h ask s.result

-- Each command that a client keeps is entered so.
abbrev pub KeptCommandsAreEntered : Type 0
KeptCommandsAreEntered = (p : Plan) (c : ℕ) (h : List Entry) (s : Sent) → IsHistory p h → IsAmong s (client_of p c h).sent → IsEntered p c (client_of p c h).begun h s

-- So are those that it has after an operation, before it prints what is ready.
abbrev pub CommandsOfAnOperationAreEntered : Type 0
CommandsOfAnOperationAreEntered = (p : Plan) (c : ℕ) (e : Entry) (h : List Entry) (s : Sent) → IsHistory p (e ∷ h) → client_in e.op ≡ Some c → IsAmong s (kept_after p c h e.op) → IsEntered p c (client_of p c (e ∷ h)).begun (e ∷ h) s

-- What a client keeps of the commands that it sent or refused itself.
use Rattle.std.specs.Prelude.{◌≡◌, ℕ, ◌+◌, ◌==◌, ◌<◌, ◌≤◌, ◌⊎◌, if◌then◌else◌, false, List, [], ◌∷◌, Some}
use Rattle.fk_print.specs.declared.entry.Entry.{Entry}
use Rattle.fk_spec.specs.Plan.{Plan}
use Rattle.fk_spec.specs.Shown.{seen_by}
use Rattle.fk_spec.specs.Start.{sends_of, origin_of}
use Rattle.fk_spec.specs.Start as start
use Rattle.fk_spec.specs.Settling.{Committed, Refused, Passed, outcome_of}
use Rattle.fk_spec.specs.Client.{Sent, Result, Open, Settled, Plain, Expired, client_of}
use Rattle.fk_spec.specs.Next.{IsHistory}
use Rattle.fk_law_watch.specs.FirstNumbers.{ReadsAreReads}
use Rattle.fk_law_client.specs.Inboxes.{IsPublishedPush}

-- message k of session c was sent with this command
pub record IsSentWith (c command k : ℕ) (h : List Entry) : Type 0 where
  pub seen : ℕ
  pub origin : origin_of c k h ≡ Some (start.Sent command seen)

-- What is known of request k of session c is true: a commit is a published push of the request, anything
-- else is its outcome; a closed session was met at a number that the client was shown.
abbrev pub IsTrueResult : Plan → ℕ → ℕ → List Entry → Result → Type 0
IsTrueResult p c k h Open = Unit {0}
IsTrueResult p c k h (Settled (Committed tx)) = IsPublishedPush p c k tx false h
IsTrueResult p c k h (Settled (Refused code place at)) = outcome_of c k h ≡ Some (Refused code place at)
IsTrueResult p c k h (Settled (Passed loss)) = outcome_of c k h ≡ Some (Passed loss)
IsTrueResult p c k h (Plain code) = k ≡ 0
IsTrueResult p c k h (Expired at) = (k ≡ 0) × (at ≤ seen_by c h)

-- the number of the last message so far, where this one is no message or the next
abbrev pub later : ℕ → ℕ → ℕ
later last k = if k == 0 then last else k

-- a command that wasn't sent, or one whose message comes after `last` and was sent with it
abbrev pub IsSentSo : ℕ → ℕ → List Entry → Sent → Type 0
IsSentSo c last h s = (s.k ≡ 0) ⊎ ((last < s.k) × IsSentWith c s.command s.k h)

-- These are the commands after command n up to `begun`, in order. The numbers of their messages rise from
-- beyond `last` up to `top`, and what is known of each is true.
abbrev pub AreTracked : Plan → ℕ → List Entry → ℕ → ℕ → List Sent → ℕ → ℕ → Type 0
AreTracked p c h n last [] begun top = (n ≡ begun) × (last ≤ top)
AreTracked p c h n last (s ∷ ss) begun top = (s.command ≡ n + 1) × IsSentSo c last h s × IsTrueResult p c s.k h s.result × AreTracked p c h (n + 1) (later last s.k) ss begun top

-- after some answered command and some message, they are
pub record KeepsTrack (p : Plan) (c : ℕ) (h : List Entry) (ss : List Sent) (begun top : ℕ) : Type 0 where
  pub answered : ℕ
  pub last : ℕ
  pub tracked : AreTracked p c h answered last ss begun top

-- The commands that a client sent or refused and didn't answer are its last ones, in order. Their messages'
-- numbers rise, each is of the line that sent the command, and what is known of each is true.
abbrev pub SentCommandsAreTracked : Type 0
SentCommandsAreTracked = (p : Plan) (c : ℕ) (h : List Entry) → ReadsAreReads p → IsHistory p h → KeepsTrack p c h (client_of p c h).sent (client_of p c h).begun (sends_of c h)

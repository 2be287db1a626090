-- A client that knows its session as closed is right.
use Rattle.std.specs.Prelude.{◌≡◌, ℕ, ◌≤◌, true, false, List, ◌∷◌, Some}
use Rattle.fk_tree.specs.Edit.{view_after}
use Rattle.fk_print.specs.declared.entry.Entry.{Entry}
use Rattle.fk_spec.specs.Plan.{Plan, asked}
use Rattle.fk_spec.specs.Shown.{seen_by}
use Rattle.fk_spec.specs.Settling.{mark_of}
use Rattle.fk_spec.specs.Stored.{committed_of, up_to}
use Rattle.fk_spec.specs.Client.{client_in, client_of, is_unfit, Result, Expired, Sent}
use Rattle.fk_spec.specs.Next.{IsHistory}
use Rattle.fk_law_client.specs.Lines.{IsAmong, kept_after}
use Rattle.fk_law_reply.specs.Plans.{HasFittingVerbs}

-- session c is closed in what the commits up to n leave
abbrev pub IsClosedAt : Plan → ℕ → List Entry → ℕ → Type 0
IsClosedAt p c h n = (view_after (up_to n (committed_of p h))).closed c ≡ true

-- It was closed up to what the client was shown.
abbrev pub ClosedClientsAreRight : Type 0
ClosedClientsAreRight = (p : Plan) (c : ℕ) (h : List Entry) → HasFittingVerbs p → IsHistory p h → (client_of p c h).closed ≡ true → IsClosedAt p c h (seen_by c h)

-- A command that met a closed session isn't unfit, and the session was closed at its number, up to the mark.
abbrev pub KnownClosed : Plan → List Entry → ℕ → ℕ → Result → Type 0
KnownClosed p h c i (Expired at) = (is_unfit (asked p c i) ≡ false) × (at ≤ mark_of h) × IsClosedAt p c h at
KnownClosed p h c i _ = Unit {0}

-- So it is of each command that a client keeps, and of those that it has after an operation.
abbrev pub ExpiredMetAClosedSession : Type 0
ExpiredMetAClosedSession = (p : Plan) (c : ℕ) (h : List Entry) (s : Sent) → HasFittingVerbs p → IsHistory p h → IsAmong s (client_of p c h).sent → KnownClosed p h c s.command s.result

abbrev pub ExpiredByAnOperation : Type 0
ExpiredByAnOperation = (p : Plan) (c : ℕ) (e : Entry) (h : List Entry) (s : Sent) → HasFittingVerbs p → IsHistory p (e ∷ h) → client_in e.op ≡ Some c → IsAmong s (kept_after p c h e.op) → KnownClosed p (e ∷ h) c s.command s.result

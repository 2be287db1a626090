-- The watches that a client holds.
use Rattle.std.specs.Prelude.{◌≡◌, ℕ, true, false, List, [], Option, Some, None}
use Rattle.fk_print.specs.declared.entry.Entry.{Entry}
use Rattle.fk_print.specs.declared.op.Op.{Op}
use Rattle.fk_print.specs.declared.op.Op.TheVariants as op
use Rattle.fk_spec.specs.Plan.{Plan}
use Rattle.fk_spec.specs.Start.{or_else}
use Rattle.fk_spec.specs.Watches.{Firing, Watch, firing_of}
use Rattle.fk_spec.specs.Client.{client_of, contains, with_held, without, Client, Sent}
use Rattle.fk_spec.specs.Next.{IsHistory}
use Rattle.fk_law_watch.specs.SetWatches.{first_of, set_watch}

-- What an operation of client c makes of the watches that it holds: it leaves them, drops all with its session,
-- drops one that it is told of, or holds one more.
pub data HeldChange (p : Plan) (c : ℕ) (h : List Entry) (o : Op) (y : Client Sent) : Type 0 where
  Left : ((id : ℕ) → o ≡ op.TakeWatch c id → ⊥) → y.held ≡ (client_of p c h).held → y.closed ≡ (client_of p c h).closed → HeldChange p c h o y
  Emptied : y.held ≡ [] → y.closed ≡ true → HeldChange p c h o y
  Dropped : (id : ℕ) → o ≡ op.TakeWatch c id → y.held ≡ without id (client_of p c h).held → y.closed ≡ (client_of p c h).closed → HeldChange p c h o y
  Added : (i id : ℕ) → o ≡ op.WatchSet c i id → y.held ≡ with_held id (client_of p c h).held → y.closed ≡ (client_of p c h).closed → HeldChange p c h o y

abbrev pub fired_watch : Option Firing → Option Watch
fired_watch None = None
fired_watch (Some f) = Some f.watch

-- watch `id`, set or fired
abbrev pub known_watch : Plan → ℕ → List Entry → Option Watch
known_watch p id h = or_else (set_watch p id h) (fired_watch (firing_of p id h))

-- watch `id` is of client c, and has its first number
pub record IsAccountedFor (p : Plan) (c id : ℕ) (h : List Entry) : Type 0 where
  pub watch : Watch
  pub known : known_watch p id h ≡ Some watch
  pub its_session : watch.session ≡ c
  pub first : ℕ
  pub registered : first_of p id h ≡ Some first

-- A watch that a client holds is set or has fired, and is its own.
abbrev pub HeldWatchesAreAccountedFor : Type 0
HeldWatchesAreAccountedFor = (p : Plan) (c id : ℕ) (h : List Entry) → IsHistory p h → contains id (client_of p c h).held ≡ true → IsAccountedFor p c id h

-- A client that knows its session as closed holds no watch, and makes no read.
abbrev pub ClosedClientsHoldNothing : Type 0
ClosedClientsHoldNothing = (p : Plan) (c : ℕ) (h : List Entry) → IsHistory p h → (client_of p c h).closed ≡ true → ((client_of p c h).held ≡ []) × ((client_of p c h).reading ≡ None)

-- Any other client holds each of its watches that is set.
abbrev pub SetWatchesAreHeld : Type 0
SetWatchesAreHeld = (p : Plan) (c id : ℕ) (h : List Entry) (w : Watch) → IsHistory p h → (client_of p c h).closed ≡ false → set_watch p id h ≡ Some w → w.session ≡ c → contains id (client_of p c h).held ≡ true

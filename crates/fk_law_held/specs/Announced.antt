-- What a client is told of the watches that it holds.
use Rattle.std.specs.Prelude.{◌≡◌, ℕ, ◌+◌, ◌<◌, ◌⊎◌, true, List, [], ◌∷◌, Some}
use Rattle.fk_base.specs.Path.{same_path}
use Rattle.fk_tree.specs.Watch.{same_kind}
use Rattle.fk_print.specs.declared.entry.Entry.{Entry}
use Rattle.fk_print.specs.declared.op.Op.TheVariants as op
use Rattle.fk_spec.specs.Plan.{Plan, asked}
use Rattle.fk_spec.specs.Shown.{seen_by}
use Rattle.fk_spec.specs.Settling.{mark_of}
use Rattle.fk_spec.specs.Lanes as lanes
use Rattle.fk_spec.specs.Lanes.{Message, inbox_of}
use Rattle.fk_spec.specs.Watches.{Firing, Watch, firing_of}
use Rattle.fk_spec.specs.Client.{client_of, contains, number_read, registers, Reading}
use Rattle.fk_spec.specs.Next.{IsHistory}
use Rattle.fk_law.specs.Due.{IsDue}
use Rattle.fk_law_watch.specs.FirstNumbers.{ReadsAreReads}
use Rattle.fk_law_watch.specs.Telling.{is_announced}
use Rattle.fk_law_held.specs.Held.{known_watch}

-- A watch function tells the client of a watch that it has fired.
abbrev pub ToldWatchIsOfItsClient : Type 0
ToldWatchIsOfItsClient = (p : Plan) (n c id : ℕ) (h : List Entry) → IsHistory p h → IsDue p h (op.Tell n c id) → (f : Firing) × (firing_of p id h ≡ Some f) × (f.watch.session ≡ c)

-- one of these messages tells of watch `id`
abbrev pub TellsOf : ℕ → List Message → Type 0
TellsOf id [] = ⊥
TellsOf id (m ∷ ms) = (m ≡ lanes.Watch id) ⊎ TellsOf id ms

-- A held watch that was announced stands in its client's inbox.
abbrev pub InboxTellsOfAnnouncedWatches : Type 0
InboxTellsOfAnnouncedWatches = (p : Plan) (c id : ℕ) (h : List Entry) → IsHistory p h → contains id (client_of p c h).held ≡ true → is_announced id h ≡ true → TellsOf id (inbox_of p c h)

-- At a look that is ok each held watch that has fired did so beyond the mark.
abbrev pub LookPassesNoHeldWatch : Type 0
LookPassesNoHeldWatch = (p : Plan) (c i mark id : ℕ) (e : Entry) (h : List Entry) (f : Firing) → IsHistory p (e ∷ h) → e.op ≡ op.LookOk c i mark → contains id (client_of p c h).held ≡ true → firing_of p id h ≡ Some f → mark_of h < f.tx

-- While a read waits for its registration, each held watch that has fired did so beyond the read's number.
abbrev pub WaitingReadIsClean : Type 0
WaitingReadIsClean =
    (p : Plan) (c id : ℕ) (h : List Entry) (r : Reading) (f : Firing) → ReadsAreReads p → IsHistory p h → (client_of p c h).reading ≡ Some r → r.looked ≡ true → contains id (client_of p c h).held ≡ true → firing_of p id h ≡ Some f
    → number_read (seen_by c h) r < f.tx

-- Two watches that a client holds differ in their path or their kind.
abbrev pub HeldWatchesDiffer : Type 0
HeldWatchesDiffer =
    (p : Plan) (c i j : ℕ) (h : List Entry) (v w : Watch) → ReadsAreReads p → IsHistory p h → contains i (client_of p c h).held ≡ true → contains j (client_of p c h).held ≡ true → known_watch p i h ≡ Some v → known_watch p j h ≡ Some w
    → same_path v.path w.path ≡ true → same_kind v.kind w.kind ≡ true → i ≡ j

-- A read that waits for its registration asks for a watch, and found what that wants.
abbrev pub WaitingReadRegisters : Type 0
WaitingReadRegisters = (p : Plan) (c : ℕ) (h : List Entry) (r : Reading) → ReadsAreReads p → IsHistory p h → (client_of p c h).reading ≡ Some r → r.looked ≡ true → registers (asked p c ((client_of p c h).begun + 1)) r.node ≡ true

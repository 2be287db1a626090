-- A deployment's turns, played one after another.
use Rattle.std.specs.Prelude.{◌≡◌, ℕ, ◌+◌, true, ⊤, List, [], ◌∷◌}
use Rattle.fk_print.specs.declared.entry.Entry.{Entry}
use Rattle.fk_script.specs.declared.deployment.Turn.{Turn}
use Rattle.fk_script.specs.declared.deployment.Turn.TheVariants as turn
use Rattle.fk_spec.specs.Next.{names_client}
use Rattle.fk_spec.specs.Plan.{Plan}
use Rattle.fk_spec.specs.Schedule.{TakesTurn}
use Rattle.fk_limits.specs.Turns.{IsEarly}
use Rattle.fk_world.specs.Clocks.{clock_shown}

-- these turns in order lead from h to k
abbrev pub Takes : Plan → List Turn → List Entry → List Entry → Type 0
Takes p [] h k = h ≡ k
Takes p (t ∷ ts) h k = (m : List Entry) × TakesTurn p t h m × Takes p ts m k

-- an event of a turn names a client, where it names one, and a moment of the grammar
abbrev pub IsFit : Plan → Turn → Type 0
IsFit p (turn.One e) = (names_client p e ≡ true) × IsEarly e
IsFit p turn.Drain = ⊤

abbrev pub AreFit : Plan → List Turn → Type 0
AreFit p [] = ⊤
AreFit p (t ∷ ts) = IsFit p t × AreFit p ts

-- what the clock shows after a turn: a drain lets every lock run out
abbrev pub clock_turned : Plan → Turn → ℕ → ℕ
clock_turned p (turn.One e) now = clock_shown e now
clock_turned p turn.Drain now = now + p.lock + 1

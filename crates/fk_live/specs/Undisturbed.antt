-- Histories in which nothing was made to fail and no heartbeat was started.
use Rattle.std.specs.Prelude.{◌≡◌, Bool, true, false, List, [], ◌∷◌, ⊤}
use Rattle.fk_print.specs.declared.entry.Entry.{Entry}
use Rattle.fk_print.specs.declared.event.Event.{Event}
use Rattle.fk_print.specs.declared.event.Event.TheVariants as event

-- an event that makes an operation fail, or starts a heartbeat
abbrev pub disturbs : Event → Bool
disturbs (event.Fail n) = true
disturbs (event.FailClient c) = true
disturbs (event.Beat c) = true
disturbs _ = false

-- no entry is of such an event
abbrev pub IsUndisturbed : List Entry → Type 0
IsUndisturbed [] = ⊤
IsUndisturbed (e ∷ h) = (disturbs e.event ≡ false) × IsUndisturbed h

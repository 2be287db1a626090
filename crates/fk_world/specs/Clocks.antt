-- How an event moves the clock.
use Rattle.std.specs.Prelude.{ℕ, max}
use Rattle.fk_print.specs.declared.event.Event.{Event}
use Rattle.fk_print.specs.declared.event.Event.TheVariants as event

-- What the clock shows after an event: a clock's event moves it, and never back.
abbrev pub clock_shown : Event → ℕ → ℕ
clock_shown (event.Clock moment) now = max moment now
clock_shown _ now = now

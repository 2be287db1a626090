-- The line of an event.
use Rattle.std.specs.Prelude.{List, [], ◌∷◌, codes}
use Rattle.std.specs.Fmt.{decimal}
use Rattle.fk_base.specs.Path.{Name}
use Rattle.fk_print.specs.Words.{Text, marked, client}
use Rattle.fk_print.specs.declared.event.Event.{Event}
use Rattle.fk_print.specs.declared.event.Event.TheVariants as event

-- an event as a schedule has it
abbrev pub event_words : List Name → Event → List Text
event_words names (event.Client c) = codes "client" ∷ client names c ∷ []
event_words names (event.Deliver c) = codes "deliver" ∷ client names c ∷ []
event_words names event.Leader = codes "deliver leader" ∷ []
event_words names event.Watch = codes "deliver watch" ∷ []
event_words names (event.Beat c) = codes "beat" ∷ client names c ∷ []
event_words names (event.Step n) = codes "step" ∷ decimal n ∷ []
event_words names (event.Crash n) = codes "crash" ∷ decimal n ∷ []
event_words names (event.Fail n) = codes "fail" ∷ decimal n ∷ []
event_words names (event.FailClient c) = codes "fail client" ∷ client names c ∷ []
event_words names (event.Clock m) = codes "clock" ∷ decimal m ∷ []

-- the line of an event
abbrev pub event_text : List Name → Event → Text
event_text names event = marked (codes ">") (event_words names event)

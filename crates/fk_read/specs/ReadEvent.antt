-- What the words of an event say.
use Rattle.std.specs.Prelude.{if◌then◌else◌, List, codes, Option, Some}
use Rattle.std.specs.Option.{option_map}
use Rattle.std.specs.Str.{bytes_eq}
use Rattle.fk_base.specs.Path.{Name}
use Rattle.fk_print.specs.Words.{Text}
use Rattle.fk_print.specs.declared.event.Event.{Event}
use Rattle.fk_print.specs.declared.event.Event.TheVariants as event
use Rattle.fk_read.specs.Reads.{option_or_else, take, then_read, then_word}
use Rattle.fk_read.specs.ReadWords.{client_of, number_of}

abbrev pub deliver_of : List Name → List Text → Option Event
deliver_of names words = then_word words λ word rest.
    if bytes_eq word (codes "leader") then Some event.Leader
    else if bytes_eq word (codes "watch") then Some event.Watch
    else option_map (λ c. event.Deliver c) (client_of names word)

abbrev pub fail_of : List Name → List Text → Option Event
fail_of names words = then_word words λ word rest.
    option_or_else (number_of word) (λ n. Some (event.Fail n)) (then_read (take (client_of names) rest) λ c rest. Some (event.FailClient c))

-- an event
abbrev pub event_of : List Name → List Text → Option Event
event_of names words = then_word words λ word rest.
    if bytes_eq word (codes "client") then (then_read (take (client_of names) rest) λ c rest. Some (event.Client c))
    else if bytes_eq word (codes "deliver") then deliver_of names rest
    else if bytes_eq word (codes "beat") then (then_read (take (client_of names) rest) λ c rest. Some (event.Beat c))
    else if bytes_eq word (codes "step") then (then_read (take number_of rest) λ n rest. Some (event.Step n))
    else if bytes_eq word (codes "crash") then (then_read (take number_of rest) λ n rest. Some (event.Crash n))
    else if bytes_eq word (codes "fail") then fail_of names rest
    else (then_read (take number_of rest) λ m rest. Some (event.Clock m))

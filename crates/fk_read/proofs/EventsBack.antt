-- Each event reads back from the words of its line.
use Rattle.std.proofs.Common.{◌≡◌, true, List, Some, refl}
use Rattle.std.specs.List.{flat_map}
use Rattle.fk_base.specs.Digits.{number_below}
use Rattle.fk_base.specs.Path.{Name}
use Rattle.fk_print.specs.ClientNames.{are_client_names}
use Rattle.fk_print.specs.EventText.{event_words}
use Rattle.fk_print.specs.WellFormed.{IsEvent}
use Rattle.fk_print.specs.declared.event.Event.{Event}
use Rattle.fk_print.specs.declared.event.Event.TheVariants as event
use Rattle.fk_read.specs.Cut.{words_in}
use Rattle.fk_read.specs.ReadEvent.{event_of}
use Rattle.fk_read.specs.ReadWords.{number_of}
use Rattle.fk_read.proofs.WordsBack.{number_back, take_number, words_in_decimal}
use Rattle.fk_read.proofs.ClientsBack.{client_back, client_not_leader, client_not_watch, take_client, words_in_client}
use Rattle.fk_read.proofs.Shown.{AreShown, shown_client, shown_decimal}

pub event_back : (names : List Name) (e : Event) → are_client_names names ≡ true → IsEvent names e
    → event_of names (flat_map words_in (event_words names e)) ≡ Some e
unfolding number_of number_below
event_back names (event.Client c) known fits = rw (take_client names c known fits) refl
event_back names (event.Deliver c) known fits = rw (words_in_client names c known fits, client_not_leader names c known fits, client_not_watch names c known fits, client_back names c known fits) refl
event_back names event.Leader known fits = refl
event_back names event.Watch known fits = refl
event_back names (event.Beat c) known fits = rw (take_client names c known fits) refl
event_back names (event.Step n) known fits = rw (take_number n fits) refl
event_back names (event.Crash n) known fits = rw (take_number n fits) refl
event_back names (event.Fail n) known fits = rw (words_in_decimal n fits, number_back n fits) refl
event_back names (event.FailClient c) known fits = rw (take_client names c known fits) refl
event_back names (event.Clock m) known fits = rw (take_number m fits) refl

pub event_shown : (names : List Name) (e : Event) → are_client_names names ≡ true → IsEvent names e → AreShown (event_words names e)
event_shown names (event.Client c) known fits = (refl, (shown_client names c known fits, tt))
event_shown names (event.Deliver c) known fits = (refl, (shown_client names c known fits, tt))
event_shown names event.Leader known fits = (refl, tt)
event_shown names event.Watch known fits = (refl, tt)
event_shown names (event.Beat c) known fits = (refl, (shown_client names c known fits, tt))
event_shown names (event.Step n) known fits = (refl, (shown_decimal n fits, tt))
event_shown names (event.Crash n) known fits = (refl, (shown_decimal n fits, tt))
event_shown names (event.Fail n) known fits = (refl, (shown_decimal n fits, tt))
event_shown names (event.FailClient c) known fits = (refl, (shown_client names c known fits, tt))
event_shown names (event.Clock m) known fits = (refl, (shown_decimal m fits, tt))

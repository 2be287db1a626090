use Rattle.fk_law_watch.proofs.Reading.{watches_are_set_up_to_the_mark}
use Rattle.fk_law_watch.proofs.number_of_registration.watches_are_set_up_to_the_mark.Goals as goal

pub returns : goal.returns
returns c = watches_are_set_up_to_the_mark

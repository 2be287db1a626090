use Rattle.fk_agree.proofs.Posting.{head_is_popped, letter_is_pushed}
use Rattle.fk_agree.proofs.lanes.letters_are_pushed_and_popped.Goals as goal

pub returns-clause-pushed : goal.returns-clause-pushed
returns-clause-pushed c = letter_is_pushed

pub returns-clause-popped : goal.returns-clause-popped
returns-clause-popped c = head_is_popped

use Rattle.fk_law_watch.proofs.Counting.{notes_are_bounded, pushes_are_bounded, sends_are_bounded, starts_are_bounded}
use Rattle.fk_law_watch.proofs.SetWatches.{given_are_bounded}
use Rattle.fk_law_watch.proofs.counts.counts_are_bounded.Goals as goal

pub returns-clause-starts : goal.returns-clause-starts
returns-clause-starts c = starts_are_bounded

pub returns-clause-pushes : goal.returns-clause-pushes
returns-clause-pushes c = pushes_are_bounded

pub returns-clause-sends : goal.returns-clause-sends
returns-clause-sends c = sends_are_bounded

pub returns-clause-notes : goal.returns-clause-notes
returns-clause-notes c = notes_are_bounded

pub returns-clause-given : goal.returns-clause-given
returns-clause-given c = given_are_bounded

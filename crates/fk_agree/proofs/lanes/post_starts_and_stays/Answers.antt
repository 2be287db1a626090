use Rattle.fk_agree.proofs.Posting.{new_post_stands, post_stays}
use Rattle.fk_agree.proofs.lanes.post_starts_and_stays.Goals as goal

pub returns-clause-new : goal.returns-clause-new
returns-clause-new c = new_post_stands

pub returns-clause-stays : goal.returns-clause-stays
returns-clause-stays c = post_stays

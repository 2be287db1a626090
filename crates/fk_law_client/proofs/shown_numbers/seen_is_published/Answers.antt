use Rattle.fk_law_client.proofs.Seen.{seen_published}
use Rattle.fk_law_client.proofs.shown_numbers.seen_is_published.Goals as goal

pub returns : goal.returns
returns c = seen_published

use Rattle.fk_law.proofs.Editing.{owned_list_is_complete}
use Rattle.fk_law.proofs.follower_views.owned_list_is_complete.Goals as goal

pub returns : goal.returns
returns c = owned_list_is_complete

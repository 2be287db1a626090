use Rattle.fk_law_client.proofs.Viewing.{views_kept}
use Rattle.fk_law_client.proofs.views.view_never_falls.Goals as goal

pub returns : goal.returns
returns c = views_kept

use Rattle.fk_agree_client.proofs.Going.{new_client_stands, others_leave_it}
use Rattle.fk_agree_client.proofs.clients.clients_stand.Goals as goal

pub returns-clause-new : goal.returns-clause-new
returns-clause-new c = new_client_stands

pub returns-clause-others : goal.returns-clause-others
returns-clause-others c = others_leave_it

use Rattle.fk_agree_client.proofs.Fitting.{client_is_fit, client_is_idle}
use Rattle.fk_agree_client.proofs.serving.client_is_fit.Goals as goal

pub returns-clause-idle : goal.returns-clause-idle
returns-clause-idle c = client_is_idle

pub returns-clause-fit : goal.returns-clause-fit
returns-clause-fit c = client_is_fit

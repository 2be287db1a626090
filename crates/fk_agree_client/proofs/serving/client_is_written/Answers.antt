use Rattle.fk_agree_client.proofs.Written.{client_fault_is_written, client_is_written}
use Rattle.fk_agree_client.proofs.serving.client_is_written.Goals as goal

pub returns-clause-written : goal.returns-clause-written
returns-clause-written c = client_is_written

pub returns-clause-failed : goal.returns-clause-failed
returns-clause-failed c = client_fault_is_written

use Rattle.fk_law_watch.proofs.FirstNumbers.{deployments_read_by_reads}
use Rattle.fk_law_watch.proofs.number_of_registration.deployments_read_by_reads.Goals as goal

pub returns : goal.returns
returns c = deployments_read_by_reads

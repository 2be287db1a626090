use Rattle.fk_law_tree.proofs.Reading.{check_reads}
use Rattle.fk_law_tree.proofs.read_paths.check_reads.Goals as goal

pub returns : goal.returns
returns c = check_reads

use Rattle.fk_law_tree.proofs.Reading.{fill_reads}
use Rattle.fk_law_tree.proofs.read_paths.fill_reads.Goals as goal

pub returns : goal.returns
returns c = fill_reads

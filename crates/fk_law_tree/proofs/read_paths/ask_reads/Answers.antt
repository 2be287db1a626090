use Rattle.fk_law_tree.proofs.Reading.{ask_reads}
use Rattle.fk_law_tree.proofs.read_paths.ask_reads.Goals as goal

pub returns : goal.returns
returns c = ask_reads

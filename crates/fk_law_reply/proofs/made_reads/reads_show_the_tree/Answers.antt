use Rattle.fk_law_reply.proofs.Finding.{reads_show_the_tree}
use Rattle.fk_law_reply.proofs.made_reads.reads_show_the_tree.Goals as goal

pub returns : goal.returns
returns c = reads_show_the_tree

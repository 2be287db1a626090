use Rattle.fk_base.proofs.PathTexts.{text_reads_back}
use Rattle.fk_base.proofs.path_laws.text_reads_back.Goals as goal

pub returns : goal.returns
returns c = text_reads_back

use Rattle.fk_base.proofs.PathTexts.{reads_its_text}
use Rattle.fk_base.proofs.path_laws.reads_its_text.Goals as goal

pub returns : goal.returns
returns c = reads_its_text

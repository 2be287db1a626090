use Rattle.fk_script.proofs.WordValues.{encoded}
use Rattle.fk_script.proofs.word_laws.data_is_encoded.Goals as goal

pub returns : goal.returns
returns c = encoded

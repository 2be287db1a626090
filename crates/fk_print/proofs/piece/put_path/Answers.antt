use Rattle.std.proofs.Common.{arith}
use Rattle.std.proofs.lemmas.Grind.{common_steps}
use Rattle.fk_print.proofs.Texts.{names_text_more}
use Rattle.fk_print.proofs.piece.put_path.Goals as goal

pub loop-name-preserved : goal.loop-name-preserved
loop-name-preserved c = grind (arith, common_steps, names_text_more)

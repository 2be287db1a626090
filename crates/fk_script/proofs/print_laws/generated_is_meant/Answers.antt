use Rattle.fk_script.proofs.Returning.{generated_meant}
use Rattle.fk_script.proofs.print_laws.generated_is_meant.Goals as goal

pub returns : goal.returns
returns c = generated_meant

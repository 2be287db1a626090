use Rattle.fk_script.proofs.Returning.{meant_reads_back}
use Rattle.fk_script.proofs.print_laws.printed_reads_back.Goals as goal

pub returns : goal.returns
returns c = meant_reads_back

use Rattle.std.proofs.Common.{◌≡◌, arith}
use Rattle.std.proofs.lemmas.Grind.{common_steps}
use Rattle.fk_script.specs.Printed.{deployment_text}
use Rattle.fk_script.proofs.Returning.{text_reads_back}
use Rattle.fk_script.proofs.print.print_script.Goals as goal

pub returns-clause-reads_back : goal.returns-clause-reads_back
returns-clause-reads_back c = λ meant.
    let e : c.if-deployment.out ≡ deployment_text c.args.deployment.now = grind (arith, common_steps) in
    text_reads_back c.args.deployment.now c.if-deployment.out e meant

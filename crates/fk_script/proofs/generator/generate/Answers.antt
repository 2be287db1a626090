use Rattle.std.proofs.Common.{◌≡◌, true, subst, sym, arith}
use Rattle.std.proofs.lemmas.Grind.{common_steps}
use Rattle.fk_script.specs.Generate.{generated}
use Rattle.fk_script.specs.PrintLaws.{IsMeant}
use Rattle.fk_script.specs.declared.deployment.Deployment.{Deployment}
use Rattle.fk_script.proofs.Draws.{second_client, third_client, behind_clients}
use Rattle.fk_script.proofs.Returning.{generated_meant}
use Rattle.fk_script.proofs.generator.generate.Goals as goal

pub returns-clause-meant : goal.returns-clause-meant
returns-clause-meant c =
    let made : Deployment = record { config = record { lock = 10; beat = 30 }; clients = c.clients-2.inside.items.items; turns = c.in_ok-turns.field-0; scheduled = true } in
    let e : made ≡ generated c.args.number c.args.size = grind (arith, common_steps, second_client, third_client, behind_clients) in
    subst IsMeant (sym e) (generated_meant c.args.number c.args.size c.requires.most)

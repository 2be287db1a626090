use Rattle.std.proofs.Common.{◌++◌, ◌∷◌, [], ◌∙◌, ap}
use Rattle.fk_script.specs.declared.command.Command.TheVariants as command
use Rattle.fk_tests.proofs.Fitting.{client_fits}
use Rattle.fk_tests.proofs.machines.closes.Goals as goal

pub step-requires : goal.step-requires
step-requires c = client_fits _ _ _ _ _ c.in_ok-table.ensures c.in_ok-post.ensures c.in_ok-watches.ensures.new c.new-client.ensures (c.in_ok-push.ensures.ok ∙ ap (λ xs. xs ++ command.Close ∷ []) c.new-commands.ensures)

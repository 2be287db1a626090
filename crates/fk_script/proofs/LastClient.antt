-- The last of the clients, which takes the commands.
use Rattle.std.proofs.Common.{◌≡◌, true, List, [], ◌∷◌, ◌++◌, length, refl, ap, arith}
use Rattle.std.proofs.lemmas.Bool.Decides.{nat_tests}
use Rattle.std.specs.Prelude.{◌==◌}
use Rattle.fk_script.specs.declared.command.Command.{Command}
use Rattle.fk_script.specs.declared.deployment.Block.{Block}
use Rattle.fk_script.specs.SoFar.{with_command}

pub with_last_command : (c : Command) (bs : List Block) (b : Block) → with_command c (bs ++ b ∷ []) ≡ bs ++ record { name = b.name; commands = b.commands ++ c ∷ [] } ∷ []
with_last_command c [] b = refl
with_last_command c (d ∷ []) b = refl
with_last_command c (d ∷ e ∷ bs) b = ap (λ (rest : List Block). d ∷ rest) (with_last_command c (e ∷ bs) b)

pub without_last : (c : Command) (bs : List Block) → (length bs == 0) ≡ true → with_command c (bs ++ []) ≡ bs ++ []
without_last c [] h = refl
without_last c (b ∷ bs) h = absurd (grind (arith, nat_tests))

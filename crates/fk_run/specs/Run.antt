-- The names that the lines of a run show.
use Rattle.std.specs.Prelude.{List, [], ◌∷◌}
use Rattle.fk_base.specs.Path.{Name}
use Rattle.fk_script.specs.declared.deployment.Block.{Block}
use Rattle.fk_script.specs.declared.deployment.Deployment.{Deployment}

abbrev pub names_of : List Block → List Name
names_of [] = []
names_of (b ∷ bs) = b.name ∷ names_of bs

-- the names of the clients, in file order
abbrev pub client_names : Deployment → List Name
client_names d = names_of d.clients

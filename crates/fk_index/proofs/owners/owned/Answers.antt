use Rattle.std.proofs.Common.{◌≡◌, subst}
use Rattle.std.specs.Prelude.{IfOk}
use Rattle.fk_base.specs.Path.{PathNames}
use Rattle.fk_tree.specs.Sorted.{has_path}
use Rattle.fk_index.specs.Owners.{is_set, mark_in}
use Rattle.fk_index.proofs.owners.owned.Goals as goal

pub returns-in-Some-clause-exact : goal.returns-in-Some-clause-exact
returns-in-Some-clause-exact c = subst (λ o. IfOk c.marked_in.result (λ ps. (p : PathNames) → has_path p ps ≡ is_set (mark_in p o))) c.in-Some.ensures.value c.marked_in.ensures.exact

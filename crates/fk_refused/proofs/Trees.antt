-- What the trees of the broken histories show.
use Rattle.std.proofs.Common.{◌≡◌, [], ◌∷◌, refl, codes, arith, false}
use Rattle.fk_tree.specs.Apply.{apply}
use Rattle.fk_tree.specs.Edit.{view_after}
use Rattle.fk_tree.specs.Tree.{start_tree}
use Rattle.fk_tree.specs.View.{look, start_view}
use Rattle.fk_tree.specs.declared.applied.Applied.{Applied}
use Rattle.fk_tree.specs.declared.request.Request.TheVariants as request
use Rattle.fk_law_tree.proofs.Growing.{views_are_trees}

pub start_shown : look start_tree ≡ start_view
start_shown = (views_are_trees [] tt).shown

-- the first transaction of a client that creates `/x`
abbrev pub made_x : Applied
made_x = record { tx = 1; moment = 11; session = 1; k = 1; request = request.Create (codes "x" ∷ []) (codes "0") false false; name = codes "x" ∷ []; version = 0; gone = []; made = [] }

pub made_shown : look (apply start_tree made_x) ≡ view_after (made_x ∷ [])
made_shown = (views_are_trees (made_x ∷ []) (record { session = omega arith; passes = refl; name = refl; version = refl; made = refl; gone = refl }, tt)).shown

-- Trees after applied requests, against what their edits show.
use Rattle.std.specs.Prelude.{◌≡◌, List, [], ◌∷◌}
use Rattle.fk_base.specs.Path.{PathNames}
use Rattle.fk_tree.specs.Tree.{Tree, start_tree}
use Rattle.fk_tree.specs.View.{look}
use Rattle.fk_tree.specs.Edit.{after, edited, effects, view_after}
use Rattle.fk_tree.specs.Touch.{edits_at}
use Rattle.fk_tree.specs.Apply.{apply, IsFilled}
use Rattle.fk_tree.specs.declared.applied.Applied.{Applied}
use Rattle.fk_law_tree.specs.Fitting.{Fits}
use Rattle.fk_law_tree.specs.WellFormed.{IsWellFormed}

-- a request that is filled on a well-formed tree leaves at each path what its edits of that path leave
abbrev pub AppliedByPath : Type 0
AppliedByPath =
    (t : Tree) (a : Applied) (p : PathNames) → IsWellFormed t → IsFilled t a
    → (look (apply t a)).node p ≡ edited a.tx a.moment p (edits_at p (effects a)) ((look t).node p)

-- and the tree shows what its edits show, with its session closed where it is a close
abbrev pub AppliedIsAfter : Type 0
AppliedIsAfter = (t : Tree) (a : Applied) → IsWellFormed t → IsFilled t a → look (apply t a) ≡ after (look t) a

-- the tree after applied requests, the newest first
abbrev pub tree_after : List Applied → Tree
tree_after [] = start_tree
tree_after (a ∷ done) = apply (tree_after done) a

-- each was filled on the tree that those before it left
abbrev pub AllFilled : List Applied → Type 0
AllFilled [] = Unit {0}
AllFilled (a ∷ done) = IsFilled (tree_after done) a × AllFilled done

-- each fits what those before it show
abbrev pub AllFit : List Applied → Type 0
AllFit [] = Unit {0}
AllFit (a ∷ done) = Fits (view_after done) a × AllFit done

-- the tree after these requests is well formed, and it shows what their edits show
pub record IsShown (done : List Applied) : Type 0 where
  pub shown : look (tree_after done) ≡ view_after done
  pub well_formed : IsWellFormed (tree_after done)

abbrev pub TreesAreViews : Type 0
TreesAreViews = (done : List Applied) → AllFilled done → IsShown done

abbrev pub ViewsAreTrees : Type 0
ViewsAreTrees = (done : List Applied) → AllFit done → IsShown done

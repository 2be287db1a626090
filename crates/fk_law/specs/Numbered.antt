-- Commits in the order of their numbers, which is that of the transaction lines.
use Rattle.std.specs.Prelude.{◌≡◌, ℕ, zero, suc, List, [], ◌∷◌, Option, Some, None}
use Rattle.fk_tree.specs.Edit.{view_after}
use Rattle.fk_tree.specs.declared.applied.Applied.{Applied}
use Rattle.fk_print.specs.declared.entry.Entry.{Entry}
use Rattle.fk_law_tree.specs.Following.{AllFit, IsShown}
use Rattle.fk_spec.specs.Plan.{Plan}
use Rattle.fk_spec.specs.Stored.{committed_of, applied_as, up_to}
use Rattle.fk_spec.specs.Next.{IsHistory}

abbrev pub with_some : Option Applied → List Applied → List Applied
with_some None done = done
with_some (Some a) done = a ∷ done

-- the commits up to n, the greatest number first
abbrev pub numbered : ℕ → List Applied → List Applied
numbered zero done = []
numbered (suc n) done = with_some (applied_as (suc n) done) (numbered n done)

-- In the order of their numbers the commits up to a number leave the same as in that in which they were made,
-- each fits those before it, and a tree shows what they leave.
abbrev pub NumberedLeaveTheSame : Type 0
NumberedLeaveTheSame = (p : Plan) (n : ℕ) (h : List Entry) → IsHistory p h → view_after (numbered n (committed_of p h)) ≡ view_after (up_to n (committed_of p h))

abbrev pub NumberedFit : Type 0
NumberedFit = (p : Plan) (n : ℕ) (h : List Entry) → IsHistory p h → AllFit (numbered n (committed_of p h))

abbrev pub NumberedTreeIsShown : Type 0
NumberedTreeIsShown = (p : Plan) (n : ℕ) (h : List Entry) → IsHistory p h → IsShown (numbered n (committed_of p h))

-- User records, and the numbers at which they show the tree.
use Rattle.std.specs.Prelude.{◌≡◌, ℕ, ◌≤◌, ◌++◌, true, List, Some}
use Rattle.fk_base.specs.Path.{PathNames}
use Rattle.fk_tree.specs.Sorted.{has_path}
use Rattle.fk_tree.specs.Touch.{edited_paths}
use Rattle.fk_tree.specs.declared.applied.Applied.{Applied}
use Rattle.fk_print.specs.declared.entry.Entry.{Entry}
use Rattle.fk_spec.specs.Plan.{Plan}
use Rattle.fk_spec.specs.Settling.{mark_of, swept_of}
use Rattle.fk_spec.specs.Stored.{committed_of, committed_as, record_of, stamp_of, up_to}
use Rattle.fk_spec.specs.Next.{IsHistory}
use Rattle.fk_spec.specs.Published.{published_view}

-- A commit up to the mark: the record of each path that it edited is at least as new.
abbrev pub PublishedAreStamped : Type 0
PublishedAreStamped = (p : Plan) (t : ℕ) (h : List Entry) (a : Applied) (q : PathNames) → IsHistory p h → committed_as p t h ≡ Some a → t ≤ mark_of h → has_path q (edited_paths a) ≡ true → t ≤ stamp_of q h

-- A path's record shows the node of each number from its stamp up to the mark.
abbrev pub RecordIsTheNode : Type 0
RecordIsTheNode = (p : Plan) (n : ℕ) (h : List Entry) (q : PathNames) → IsHistory p h → stamp_of q h ≤ n → n ≤ mark_of h → record_of p q h ≡ (published_view h n).node q

-- What the commits up to a number leave is final once a greater one was swept.
abbrev pub FinalBelowTheSweep : Type 0
FinalBelowTheSweep = (p : Plan) (n : ℕ) (h more : List Entry) → IsHistory p (more ++ h) → n ≤ swept_of h → up_to n (committed_of p (more ++ h)) ≡ up_to n (committed_of p h)

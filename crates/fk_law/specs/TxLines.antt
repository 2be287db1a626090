-- The transaction line of a request, and the numbers of the lines.
use Rattle.std.specs.Prelude.{◌≡◌, ℕ, ◌≤◌, List, Some, None}
use Rattle.fk_base.specs.Path.{PathNames}
use Rattle.fk_tree.specs.declared.applied.Applied.{Applied}
use Rattle.fk_print.specs.declared.entry.Entry.{Entry}
use Rattle.fk_spec.specs.Plan.{Plan}
use Rattle.fk_spec.specs.Settling.{mark_of, outcome_of, swept_of}
use Rattle.fk_spec.specs.Stored.{committed_as, stamp_of}
use Rattle.fk_spec.specs.Next.{IsHistory, printed_of}
use Rattle.fk_spec.specs.Promises.{tx_for}
use Rattle.fk_spec.specs.Published.{published_as}
use Rattle.fk_spec.specs.PublicLines.{greatest_tx, tx_with, txs_of}
use Rattle.fk_law.specs.Due.{IsApplied, IsPushOf}

-- A committed push up to the mark is published as it was committed.
abbrev pub PublishedAsCommitted : Type 0
PublishedAsCommitted = (p : Plan) (t : ℕ) (h : List Entry) (a : Applied) → IsHistory p h → t ≤ mark_of h → committed_as p t h ≡ Some a → published_as p t h ≡ Some a

-- The greatest number of a transaction line is the mark.
abbrev pub GreatestTxIsTheMark : Type 0
GreatestTxIsTheMark = (p : Plan) (h : List Entry) → IsHistory p h → greatest_tx (txs_of h) ≡ mark_of h

-- A committed push up to the mark has its transaction line.
abbrev pub PublishedPushHasItsLine : Type 0
PublishedPushHasItsLine = (p : Plan) (t : ℕ) (h : List Entry) (a : Applied) → IsHistory p h → committed_as p t h ≡ Some a → t ≤ mark_of h → tx_with t (txs_of h) ≡ Some (printed_of a)

-- A request whose push was committed and is at most the mark has its transaction line.
abbrev pub PublishedRequestHasItsLine : Type 0
PublishedRequestHasItsLine = (p : Plan) (t n c k : ℕ) (h : List Entry) (a : Applied) → IsHistory p h → IsPushOf t n c k h → committed_as p t h ≡ Some a → t ≤ mark_of h → tx_for c k (txs_of h) ≡ Some (printed_of a)

-- A request whose outcome isn't a commit has no transaction line.
abbrev pub UncommittedRequestHasNoLine : Type 0
UncommittedRequestHasNoLine = (p : Plan) (c k : ℕ) (h : List Entry) → IsHistory p h → (IsApplied (outcome_of c k h) → ⊥) → tx_for c k (txs_of h) ≡ None

-- The stamp of a user record is at most the number that was swept last.
abbrev pub StampsAreSwept : Type 0
StampsAreSwept = (p : Plan) (path : PathNames) (h : List Entry) → IsHistory p h → stamp_of path h ≤ swept_of h

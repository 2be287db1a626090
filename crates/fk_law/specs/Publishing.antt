-- The transaction lines of a history, and the tree that they drive.
use Rattle.std.specs.Prelude.{◌≡◌, ℕ, ◌≤◌, List, [], ◌∷◌}
use Rattle.fk_tree.specs.Edit.{view_after}
use Rattle.fk_tree.specs.declared.applied.Applied.{Applied}
use Rattle.fk_print.specs.declared.entry.Entry.{Entry}
use Rattle.fk_print.specs.declared.line.Printed.{Printed}
use Rattle.fk_spec.specs.Plan.{Plan}
use Rattle.fk_spec.specs.Settling.{mark_of}
use Rattle.fk_spec.specs.Stored.{committed_of, up_to}
use Rattle.fk_spec.specs.Next.{IsHistory, printed_of}
use Rattle.fk_spec.specs.Promises.{PublishesOnce}
use Rattle.fk_spec.specs.Published.{published_view}
use Rattle.fk_spec.specs.PublicLines.{txs_of}
use Rattle.fk_law.specs.Numbered.{numbered}

abbrev pub all_printed : List Applied → List Printed
all_printed [] = []
all_printed (a ∷ done) = printed_of a ∷ all_printed done

-- The transaction lines are the commits up to the mark, in the order of their numbers.
abbrev pub TxsAreTheCommits : Type 0
TxsAreTheCommits = (p : Plan) (h : List Entry) → IsHistory p h → txs_of h ≡ all_printed (numbered (mark_of h) (committed_of p h))

-- Up to the mark, the tree of the transaction lines shows what the commits up to its number leave.
abbrev pub PublishedTreeIsShown : Type 0
PublishedTreeIsShown = (p : Plan) (n : ℕ) (h : List Entry) → IsHistory p h → n ≤ mark_of h → published_view h n ≡ view_after (up_to n (committed_of p h))

-- Transaction numbers rise, each request stands in one line at most and each client's in its order, and each
-- line is its push, applied to the tree of the lines before it.
abbrev pub EachRequestOnce : Type 0
EachRequestOnce = (p : Plan) (h : List Entry) → IsHistory p h → PublishesOnce p h

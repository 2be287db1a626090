-- A read shows the tree of the number at which it is answered.
use Rattle.std.specs.Prelude.{◌≡◌, ℕ, ◌+◌, ◌≤◌, Bool, List, Some}
use Rattle.fk_tree.specs.Ask.{path_asked}
use Rattle.fk_tree.specs.Edit.{view_after}
use Rattle.fk_tree.specs.declared.request.Query.{Query}
use Rattle.fk_print.specs.declared.entry.Entry.{Entry}
use Rattle.fk_spec.specs.Plan.{Plan, Ask, Reads, asked}
use Rattle.fk_spec.specs.Shown.{seen_by}
use Rattle.fk_spec.specs.Settling.{swept_of}
use Rattle.fk_spec.specs.Stored.{committed_of, up_to}
use Rattle.fk_spec.specs.Client.{client_of, number_read, Reading}
use Rattle.fk_spec.specs.Next.{IsHistory}
use Rattle.fk_law_watch.specs.FirstNumbers.{ReadsAreReads}

-- A read that client c made, when it had seen this number and begun this many commands: it is of the next
-- command, and what it found is what the commits up to its number leave there. A sweep has come to that number.
pub record IsMadeRead (p : Plan) (c : ℕ) (h : List Entry) (seen begun : ℕ) (r : Reading) : Type 0 where
  pub ask : Ask
  pub is_asked : asked p c (begun + 1) ≡ Some ask
  pub query : Query
  pub watch : Bool
  pub reads : ask.want ≡ Reads query watch
  pub swept : number_read seen r ≤ swept_of h
  pub shows : r.node ≡ (view_after (up_to (number_read seen r) (committed_of p h))).node (path_asked query)

-- Each read that a client has made is so.
abbrev pub ReadsShowTheTree : Type 0
ReadsShowTheTree = (p : Plan) (c : ℕ) (h : List Entry) (r : Reading) → ReadsAreReads p → IsHistory p h → (client_of p c h).reading ≡ Some r → IsMadeRead p c h (seen_by c h) (client_of p c h).begun r

-- Each client's replies are in the order of its commands.
use Rattle.std.specs.Prelude.{◌≡◌, true, List}
use Rattle.fk_print.specs.declared.entry.Entry.{Entry}
use Rattle.fk_print.specs.declared.line.Line.{Line}
use Rattle.fk_print.specs.declared.line.Line.TheVariants as line
use Rattle.fk_spec.specs.Plan.{Plan}
use Rattle.fk_spec.specs.PublicLines.{Each, lines_of}
use Rattle.fk_spec.specs.Promises.{all_earlier}
use Rattle.fk_spec.specs.Next.{IsHistory}
use Rattle.fk_law_watch.specs.FirstNumbers.{ReadsAreReads}

-- a reply comes after those to its client's earlier commands alone
abbrev pub IsInOrder : Line → List Line → Type 0
IsInOrder (line.Reply session command verb shown) before = all_earlier session command before ≡ true
IsInOrder _ before = Unit {0}

-- Each client's replies are in the order of its commands, one for each at most.
abbrev pub RepliesAreInOrder : Type 0
RepliesAreInOrder = (p : Plan) (h : List Entry) → ReadsAreReads p → IsHistory p h → Each IsInOrder (lines_of h)

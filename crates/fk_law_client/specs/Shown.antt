-- What a client was shown is published.
use Rattle.std.specs.Prelude.{ℕ, ◌≤◌, List}
use Rattle.fk_print.specs.declared.entry.Entry.{Entry}
use Rattle.fk_spec.specs.Plan.{Plan}
use Rattle.fk_spec.specs.Shown.{seen_by}
use Rattle.fk_spec.specs.Settling.{mark_of}
use Rattle.fk_spec.specs.Next.{IsHistory}
use Rattle.fk_law_watch.specs.FirstNumbers.{ReadsAreReads}

-- Each number that a client was shown is at most the mark.
abbrev pub SeenIsPublished : Type 0
SeenIsPublished = (p : Plan) (c : ℕ) (h : List Entry) → ReadsAreReads p → IsHistory p h → seen_by c h ≤ mark_of h

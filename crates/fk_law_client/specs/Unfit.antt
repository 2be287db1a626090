-- Unfit commands, and they alone, are refused for their arguments.
use Rattle.std.specs.Prelude.{◌≡◌, List}
use Rattle.fk_print.specs.declared.entry.Entry.{Entry}
use Rattle.fk_print.specs.declared.line.Line.{Line}
use Rattle.fk_print.specs.declared.line.Line.TheVariants as line
use Rattle.fk_spec.specs.Plan.{Plan, asked}
use Rattle.fk_spec.specs.Client.{is_unfit}
use Rattle.fk_spec.specs.PublicLines.{Each, lines_of}
use Rattle.fk_spec.specs.Refusals.{is_bad_arguments}
use Rattle.fk_spec.specs.Next.{IsHistory}

-- a reply speaks of bad arguments exactly where its command is unfit
abbrev pub UnfitIsRefused : Plan → Line → List Line → Type 0
UnfitIsRefused p (line.Reply session command verb shown) before = is_bad_arguments shown ≡ is_unfit (asked p session command)
UnfitIsRefused p _ before = Unit {0}

abbrev pub UnfitCommandsAreRefused : Type 0
UnfitCommandsAreRefused = (p : Plan) (h : List Entry) → IsHistory p h → Each (UnfitIsRefused p) (lines_of h)

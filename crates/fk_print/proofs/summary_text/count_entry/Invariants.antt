use Rattle.std.proofs.Common.{◌≡◌, take}
use Rattle.fk_print.specs.SummaryText.{with_lines}
use Rattle.fk_print.proofs.summary_text.count_entry.Given as goal

abbrev pub invariant-counting : goal.invariant-counting
invariant-counting l = l.counts ≡ with_lines l.initial.counts (take l.line-index l.line-items)

use Rattle.std.proofs.Common.{◌≡◌, reverse, take}
use Rattle.fk_print.specs.SummaryText.{counts_of}
use Rattle.fk_print.proofs.summary_text.count.Given as goal

abbrev pub invariant-counting : goal.invariant-counting
invariant-counting l = l.counts ≡ counts_of (reverse (take l.entry-index l.entry-items))

use Rattle.std.proofs.Common.{◌≡◌, ℕ}
use Rattle.std.specs.BTreeMap.{values}
use Rattle.fk_watch.specs.Moving.{fired_among, KeepsOthers}
use Rattle.fk_watch.specs.Setting.{at}
use Rattle.fk_watch.proofs.firings.fire_numbers.Given as goal

abbrev pub invariant-firing : goal.invariant-firing
invariant-firing l =
    ((n : ℕ) → fired_among l.tx l.change l.watches.entries l.number-iterator n (at n l.fired.entries) ≡ fired_among l.tx l.change l.watches.entries (values l.numbers) n (at n l.initial.fired.entries))
    × KeepsOthers l.tx l.watches.entries l.initial.fired.entries l.fired.entries

use Rattle.std.proofs.Common.{◌≡◌, ◌-◌, length}
use Rattle.std.specs.List.{AllByRecursion}
use Rattle.fk_base.specs.Limits.{IsPath}
use Rattle.fk_read.specs.ReadAct.{take_onto}
use Rattle.fk_read.specs.ReadWords.{path_of_word}
use Rattle.fk_read.specs.Reads.{take}
use Rattle.fk_read.proofs.act.read_paths.Given as goal

abbrev pub invariant-reading : goal.invariant-reading
invariant-reading l = record { left : take_onto (take path_of_word) l.count l.initial.paths l.initial.words ≡ take_onto (take path_of_word) (l.count - l._done) l.paths l.words; fits : AllByRecursion IsPath l.paths; counted : length l.paths ≡ l._done }

use Rattle.std.proofs.Common.{◌≡◌, ◌-◌, length}
use Rattle.std.specs.List.{AllByRecursion}
use Rattle.fk_print.specs.WellFormed.{IsShownName}
use Rattle.fk_read.specs.ReadAct.{take_onto}
use Rattle.fk_read.specs.ReadWords.{name_of_word}
use Rattle.fk_read.specs.Reads.{take}
use Rattle.fk_read.proofs.reply.read_names.Given as goal

abbrev pub invariant-reading : goal.invariant-reading
invariant-reading l = record { left : take_onto (take name_of_word) l.count l.initial.names l.initial.words ≡ take_onto (take name_of_word) (l.count - l._done) l.names l.words; fits : AllByRecursion IsShownName l.names; counted : length l.names ≡ l._done }

use Rattle.std.proofs.Common.{◌≡◌, ◌-◌, length}
use Rattle.std.specs.List.{AllByRecursion}
use Rattle.fk_print.specs.WellFormed.{IsPart}
use Rattle.fk_read.specs.ReadAct.{take_onto, take_part}
use Rattle.fk_read.proofs.act.read_parts.Given as goal

abbrev pub invariant-reading : goal.invariant-reading
invariant-reading l = record { left : take_onto take_part l.count l.initial.parts l.initial.words ≡ take_onto take_part (l.count - l._done) l.parts l.words; fits : AllByRecursion IsPart l.parts; counted : length l.parts ≡ l._done }

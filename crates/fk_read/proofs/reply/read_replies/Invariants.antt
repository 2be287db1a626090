use Rattle.std.proofs.Common.{◌≡◌, ◌-◌, length}
use Rattle.std.specs.List.{AllByRecursion}
use Rattle.fk_print.specs.WellFormed.{IsPartReply}
use Rattle.fk_read.specs.ReadAct.{take_onto}
use Rattle.fk_read.specs.ReadReply.{take_reply}
use Rattle.fk_read.proofs.reply.read_replies.Given as goal

abbrev pub invariant-reading : goal.invariant-reading
invariant-reading l = record { left : take_onto take_reply l.count l.initial.replies l.initial.words ≡ take_onto take_reply (l.count - l._done) l.replies l.words; fits : AllByRecursion IsPartReply l.replies; counted : length l.replies ≡ l._done }

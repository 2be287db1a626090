-- What an event does with the parts.
use Rattle.std.specs.Prelude.{◌≡◌, List, ⊤}
use Rattle.fk_print.specs.declared.event.Event.{Event}
use Rattle.fk_print.specs.declared.event.Event.TheVariants as event
use Rattle.fk_print.specs.declared.line.Line.{Line}
use Rattle.fk_print.specs.declared.op.Op.{Op}
use Rattle.fk_engine.specs.Events.{after_event, lines_at, op_at}
use Rattle.fk_engine.specs.Fit.{IsReadAt}
use Rattle.fk_engine.specs.Parts.{Meaning}
use Rattle.fk_engine.specs.Reads.{Read}
use Rattle.fk_engine.specs.Stepping.{SendsReadable as FunctionSends}

-- whatever it reads, this is its operation
abbrev pub IsOpOf : Meaning → Event → Op → Type 0
IsOpOf p e o = (r : Read) → IsReadAt p e r → o ≡ op_at p e r

-- whatever it reads, these are its public lines
abbrev pub AreLinesOf : Meaning → Event → List Line → Type 0
AreLinesOf p e ls = (r : Read) → IsReadAt p e r → ls ≡ lines_at p e r

-- whatever it reads, everything comes to this
abbrev pub Leads : Meaning → Event → Meaning → Type 0
Leads p e q = (r : Read) → IsReadAt p e r → q ≡ after_event p e r

-- it reads something
abbrev pub IsGiven : Meaning → Event → Type 0
IsGiven p e = (r : Read) × IsReadAt p e r

-- what a function sends with its operation can be read
abbrev pub SendsReadable : Meaning → Event → Type 0
SendsReadable p (event.Client c) = ⊤
SendsReadable p (event.Deliver c) = ⊤
SendsReadable p event.Leader = ⊤
SendsReadable p event.Watch = ⊤
SendsReadable p (event.Beat c) = ⊤
SendsReadable p (event.Step n) = FunctionSends p.times (p.functions.running n)
SendsReadable p (event.Crash n) = ⊤
SendsReadable p (event.Fail n) = FunctionSends p.times (p.functions.running n)
SendsReadable p (event.FailClient c) = ⊤
SendsReadable p (event.Clock moment) = ⊤

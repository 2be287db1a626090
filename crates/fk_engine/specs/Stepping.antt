-- What stands under a number makes its next operation on these services.
use Rattle.std.specs.Prelude.{◌≡◌, ℕ, ⊤, List, [], Option, Some, None}
use Rattle.fk_print.specs.declared.line.Line.{Line}
use Rattle.fk_print.specs.declared.op.Op.{Op}
use Rattle.fk_print.specs.declared.op.Op.TheVariants as op
use Rattle.fk_engine.specs.declared.times.Times.{Times}
use Rattle.fk_engine.specs.Flights as functions
use Rattle.fk_engine.specs.Flights.{moved}
use Rattle.fk_engine.specs.Machines as machine
use Rattle.fk_engine.specs.Reads.{Read}
use Rattle.fk_watch.specs.Services.{Services}

-- what it needs
abbrev pub FitsStepOf : Services → Times → Option machine.Meaning → Type 0
FitsStepOf s t None = ⊤
FitsStepOf s t (Some m) = machine.IsFit s t m

-- what a function's operation on these services reads
abbrev pub IsReadBy : Services → Read → Option machine.Meaning → Type 0
IsReadBy s r None = ⊤
IsReadBy s r (Some m) = machine.IsReadAt s r m

-- ---- a function that isn't in flight does nothing

abbrev pub function_op : Services → Times → Read → Option machine.Meaning → Op
function_op s t r None = op.Idle
function_op s t r (Some m) = machine.step_op s t r m

abbrev pub function_lines : Services → Times → Read → Option machine.Meaning → List Line
function_lines s t r None = []
function_lines s t r (Some m) = machine.lines_by (machine.step_op s t r m) m

abbrev pub function_services : Services → Times → Option machine.Meaning → Services
function_services s t None = s
function_services s t (Some m) = machine.services_after s t m

abbrev pub function_moved : Services → Times → Read → ℕ → Option machine.Meaning → functions.Meaning → functions.Meaning
function_moved s t r n None f = f
function_moved s t r n (Some m) f = moved n (machine.after_step s t r m) f

-- ---- what it does

-- whatever it reads, this is the operation of what stands there
abbrev pub IsOpOf : Services → Times → Option machine.Meaning → Op → Type 0
IsOpOf s t m o = (r : Read) → IsReadBy s r m → o ≡ function_op s t r m

-- whatever it reads, these are the lines of its operation
abbrev pub AreLinesOf : Services → Times → Option machine.Meaning → List Line → Type 0
AreLinesOf s t m ls = (r : Read) → IsReadBy s r m → ls ≡ function_lines s t r m

-- whatever it reads, these are the functions after it
abbrev pub Leads : Services → Times → ℕ → functions.Meaning → functions.Meaning → Type 0
Leads s t n f g = (r : Read) → IsReadBy s r (f.running n) → g ≡ function_moved s t r n (f.running n) f

-- it reads something
abbrev pub IsGiven : Services → Option machine.Meaning → Type 0
IsGiven s m = (r : Read) × IsReadBy s r m

-- what it sends with it can be read
abbrev pub SendsReadable : Times → Option machine.Meaning → Type 0
SendsReadable t None = ⊤
SendsReadable t (Some m) = machine.IsReadable t m

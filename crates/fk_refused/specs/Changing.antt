-- Histories with one thing changed. The newest entry stands first and has place 0.
use Rattle.std.specs.Prelude.{ℕ, zero, suc, false, List, [], ◌∷◌}
use Rattle.fk_print.specs.declared.entry.Entry.{Entry}
use Rattle.fk_print.specs.declared.event.Event.TheVariants as event
use Rattle.fk_print.specs.declared.line.Line.{Line}
use Rattle.fk_print.specs.declared.op.Op.{Op}
use Rattle.fk_print.specs.declared.op.Op.TheVariants as op
use Rattle.fk_script.specs.declared.command.Command.{Command}
use Rattle.fk_script.specs.declared.deployment.Deployment.{Deployment}
use Rattle.std.specs.Prelude.{codes}
use Rattle.fk_spec.specs.Scenarios.{entry}

-- the entry at this place prints these lines
abbrev pub printing : ℕ → List Line → List Entry → List Entry
printing n ls [] = []
printing zero ls (e ∷ h) = entry e.event e.op ls ∷ h
printing (suc n) ls (e ∷ h) = e ∷ printing n ls h

-- the entry at this place makes this operation
abbrev pub doing : ℕ → Op → List Entry → List Entry
doing n o [] = []
doing zero o (e ∷ h) = entry e.event o e.lines ∷ h
doing (suc n) o (e ∷ h) = e ∷ doing n o h

-- this entry stands at this place
abbrev pub with_entry : ℕ → Entry → List Entry → List Entry
with_entry n x [] = []
with_entry zero x (e ∷ h) = x ∷ h
with_entry (suc n) x (e ∷ h) = e ∷ with_entry n x h

-- the entry at this place is left out
abbrev pub without : ℕ → List Entry → List Entry
without n [] = []
without zero (e ∷ h) = h
without (suc n) (e ∷ h) = e ∷ without n h

-- the entry at this place stands before the one that it followed
abbrev pub swapped : ℕ → List Entry → List Entry
swapped n [] = []
swapped n (e ∷ []) = e ∷ []
swapped zero (e ∷ f ∷ h) = f ∷ e ∷ h
swapped (suc n) (e ∷ f ∷ h) = e ∷ swapped n (f ∷ h)

-- the history up to the entry at this place
abbrev pub starting_from : ℕ → List Entry → List Entry
starting_from n [] = []
starting_from zero h = h
starting_from (suc n) (e ∷ h) = starting_from n h

-- two clients, `a` and `b`, with these commands
abbrev pub two_clients : List Command → List Command → Deployment
two_clients a b = record { config = record { lock = 10; beat = 30 }; clients = record { name = codes "a"; commands = a } ∷ record { name = codes "b"; commands = b } ∷ []; turns = []; scheduled = false }

-- a history of which only the lines count, the newest first
abbrev pub only_printing : List Line → List Entry
only_printing [] = []
only_printing (l ∷ ls) = entry (event.Client 1) op.Idle (l ∷ []) ∷ only_printing ls

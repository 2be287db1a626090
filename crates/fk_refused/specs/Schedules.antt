-- Histories that do not follow their schedule, and are refused. The first change the run of a create in one drain.
use Rattle.std.specs.Prelude.{[], ◌∷◌, codes}
use Rattle.fk_script.specs.declared.deployment.Deployment.{Deployment}
use Rattle.fk_spec.specs.Schedule.{Scheduled}
use Rattle.fk_spec.specs.Scenarios.{creating, entry, create_entries}
use Rattle.fk_refused.specs.Changing.{with_entry, without, swapped, starting_from}
use Rattle.fk_print.specs.declared.event.Event.TheVariants as event
use Rattle.fk_print.specs.declared.op.Op.TheVariants as op
use Rattle.fk_spec.specs.LockPassedOn as passed

abbrev pub one_create : Deployment
one_create = creating (codes "/x") (codes "hi")

-- A drain does not let the locks run out.
abbrev pub DrainWithoutItsClock : Type 0
DrainWithoutItsClock = Scheduled one_create (without 20 create_entries) → ⊥

-- A drain lets exactly the lock time pass.
abbrev pub DrainAtTheLockTime : Type 0
DrainAtTheLockTime = Scheduled one_create (with_entry 20 (entry (event.Clock 10) (op.Clock 10) []) create_entries) → ⊥

-- A drain stops while there is something to do.
abbrev pub DrainThatStopsEarly : Type 0
DrainThatStopsEarly = Scheduled one_create (starting_from 1 create_entries) → ⊥

-- A drain goes on while there is nothing to do.
abbrev pub DrainThatGoesOn : Type 0
DrainThatGoesOn = Scheduled one_create (entry (event.Client 1) op.Idle [] ∷ create_entries) → ⊥

-- A client has its turn in a drain while a function is in flight.
abbrev pub ClientBeforeAFunction : Type 0
ClientBeforeAFunction = Scheduled one_create (swapped 1 create_entries) → ⊥

-- A turn of the deployment is left out.
abbrev pub TurnLeftOut : Type 0
TurnLeftOut = Scheduled passed.deployed (without 26 passed.entries) → ⊥

-- Two turns of the deployment come in another order.
abbrev pub TurnsInAnotherOrder : Type 0
TurnsInAnotherOrder = Scheduled passed.deployed (swapped 34 passed.entries) → ⊥

-- A drain begins without ending the function in flight.
abbrev pub FunctionLeftInFlight : Type 0
FunctionLeftInFlight = Scheduled passed.deployed (without 25 passed.entries) → ⊥

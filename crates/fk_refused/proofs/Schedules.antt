-- Histories that do not follow their schedule, and are refused. The first change the run of a create in one drain.
use Rattle.std.proofs.Common.{[], ◌∷◌}
use Rattle.std.proofs.lemmas.Bool.{false≢true}
use Rattle.fk_print.specs.declared.event.Event.TheVariants as event
use Rattle.fk_print.specs.declared.op.Op.TheVariants as op
use Rattle.fk_spec.specs.LockPassedOn as passed
use Rattle.fk_spec.specs.Scenarios.{create_entries, entry}
use Rattle.fk_refused.specs.Changing.{starting_from, swapped, with_entry, without}
use Rattle.fk_law_schedule.proofs.Computed.{schedule_is_computed}
use Rattle.fk_refused.specs.Schedules.{ClientBeforeAFunction, DrainAtTheLockTime, DrainThatGoesOn, DrainThatStopsEarly, DrainWithoutItsClock, FunctionLeftInFlight, TurnLeftOut, TurnsInAnotherOrder, one_create}

pub drain_without_its_clock : DrainWithoutItsClock
drain_without_its_clock r = false≢true ((schedule_is_computed one_create (without 20 create_entries)).1 r)

pub drain_at_the_lock_time : DrainAtTheLockTime
drain_at_the_lock_time r = false≢true ((schedule_is_computed one_create (with_entry 20 (entry (event.Clock 10) (op.Clock 10) []) create_entries)).1 r)

pub drain_that_stops_early : DrainThatStopsEarly
drain_that_stops_early r = false≢true ((schedule_is_computed one_create (starting_from 1 create_entries)).1 r)

pub drain_that_goes_on : DrainThatGoesOn
drain_that_goes_on r = false≢true ((schedule_is_computed one_create (entry (event.Client 1) op.Idle [] ∷ create_entries)).1 r)

pub client_before_a_function : ClientBeforeAFunction
client_before_a_function r = false≢true ((schedule_is_computed one_create (swapped 1 create_entries)).1 r)

pub turn_left_out : TurnLeftOut
turn_left_out r = false≢true ((schedule_is_computed passed.deployed (without 26 passed.entries)).1 r)

pub turns_in_another_order : TurnsInAnotherOrder
turns_in_another_order r = false≢true ((schedule_is_computed passed.deployed (swapped 34 passed.entries)).1 r)

pub function_left_in_flight : FunctionLeftInFlight
function_left_in_flight r = false≢true ((schedule_is_computed passed.deployed (without 25 passed.entries)).1 r)

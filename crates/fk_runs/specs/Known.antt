-- The worked runs of `fk_spec`: each follows its schedule, and ends with all answered.
use Rattle.fk_spec.specs.Schedule.{Answered, Scheduled}
use Rattle.fk_spec.specs.CloseOfSeveral as close_of_several
use Rattle.fk_spec.specs.CrashBeforeCommit as crash_before_commit
use Rattle.fk_spec.specs.CreateThenGet as create_then_get
use Rattle.fk_spec.specs.Eviction as eviction
use Rattle.fk_spec.specs.Failures as failures
use Rattle.fk_spec.specs.LateLeader as late_leader
use Rattle.fk_spec.specs.LockPassedOn as lock_passed_on
use Rattle.fk_spec.specs.Multi as multi
use Rattle.fk_spec.specs.OwnWatch as own_watch
use Rattle.fk_spec.specs.ReadHeld as read_held
use Rattle.fk_spec.specs.RefusalAhead as refusal_ahead
use Rattle.fk_spec.specs.RegistrationPassed as registration_passed

-- A close removes the ephemeral nodes of its session.
abbrev pub CloseOfSeveralFollows : Type 0
CloseOfSeveralFollows = Scheduled close_of_several.deployed close_of_several.entries

abbrev pub CloseOfSeveralEnds : Type 0
CloseOfSeveralEnds = Answered close_of_several.deployed close_of_several.entries

-- A follower stops between its push and its commit, and a leader commits it.
abbrev pub CrashBeforeCommitFollows : Type 0
CrashBeforeCommitFollows = Scheduled crash_before_commit.deployed crash_before_commit.entries

abbrev pub CrashBeforeCommitEnds : Type 0
CrashBeforeCommitEnds = Answered crash_before_commit.deployed crash_before_commit.entries

-- A client creates a node and reads it.
abbrev pub CreateThenGetFollows : Type 0
CreateThenGetFollows = Scheduled create_then_get.deployed create_then_get.entries

abbrev pub CreateThenGetEnds : Type 0
CreateThenGetEnds = Answered create_then_get.deployed create_then_get.entries

-- A heartbeat evicts a session that doesn't answer.
abbrev pub EvictionFollows : Type 0
EvictionFollows = Scheduled eviction.deployed eviction.entries

abbrev pub EvictionEnds : Type 0
EvictionEnds = Answered eviction.deployed eviction.entries

-- Services fail: each command is answered so, and the others go on.
abbrev pub FailuresFollows : Type 0
FailuresFollows = Scheduled failures.deployed failures.entries

abbrev pub FailuresEnds : Type 0
FailuresEnds = Answered failures.deployed failures.entries

-- A leader that comes late changes nothing.
abbrev pub LateLeaderFollows : Type 0
LateLeaderFollows = Scheduled late_leader.deployed late_leader.entries

abbrev pub LateLeaderEnds : Type 0
LateLeaderEnds = Answered late_leader.deployed late_leader.entries

-- A lock runs out and passes on: its first holder is told that it was lost.
abbrev pub LockPassedOnFollows : Type 0
LockPassedOnFollows = Scheduled lock_passed_on.deployed lock_passed_on.entries

abbrev pub LockPassedOnEnds : Type 0
LockPassedOnEnds = Answered lock_passed_on.deployed lock_passed_on.entries

-- Requests of several parts: made, refused as a whole, and deleted.
abbrev pub MultiFollows : Type 0
MultiFollows = Scheduled multi.deployed multi.entries

abbrev pub MultiEnds : Type 0
MultiEnds = Answered multi.deployed multi.entries

-- A client is told of its own change before the reply to it.
abbrev pub OwnWatchFollows : Type 0
OwnWatchFollows = Scheduled own_watch.deployed own_watch.entries

abbrev pub OwnWatchEnds : Type 0
OwnWatchEnds = Answered own_watch.deployed own_watch.entries

-- A read is held until its client has been told of a watch that fired.
abbrev pub ReadHeldFollows : Type 0
ReadHeldFollows = Scheduled read_held.deployed read_held.entries

abbrev pub ReadHeldEnds : Type 0
ReadHeldEnds = Answered read_held.deployed read_held.entries

-- A refusal speaks of a commit that isn't published yet: its client looks until it is.
abbrev pub RefusalAheadFollows : Type 0
RefusalAheadFollows = Scheduled refusal_ahead.deployed refusal_ahead.entries

abbrev pub RefusalAheadEnds : Type 0
RefusalAheadEnds = Answered refusal_ahead.deployed refusal_ahead.entries

-- A registration that a sweep has passed is made again.
abbrev pub RegistrationPassedFollows : Type 0
RegistrationPassedFollows = Scheduled registration_passed.deployed registration_passed.entries

abbrev pub RegistrationPassedEnds : Type 0
RegistrationPassedEnds = Answered registration_passed.deployed registration_passed.entries

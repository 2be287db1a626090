-- The worked runs of `fk_spec`: each follows its schedule, and ends with all answered.
use Rattle.std.proofs.Common.{refl}
use Rattle.fk_spec.specs.CloseOfSeveral as close_of_several
use Rattle.fk_spec.specs.CrashBeforeCommit as crash_before_commit
use Rattle.fk_spec.specs.CreateThenGet as create_then_get
use Rattle.fk_spec.specs.Eviction as eviction
use Rattle.fk_spec.specs.Failures as failures
use Rattle.fk_spec.specs.LateLeader as late_leader
use Rattle.fk_spec.specs.LockPassedOn as lock_passed_on
use Rattle.fk_spec.specs.Multi as multi
use Rattle.fk_spec.specs.OwnWatch as own_watch
use Rattle.fk_spec.specs.ReadHeld as read_held
use Rattle.fk_spec.specs.RefusalAhead as refusal_ahead
use Rattle.fk_spec.specs.RegistrationPassed as registration_passed
use Rattle.fk_law_schedule.proofs.Computed.{schedule_is_computed}
use Rattle.fk_runs.specs.Known.{CloseOfSeveralEnds, CloseOfSeveralFollows, CrashBeforeCommitEnds, CrashBeforeCommitFollows, CreateThenGetEnds, CreateThenGetFollows, EvictionEnds, EvictionFollows, FailuresEnds, FailuresFollows, LateLeaderEnds, LateLeaderFollows, LockPassedOnEnds, LockPassedOnFollows, MultiEnds, MultiFollows, OwnWatchEnds, OwnWatchFollows, ReadHeldEnds, ReadHeldFollows, RefusalAheadEnds, RefusalAheadFollows, RegistrationPassedEnds, RegistrationPassedFollows}

pub close_of_several_follows : CloseOfSeveralFollows
close_of_several_follows = (schedule_is_computed close_of_several.deployed close_of_several.entries).0 refl

pub close_of_several_ends : CloseOfSeveralEnds
close_of_several_ends = record { clients = (record { commands = (refl, (refl, (refl, (refl, (refl, tt))))); lane = refl; inbox = refl; pings = refl }, (record { commands = (refl, tt); lane = refl; inbox = refl; pings = refl }, tt)); leader = refl; watch = refl; functions = refl }

pub crash_before_commit_follows : CrashBeforeCommitFollows
crash_before_commit_follows = (schedule_is_computed crash_before_commit.deployed crash_before_commit.entries).0 refl

pub crash_before_commit_ends : CrashBeforeCommitEnds
crash_before_commit_ends = record { clients = (record { commands = (refl, tt); lane = refl; inbox = refl; pings = refl }, tt); leader = refl; watch = refl; functions = refl }

pub create_then_get_follows : CreateThenGetFollows
create_then_get_follows = (schedule_is_computed create_then_get.deployed create_then_get.entries).0 refl

pub create_then_get_ends : CreateThenGetEnds
create_then_get_ends = record { clients = (record { commands = (refl, (refl, tt)); lane = refl; inbox = refl; pings = refl }, tt); leader = refl; watch = refl; functions = refl }

pub eviction_follows : EvictionFollows
eviction_follows = (schedule_is_computed eviction.deployed eviction.entries).0 refl

pub eviction_ends : EvictionEnds
eviction_ends = record { clients = (record { commands = (refl, (refl, tt)); lane = refl; inbox = refl; pings = refl }, tt); leader = refl; watch = refl; functions = refl }

pub failures_follows : FailuresFollows
failures_follows = (schedule_is_computed failures.deployed failures.entries).0 refl

pub failures_ends : FailuresEnds
failures_ends = record { clients = (record { commands = (refl, (refl, (refl, tt))); lane = refl; inbox = refl; pings = refl }, tt); leader = refl; watch = refl; functions = refl }

pub late_leader_follows : LateLeaderFollows
late_leader_follows = (schedule_is_computed late_leader.deployed late_leader.entries).0 refl

pub late_leader_ends : LateLeaderEnds
late_leader_ends = record { clients = (record { commands = (refl, tt); lane = refl; inbox = refl; pings = refl }, (record { commands = (refl, tt); lane = refl; inbox = refl; pings = refl }, tt)); leader = refl; watch = refl; functions = refl }

pub lock_passed_on_follows : LockPassedOnFollows
lock_passed_on_follows = (schedule_is_computed lock_passed_on.deployed lock_passed_on.entries).0 refl

pub lock_passed_on_ends : LockPassedOnEnds
lock_passed_on_ends = record { clients = (record { commands = (refl, tt); lane = refl; inbox = refl; pings = refl }, (record { commands = (refl, tt); lane = refl; inbox = refl; pings = refl }, tt)); leader = refl; watch = refl; functions = refl }

pub multi_follows : MultiFollows
multi_follows = (schedule_is_computed multi.deployed multi.entries).0 refl

pub multi_ends : MultiEnds
multi_ends = record { clients = (record { commands = (refl, (refl, (refl, (refl, (refl, tt))))); lane = refl; inbox = refl; pings = refl }, tt); leader = refl; watch = refl; functions = refl }

pub own_watch_follows : OwnWatchFollows
own_watch_follows = (schedule_is_computed own_watch.deployed own_watch.entries).0 refl

pub own_watch_ends : OwnWatchEnds
own_watch_ends = record { clients = (record { commands = (refl, (refl, (refl, tt))); lane = refl; inbox = refl; pings = refl }, tt); leader = refl; watch = refl; functions = refl }

pub read_held_follows : ReadHeldFollows
read_held_follows = (schedule_is_computed read_held.deployed read_held.entries).0 refl

pub read_held_ends : ReadHeldEnds
read_held_ends = record { clients = (record { commands = (refl, (refl, tt)); lane = refl; inbox = refl; pings = refl }, (record { commands = (refl, tt); lane = refl; inbox = refl; pings = refl }, tt)); leader = refl; watch = refl; functions = refl }

pub refusal_ahead_follows : RefusalAheadFollows
refusal_ahead_follows = (schedule_is_computed refusal_ahead.deployed refusal_ahead.entries).0 refl

pub refusal_ahead_ends : RefusalAheadEnds
refusal_ahead_ends = record { clients = (record { commands = (refl, tt); lane = refl; inbox = refl; pings = refl }, (record { commands = (refl, tt); lane = refl; inbox = refl; pings = refl }, tt)); leader = refl; watch = refl; functions = refl }

pub registration_passed_follows : RegistrationPassedFollows
registration_passed_follows = (schedule_is_computed registration_passed.deployed registration_passed.entries).0 refl

pub registration_passed_ends : RegistrationPassedEnds
registration_passed_ends = record { clients = (record { commands = (refl, tt); lane = refl; inbox = refl; pings = refl }, (record { commands = (refl, tt); lane = refl; inbox = refl; pings = refl }, tt)); leader = refl; watch = refl; functions = refl }

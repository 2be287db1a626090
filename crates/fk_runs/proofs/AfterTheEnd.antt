-- Messages come to a client after the end of its session.
use Rattle.std.proofs.Common.{refl}
use Rattle.fk_tree.specs.Fill.{last_digits}
use Rattle.fk_law_schedule.proofs.Computed.{schedule_is_computed}
use Rattle.fk_runs.specs.AfterTheEnd.{deployed, entries, AfterTheEndIsAnswered, AfterTheEndIsPlayed, AfterTheEndIsScheduled}

pub is_played : AfterTheEndIsPlayed
unfolding last_digits
is_played = refl

pub is_scheduled : AfterTheEndIsScheduled
unfolding last_digits
is_scheduled = (schedule_is_computed deployed entries).0 refl

pub is_answered : AfterTheEndIsAnswered
unfolding last_digits
is_answered = record { clients = (record { commands = (refl, (refl, (refl, tt))); lane = refl; inbox = refl; pings = refl }, (record { commands = (refl, (refl, (refl, tt))); lane = refl; inbox = refl; pings = refl }, (record { commands = (refl, tt); lane = refl; inbox = refl; pings = refl }, tt))); leader = refl; watch = refl; functions = refl }

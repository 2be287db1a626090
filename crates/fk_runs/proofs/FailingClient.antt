-- Each operation of a client fails once.
use Rattle.std.proofs.Common.{refl}
use Rattle.fk_tree.specs.Fill.{last_digits}
use Rattle.fk_law_schedule.proofs.Computed.{schedule_is_computed}
use Rattle.fk_runs.specs.FailingClient.{deployed, entries, FailingClientIsAnswered, FailingClientIsPlayed, FailingClientIsScheduled}

pub is_played : FailingClientIsPlayed
unfolding last_digits
is_played = refl

pub is_scheduled : FailingClientIsScheduled
unfolding last_digits
is_scheduled = (schedule_is_computed deployed entries).0 refl

pub is_answered : FailingClientIsAnswered
unfolding last_digits
is_answered = record { clients = (record { commands = (refl, (refl, (refl, (refl, (refl, (refl, (refl, (refl, (refl, (refl, (refl, (refl, tt)))))))))))); lane = refl; inbox = refl; pings = refl }, tt); leader = refl; watch = refl; functions = refl }

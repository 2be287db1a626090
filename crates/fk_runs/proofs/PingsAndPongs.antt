-- Heartbeats ping, are answered, and wait.
use Rattle.std.proofs.Common.{refl}
use Rattle.fk_tree.specs.Fill.{last_digits}
use Rattle.fk_law_schedule.proofs.Computed.{schedule_is_computed}
use Rattle.fk_runs.specs.PingsAndPongs.{deployed, entries, PingsAndPongsIsAnswered, PingsAndPongsIsPlayed, PingsAndPongsIsScheduled}

pub is_played : PingsAndPongsIsPlayed
unfolding last_digits
is_played = refl

pub is_scheduled : PingsAndPongsIsScheduled
unfolding last_digits
is_scheduled = (schedule_is_computed deployed entries).0 refl

pub is_answered : PingsAndPongsIsAnswered
unfolding last_digits
is_answered = record { clients = (record { commands = (refl, tt); lane = refl; inbox = refl; pings = refl }, (record { commands = (refl, tt); lane = refl; inbox = refl; pings = refl }, tt)); leader = refl; watch = refl; functions = refl }

-- A request of several parts that waits behind an eviction is refused as well.
use Rattle.std.proofs.Common.{refl}
use Rattle.fk_tree.specs.Fill.{last_digits}
use Rattle.fk_law_schedule.proofs.Computed.{schedule_is_computed}
use Rattle.fk_runs.specs.MultiBehindEviction.{deployed, entries, MultiBehindEvictionIsAnswered, MultiBehindEvictionIsPlayed, MultiBehindEvictionIsScheduled}

pub is_played : MultiBehindEvictionIsPlayed
unfolding last_digits
is_played = refl

pub is_scheduled : MultiBehindEvictionIsScheduled
unfolding last_digits
is_scheduled = (schedule_is_computed deployed entries).0 refl

pub is_answered : MultiBehindEvictionIsAnswered
unfolding last_digits
is_answered = record { clients = (record { commands = (refl, (refl, (refl, (refl, tt)))); lane = refl; inbox = refl; pings = refl }, (record { commands = (refl, (refl, tt)); lane = refl; inbox = refl; pings = refl }, tt)); leader = refl; watch = refl; functions = refl }

-- A push whose lock passed on is dropped by its leader.
use Rattle.std.proofs.Common.{refl}
use Rattle.fk_tree.specs.Fill.{last_digits}
use Rattle.fk_law_schedule.proofs.Computed.{schedule_is_computed}
use Rattle.fk_runs.specs.DroppedPush.{deployed, entries, DroppedPushIsAnswered, DroppedPushIsPlayed, DroppedPushIsScheduled}

pub is_played : DroppedPushIsPlayed
unfolding last_digits
is_played = refl

pub is_scheduled : DroppedPushIsScheduled
unfolding last_digits
is_scheduled = (schedule_is_computed deployed entries).0 refl

pub is_answered : DroppedPushIsAnswered
unfolding last_digits
is_answered = record { clients = (record { commands = (refl, (refl, (refl, tt))); lane = refl; inbox = refl; pings = refl }, (record { commands = (refl, tt); lane = refl; inbox = refl; pings = refl }, tt)); leader = refl; watch = refl; functions = refl }

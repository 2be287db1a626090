-- Replies come in the order of the commands, however late they are told.
use Rattle.std.proofs.Common.{refl}
use Rattle.fk_tree.specs.Fill.{last_digits}
use Rattle.fk_law_schedule.proofs.Computed.{schedule_is_computed}
use Rattle.fk_runs.specs.LateReplies.{deployed, entries, LateRepliesIsAnswered, LateRepliesIsPlayed, LateRepliesIsScheduled}

pub is_played : LateRepliesIsPlayed
unfolding last_digits
is_played = refl

pub is_scheduled : LateRepliesIsScheduled
unfolding last_digits
is_scheduled = (schedule_is_computed deployed entries).0 refl

pub is_answered : LateRepliesIsAnswered
unfolding last_digits
is_answered = record { clients = (record { commands = (refl, (refl, (refl, tt))); lane = refl; inbox = refl; pings = refl }, (record { commands = (refl, tt); lane = refl; inbox = refl; pings = refl }, tt)); leader = refl; watch = refl; functions = refl }

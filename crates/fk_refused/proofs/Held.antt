-- Replies that pass a fired watch, and are refused. Most change the run of a client that reads the root with a watch,
-- and again when another has set it: its notification stands at place 21, its second reply at 19.
use Rattle.std.proofs.lemmas.Bool.{false≢true}
use Rattle.fk_refused.specs.Held.{MissingIsWatched, MissingPassesAWatch, NoticeBehindItsReply, OlderWatchIsPassed, OtherClientCloses, OtherClientExpired, OtherClientWasNotified, OtherKindWasNotified, OtherPathWasNotified, ReadPassesAWatch, StatedIsWatched, UnclosedIsWatched}

pub notice_behind_its_reply : NoticeBehindItsReply
notice_behind_its_reply r = false≢true r.1.0

pub read_passes_a_watch : ReadPassesAWatch
read_passes_a_watch r = false≢true r.1.0

pub missing_passes_a_watch : MissingPassesAWatch
missing_passes_a_watch r = false≢true r.1.0

pub other_kind_was_notified : OtherKindWasNotified
other_kind_was_notified r = false≢true r.1.0

pub other_path_was_notified : OtherPathWasNotified
other_path_was_notified r = false≢true r.1.0

pub other_client_was_notified : OtherClientWasNotified
other_client_was_notified r = false≢true r.1.0

pub other_client_expired : OtherClientExpired
other_client_expired r = false≢true r.1.0

pub missing_is_watched : MissingIsWatched
missing_is_watched r = false≢true r.0

pub unclosed_is_watched : UnclosedIsWatched
unclosed_is_watched r = false≢true r.0

pub stated_is_watched : StatedIsWatched
stated_is_watched r = false≢true r.0

pub older_watch_is_passed : OlderWatchIsPassed
older_watch_is_passed r = false≢true r.0

pub other_client_closes : OtherClientCloses
other_client_closes r = false≢true r.0

-- How far a follower has come, its stages in eight groups.
use Rattle.std.specs.Prelude.{ℕ}
use Rattle.fk_print.specs.declared.op.Op.{Op}
use Rattle.fk_print.specs.declared.op.Op.TheVariants as op
use Rattle.fk_spec.specs.Follower as follower

-- before its session line; between that and its push or refusal; before the refusal of a closed session's
-- request; before a commit; before a loss; before a reply; before the end
pub data Progress : Type 0 where
  Asks : Progress
  Works : Progress
  Expires : Progress
  Commits : (tx : ℕ) → Progress
  Loses : Progress
  Replies : Progress
  Acks : Progress
  Ends : Progress

abbrev pub progress : follower.Stage → Progress
progress follower.Session = Asks
progress follower.Owned = Works
progress (follower.Lock path) = Works
progress follower.Push = Works
progress (follower.Refuse r at) = Works
progress (follower.Expire at) = Expires
progress (follower.Commit tx) = Commits tx
progress follower.Lost = Loses
progress follower.Reply = Replies
progress follower.Ack = Acks
progress follower.Ended = Ends

-- what comes after each answer
abbrev pub progress_after : Op → Progress → Progress
progress_after (op.SessionNew n) q = Works
progress_after (op.SessionClosed n) q = Expires
progress_after (op.SessionApplied n) q = Acks
progress_after (op.SessionRefused n) q = Replies
progress_after (op.SessionPast n) q = Acks
progress_after (op.Owned n count) q = Works
progress_after (op.LockOk n path) q = Works
progress_after (op.LockBusy n path holder moment) q = q
progress_after (op.Push n tx) q = Commits tx
progress_after (op.CommitOk n tx) q = Acks
progress_after (op.CommitSettled n tx settled) q = Asks
progress_after (op.CommitLock n tx path holder moment) q = Loses
progress_after (op.RefuseOk n code place at) q = Replies
progress_after (op.RefuseSettled n code place at settled) q = Asks
progress_after (op.RefuseLock n code place at path holder moment) q = Loses
progress_after (op.LostOk n) q = Replies
progress_after (op.LostSettled n settled) q = Asks
progress_after (op.Reply n session k) q = Acks
progress_after _ q = Ends

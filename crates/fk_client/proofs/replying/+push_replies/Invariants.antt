use Rattle.std.proofs.Common.{length}
use Rattle.fk_client.proofs.replying.+push_replies.Given as goal

abbrev pub decreases-push_replies : goal.decreases-push_replies
decreases-push_replies l = length l.parts.now

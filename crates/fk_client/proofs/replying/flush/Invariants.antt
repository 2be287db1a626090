use Rattle.std.proofs.Common.{◌≡◌, ◌++◌, length}
use Rattle.fk_spec.specs.Plan.{asks_of}
use Rattle.fk_client.specs.Unanswered.{KeepsFront}
use Rattle.fk_spec.specs.Shown.{seen_lines}
use Rattle.fk_spec.specs.Client.{ready_first, without_ready}
use Rattle.fk_spec.specs.Replies.{reply_lines}
use Rattle.fk_client.specs.Known.{by_outcome}
use Rattle.fk_client.specs.Shown.{wording_of}
use Rattle.fk_client.proofs.replying.flush.Given as goal

abbrev pub invariant-flushing : goal.invariant-flushing
invariant-flushing l =
    (without_ready by_outcome l.sent ≡ without_ready by_outcome l.initial.sent)
    × (l.lines ++ reply_lines (wording_of l.session (asks_of l.commands)) (ready_first by_outcome l.sent) ≡ l.initial.lines ++ reply_lines (wording_of l.session (asks_of l.commands)) (ready_first by_outcome l.initial.sent))
    × (seen_lines l.session (reply_lines (wording_of l.session (asks_of l.commands)) (ready_first by_outcome l.sent)) l.seen ≡ seen_lines l.session (reply_lines (wording_of l.session (asks_of l.commands)) (ready_first by_outcome l.initial.sent)) l.initial.seen)
    × KeepsFront l.initial.sent l.sent

abbrev pub decreases-flushing : goal.decreases-flushing
decreases-flushing l = length l.sent

use Rattle.std.proofs.Common.{◌≡◌, replicate}
use Rattle.fk_queue.specs.Slips.{no_slips}
use Rattle.fk_queue.proofs.queue.new_queues.Given as goal

abbrev pub invariant-making : goal.invariant-making
invariant-making l = l.queues.items ≡ replicate l._made no_slips

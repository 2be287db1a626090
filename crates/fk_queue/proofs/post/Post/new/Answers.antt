use Rattle.std.proofs.Common.{false, ap}
use Rattle.fk_queue.specs.declared.lane.Lane.{Lane}
use Rattle.fk_queue.specs.Letters.{LaneState}
use Rattle.fk_queue.specs.Meaning.{Meaning}
use Rattle.fk_queue.specs.Places.{slips_of}
use Rattle.fk_queue.specs.Posts.{post_of}
use Rattle.fk_queue.proofs.Changing.{Keeps, new_keeps, none_given}
use Rattle.fk_queue.proofs.post.Post.new.Goals as goal

keeps : (c : goal.After-new) → Keeps c.args.sessions 0 (slips_of c.args.sessions c.in_ok-new_queues.field-0.items) c.new.result.kept
keeps c = new_keeps c.args.sessions c.in_ok-new_queues.field-0.items c.new.result.kept c.in_ok-new_queues.ensures (ap (λ r. r.kept) c.new.ensures)

pub invariant_of-result-clause-counted : goal.invariant_of-result-clause-counted
unfolding post_of
invariant_of-result-clause-counted c = (keeps c).counted

pub invariant_of-result-clause-numbered : goal.invariant_of-result-clause-numbered
unfolding post_of
invariant_of-result-clause-numbered c = (keeps c).numbered

pub invariant_of-result-clause-backed : goal.invariant_of-result-clause-backed
unfolding post_of
invariant_of-result-clause-backed c = (keeps c).backed

pub invariant_of-result-clause-measured : goal.invariant_of-result-clause-measured
unfolding post_of
invariant_of-result-clause-measured c = (keeps c).measured

pub returns : goal.returns
unfolding post_of
returns c =
    let Post : (Lane → LaneState) → Meaning = λ lanes. record { sessions = c.args.sessions; lanes = lanes; armed = false; faults = 0 } in
    ap Post (none_given c.args.sessions c.in_ok-new_queues.field-0.items c.new.result.kept c.in_ok-new_queues.ensures)

use Rattle.std.proofs.Common.{◌+◌, set, ap}
use Rattle.fk_queue.specs.Letters.{with_letter}
use Rattle.fk_queue.specs.Places.{lanes_of, slips_of}
use Rattle.fk_queue.specs.Posts.{post_of}
use Rattle.fk_queue.proofs.Changing.{Changes, Keeps, kept_by, pushed_at, unchanged_at}
use Rattle.fk_queue.proofs.post.Post.add.Goals as goal

changes : (c : goal.In-Ok) → let p = c.args.self.now in Changes p.sessions (p.waiting + 1) c.args.lane (with_letter c.args.message.now (lanes_of p.sessions p.queues.items p.region.kept c.args.lane)) (slips_of p.sessions p.queues.items) (slips_of p.sessions (set p.queues.items c.place_of.result c.push.new.self)) p.region.kept c.push.new.region.kept
unfolding post_of
changes c = let p = c.args.self.now in pushed_at p.sessions p.waiting p.queues.items c.args.lane c.place_of.result c.args.message.now c.index_mut.result.now c.push.new.self p.region.kept c.push.new.region.kept c.requires.lane p.sized c.place_of.ensures c.index_mut.ensures.value c.in-Ok.ensures.ok (kept_by p)

pub invariant_of-self-clause-counted : goal.invariant_of-self-clause-counted
unfolding post_of
invariant_of-self-clause-counted c = (changes c).keeps.counted

pub invariant_of-self-clause-numbered : goal.invariant_of-self-clause-numbered
unfolding post_of
invariant_of-self-clause-numbered c = (changes c).keeps.numbered

pub invariant_of-self-clause-backed : goal.invariant_of-self-clause-backed
unfolding post_of
invariant_of-self-clause-backed c = (changes c).keeps.backed

pub invariant_of-self-clause-measured : goal.invariant_of-self-clause-measured
unfolding post_of
invariant_of-self-clause-measured c = (changes c).keeps.measured

stays : (c : goal.In-Err) → let p = c.args.self.now in Keeps p.sessions p.waiting (slips_of p.sessions (set p.queues.items c.place_of.result c.push.new.self)) c.push.new.region.kept
stays c = let p = c.args.self.now in unchanged_at p.sessions p.waiting p.queues.items c.place_of.result c.index_mut.result.now c.push.new.self p.region c.push.new.region c.index_mut.ensures.value c.in-Err.ensures.err (kept_by p)

pub invariant_of-self-in-Err-clause-counted : goal.invariant_of-self-in-Err-clause-counted
unfolding post_of
invariant_of-self-in-Err-clause-counted c = (stays c).counted

pub invariant_of-self-in-Err-clause-numbered : goal.invariant_of-self-in-Err-clause-numbered
unfolding post_of
invariant_of-self-in-Err-clause-numbered c = (stays c).numbered

pub invariant_of-self-in-Err-clause-backed : goal.invariant_of-self-in-Err-clause-backed
unfolding post_of
invariant_of-self-in-Err-clause-backed c = (stays c).backed

pub invariant_of-self-in-Err-clause-measured : goal.invariant_of-self-in-Err-clause-measured
unfolding post_of
invariant_of-self-in-Err-clause-measured c = (stays c).measured

pub returns-in-Ok-clause-ok : goal.returns-in-Ok-clause-ok
unfolding post_of
returns-in-Ok-clause-ok c =
    let p = c.args.self.now in
    let changes = pushed_at p.sessions p.waiting p.queues.items c.args.lane c.place_of.result c.args.message.now c.index_mut.result.now c.push.new.self p.region.kept c.push.new.region.kept c.requires.lane p.sized c.place_of.ensures c.index_mut.ensures.value c.in-Ok.ensures.ok (kept_by p) in
    ap (λ lanes. record (post_of p) { lanes = lanes }) changes.lanes

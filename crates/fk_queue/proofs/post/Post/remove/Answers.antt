use Rattle.std.proofs.Common.{◌-◌, set, ap, subst, sym}
use Rattle.fk_queue.specs.Letters.{without_head}
use Rattle.fk_queue.specs.Places.{lanes_of, slips_of}
use Rattle.fk_queue.specs.Posts.{post_of}
use Rattle.fk_queue.specs.Slips.{IsFirstKept}
use Rattle.fk_queue.proofs.Backing.{first_kept}
use Rattle.fk_queue.proofs.Changing.{Changes, kept_by, popped_at, some_wait}
use Rattle.fk_queue.proofs.Standing.{found_at}
use Rattle.fk_queue.proofs.post.Post.remove.Goals as goal

pub pop-requires : goal.pop-requires
unfolding post_of
pop-requires c =
    let p = c.args.self.now in
    subst (λ s. IsFirstKept p.region.kept s.waiting) (sym (found_at p.sessions p.queues.items c.args.lane c.place_of.result c.index_mut.result.now c.requires.lane p.sized c.place_of.ensures c.index_mut.ensures.value)) (first_kept p.sessions c.args.lane (slips_of p.sessions p.queues.items) p.region.kept c.requires.lane p.backed)

pub overflow_sub-self : goal.overflow_sub-self
unfolding post_of
overflow_sub-self c =
    let p = c.args.self.now in
    some_wait p.sessions p.waiting c.args.lane (slips_of p.sessions p.queues.items) p.region.kept c.requires.lane c.requires.head (kept_by p)

changes : (c : goal.After-self-1) → let p = c.args.self.now in Changes p.sessions (p.waiting - 1) c.args.lane (without_head (lanes_of p.sessions p.queues.items p.region.kept c.args.lane)) (slips_of p.sessions p.queues.items) (slips_of p.sessions (set p.queues.items c.place_of.result c.pop.new.self)) p.region.kept c.pop.new.region.kept
unfolding post_of
changes c = let p = c.args.self.now in popped_at p.sessions p.waiting p.queues.items c.args.lane c.place_of.result c.index_mut.result.now c.pop.new.self p.region.kept c.pop.new.region.kept c.requires.lane c.requires.head p.sized c.place_of.ensures c.index_mut.ensures.value c.pop.ensures (kept_by p)

pub invariant_of-self-clause-counted : goal.invariant_of-self-clause-counted
unfolding post_of
invariant_of-self-clause-counted c = (changes c).keeps.counted

pub invariant_of-self-clause-numbered : goal.invariant_of-self-clause-numbered
unfolding post_of
invariant_of-self-clause-numbered c = (changes c).keeps.numbered

pub invariant_of-self-clause-backed : goal.invariant_of-self-clause-backed
unfolding post_of
invariant_of-self-clause-backed c = (changes c).keeps.backed

pub invariant_of-self-clause-measured : goal.invariant_of-self-clause-measured
unfolding post_of
invariant_of-self-clause-measured c = (changes c).keeps.measured

pub returns : goal.returns
unfolding post_of
returns c =
    let p = c.args.self.now in
    let changes = popped_at p.sessions p.waiting p.queues.items c.args.lane c.place_of.result c.index_mut.result.now c.pop.new.self p.region.kept c.pop.new.region.kept c.requires.lane c.requires.head p.sized c.place_of.ensures c.index_mut.ensures.value c.pop.ensures (kept_by p) in
    ap (λ lanes. record (post_of p) { lanes = lanes }) changes.lanes

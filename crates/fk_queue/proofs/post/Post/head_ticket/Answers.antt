use Rattle.std.proofs.Common.{subst}
use Rattle.fk_queue.specs.Keeping.{IsFirst}
use Rattle.fk_queue.specs.Places.{slips_of}
use Rattle.fk_queue.specs.Posts.{post_of, region_of, tickets_of}
use Rattle.fk_queue.specs.Slips.{tickets_in}
use Rattle.fk_queue.proofs.Backing.{head_kept}
use Rattle.fk_queue.proofs.Standing.{found_at}
use Rattle.fk_queue.proofs.post.Post.head_ticket.Goals as goal

pub returns-clause-bytes : goal.returns-clause-bytes
unfolding post_of region_of tickets_of
returns-clause-bytes c =
    let p = c.args.self.now in
    let found = found_at p.sessions p.queues.items c.args.lane c.place_of.result c.index.result.now c.requires.lane p.sized c.place_of.ensures c.index.ensures in
    head_kept p.sessions c.args.lane c.head_ticket.result.now (slips_of p.sessions p.queues.items) p.region.kept c.requires.lane p.backed (subst (λ s. IsFirst c.head_ticket.result.now (tickets_in s)) found c.head_ticket.ensures)

use Rattle.fk_queue.specs.Posts.{post_of, region_of, tickets_of}
use Rattle.fk_queue.specs.Places.{slips_of}
use Rattle.fk_queue.proofs.Backing.{messages_kept}
use Rattle.fk_queue.proofs.post.Post.region.Goals as goal

pub returns-clause-bytes : goal.returns-clause-bytes
unfolding post_of region_of tickets_of
returns-clause-bytes c = λ l. messages_kept c.args.self.now.region.kept (slips_of c.args.self.now.sessions c.args.self.now.queues.items l)

use Rattle.fk_queue.specs.Posts.{post_of}
use Rattle.fk_engine.proofs.Turns.{posted_first}
use Rattle.fk_engine.proofs.draining.+turn_first.Goals as goal

pub idle-requires : goal.idle-requires
idle-requires n c = posted_first (post_of c.args.post.now) c.args.clients.now c.client-item.result c.client-item.is c.in-len1-up.len_at_least c.requires.posted

use Rattle.fk_queue.specs.Posts.{post_of}
use Rattle.fk_client.proofs.Steps.{text_told, told_text}
use Rattle.fk_client.proofs.taking.head_message.Goals as goal

pub tell_of-requires : goal.tell_of-requires
tell_of-requires c = rw c.in_ok-read_head.ensures (record { text = told_text ((post_of c.args.post.now).lanes c.args.lane).waiting c.requires.head c.requires.readable })

pub returns : goal.returns
returns c = λ m i. c.tell_of.ensures.back m (rw c.in_ok-read_head.ensures (text_told ((post_of c.args.post.now).lanes c.args.lane).waiting m i))

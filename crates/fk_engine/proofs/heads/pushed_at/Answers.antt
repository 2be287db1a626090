use Rattle.fk_base.proofs.Logic.{ok_each}
use Rattle.fk_queue.specs.Posts.{post_of}
use Rattle.fk_wire.specs.PushedText.{IsPushedText}
use Rattle.fk_engine.proofs.Heading.{head_is, is_head, some_head}
use Rattle.fk_engine.proofs.heads.pushed_at.Goals as goal

pub pushed_of-requires : goal.pushed_of-requires
pushed_of-requires c = rw c.in_ok-read_head.ensures (record { text = some_head IsPushedText ((post_of c.args.post.now).lanes c.args.lane).waiting c.requires.head c.requires.readable })

pub returns-clause-told : goal.returns-clause-told
returns-clause-told c = ok_each c.pushed_of.result (rw c.in_ok-read_head.ensures at c.pushed_of.ensures.message) (λ m t. is_head IsPushedText ((post_of c.args.post.now).lanes c.args.lane).waiting m c.requires.head t)

pub returns-clause-back : goal.returns-clause-back
returns-clause-back c = λ m h. c.pushed_of.ensures.back m (rw c.in_ok-read_head.ensures (head_is IsPushedText ((post_of c.args.post.now).lanes c.args.lane).waiting m h))

use Rattle.fk_base.proofs.Logic.{ok_each}
use Rattle.fk_queue.specs.Posts.{post_of}
use Rattle.fk_wire.specs.NoteText.{IsNoteText}
use Rattle.fk_engine.proofs.Heading.{head_is, is_head, some_head}
use Rattle.fk_engine.proofs.heads.note_at.Goals as goal

pub note_of-requires : goal.note_of-requires
note_of-requires c = rw c.in_ok-read_head.ensures (record { text = some_head IsNoteText ((post_of c.args.post.now).lanes c.args.lane).waiting c.requires.head c.requires.readable })

pub returns-clause-told : goal.returns-clause-told
returns-clause-told c = ok_each c.note_of.result (rw c.in_ok-read_head.ensures at c.note_of.ensures.message) (λ m t. is_head IsNoteText ((post_of c.args.post.now).lanes c.args.lane).waiting m c.requires.head t)

pub returns-clause-back : goal.returns-clause-back
returns-clause-back c = λ m h. c.note_of.ensures.back m (rw c.in_ok-read_head.ensures (head_is IsNoteText ((post_of c.args.post.now).lanes c.args.lane).waiting m h))

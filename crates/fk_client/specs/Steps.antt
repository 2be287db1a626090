-- What a step of a client does.
use Rattle.std.specs.Prelude.{◌≡◌, List, Option}
use Rattle.fk_print.specs.declared.line.Line.{Line}
use Rattle.fk_print.specs.declared.op.Op.{Op}
use Rattle.fk_queue.specs.declared.lane.Lane.TheVariants as lane
use Rattle.fk_wire.specs.declared.message.Tell.{Tell}
use Rattle.fk_watch.specs.Services.{Services}
use Rattle.fk_client.specs.Meaning.{Meaning}
use Rattle.fk_client.specs.Operation.{step_op}
use Rattle.fk_client.specs.Services.{after_step, lines_after_step, post_by, table_by, user_by, watches_by}
use Rattle.fk_client.specs.Told.{IsTold}

-- the message at the head of a client's inbox, if there is one, is this
abbrev pub IsToldTo : Services → Meaning → Option Tell → Type 0
IsToldTo s m told = IsTold (s.post.lanes (lane.Inbox m.session)).waiting told

-- The client `old` makes operation `o` on the services `before`, and prints the lines `ls`; after it the client is
-- `new`, and the services are `after`.
pub record Steps (before after : Services) (old new : Meaning) (o : Op) (ls : List Line) : Type 0 where
  pub op : (told : Option Tell) → IsToldTo before old told
      → o ≡ step_op before.table before.post before.watches before.user told old
  pub lines : (told : Option Tell) → IsToldTo before old told
      → ls ≡ lines_after_step before.table before.post before.watches before.user told old
  pub machine : (told : Option Tell) → IsToldTo before old told
      → new ≡ after_step before.table before.post before.watches before.user told old
  pub table : after.table ≡ table_by o before.table
  pub post : after.post ≡ post_by old o before.post
  pub watches : after.watches ≡ watches_by old o before.watches
  pub user : after.user ≡ user_by o before.user

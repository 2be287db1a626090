-- What a step of a heartbeat does.
use Rattle.std.specs.Prelude.{◌≡◌, ℕ}
use Rattle.fk_print.specs.declared.op.Op.{Op}
use Rattle.fk_queue.specs.Meaning as post
use Rattle.fk_queue.specs.Posts.{post_of}
use Rattle.fk_queue.specs.declared.post.Post.{Post}
use Rattle.fk_store.specs.Meaning as table
use Rattle.fk_watch.specs.Beating.{Meaning, after_step, post_after_step, step_op, table_after_step}
use Rattle.fk_watch.specs.BeatingFit.{IsReadable}

-- what the services mean that a heartbeat is lent
pub record Services : Type 0 where
  pub table : table.Meaning
  pub post : post.Meaning

-- a table of this meaning, and a post
abbrev pub services_of : table.Meaning → Post → Services
services_of t p = record { table = t; post = post_of p }

-- The heartbeat `old` makes operation `o` on the services `before`, at moment `now`, where a ping is late after `beat`;
-- after it the heartbeat is `new`, and the services are `after`. What it sends can be read back.
pub record Steps (before after : Services) (old new : Meaning) (now beat : ℕ) (o : Op) : Type 0 where
  pub op : o ≡ step_op before.table before.post now beat old
  pub machine : new ≡ after_step before.table before.post now beat old
  pub table : after.table ≡ table_after_step before.table now old
  pub post : after.post ≡ post_after_step before.post old
  pub sent : IsReadable old.inv old.stage

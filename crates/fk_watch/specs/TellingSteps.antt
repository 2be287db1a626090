-- What a step of a watch function does.
use Rattle.std.specs.Prelude.{◌≡◌}
use Rattle.fk_print.specs.declared.op.Op.{Op}
use Rattle.fk_queue.specs.Meaning as post
use Rattle.fk_queue.specs.Posts.{post_of}
use Rattle.fk_queue.specs.declared.post.Post.{Post}
use Rattle.fk_watch.specs.Kept.{Kept, watches_of}
use Rattle.fk_watch.specs.Meaning.{Watches}
use Rattle.fk_watch.specs.Telling.{Meaning, after_step, post_after_step, step_op, watches_after_step}
use Rattle.fk_watch.specs.TellingFit.{IsReadable}

-- what the services mean that a watch function is lent
pub record Services : Type 0 where
  pub post : post.Meaning
  pub watches : Watches

-- a post and a table of watches
abbrev pub services_of : Post → Kept → Services
services_of p w = record { post = post_of p; watches = watches_of w }

-- The watch function `old` makes operation `o` on the services `before`; after it the watch function is `new`, and the
-- services are `after`. What it sends can be read back.
pub record Steps (before after : Services) (old new : Meaning) (o : Op) : Type 0 where
  pub op : o ≡ step_op before.post before.watches old
  pub machine : new ≡ after_step before.post before.watches old
  pub post : after.post ≡ post_after_step before.post old
  pub watches : after.watches ≡ watches_after_step before.watches old
  pub sent : IsReadable old.stage

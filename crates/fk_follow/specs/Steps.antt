-- What a step of a follower does.
use Rattle.std.specs.Prelude.{◌≡◌, ℕ, List}
use Rattle.fk_base.specs.Path.{PathNames}
use Rattle.fk_print.specs.declared.op.Op.{Op}
use Rattle.fk_queue.specs.Meaning as post
use Rattle.fk_queue.specs.Posts.{post_of}
use Rattle.fk_queue.specs.declared.post.Post.{Post}
use Rattle.fk_store.specs.Meaning as table
use Rattle.fk_follow.specs.Fit.{IsRead}
use Rattle.fk_follow.specs.Meaning.{Meaning}
use Rattle.fk_follow.specs.Next.{after_step}
use Rattle.fk_follow.specs.Operation.{step_op}
use Rattle.fk_follow.specs.Sending.{IsReadable}
use Rattle.fk_follow.specs.Services.{post_after_step, table_after_step}

-- what the services mean that a follower is lent
pub record Services : Type 0 where
  pub table : table.Meaning
  pub post : post.Meaning

-- a table of this meaning, and a post
abbrev pub services_of : table.Meaning → Post → Services
services_of t p = record { table = t; post = post_of p }

-- The follower `old` makes operation `o` on the services `before`, at moment `now`, where locks pass on after `lock`;
-- after it the follower is `new`, and the services are `after`. Where it asks for its session's nodes, they are those
-- of the list that the table gives: there is one such list, and `new` keeps it. What it sends can be read back.
pub record Steps (before after : Services) (old new : Meaning) (now lock : ℕ) (o : Op) : Type 0 where
  pub op : (owned : List PathNames) → IsRead before.table owned old
      → o ≡ step_op before.table before.post now lock owned old
  pub machine : (owned : List PathNames) → IsRead before.table owned old
      → new ≡ after_step before.table before.post now lock owned old
  pub given : IsRead before.table new.follower.owned old
  pub table : after.table ≡ table_after_step before.table now lock old
  pub post : after.post ≡ post_after_step before.post now old
  pub sent : IsReadable now old

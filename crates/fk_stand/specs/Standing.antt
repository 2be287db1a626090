-- What each service holds after a history.
use Rattle.std.specs.Prelude.{◌≡◌, List}
use Rattle.fk_print.specs.declared.entry.Entry.{Entry}
use Rattle.fk_store.specs.Meaning as table
use Rattle.fk_queue.specs.Meaning as post
use Rattle.fk_user.specs.Meaning as user
use Rattle.fk_watch.specs.Meaning.{Watches}
use Rattle.fk_spec.specs.Plan.{Plan}
use Rattle.fk_stand.specs.Tables.{table_after}
use Rattle.fk_stand.specs.Posts.{post_after}
use Rattle.fk_stand.specs.Stores.{store_after, watches_after}

-- The four services stand as a history says: each is calm and holds what its lines put there, whatever the count
-- of its failed calls.
pub record Standing (p : Plan) (h : List Entry) (t : table.Meaning) (q : post.Meaning) (u : user.Meaning) (w : Watches) : Type 0 where
  pub table : t ≡ table_after p h t.faults
  pub post : q ≡ post_after p h q.faults
  pub user : u ≡ store_after p h u.faults
  pub watches : w ≡ watches_after p h w.faults

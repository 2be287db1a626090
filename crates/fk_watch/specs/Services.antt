-- What the four services mean.
use Rattle.fk_queue.specs.Meaning as post
use Rattle.fk_queue.specs.Posts.{post_of}
use Rattle.fk_queue.specs.declared.post.Post.{Post}
use Rattle.fk_store.specs.Meaning as table
use Rattle.fk_user.specs.Meaning as user
use Rattle.fk_user.specs.Stored.{store_of}
use Rattle.fk_user.specs.declared.user_store.UserStore.{UserStore}
use Rattle.fk_watch.specs.Kept.{Kept, watches_of}
use Rattle.fk_watch.specs.Meaning.{Watches}

pub record Services : Type 0 where
  pub table : table.Meaning
  pub post : post.Meaning
  pub watches : Watches
  pub user : user.Meaning

-- a table of this meaning, a post, a table of watches and a user storage
abbrev pub services_of : table.Meaning → Post → Kept → UserStore → Services
services_of t p w u = record { table = t; post = post_of p; watches = watches_of w; user = store_of u }

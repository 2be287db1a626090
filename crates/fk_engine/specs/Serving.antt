-- What the four services mean, and how they fail.
use Rattle.fk_queue.specs.Meaning as post
use Rattle.fk_queue.specs.Posts.{post_of}
use Rattle.fk_store.specs.Meaning as table
use Rattle.fk_user.specs.Meaning as user
use Rattle.fk_user.specs.Stored.{store_of}
use Rattle.fk_watch.specs.Kept.{watches_of}
use Rattle.fk_watch.specs.Meaning as watches
use Rattle.fk_watch.specs.Services.{Services}
use Rattle.fk_engine.specs.declared.services.Services.{Services as Fields}

-- what the fields of services mean, where `meaning` says it of the table
abbrev pub services_of : {T : Type 0} → (T → table.Meaning) → Fields T → Services
services_of meaning s = record {
  table = meaning s.table;
  post = post_of s.post;
  watches = watches_of s.watches;
  user = store_of s.user;
}

-- the next call of each fails
abbrev pub armed : Services → Services
armed s = record {
  table = table.armed s.table;
  post = post.armed s.post;
  watches = watches.armed s.watches;
  user = user.armed s.user;
}

-- the next call of none fails
abbrev pub calmed : Services → Services
calmed s = record {
  table = table.calmed s.table;
  post = post.calmed s.post;
  watches = watches.calmed s.watches;
  user = user.calmed s.user;
}

-- All services after the lines of a history.
use Rattle.std.specs.Prelude.{List, [], ◌∷◌, length}
use Rattle.fk_print.specs.declared.entry.Entry.{Entry}
use Rattle.fk_queue.specs.Meaning as post
use Rattle.fk_queue.specs.Meaning.{new_post}
use Rattle.fk_queue.specs.declared.lane.Lane.{Lane}
use Rattle.fk_store.specs.Meaning as table
use Rattle.fk_store.specs.Meaning.{new_table}
use Rattle.fk_user.specs.Meaning as user
use Rattle.fk_user.specs.Meaning.{new_store}
use Rattle.fk_watch.specs.Meaning.{Watches, new_watches}
use Rattle.fk_stand.specs.Standing.{Standing}
use Rattle.fk_spec.specs.Plan.{Plan}
use Rattle.fk_spec.specs.Next.{IsHistory}
use Rattle.fk_agree.specs.Letters.{LeavesLane}
use Rattle.fk_agree.specs.Records.{LeavesRecords}
use Rattle.fk_agree.specs.Stored.{LeavesStore}
use Rattle.fk_agree.specs.Watched.{LeavesWatches}

-- New services stand as no history says.
abbrev pub NewServicesStand : Type 0
NewServicesStand = (p : Plan) → Standing p [] (new_table (length p.asks)) (new_post (length p.asks)) new_store new_watches

-- a line that changes no service
pub record LeavesServices (p : Plan) (e : Entry) (h : List Entry) : Type 0 where
  pub records : LeavesRecords e.op
  pub lanes : (l : Lane) → LeavesLane p l h e.op
  pub store : LeavesStore e.op
  pub watches : LeavesWatches e.op

-- It leaves them as they stand.
abbrev pub ServicesStay : Type 0
ServicesStay =
    (p : Plan) (e : Entry) (h : List Entry) (t : table.Meaning) (q : post.Meaning) (u : user.Meaning) (w : Watches) → IsHistory p (e ∷ h) → LeavesServices p e h → Standing p h t q u w
    → Standing p (e ∷ h) t q u w

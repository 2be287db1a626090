-- What the services hold in worked runs. The messages are written out by hand as the format of messages says them.
use Rattle.std.specs.Prelude.{◌≡◌, ℕ, true, false, List, [], ◌∷◌, codes, drop, Some, None}
use Rattle.fk_base.specs.Path.{PathNames}
use Rattle.fk_tree.specs.declared.change.Change.TheVariants as change
use Rattle.fk_tree.specs.declared.change.Kind.TheVariants as kind
use Rattle.fk_tree.specs.declared.node.Node.{Node}
use Rattle.fk_print.specs.declared.entry.Entry.{Entry}
use Rattle.fk_queue.specs.declared.lane.Lane.TheVariants as lane
use Rattle.fk_queue.specs.Letters.{LaneState}
use Rattle.fk_queue.specs.Meaning.{blocks_in}
use Rattle.fk_store.specs.declared.outcome.Outcome.TheVariants as kept
use Rattle.fk_store.specs.declared.session_record.SessionRecord.{SessionRecord}
use Rattle.fk_watch.specs.declared.watch.Watch.{Watch}
use Rattle.fk_spec.specs.Plan.{Plan, plan_of}
use Rattle.fk_spec.specs.OwnWatch as own_watch
use Rattle.fk_spec.specs.Scenarios.{creating, create_entries}
use Rattle.fk_stand.specs.Tables.{node_record, session_record, has_record}
use Rattle.fk_stand.specs.Posts.{lane_after, post_after}
use Rattle.fk_stand.specs.Stores.{store_after, watches_after}

-- ---- a client creates `/x` with `hi`

abbrev pub making : Plan
making = plan_of (creating (codes "/x") (codes "hi"))

-- the first so many entries of the run, the newest first
abbrev pub made_up_to : ℕ → List Entry
made_up_to n = drop n create_entries

abbrev pub x : PathNames
x = codes "x" ∷ []

-- the node, with no child
abbrev pub x_node : Node
x_node = record { bytes = codes "hi"; czxid = 1; mzxid = 1; pzxid = 1; ctime = 11; mtime = 11; version = 0; cversion = 0; made = 0; owner = 0; names = [] }

abbrev pub root_node : Node
root_node = record { bytes = []; czxid = 0; mzxid = 0; pzxid = 1; ctime = 0; mtime = 0; version = 0; cversion = 1; made = 1; owner = 0; names = codes "x" ∷ [] }

-- the request is sent, pushed and answered as these texts, and removed from each lane
abbrev pub CreateIsSent : Type 0
CreateIsSent = lane_after making (lane.Session 1) (made_up_to 19) ≡ record { given = 1; waiting = record { number = 1; bytes = codes "{\"op\":{\"data\":\"aGk=\",\"e\":false,\"path\":\"/x\",\"s\":false,\"t\":\"create\"},\"seen\":0,\"v\":2}" } ∷ [] }

abbrev pub CreateIsPushed : Type 0
CreateIsPushed = lane_after making lane.Leader (made_up_to 14) ≡ record { given = 1; waiting = record { number = 1; bytes = codes "{\"client\":1,\"gone\":[],\"inv\":1,\"k\":1,\"made\":[],\"moment\":11,\"name\":\"/x\",\"op\":{\"data\":\"aGk=\",\"e\":false,\"path\":\"/x\",\"s\":false,\"t\":\"create\"},\"paths\":[\"/\",\"/x\"],\"v\":2,\"version\":0}" } ∷ [] }

abbrev pub CreateIsTold : Type 0
CreateIsTold = lane_after making (lane.Inbox 1) (made_up_to 4) ≡ record { given = 1; waiting = record { number = 1; bytes = codes "{\"k\":1,\"made\":[],\"name\":\"/x\",\"t\":\"done\",\"tx\":1,\"v\":2,\"version\":0}" } ∷ [] }

abbrev pub given_and_empty : ℕ → LaneState
given_and_empty n = record { given = n; waiting = [] }

abbrev pub LanesAreEmptied : Type 0
LanesAreEmptied = (lane_after making (lane.Session 1) create_entries ≡ given_and_empty 1)
    × (lane_after making lane.Leader create_entries ≡ given_and_empty 1)
    × (lane_after making lane.Watch create_entries ≡ given_and_empty 0)
    × (lane_after making (lane.Inbox 1) create_entries ≡ given_and_empty 1)

-- the request that was sent takes a block of the queues' region; in the end no message takes one
abbrev pub CreateTakesABlock : Type 0
CreateTakesABlock = (blocks_in (post_after making (made_up_to 19) 0) ≡ 1) × (blocks_in (post_after making create_entries 0) ≡ 0)

abbrev pub settled_with : List ℕ → SessionRecord
settled_with pending = record { settled = 1; outcome = kept.Applied 1; last = 1; closed = false; pending = pending; ping = 0; ping_at = 0; pong = 0 }

-- before the commit both locks are held; the commit makes the edits and releases them
abbrev pub CreateIsCommitted : Type 0
CreateIsCommitted = (node_record making x (made_up_to 14) ≡ record { node = None; lock = record { inv = 1; moment = 11; held = true }; last = 0 })
    × (node_record making x (made_up_to 13) ≡ record { node = Some x_node; lock = record { inv = 1; moment = 11; held = false }; last = 1 })
    × (node_record making [] (made_up_to 13) ≡ record { node = Some root_node; lock = record { inv = 1; moment = 11; held = false }; last = 1 })
    × (has_record (codes "y" ∷ []) create_entries ≡ false)
    × (session_record making 1 (made_up_to 13) ≡ settled_with (1 ∷ []))
    × (session_record making 1 (made_up_to 3) ≡ settled_with [])

-- the records are put one by one, and the mark is raised last
abbrev pub CreateIsPublished : Type 0
CreateIsPublished = ((store_after making (made_up_to 7) 0).records x ≡ record { node = None; stamp = 0 })
    × ((store_after making (made_up_to 6) 0).records x ≡ record { node = Some x_node; stamp = 1 })
    × ((store_after making (made_up_to 6) 0).mark ≡ 0)
    × ((store_after making (made_up_to 5) 0).mark ≡ 1)

-- ---- a client gets a watch on `/x`, and then sets the node itself

abbrev pub watching : Plan
watching = plan_of own_watch.deployed

abbrev pub watched_up_to : ℕ → List Entry
watched_up_to n = drop n own_watch.entries

abbrev pub x_watch : Watch
x_watch = record { session = 1; path = x; kind = kind.Data }

-- the watch is set, fires at the second transaction, is in the epoch of its publication, and is told
abbrev pub WatchFires : Type 0
WatchFires = ((watches_after watching (watched_up_to 25) 0).set 1 ≡ None)
    × ((watches_after watching (watched_up_to 24) 0).set 1 ≡ Some x_watch)
    × ((watches_after watching (watched_up_to 24) 0).given ≡ 1)
    × ((watches_after watching (watched_up_to 13) 0).set 1 ≡ None)
    × ((watches_after watching (watched_up_to 13) 0).fired 1 ≡ Some (record { watch = x_watch; tx = 2; change = change.Changed }))
    × ((watches_after watching (watched_up_to 13) 0).swept ≡ 2)
    × ((watches_after watching (watched_up_to 13) 0).last x ≡ 2)
    × ((watches_after watching (watched_up_to 13) 0).last [] ≡ 1)
    × ((store_after watching (watched_up_to 11) 0).epoch ≡ 1 ∷ [])
    × ((watches_after watching (watched_up_to 5) 0).fired 1 ≡ Some (record { watch = x_watch; tx = 2; change = change.Changed }))
    × ((watches_after watching (watched_up_to 4) 0).fired 1 ≡ None)

-- the note and the client's messages, behind the two that it was given before
abbrev pub WatchIsTold : Type 0
WatchIsTold = (lane_after watching lane.Watch (watched_up_to 10) ≡ record { given = 1; waiting = record { number = 1; bytes = codes "{\"fired\":[{\"client\":1,\"id\":1,\"kind\":\"data\",\"path\":\"/x\",\"type\":\"NodeDataChanged\"}],\"tx\":2,\"v\":2}" } ∷ [] })
    × (lane_after watching (lane.Inbox 1) (watched_up_to 5) ≡ record {
      given = 3;
      waiting =
          record { number = 2; bytes = codes "{\"k\":2,\"made\":[],\"name\":\"/\",\"t\":\"done\",\"tx\":2,\"v\":2,\"version\":1}" }
          ∷ record { number = 3; bytes = codes "{\"client\":1,\"id\":1,\"kind\":\"data\",\"path\":\"/x\",\"t\":\"watch\",\"tx\":2,\"type\":\"NodeDataChanged\",\"v\":2}" } ∷ [];
    })

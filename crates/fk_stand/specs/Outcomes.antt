-- What the services hold in worked runs that end otherwise: a refusal, a lock that was lost, an eviction, and several
-- parts as one request. The messages are written out by hand as the format of messages says them.
use Rattle.std.specs.Prelude.{◌≡◌, ℕ, true, false, List, [], ◌∷◌, codes, drop, None}
use Rattle.fk_base.specs.declared.code.Code.TheVariants as code
use Rattle.fk_queue.specs.declared.lane.Lane.TheVariants as lane
use Rattle.fk_queue.specs.declared.letter.Letter.{Letter}
use Rattle.fk_store.specs.declared.outcome.Outcome.TheVariants as kept
use Rattle.fk_store.specs.declared.session_record.SessionRecord.{SessionRecord}
use Rattle.fk_spec.specs.Eviction as eviction
use Rattle.fk_spec.specs.LockPassedOn as passed
use Rattle.fk_spec.specs.Multi as multi
use Rattle.fk_spec.specs.Plan.{Plan, plan_of}
use Rattle.fk_spec.specs.Scenarios.{creating, orphan_entries}
use Rattle.fk_stand.specs.Tables.{lock_after, node_record, session_record}
use Rattle.fk_stand.specs.Posts.{lane_after}

abbrev pub letter : ℕ → List ℕ → Letter
letter n bytes = record { number = n; bytes = bytes }

-- ---- a create under a missing parent

abbrev pub orphan : Plan
orphan = plan_of (creating (codes "/m/y") (codes "v"))

-- the refusal is kept, its locks are released, and the client is told
abbrev pub RefusalIsKept : Type 0
RefusalIsKept = (session_record orphan 1 (drop 4 orphan_entries) ≡ record { settled = 1; outcome = kept.Refused code.NoNode 0 0; last = 0; closed = false; pending = []; ping = 0; ping_at = 0; pong = 0 })
    × (node_record orphan (codes "m" ∷ []) (drop 4 orphan_entries) ≡ record { node = None; lock = record { inv = 1; moment = 11; held = false }; last = 0 })

abbrev pub RefusalIsTold : Type 0
RefusalIsTold = lane_after orphan (lane.Inbox 1) (drop 3 orphan_entries) ≡ record { given = 1; waiting = letter 1 (codes "{\"at\":0,\"code\":-101,\"k\":1,\"place\":0,\"t\":\"refused\",\"v\":2}") ∷ [] }

-- ---- a lock that passed on

abbrev pub passing : Plan
passing = plan_of passed.deployed

-- the loss is kept, the lock stays the later function's, and the client is told
abbrev pub LossIsKept : Type 0
LossIsKept = (session_record passing 1 (drop 29 passed.entries) ≡ record { settled = 1; outcome = kept.Lost [] 0 2 11; last = 0; closed = false; pending = []; ping = 0; ping_at = 0; pong = 0 })
    × (lock_after [] (drop 29 passed.entries) ≡ record { inv = 2; moment = 11; held = true })

abbrev pub LossIsTold : Type 0
LossIsTold = lane_after passing (lane.Inbox 1) (drop 28 passed.entries) ≡ record { given = 1; waiting = letter 1 (codes "{\"found\":2,\"k\":1,\"moment\":11,\"own\":0,\"path\":\"/\",\"t\":\"lost\",\"v\":2}") ∷ [] }

-- ---- a session that doesn't answer its ping

abbrev pub evicting : Plan
evicting = plan_of eviction.deployed

abbrev pub session_at : ℕ → SessionRecord
session_at n = session_record evicting 1 (drop n eviction.entries)

-- the ping is noted, the close closes the session and removes its node, and a late answer is kept
abbrev pub EvictionIsKept : Type 0
EvictionIsKept = ((session_at 33).ping ≡ 0)
    × ((session_at 32).ping ≡ 3)
    × ((session_at 32).ping_at ≡ 0)
    × ((session_at 18).closed ≡ false)
    × ((node_record evicting (codes "e" ∷ []) (drop 17 eviction.entries)).node ≡ None)
    × (session_at 17 ≡ record { settled = 2; outcome = kept.Applied 2; last = 2; closed = true; pending = 2 ∷ []; ping = 3; ping_at = 0; pong = 0 })
    × ((session_at 3).pong ≡ 3)

-- the ping, the heartbeat's close, its push, and what the client is told in the end
abbrev pub EvictionIsTold : Type 0
EvictionIsTold = (lane_after evicting (lane.Inbox 1) (drop 33 eviction.entries) ≡ record {
  given = 2;
  waiting =
      letter 1 (codes "{\"k\":1,\"made\":[],\"name\":\"/e\",\"t\":\"done\",\"tx\":1,\"v\":2,\"version\":0}")
      ∷ letter 2 (codes "{\"n\":3,\"t\":\"ping\",\"v\":2}") ∷ [];
})
    × (lane_after evicting (lane.Session 1) (drop 25 eviction.entries) ≡ record { given = 2; waiting = letter 2 (codes "{\"op\":{\"evict\":true,\"t\":\"close\"},\"seen\":0,\"v\":2}") ∷ [] })
    × (lane_after evicting lane.Leader (drop 18 eviction.entries) ≡ record {
      given = 2;
      waiting =
          letter 2 (codes "{\"client\":1,\"gone\":[\"/e\"],\"inv\":6,\"k\":2,\"made\":[],\"moment\":42,\"name\":\"/\",\"op\":{\"evict\":true,\"t\":\"close\"},\"paths\":[\"/\",\"/e\"],\"v\":2,\"version\":0}") ∷ [];
    })
    × (lane_after evicting (lane.Inbox 1) (drop 4 eviction.entries) ≡ record { given = 3; waiting = letter 3 (codes "{\"k\":2,\"t\":\"evicted\",\"tx\":2,\"v\":2}") ∷ [] })

-- ---- requests of several parts

abbrev pub several : Plan
several = plan_of multi.deployed

-- a push shows what each part came to; a refusal has the place of its part
abbrev pub PartsAreSaid : Type 0
PartsAreSaid = (lane_after several lane.Leader (drop 52 multi.entries) ≡ record {
  given = 1;
  waiting =
      letter 1 (codes "{\"client\":1,\"gone\":[],\"inv\":1,\"k\":1,\"made\":[{\"name\":\"/a\",\"version\":0},{\"name\":\"/\",\"version\":1},{\"name\":\"/a/b\",\"version\":0}],\"moment\":11,\"name\":\"/\",\"op\":{\"parts\":[{\"data\":\"MQ==\",\"e\":false,\"path\":\"/a\",\"s\":false,\"t\":\"create\"},{\"data\":\"Mg==\",\"path\":\"/a\",\"t\":\"set\",\"version\":-1},{\"data\":\"\",\"e\":false,\"path\":\"/a/b\",\"s\":false,\"t\":\"create\"}],\"t\":\"multi\"},\"paths\":[\"/\",\"/a\",\"/a/b\"],\"v\":2,\"version\":0}") ∷ [];
})
    × (lane_after several (lane.Inbox 1) (drop 27 multi.entries) ≡ record { given = 2; waiting = letter 2 (codes "{\"at\":1,\"code\":-101,\"k\":2,\"place\":2,\"t\":\"refused\",\"v\":2}") ∷ [] })

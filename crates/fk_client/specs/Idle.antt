-- When a client has nothing to do. It is told by its inbox alone.
use Rattle.std.specs.Prelude.{◌≡◌, ℕ, Bool, true, false, not, ◌&&◌, List, [], ◌∷◌, Option, Some, None, is_none}
use Rattle.fk_queue.specs.Meaning as post
use Rattle.fk_queue.specs.declared.lane.Lane.TheVariants as lane
use Rattle.fk_queue.specs.declared.letter.Letter.{Letter}
use Rattle.fk_store.specs.Meaning as table
use Rattle.fk_user.specs.Meaning as user
use Rattle.fk_watch.specs.Meaning.{Watches}
use Rattle.fk_wire.specs.declared.message.Tell.{Tell}
use Rattle.fk_spec.specs.Client.{Reading, may_begin, target_of}
use Rattle.fk_spec.specs.Plan.{Ask}
use Rattle.fk_spec.specs.Schedule as schedule
use Rattle.fk_client.specs.Known.{by_outcome}
use Rattle.fk_client.specs.Meaning.{Meaning, asks_read, next_ask}
use Rattle.fk_client.specs.Operation.{step_op}
use Rattle.fk_client.specs.Told.{IsTold}

abbrev pub owes_none : List ℕ → Bool
owes_none [] = true
owes_none (n ∷ ns) = false

abbrev pub holds_none : List Letter → Bool
holds_none [] = true
holds_none (x ∷ xs) = false

abbrev pub waits_next : Meaning → Option Ask → Bool
waits_next m None = true
waits_next m (Some a) = not (may_begin by_outcome m.asks a m.client.sent)

-- a read that is to be registered makes an operation
abbrev pub waits_reading : Meaning → Option Reading → Bool
waits_reading m None = waits_next m (next_ask m)
waits_reading m (Some r) = not (asks_read (next_ask m))

-- A client is idle where it owes no answer, its inbox is empty, it has nothing to look for and nothing to register,
-- and there is no next command or it has to wait.
abbrev pub is_idle : post.Meaning → Meaning → Bool
is_idle q m =
    owes_none m.client.owed
    && holds_none (q.lanes (lane.Inbox m.session)).waiting
    && is_none (target_of by_outcome m.seen m.client m.client.reading)
    && waits_reading m m.client.reading

-- Whatever the other services hold, its operation is none exactly where it is idle.
abbrev pub IdleIsExact : post.Meaning → Meaning → Type 0
IdleIsExact q m = (t : table.Meaning) (w : Watches) (u : user.Meaning) (told : Option Tell)
    → IsTold (q.lanes (lane.Inbox m.session)).waiting told → schedule.is_idle (step_op t q w u told m) ≡ is_idle q m

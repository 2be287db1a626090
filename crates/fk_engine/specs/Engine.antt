-- What an engine means, and what it means after an event.
use Rattle.std.specs.Prelude.{◌≡◌, ℕ, Bool, false, List, [], ◌∷◌, length}
use Rattle.fk_client.specs.Meaning as client
use Rattle.fk_print.specs.declared.entry.Entry.{Entry}
use Rattle.fk_print.specs.declared.event.Event.{Event}
use Rattle.fk_queue.specs.Meaning.{new_post}
use Rattle.fk_store.specs.Meaning as table
use Rattle.fk_user.specs.Meaning.{new_store}
use Rattle.fk_watch.specs.Meaning.{new_watches}
use Rattle.fk_engine.specs.declared.engine.Engine.{Engine}
use Rattle.fk_engine.specs.Events.{after_event, lines_at, op_at}
use Rattle.fk_engine.specs.Fit.{IsReadAt}
use Rattle.fk_engine.specs.Flights.{no_functions}
use Rattle.fk_engine.specs.Parts as parts
use Rattle.fk_engine.specs.Parts.{parts_of}
use Rattle.fk_engine.specs.Reads.{Read}

-- the past is seen newest first; once the engine is spent, it plays no more
pub record Meaning : Type 0 where
  pub past : List Entry
  pub parts : parts.Meaning
  pub spent : Bool

-- what an engine's fields mean, where `meaning` says it of the table
abbrev pub engine_of : {T : Type 0} → (T → table.Meaning) → Engine T → Meaning
engine_of meaning e = record { past = e.past; parts = parts_of meaning e.parts; spent = e.spent }

-- a new engine: nothing happened, the clock shows 0, no function was started, and all services but the table are new
abbrev pub new_engine : ℕ → ℕ → List client.Meaning → table.Meaning → Meaning
new_engine lock beat clients t = record {
  past = [];
  parts = record {
    times = record { clock = 0; lock = lock; beat = beat };
    functions = no_functions;
    clients = clients;
    services = record { table = t; post = new_post (length clients); watches = new_watches; user = new_store };
  };
  spent = false;
}

-- The entry that an event makes.
abbrev pub made : parts.Meaning → Event → Read → Entry
made p e r = record { event = e; op = op_at p e r; lines = lines_at p e r }

-- The engine after an event, where there was memory.
abbrev pub played : Event → Read → Meaning → Meaning
played e r m = record { past = made m.parts e r ∷ m.past; parts = after_event m.parts e r; spent = false }

-- whatever the event reads, it makes the engine m come to n
abbrev pub Plays : Event → Meaning → Meaning → Type 0
Plays e m n = (r : Read) → IsReadAt m.parts e r → n ≡ played e r m

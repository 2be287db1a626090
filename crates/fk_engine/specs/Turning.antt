-- A client takes its turn on these services; where it is idle, nothing happens.
use Rattle.std.specs.Prelude.{◌≡◌, ℕ, ◌-◌, if◌then◌else◌, ⊤, List, [], set, Option, Some, None}
use Rattle.fk_client.specs.Idle.{is_idle}
use Rattle.fk_client.specs.Meaning.{Meaning}
use Rattle.fk_client.specs.Operation.{step_op}
use Rattle.fk_client.specs.Services.{after_step, lines_after_step, post_by, table_by, user_by, watches_by}
use Rattle.fk_client.specs.Steps.{IsToldTo}
use Rattle.fk_print.specs.declared.line.Line.{Line}
use Rattle.fk_print.specs.declared.op.Op.{Op}
use Rattle.fk_print.specs.declared.op.Op.TheVariants as op
use Rattle.fk_watch.specs.Services.{Services}
use Rattle.fk_wire.specs.declared.message.Tell.{Tell}

-- ---- one client: `told` is the message at the head of its inbox

abbrev pub turn_op : Services → Option Tell → Meaning → Op
turn_op s told m = if is_idle s.post m then op.Idle else step_op s.table s.post s.watches s.user told m

abbrev pub turn_lines : Services → Option Tell → Meaning → List Line
turn_lines s told m = if is_idle s.post m then [] else lines_after_step s.table s.post s.watches s.user told m

abbrev pub turn_client : Services → Option Tell → Meaning → Meaning
turn_client s told m = if is_idle s.post m then m else after_step s.table s.post s.watches s.user told m

-- the services after this operation of a client
abbrev pub services_by : Meaning → Op → Services → Services
services_by m o s = record {
  table = table_by o s.table;
  post = post_by m o s.post;
  watches = watches_by m o s.watches;
  user = user_by o s.user;
}

abbrev pub turn_services : Services → Option Tell → Meaning → Services
turn_services s told m =
    if is_idle s.post m then s else services_by m (step_op s.table s.post s.watches s.user told m) s

-- The client `old` makes operation `o` on the services `before`, and prints the lines `ls`; after it the client is
-- `new`, and the services are `after`.
pub record TakesTurn (before after : Services) (old new : Meaning) (o : Op) (ls : List Line) : Type 0 where
  pub op : (told : Option Tell) → IsToldTo before old told → o ≡ turn_op before told old
  pub lines : (told : Option Tell) → IsToldTo before old told → ls ≡ turn_lines before told old
  pub client : (told : Option Tell) → IsToldTo before old told → new ≡ turn_client before told old
  pub services : (told : Option Tell) → IsToldTo before old told → after ≡ turn_services before told old

-- ---- the client of a session; where there is none, nothing happens

abbrev pub client_op : Services → Option Tell → Option Meaning → Op
client_op s told None = op.Idle
client_op s told (Some m) = turn_op s told m

abbrev pub client_lines : Services → Option Tell → Option Meaning → List Line
client_lines s told None = []
client_lines s told (Some m) = turn_lines s told m

abbrev pub client_services : Services → Option Tell → Option Meaning → Services
client_services s told None = s
client_services s told (Some m) = turn_services s told m

-- the client at a place, from 1, is this one from now on
abbrev pub with_client : ℕ → Meaning → List Meaning → List Meaning
with_client c m ms = set ms (c - 1) m

abbrev pub clients_after : Services → Option Tell → ℕ → Option Meaning → List Meaning → List Meaning
clients_after s told c None ms = ms
clients_after s told c (Some m) ms = with_client c (turn_client s told m) ms

-- what it reads: the message at the head of its inbox
abbrev pub IsTold : Services → Option Tell → Option Meaning → Type 0
IsTold s told None = ⊤
IsTold s told (Some m) = IsToldTo s m told

-- The clients `ms` are `ns` after this one of them made operation `o` on the services `before`, which left `after`,
-- and printed the lines `ls`.
pub record TakeTurn (before after : Services) (c : ℕ) (m : Option Meaning) (ms ns : List Meaning) (o : Op)
    (ls : List Line) : Type 0 where
  pub op : (told : Option Tell) → IsTold before told m → o ≡ client_op before told m
  pub lines : (told : Option Tell) → IsTold before told m → ls ≡ client_lines before told m
  pub clients : (told : Option Tell) → IsTold before told m → ns ≡ clients_after before told c m ms
  pub services : (told : Option Tell) → IsTold before told m → after ≡ client_services before told m

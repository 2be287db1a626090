-- What the lines before a line say.
use Rattle.std.specs.Prelude.{ℕ, ◌+◌, Bool, true, false, if◌then◌else◌, List, [], ◌∷◌, ◌++◌, codes, Option, None, unwrap_or}
use Rattle.fk_script.specs.declared.command.Command.{Command}
use Rattle.fk_script.specs.declared.deployment.Block.{Block}
use Rattle.fk_script.specs.declared.deployment.Deployment.{Deployment}
use Rattle.fk_script.specs.declared.deployment.Turn.{Turn}
use Rattle.fk_script.specs.declared.place.Kind.{Kind}
use Rattle.fk_script.specs.declared.place.Kind.TheVariants as kind
use Rattle.fk_script.specs.declared.place.Place.{Place}
use Rattle.fk_script.specs.declared.place.Place.TheVariants as place
use Rattle.fk_script.specs.Lines.{Word, is, starts_with, second}
use Rattle.fk_script.specs.Values.{number, most_time}
use Rattle.fk_script.specs.CommandLines.{command_line, meant_command, weight}
use Rattle.fk_script.specs.EventLines.{turn_of}

-- what a line is by its first word, where it stands
abbrev pub kind_at : Place → Word → Kind
kind_at place.Start w = if is w (codes "lock") then kind.Lock else if is w (codes "beat") then kind.Beat else if is w (codes "client") then kind.Client else if is w (codes "schedule") then kind.Schedule else kind.Unknown
kind_at place.Client w = if is w (codes "client") then kind.Client else if is w (codes "schedule") then kind.Schedule else kind.Command
kind_at place.Schedule w = kind.Event

-- A line without words, and one whose first word starts with `#`, is skipped everywhere.
abbrev pub kind_of : Place → List Word → Kind
kind_of p [] = kind.Skipped
kind_of p (w ∷ ws) = if starts_with 35 w then kind.Skipped else kind_at p w

abbrev pub place_after : Kind → Place → Place
place_after kind.Client p = place.Client
place_after kind.Schedule p = place.Schedule
place_after k p = p

abbrev pub lock_after : Kind → List Word → Option ℕ → Option ℕ
lock_after kind.Lock ws lock = number most_time (second ws)
lock_after k ws lock = lock

abbrev pub beat_after : Kind → List Word → Option ℕ → Option ℕ
beat_after kind.Beat ws beat = number most_time (second ws)
beat_after k ws beat = beat

abbrev pub names_after : Kind → List Word → List Word → List Word
names_after kind.Client ws names = names ++ second ws ∷ []
names_after k ws names = names

-- a command more for the last client
abbrev pub with_command : Command → List Block → List Block
with_command c [] = []
with_command c (b ∷ []) = record { name = b.name; commands = b.commands ++ c ∷ [] } ∷ []
with_command c (b ∷ d ∷ bs) = b ∷ with_command c (d ∷ bs)

abbrev pub clients_after : Kind → List Word → List Block → List Block
clients_after kind.Client ws clients = clients ++ record { name = second ws; commands = [] } ∷ []
clients_after kind.Command ws clients = with_command (meant_command (command_line ws)) clients
clients_after k ws clients = clients

abbrev pub commands_after : Kind → List Word → ℕ → ℕ
commands_after kind.Command ws commands = commands + weight (command_line ws)
commands_after k ws commands = commands

abbrev pub turns_after : Kind → List Word → List Word → List Turn → List Turn
turns_after kind.Event ws names turns = turns ++ turn_of names ws ∷ []
turns_after k ws names turns = turns

-- what the lines so far say: where the next line stands, the lock and the beat that stood, the
-- clients' names, the clients with their commands, how many commands count, and the turns
pub record SoFar : Type 0 where
  pub place : Place
  pub lock : Option ℕ
  pub beat : Option ℕ
  pub names : List Word
  pub clients : List Block
  pub commands : ℕ
  pub turns : List Turn

abbrev pub nothing : SoFar
nothing = record { place = place.Start; lock = None; beat = None; names = []; clients = []; commands = 0; turns = [] }

-- and with one line more, of this kind
abbrev pub after : Kind → List Word → SoFar → SoFar
after k ws s = record {
  place = place_after k s.place;
  lock = lock_after k ws s.lock;
  beat = beat_after k ws s.beat;
  names = names_after k ws s.names;
  clients = clients_after k ws s.clients;
  commands = commands_after k ws s.commands;
  turns = turns_after k ws s.names s.turns;
}

-- the same of the lines before a line, the nearest first
abbrev pub so_far : List (List Word) → SoFar
so_far [] = nothing
so_far (ws ∷ before) = after (kind_of (so_far before).place ws) ws (so_far before)

abbrev pub is_schedule : Place → Bool
is_schedule place.Schedule = true
is_schedule p = false

-- the deployment that the lines say; `lock` is 10 and `beat` 30 where they don't
abbrev pub meant : SoFar → Deployment
meant s = record {
  config = record { lock = unwrap_or s.lock 10; beat = unwrap_or s.beat 30 };
  clients = s.clients;
  turns = s.turns;
  scheduled = is_schedule s.place;
}

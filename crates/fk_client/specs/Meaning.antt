-- What a client means: its session, what its commands ask, the greatest number that it has printed, and what it
-- holds, by the rules of clients; a command that it sent is kept as the code has it.
use Rattle.std.specs.Prelude.{ℕ, Bool, true, false, ◌&&◌, List, Option, Some, None}
use Rattle.fk_spec.specs.Client.{Client, fresh_client, is_none_sent, next_asked}
use Rattle.fk_spec.specs.Plan.{Ask, Want, Unfit, Writes, Reads}
use Rattle.fk_client.specs.declared.unanswered.Unanswered.{Unanswered}

pub record Meaning : Type 0 where
  pub session : ℕ
  pub asks : List Ask
  pub seen : ℕ
  pub client : Client Unanswered

-- a client that did nothing yet
abbrev pub new_client : ℕ → List Ask → Meaning
new_client session asks = record { session = session; asks = asks; seen = 0; client = fresh_client }

-- it holds this
abbrev pub holding : Client Unanswered → Meaning → Meaning
holding c m = record m { client = c }

-- what its next command asks
abbrev pub next_ask : Meaning → Option Ask
next_ask m = next_asked m.asks m.client

abbrev pub is_read : Want → Bool
is_read Unfit = false
is_read (Writes r) = false
is_read (Reads q watch) = true

-- whether a command asks for a read
abbrev pub asks_read : Option Ask → Bool
asks_read None = false
asks_read (Some a) = is_read a.want

abbrev pub is_none_next : Option Ask → Bool
is_none_next None = true
is_none_next (Some a) = false

-- whether every command has been answered
abbrev pub is_finished : Meaning → Bool
is_finished m = is_none_sent m.client.sent && is_none_next (next_ask m)

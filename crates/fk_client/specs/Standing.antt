-- What the fields of a client mean.
use Rattle.std.specs.Prelude.{ℕ, List, [], ◌∷◌, Option, Some, None}
use Rattle.fk_spec.specs.Plan.{asks_of}
use Rattle.fk_client.specs.Known.{reading_in}
use Rattle.fk_client.specs.Meaning.{Meaning}
use Rattle.fk_client.specs.declared.client.Client.{Client}

abbrev pub pings_of : Option ℕ → List ℕ
pings_of None = []
pings_of (Some n) = n ∷ []

-- what a client means; code above doesn't look into it
unfoldable pub client_of : Client → Meaning
client_of c = record {
  session = c.session;
  asks = asks_of c.commands;
  seen = c.seen;
  client = record {
    begun = c.begun;
    sent = c.sent;
    held = c.held.items;
    owed = pings_of c.owed;
    reading = reading_in c.reading;
    closed = c.closed;
  };
}

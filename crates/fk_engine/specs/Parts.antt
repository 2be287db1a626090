-- What everything but the past means: the times, the functions, the clients and the services.
use Rattle.std.specs.Prelude.{ℕ, List, map}
use Rattle.fk_client.specs.Meaning as client
use Rattle.fk_client.specs.Standing.{client_of}
use Rattle.fk_store.specs.Meaning as table
use Rattle.fk_engine.specs.declared.parts.Parts.{Parts}
use Rattle.fk_engine.specs.declared.times.Times.{Times}
use Rattle.fk_engine.specs.Flights as functions
use Rattle.fk_engine.specs.FlightsStanding.{functions_of}
use Rattle.fk_engine.specs.Serving.{services_of}
use Rattle.fk_watch.specs.Services.{Services}

-- the clients stand in the order of their sessions
pub record Meaning : Type 0 where
  pub times : Times
  pub functions : functions.Meaning
  pub clients : List client.Meaning
  pub services : Services

-- what these parts mean, where `meaning` says it of the table
abbrev pub parts_of : {T : Type 0} → (T → table.Meaning) → Parts T → Meaning
parts_of meaning p = record {
  times = p.times;
  functions = functions_of p.functions;
  clients = map client_of p.clients.items;
  services = services_of meaning p.services;
}

-- ---- one of them in place of what it was

abbrev pub with_clock : ℕ → Meaning → Meaning
with_clock moment p = record p { times = record p.times { clock = moment } }

abbrev pub with_functions : functions.Meaning → Meaning → Meaning
with_functions f p = record p { functions = f }

abbrev pub with_services : Services → Meaning → Meaning
with_services s p = record p { services = s }

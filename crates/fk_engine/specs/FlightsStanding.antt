-- What the fields of the functions mean.
use Rattle.std.specs.Prelude.{option_map}
use Rattle.fk_watch.specs.Setting.{at}
use Rattle.fk_engine.specs.Flights.{Meaning}
use Rattle.fk_engine.specs.Machines.{machine_of}
use Rattle.fk_engine.specs.declared.functions.Functions.{Functions}

-- what the functions mean; code above doesn't look into it
unfoldable pub functions_of : Functions → Meaning
functions_of f = record { started = f.started; running = λ n. option_map machine_of (at n f.running.entries) }

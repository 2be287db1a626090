-- The watches of a note, as a message lists them and as a history sees them.
use Rattle.std.specs.Prelude.{ℕ, List, map}
use Rattle.fk_wire.specs.declared.fired.Fired.{Fired}
use Rattle.fk_wire.specs.declared.message.Tell.{Tell}
use Rattle.fk_wire.specs.declared.message.Tell.TheVariants as tell
use Rattle.fk_spec.specs.Watches.{Firing}

-- a watch that fired, as a message lists it
abbrev pub fired_as : Firing → Fired
fired_as f = record {
  id = f.watch.id;
  session = f.watch.session;
  path = f.watch.path;
  kind = f.watch.kind;
  change = f.change;
}

-- what its client is told
abbrev pub watch_tell : Firing → Tell
watch_tell f = tell.Watch f.tx (fired_as f)

-- a watch that a message lists, and that push tx fired
abbrev pub firing_as : ℕ → Fired → Firing
firing_as tx f = record {
  watch = record { id = f.id; session = f.session; path = f.path; kind = f.kind };
  tx = tx;
  change = f.change;
}

abbrev pub firings_as : ℕ → List Fired → List Firing
firings_as tx fs = map (firing_as tx) fs

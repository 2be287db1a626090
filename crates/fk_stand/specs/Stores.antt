-- What the user storage and the table of watches hold after a history.
use Rattle.std.specs.Prelude.{ℕ, false, List, option_map}
use Rattle.fk_print.specs.declared.entry.Entry.{Entry}
use Rattle.fk_user.specs.Meaning as user
use Rattle.fk_watch.specs.declared.watch.Watch.{Watch}
use Rattle.fk_watch.specs.declared.watch.Firing.{Firing}
use Rattle.fk_watch.specs.Meaning.{Watches}
use Rattle.fk_spec.specs.Plan.{Plan}
use Rattle.fk_spec.specs.Settling.{mark_of, swept_of}
use Rattle.fk_spec.specs.Stored.{record_of, stamp_of}
use Rattle.fk_spec.specs.Watches as rules
use Rattle.fk_spec.specs.Watches.{fired_watches, firing_with, given_of, last_sweep, published_epoch, set_watches}
use Rattle.fk_spec.specs.WatchNumbers.{watch_with}

-- What the user storage holds after a history: for each path the node that the commits up to its stamp leave there,
-- the mark, and the epoch of the last publication. It is calm, and its calls failed so many times.
abbrev pub store_after : Plan → List Entry → ℕ → user.Meaning
store_after p h faults = record {
  records = λ path. record { node = record_of p path h; stamp = stamp_of path h };
  mark = mark_of h;
  epoch = published_epoch p h;
  armed = false;
  faults = faults;
}

abbrev pub watch_as : rules.Watch → Watch
watch_as w = record { session = w.session; path = w.path; kind = w.kind }

abbrev pub firing_as : rules.Firing → Firing
firing_as f = record { watch = watch_as f.watch; tx = f.tx; change = f.change }

-- What the table of watches holds after a history: how many numbers were given, the set watches and those that
-- fired and aren't told by their numbers, the last sweep, and the last one of each path. It is calm, and its calls
-- failed so many times.
abbrev pub watches_after : Plan → List Entry → ℕ → Watches
watches_after p h faults = record {
  given = given_of h;
  set = λ id. option_map watch_as (watch_with id (set_watches p h));
  fired = λ id. option_map firing_as (firing_with id (fired_watches p h));
  swept = swept_of h;
  last = λ path. last_sweep p path h;
  armed = false;
  faults = faults;
}

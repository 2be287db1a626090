-- What the fields of a table keep.
use Rattle.fk_watch.specs.declared.table.WatchTable.TheInside.{Inside}
use Rattle.fk_watch.specs.Kept.{Kept}

-- what a table keeps in its fields
abbrev pub kept_in : Inside → Kept
kept_in t = record {
  given = t.given;
  set = t.set;
  fired = t.fired.entries;
  swept = t.swept;
  sweeps = t.sweeps.entries;
  armed = t.armed;
  faults = t.faults;
}

-- What a table of ordered maps means.
use Rattle.fk_store.specs.Meaning.{Meaning}
use Rattle.fk_store.specs.Numbered.{session_at}
use Rattle.fk_index.specs.declared.index_table.IndexTable.{IndexTable}
use Rattle.fk_index.specs.Slots.{record_at}

-- the record of a path is the one at its place, and that of session s stands at place s from 1
abbrev pub table_of : IndexTable → Meaning
table_of t = record {
  nodes = λ p. record_at t.slots p;
  sessions = λ s. session_at s t.sessions.items;
  done = t.done;
  armed = t.armed;
  faults = t.faults;
}

-- What a table of lists means.
use Rattle.std.specs.Prelude.{ℕ, Option, Some, None}
use Rattle.fk_store.specs.declared.cond.Found.{Found}
use Rattle.fk_store.specs.declared.list_table.ListTable.{ListTable}
use Rattle.fk_store.specs.Meaning.{Meaning}
use Rattle.fk_store.specs.Conds.{Miss}
use Rattle.fk_store.specs.Numbered.{session_at}
use Rattle.fk_store.specs.Rows.{row_record}

-- the record of a path is the one in its first row, and that of session s stands at place s from 1
abbrev pub table_of : ListTable → Meaning
table_of t = record {
  nodes = λ p. row_record p t.rows.items;
  sessions = λ s. session_at s t.sessions.items;
  done = t.done;
  armed = t.armed;
  faults = t.faults;
}

-- a place and what was found there
abbrev pub miss_of : Option (ℕ × Found) → Option Miss
miss_of None = None
miss_of (Some m) = Some (record { place = m.0; found = m.1 })

-- Records of sessions in a list: the first is that of session 1.
use Rattle.std.specs.Prelude.{ℕ, zero, suc, ◌==◌, if◌then◌else◌, List, [], ◌∷◌, Option, Some, None}
use Rattle.fk_store.specs.declared.session_record.SessionRecord.{SessionRecord}
use Rattle.fk_store.specs.declared.write.Write.{Write}
use Rattle.fk_store.specs.Meaning.{new_session}
use Rattle.fk_store.specs.Writes.{session_written}

-- the record of session s, where the first is that of session i
abbrev pub session_from : ℕ → ℕ → List SessionRecord → Option SessionRecord
session_from i s [] = None
session_from i s (r ∷ rs) = if i == s then Some r else session_from (suc i) s rs

abbrev pub session_at : ℕ → List SessionRecord → Option SessionRecord
session_at = session_from 1

-- the records after the writes, where the first is that of session i
abbrev pub sessions_written : ℕ → List Write → List SessionRecord → List SessionRecord
sessions_written i ws [] = []
sessions_written i ws (r ∷ rs) = session_written i ws r ∷ sessions_written (suc i) ws rs

-- so many empty records
abbrev pub new_sessions : ℕ → List SessionRecord
new_sessions zero = []
new_sessions (suc count) = new_session ∷ new_sessions count

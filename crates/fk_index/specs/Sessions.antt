-- Records of sessions as they will be, by their numbers, over those of a table.
use Rattle.std.specs.Prelude.{◌≡◌, ℕ, ◌==◌, false, if◌then◌else◌, Bool, true, List, Option, Some, None, is_some}
use Rattle.std.specs.BTreeMap as tree
use Rattle.std.specs.BTreeMap.{BTreeMap}
use Rattle.std.specs.Ordering.{nat_cmp}
use Rattle.fk_store.specs.declared.session_record.SessionRecord.{SessionRecord}
use Rattle.fk_store.specs.declared.write.Write.{Write}
use Rattle.fk_store.specs.Writes.{is_of_session, session_by, session_written}
use Rattle.fk_tree.specs.Tree.{map_some}
use Rattle.fk_store.specs.Numbered.{session_at}

abbrev pub SessionDrafts : Type 0
SessionDrafts = BTreeMap ℕ SessionRecord

abbrev pub or_kept : Option SessionRecord → Option SessionRecord → Option SessionRecord
or_kept None o = o
or_kept (Some r) o = Some r

-- the record of a session: the draft's where it has one, else the table's
abbrev pub session_over : SessionDrafts → List SessionRecord → ℕ → Option SessionRecord
session_over d rs s = or_kept (tree.get nat_cmp d s) (session_at s rs)

abbrev pub is_drafted : SessionDrafts → ℕ → Bool
is_drafted d s = is_some (tree.get nat_cmp d s)

-- the records stay
abbrev pub KeepOver : SessionDrafts → SessionDrafts → List SessionRecord → Type 0
KeepOver d e rs = (s : ℕ) → session_over e rs s ≡ session_over d rs s

-- each record is this of its number and of it
abbrev pub AreMadeOver : (ℕ → SessionRecord → SessionRecord) → SessionDrafts → SessionDrafts → List SessionRecord → Type 0
AreMadeOver f d e rs = (s : ℕ) → session_over e rs s ≡ map_some (f s) (session_over d rs s)

-- the draft stands over the records that the writes leave
abbrev pub AreLeft : List Write → SessionDrafts → List SessionRecord → Type 0
AreLeft ws d rs = (s : ℕ) → session_over d rs s ≡ map_some (session_written s ws) (session_at s rs)

-- a write is one of the record of this session, or of none
abbrev pub IsOfSession : Write → ℕ → Type 0
IsOfSession w t = (s : ℕ) → is_of_session s w ≡ (t == s)

abbrev pub IsOfNone : Write → Type 0
IsOfNone w = (s : ℕ) → is_of_session s w ≡ false

-- one record is this, and the others stay
abbrev pub IsPut : ℕ → SessionRecord → List SessionRecord → List SessionRecord → Type 0
IsPut t r rs xs = (s : ℕ) → session_at s xs ≡ (if t == s then Some r else session_at s rs)

-- the records are those of the draft, where it has one
abbrev pub ArePut : SessionDrafts → List SessionRecord → List SessionRecord → Type 0
ArePut d rs xs = (s : ℕ) → session_at s xs ≡ session_over d rs s

-- each session of the draft exists
abbrev pub AreThere : SessionDrafts → List SessionRecord → Type 0
AreThere d rs = (s : ℕ) → is_drafted d s ≡ true → is_some (session_at s rs) ≡ true

-- a write was made in the draft's record of its session
abbrev pub IsWritten : SessionDrafts → SessionDrafts → ℕ → Write → Type 0
IsWritten d e t w = (s : ℕ) → tree.get nat_cmp e s ≡ (if t == s then map_some (session_by w) (tree.get nat_cmp d s) else tree.get nat_cmp d s)

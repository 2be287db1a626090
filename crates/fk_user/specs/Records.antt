-- The records of paths, as a user store keeps them.
use Rattle.std.specs.Prelude.{◌≡◌, ℕ, Bool, true, if◌then◌else◌, List, Option, Some, None, is_some}
use Rattle.std.specs.BTreeMap.{is_at}
use Rattle.std.specs.Map.{lookup}
use Rattle.fk_base.specs.Path.{PathNames, name_cmp, path_cmp, same_path}
use Rattle.fk_tree.specs.Rows.{names_of}
use Rattle.fk_tree.specs.Sorted.{rises}
use Rattle.fk_tree.specs.declared.edit.Edit.{Edit}
use Rattle.fk_user.specs.declared.record.UserRecord.{UserRecord}
use Rattle.fk_user.specs.Meaning.{no_record, put_record}

-- paths with their records
abbrev pub Records : Type 0
Records = List (PathNames × UserRecord)

-- the record of a path, where it has one
abbrev pub record_at : Records → PathNames → Option UserRecord
record_at records p = lookup (is_at (path_cmp p)) records

-- whether a path has a record
abbrev pub has_record : Records → PathNames → Bool
has_record records p = is_some (record_at records p)

-- a path without a record counts as one that shows nothing
abbrev pub or_no_record : Option UserRecord → UserRecord
or_no_record None = no_record
or_no_record (Some r) = r

-- the record of a path
abbrev pub record_in : Records → PathNames → UserRecord
record_in records p = or_no_record (record_at records p)

-- the same record of each path
abbrev pub KeepsRecords : Records → Records → Type 0
KeepsRecords records others = (p : PathNames) → record_in others p ≡ record_in records p

-- one path has its record after edits of its node, and the others keep theirs
abbrev pub IsEdited : Records → Records → PathNames → ℕ → ℕ → List Edit → Type 0
IsEdited records others p tx moment es = (q : PathNames) → record_in others q ≡ (if same_path q p then put_record p tx moment es (record_in records q) else record_in records q)

-- the child names of each record's node rise
abbrev pub AreRising : Records → Type 0
AreRising records = (p : PathNames) → rises name_cmp (names_of (record_in records p).node) ≡ true

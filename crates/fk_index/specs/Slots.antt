-- The records of paths in an ordered map. A place may stand without a record, as if it weren't there.
use Rattle.std.specs.Prelude.{◌≡◌, if◌then◌else◌, Bool, true, Option, Some, None, is_some}
use Rattle.std.specs.BTreeMap as tree
use Rattle.std.specs.BTreeMap.{BTreeMap}
use Rattle.fk_base.specs.Path.{PathNames, name_cmp, path_cmp, same_path}
use Rattle.fk_tree.specs.Rows.{names_of}
use Rattle.fk_tree.specs.Sorted.{rises}
use Rattle.fk_tree.specs.declared.node.Node.{Node}
use Rattle.fk_store.specs.declared.node_record.NodeRecord.{NodeRecord}
use Rattle.fk_store.specs.Meaning.{or_no_record}

abbrev pub Slots : Type 0
Slots = BTreeMap PathNames (Option NodeRecord)

abbrev pub flat : {A : Type 0} → Option (Option A) → Option A
flat None = None
flat (Some o) = o

-- the record of a path
abbrev pub record_at : Slots → PathNames → Option NodeRecord
record_at m p = flat (tree.get path_cmp m p)

-- whether a path has a place
abbrev pub has_slot : Slots → PathNames → Bool
has_slot m p = is_some (tree.get path_cmp m p)

-- the node of a record; a path without a record has none
abbrev pub node_of : Option NodeRecord → Option Node
node_of o = (or_no_record o).node

-- two maps keep the same record of each path
abbrev pub KeepSame : Slots → Slots → Type 0
KeepSame m n = (p : PathNames) → record_at n p ≡ record_at m p

-- no path loses its place
abbrev pub KeepsSlots : Slots → Slots → Type 0
KeepsSlots m n = (p : PathNames) → has_slot m p ≡ true → has_slot n p ≡ true

-- two maps have places for the same paths
abbrev pub SameSlots : Slots → Slots → Type 0
SameSlots m n = (p : PathNames) → has_slot n p ≡ has_slot m p

-- the child names of each node rise
abbrev pub AreRising : Slots → Type 0
AreRising m = (p : PathNames) → rises name_cmp (names_of (node_of (record_at m p))) ≡ true

-- the record of one path is this of it, and the others stay
abbrev pub IsChanged : (Option NodeRecord → Option NodeRecord) → Slots → Slots → PathNames → Type 0
IsChanged f m n k = (p : PathNames) → record_at n p ≡ (if same_path p k then f (record_at m p) else record_at m p)

-- each record is this of its path and of it
abbrev pub AreChanged : (PathNames → Option NodeRecord → Option NodeRecord) → Slots → Slots → Type 0
AreChanged f m n = (p : PathNames) → record_at n p ≡ f p (record_at m p)

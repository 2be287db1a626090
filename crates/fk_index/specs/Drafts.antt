-- Nodes as they will be, by their paths, over those of a table.
use Rattle.std.specs.Prelude.{◌≡◌, ◌<◌, ℕ, Bool, false, if◌then◌else◌, true, Option, Some, None, is_some}
use Rattle.std.specs.BTreeMap as tree
use Rattle.std.specs.BTreeMap.{BTreeMap}
use Rattle.fk_base.specs.Path.{PathNames, name_cmp, path_cmp, same_path}
use Rattle.fk_tree.specs.Rows.{is_of, names_of}
use Rattle.fk_tree.specs.Sorted.{rises}
use Rattle.fk_tree.specs.Edit.{edit}
use Rattle.fk_tree.specs.declared.edit.Edit.{Edit}
use Rattle.fk_tree.specs.declared.edit.What.{What}
use Rattle.fk_tree.specs.declared.node.Node.{Node}
use Rattle.fk_index.specs.Slots.{Slots, flat, node_of, record_at, KeepSame, KeepsSlots}
use Rattle.fk_index.specs.Owners.{Owners, has_place, KeepMarks}

abbrev pub Drafts : Type 0
Drafts = BTreeMap PathNames (Option Node)

abbrev pub is_drafted : Drafts → PathNames → Bool
is_drafted d p = is_some (tree.get path_cmp d p)

-- the node of a path in the draft
abbrev pub drafted : Drafts → PathNames → Option Node
drafted d p = flat (tree.get path_cmp d p)

abbrev pub or_node : Option (Option Node) → Option Node → Option Node
or_node None o = o
or_node (Some n) o = n

-- the node of a path: the draft's where it has one, else the table's
abbrev pub node_over : Drafts → Slots → PathNames → Option Node
node_over d m p = or_node (tree.get path_cmp d p) (node_of (record_at m p))

-- the child names of each node rise
abbrev pub AreRisingOver : Drafts → Slots → Type 0
AreRisingOver d m = (p : PathNames) → rises name_cmp (names_of (node_over d m p)) ≡ true

-- each node is this of its path and of it
abbrev pub AreMadeOver : (PathNames → Option Node → Option Node) → Drafts → Drafts → Slots → Type 0
AreMadeOver f d e m = (p : PathNames) → node_over e m p ≡ f p (node_over d m p)

-- the nodes of other paths stay
abbrev pub KeepOthers : Drafts → Drafts → Slots → PathNames → Type 0
KeepOthers d e m k = (p : PathNames) → same_path p k ≡ false → node_over e m p ≡ node_over d m p

-- an edit makes the same of both
abbrev pub AreEditedAlike : What → Option Node → Option Node → Type 0
AreEditedAlike w o x = (tx moment : ℕ) → edit tx moment w o ≡ edit tx moment w x

-- the node of a path in the draft is edited
abbrev pub IsEdited : ℕ → ℕ → Edit → Drafts → Drafts → Type 0
IsEdited tx moment e d f = (p : PathNames) → tree.get path_cmp f p ≡ (if same_path p e.path then Some (edit tx moment e.what (drafted d e.path)) else tree.get path_cmp d p)

-- the owner of each node has a place for its path, and child names rise
pub record IsReady (d : Drafts) (m : Slots) (o : Owners) : Type 0 where
  pub places : (s : ℕ) (p : PathNames) → 0 < s → is_of s (node_over d m p) ≡ true → has_place o s p ≡ true
  pub rising : (p : PathNames) → rises name_cmp (names_of (node_over d m p)) ≡ true

-- places came, and the records and the marks are as before
pub record Grows (m : Slots) (o : Owners) (n : Slots) (q : Owners) : Type 0 where
  pub records : KeepSame m n
  pub slots : KeepsSlots m n
  pub marks : KeepMarks o q

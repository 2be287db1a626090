-- The writes of a path in two parts: what they make of its node, and what of the rest of its record.
use Rattle.std.specs.Prelude.{ℕ, Bool, true, if◌then◌else◌, ◌&&◌, List, [], ◌∷◌, Option, Some, None}
use Rattle.fk_base.specs.Path.{PathNames, same_path}
use Rattle.fk_tree.specs.Edit.{edit}
use Rattle.fk_tree.specs.declared.edit.Edit.{Edit}
use Rattle.fk_tree.specs.declared.edit.What.{What}
use Rattle.fk_tree.specs.declared.node.Node.{Node}
use Rattle.fk_store.specs.declared.lock.Lock.{Lock}
use Rattle.fk_store.specs.declared.node_record.NodeRecord.{NodeRecord}
use Rattle.fk_store.specs.declared.write.Write.{Write}
use Rattle.fk_store.specs.declared.write.Write.TheVariants as write
use Rattle.fk_store.specs.Meaning.{or_no_record}
use Rattle.fk_store.specs.Writes.{grant_record, is_of_path, release_record}
use Rattle.fk_index.specs.Slots.{Slots, has_slot, node_of}

-- THE NODE
abbrev pub node_by : Write → Option Node → Option Node
node_by (write.Change e tx moment) o = edit tx moment e.what o
node_by _ o = o

abbrev pub node_after : Write → PathNames → Option Node → Option Node
node_after w p o = if is_of_path p w then node_by w o else o

-- what an edit makes of the node of a path
abbrev pub edit_after : ℕ → ℕ → Edit → PathNames → Option Node → Option Node
edit_after tx moment e p o = if same_path p e.path then edit tx moment e.what o else o

-- what these writes, in their order, make of the node of a path
abbrev pub nodes_written : PathNames → List Write → Option Node → Option Node
nodes_written p [] o = o
nodes_written p (w ∷ ws) o = nodes_written p ws (node_after w p o)

-- THE REST
-- the transaction is the record's last; a path without a record gets one
abbrev pub note_record : ℕ → Option NodeRecord → Option NodeRecord
note_record tx o = Some (record (or_no_record o) { last = tx })

abbrev pub rest_by : Write → Option NodeRecord → Option NodeRecord
rest_by (write.Grant q inv moment) o = grant_record inv moment o
rest_by (write.Release q) o = release_record o
rest_by (write.Change e tx moment) o = note_record tx o
rest_by _ o = o

abbrev pub rest_after : Write → PathNames → Option NodeRecord → Option NodeRecord
rest_after w p o = if is_of_path p w then rest_by w o else o

-- what these writes, in their order, make of a record but for its node
abbrev pub rests_written : PathNames → List Write → Option NodeRecord → Option NodeRecord
rests_written p [] o = o
rests_written p (w ∷ ws) o = rests_written p ws (rest_after w p o)

-- a record but for its node
abbrev pub rest_of : Option NodeRecord → Option (Lock × ℕ)
rest_of None = None
rest_of (Some r) = Some (r.lock, r.last)

-- a record with another node
abbrev pub with_node : Option Node → Option NodeRecord → Option NodeRecord
with_node n None = None
with_node n (Some r) = Some (record r { node = n })

-- a record with its node edited
abbrev pub edited_record : ℕ → ℕ → What → Option NodeRecord → Option NodeRecord
edited_record tx moment w o = with_node (edit tx moment w (node_of o)) o

-- THE PLACES THAT WRITES NEED
-- a path that is granted or changed has a place
abbrev pub has_slot_of : Slots → Write → Bool
has_slot_of m (write.Grant q inv moment) = has_slot m q
has_slot_of m (write.Change e tx moment) = has_slot m e.path
has_slot_of m _ = true

abbrev pub have_slots : Slots → List Write → Bool
have_slots m [] = true
have_slots m (w ∷ ws) = has_slot_of m w && have_slots m ws

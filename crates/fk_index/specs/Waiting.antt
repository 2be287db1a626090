-- An edit that waits until all memory is taken: it is made last, in place of a record's node.
use Rattle.std.specs.Prelude.{◌≡◌, Bool, true, false, ◌&&◌, not, List, Option, Some, None}
use Rattle.fk_base.specs.Path.{PathNames}
use Rattle.fk_tree.specs.declared.edit.What.{What}
use Rattle.fk_tree.specs.declared.edit.What.TheVariants as what
use Rattle.fk_tree.specs.declared.node.Node.{Node}
use Rattle.fk_store.specs.declared.node_record.NodeRecord.{NodeRecord}
use Rattle.fk_store.specs.declared.write.Write.{Write}
use Rattle.fk_index.specs.declared.drafts.Step.{Step}
use Rattle.fk_index.specs.Drafts.{Drafts, is_drafted, node_over, IsReady}
use Rattle.fk_index.specs.Owners.{Owners, AreOwned}
use Rattle.fk_index.specs.Parts.{edit_after, have_slots, node_after, nodes_written, rest_of, with_node}
use Rattle.fk_index.specs.Slots.{Slots, node_of, record_at}

-- an edit that leaves a node its owner, and that looks at the node
abbrev pub keeps_owner : What → Bool
keeps_owner (what.Make bytes owner) = false
keeps_owner (what.Replace bytes) = true
keeps_owner what.Remove = false
keeps_owner (what.AddName x) = true
keeps_owner (what.DropName x) = true

-- what an edit makes of the node of a path
abbrev pub step_after : Step → PathNames → Option Node → Option Node
step_after s = edit_after s.tx s.moment s.change.now

-- a write makes this edit of nodes, or none
abbrev pub Edits : Step → Write → Type 0
Edits s w = (p : PathNames) (o : Option Node) → step_after s p o ≡ node_after w p o

abbrev pub EditsNone : Write → Type 0
EditsNone w = (p : PathNames) (o : Option Node) → o ≡ node_after w p o

-- the same of an edit that may wait
abbrev pub pended : Option Step → PathNames → Option Node → Option Node
pended None p o = o
pended (Some s) p o = step_after s p o

-- a record with its node as an edit that may wait leaves it
abbrev pub pended_record : Option Step → PathNames → Option NodeRecord → Option NodeRecord
pended_record w p o = with_node (pended w p (node_of o)) o

-- an edit may wait where its node isn't in the draft
abbrev pub is_lone : Drafts → Step → Bool
is_lone d s = keeps_owner s.change.now.what && not (is_drafted d s.change.now.path)

abbrev pub may_wait : Drafts → Option Step → Bool
may_wait d None = true
may_wait d (Some s) = is_lone d s

-- an edit is made in the draft, or it waits
abbrev pub Begins : Drafts → Drafts → Slots → Step → Option Step → Type 0
Begins d e m s None = (p : PathNames) → node_over e m p ≡ step_after s p (node_over d m p)
Begins d e m s (Some t) = (t ≡ s) × (e ≡ d) × (is_lone d s ≡ true)

-- these nodes stand over a table, once the edit that waits is made
pub record Stands (nodes_are : PathNames → Option Node) (w : Option Step) (d : Drafts) (m : Slots) (o : Owners) : Type 0 where
  pub ready : IsReady d m o
  pub lone : may_wait d w ≡ true
  pub nodes : (p : PathNames) → pended w p (node_over d m p) ≡ nodes_are p

-- two maps keep the same of each record but for its node
abbrev pub KeepRests : Slots → Slots → Type 0
KeepRests m n = (p : PathNames) → rest_of (record_at n p) ≡ rest_of (record_at m p)

-- the writes have all that they need: the draft stands over the nodes that they leave of the first map
pub record IsPrepared (ws : List Write) (m : Slots) (d : Drafts) (n : Slots) (o : Owners) : Type 0 where
  pub slots : have_slots n ws ≡ true
  pub ready : IsReady d n o
  pub owned : AreOwned n o
  pub nodes : (p : PathNames) → node_over d n p ≡ nodes_written p ws (node_of (record_at m p))
  pub rests : KeepRests m n

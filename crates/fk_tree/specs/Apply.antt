-- The tree after an applied request, and the reply.
use Rattle.std.specs.Prelude.{◌≡◌, ◌<◌, ℕ, if◌then◌else◌, List, [], ◌∷◌, Option, Some, None}
use Rattle.std.specs.FinMap.{get, insert, remove, contains_key}
use Rattle.fk_base.specs.Path.{PathNames, parent}
use Rattle.fk_tree.specs.Tree.{Bare, Nodes, Tree, map_some, up, fresh}
use Rattle.fk_tree.specs.View.{look}
use Rattle.fk_tree.specs.Edit.{closes, owner_for}
use Rattle.fk_tree.specs.Fill.{fill}
use Rattle.fk_tree.specs.Check.{check}
use Rattle.fk_tree.specs.declared.applied.Applied.{Applied}
use Rattle.fk_tree.specs.declared.applied.Made.{Made}
use Rattle.fk_tree.specs.declared.reply.Reply.{Reply}
use Rattle.fk_tree.specs.declared.reply.Reply.TheVariants as reply
use Rattle.fk_tree.specs.declared.reply.PartReply.{PartReply}
use Rattle.fk_tree.specs.declared.reply.PartReply.TheVariants as part_reply
use Rattle.fk_tree.specs.declared.request.Part.{Part}
use Rattle.fk_tree.specs.declared.request.Part.TheVariants as part
use Rattle.fk_tree.specs.declared.request.Request.{Request}
use Rattle.fk_tree.specs.declared.request.Request.TheVariants as request

-- the parent after a create of a child
abbrev pub grown : ℕ → Bare → Bare
grown tx b = record b { cversion = up b.cversion; made = up b.made; pzxid = tx }

-- the parent after a delete of a child
abbrev pub shrunk : ℕ → Bare → Bare
shrunk tx b = record b { cversion = up b.cversion; pzxid = tx }

-- a node after a set
abbrev pub replaced : List ℕ → ℕ → ℕ → Bare → Bare
replaced bytes tx moment b = record b { bytes = bytes; version = up b.version; mzxid = tx; mtime = moment }

abbrev pub put_some : PathNames → Option Bare → Nodes → Nodes
put_some p None t = t
put_some p (Some b) t = insert t p b

-- f done to the node of p, where there is one
abbrev pub at_path : PathNames → (Bare → Bare) → Nodes → Nodes
at_path p f t = put_some p (map_some f (get t p)) t

-- a new node at p, and its parent grown
abbrev pub create_node : PathNames → List ℕ → ℕ → ℕ → ℕ → Nodes → Nodes
create_node p bytes owner tx moment t = insert (at_path (parent p) (grown tx) t) p (fresh bytes owner tx moment)

abbrev pub set_node : PathNames → List ℕ → ℕ → ℕ → Nodes → Nodes
set_node p bytes tx moment t = at_path p (replaced bytes tx moment) t

-- without the node of p, and its parent shrunk; nothing where there is none
abbrev pub delete_node : PathNames → ℕ → Nodes → Nodes
delete_node p tx t = if contains_key t p then at_path (parent p) (shrunk tx) (remove t p) else t

abbrev pub delete_nodes : List PathNames → ℕ → Nodes → Nodes
delete_nodes [] tx t = t
delete_nodes (p ∷ ps) tx t = delete_nodes ps tx (delete_node p tx t)

-- the nodes after a part of a multi that came to this
abbrev pub apply_part : Applied → Part → Made → Nodes → Nodes
apply_part a (part.Create p bytes eph) m t = create_node m.name bytes (owner_for a.session eph) a.tx a.moment t
apply_part a (part.Set p bytes version) m t = set_node p bytes a.tx a.moment t
apply_part a (part.Delete p version) m t = delete_node p a.tx t

-- the parts in order, under one transaction and one moment
abbrev pub apply_parts : Applied → List Part → List Made → Nodes → Nodes
apply_parts a [] ms t = t
apply_parts a (p ∷ ps) [] t = t
apply_parts a (p ∷ ps) (m ∷ ms) t = apply_parts a ps ms (apply_part a p m t)

-- the nodes after an applied request
abbrev pub apply_nodes : Applied → Request → Nodes → Nodes
apply_nodes a (request.Create p bytes seq eph) t = create_node a.name bytes (owner_for a.session eph) a.tx a.moment t
apply_nodes a (request.Set p bytes version) t = set_node p bytes a.tx a.moment t
apply_nodes a (request.Delete p version) t = delete_node p a.tx t
apply_nodes a (request.Close evict) t = delete_nodes a.gone a.tx t
apply_nodes a (request.Multi ps) t = apply_parts a ps a.made t

-- the tree after an applied request; a close also closes its session
abbrev pub apply : Tree → Applied → Tree
apply t a = record { nodes = apply_nodes a a.request t.nodes; closed = if closes a.request then a.session ∷ t.closed else t.closed }

-- what a part that came to this is answered
abbrev pub part_reply_of : Part → Made → PartReply
part_reply_of (part.Create p bytes eph) m = part_reply.Created m.name
part_reply_of (part.Set p bytes version) m = part_reply.Version m.version
part_reply_of (part.Delete p version) m = part_reply.Deleted

abbrev pub part_replies : List Part → List Made → List PartReply
part_replies [] ms = []
part_replies (p ∷ ps) [] = []
part_replies (p ∷ ps) (m ∷ ms) = part_reply_of p m ∷ part_replies ps ms

abbrev pub reply_to : Applied → Request → Reply
reply_to a (request.Create p bytes seq eph) = reply.Created a.name
reply_to a (request.Set p bytes version) = reply.Version a.version
reply_to a (request.Delete p version) = reply.Deleted
reply_to a (request.Close evict) = reply.Closed
reply_to a (request.Multi ps) = reply.Multi (part_replies ps a.made)

-- the final path of a create, the new version of a set, and the replies of a multi's parts
abbrev pub reply_of : Applied → Reply
reply_of a = reply_to a a.request

-- a session's request that passes on this tree, as it is filled from it
pub record IsFilled (t : Tree) (a : Applied) : Type 0 where
  pub session : 0 < a.session
  pub passes : check (look t) a.session a.request ≡ None
  pub filled : a ≡ fill t a.tx a.moment a.session a.k a.request

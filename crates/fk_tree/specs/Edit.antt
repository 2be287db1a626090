-- What an applied request does, node by node.
use Rattle.std.specs.Prelude.{ℕ, ◌==◌, Bool, true, false, if◌then◌else◌, ◌||◌, List, [], ◌∷◌, ◌++◌, Option, Some, None}
use Rattle.fk_base.specs.Path.{PathNames, same_path, parent, last_name, is_root}
use Rattle.fk_tree.specs.Sorted.{has_name, add_name, drop_name}
use Rattle.fk_tree.specs.Tree.{with_names, fresh, map_some, up}
use Rattle.fk_tree.specs.View.{View, start_view}
use Rattle.fk_tree.specs.declared.node.Node.{Node}
use Rattle.fk_tree.specs.declared.applied.Applied.{Applied}
use Rattle.fk_tree.specs.declared.applied.Made.{Made}
use Rattle.fk_tree.specs.declared.edit.Edit.{Edit}
use Rattle.fk_tree.specs.declared.edit.What.{What}
use Rattle.fk_tree.specs.declared.edit.What.TheVariants as what
use Rattle.fk_tree.specs.declared.request.Part.{Part}
use Rattle.fk_tree.specs.declared.request.Part.TheVariants as part
use Rattle.fk_tree.specs.declared.request.Request.{Request}
use Rattle.fk_tree.specs.declared.request.Request.TheVariants as request

-- a new value: one version more, changed by tx at this moment
abbrev pub with_bytes : List ℕ → ℕ → ℕ → Node → Node
with_bytes bytes tx moment n = record n { bytes = bytes; version = up n.version; mzxid = tx; mtime = moment }

-- a child came: cversion and made rise, and pzxid is tx; nothing where the name is there
abbrev pub with_child : List ℕ → ℕ → Node → Node
with_child x tx n = if has_name x n.names then n else record n { cversion = up n.cversion; made = up n.made; pzxid = tx; names = add_name x n.names }

-- a child went: cversion rises, and pzxid is tx; nothing where the name isn't there
abbrev pub without_child : List ℕ → ℕ → Node → Node
without_child x tx n = if has_name x n.names then record n { cversion = up n.cversion; pzxid = tx; names = drop_name x n.names } else n

-- One edit of one node. Make puts its node in place of what is there; any other edit of a missing
-- node changes nothing.
abbrev pub edit : ℕ → ℕ → What → Option Node → Option Node
edit tx moment (what.Make bytes owner) o = Some (with_names [] (fresh bytes owner tx moment))
edit tx moment (what.Replace bytes) o = map_some (with_bytes bytes tx moment) o
edit tx moment what.Remove o = None
edit tx moment (what.AddName x) o = map_some (with_child x tx) o
edit tx moment (what.DropName x) o = map_some (without_child x tx) o

-- an edit of the parent of p; the root has none
abbrev pub of_parent : PathNames → What → List Edit
of_parent p w = if is_root p then [] else record { path = parent p; what = w } ∷ []

-- the owner of a node that a session makes: the session of an ephemeral node, else 0
abbrev pub owner_for : ℕ → Bool → ℕ
owner_for session eph = if eph then session else 0

-- the new node, then its name in the parent
abbrev pub create_edits : PathNames → List ℕ → ℕ → List Edit
create_edits p bytes owner = record { path = p; what = what.Make bytes owner } ∷ of_parent p (what.AddName (last_name p))

abbrev pub set_edits : PathNames → List ℕ → List Edit
set_edits p bytes = record { path = p; what = what.Replace bytes } ∷ []

-- the node goes, then its name in the parent
abbrev pub delete_edits : PathNames → List Edit
delete_edits p = record { path = p; what = what.Remove } ∷ of_parent p (what.DropName (last_name p))

-- so many deletes, one after another
abbrev pub deletes_edits : List PathNames → List Edit
deletes_edits [] = []
deletes_edits (p ∷ ps) = delete_edits p ++ deletes_edits ps

-- the edits of a part of a multi that came to this
abbrev pub part_edits : ℕ → Part → Made → List Edit
part_edits session (part.Create p bytes eph) m = create_edits m.name bytes (owner_for session eph)
part_edits session (part.Set p bytes version) m = set_edits p bytes
part_edits session (part.Delete p version) m = delete_edits p

-- part by part, each by what it came to
abbrev pub parts_edits : ℕ → List Part → List Made → List Edit
parts_edits session [] ms = []
parts_edits session (p ∷ ps) [] = []
parts_edits session (p ∷ ps) (m ∷ ms) = part_edits session p m ++ parts_edits session ps ms

abbrev pub effects_of : Applied → Request → List Edit
effects_of a (request.Create p bytes seq eph) = create_edits a.name bytes (owner_for a.session eph)
effects_of a (request.Set p bytes version) = set_edits p bytes
effects_of a (request.Delete p version) = delete_edits p
effects_of a (request.Close evict) = deletes_edits a.gone
effects_of a (request.Multi ps) = parts_edits a.session ps a.made

-- the edits of an applied request, in their order
abbrev pub effects : Applied → List Edit
effects a = effects_of a a.request

-- what the edits leave at p: those of p, one after another
abbrev pub edited : ℕ → ℕ → PathNames → List Edit → Option Node → Option Node
edited tx moment p [] o = o
edited tx moment p (e ∷ es) o = edited tx moment p es (if same_path p e.path then edit tx moment e.what o else o)

abbrev pub closes : Request → Bool
closes (request.Close evict) = true
closes _ = false

-- a view after edits of its nodes
abbrev pub after_edits : View → ℕ → ℕ → List Edit → View
after_edits v tx moment es = record { node = λ p. edited tx moment p es (v.node p); closed = v.closed }

-- a view after an applied request: its edits are made, and a close closes its session
abbrev pub after : View → Applied → View
after v a = record { node = λ p. edited a.tx a.moment p (effects a) (v.node p); closed = λ s. if closes a.request then (a.session == s) || v.closed s else v.closed s }

-- what a view shows after applied requests, the newest first
abbrev pub view_after : List Applied → View
view_after [] = start_view
view_after (a ∷ done) = after (view_after done) a

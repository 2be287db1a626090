-- The tree that a list of rows keeps.
use Rattle.std.specs.Prelude.{◌≡◌, ◌<◌, ◌==◌, ℕ, Bool, true, false, if◌then◌else◌, ◌||◌, List, [], ◌∷◌, ◌++◌, Option, Some, None, is_some, refl}
use Rattle.std.specs.Coded.{Coded, code_by, coded×, coded_list, coded_ℕ}
use Rattle.std.specs.BTreeMap as tree
use Rattle.std.specs.BTreeMap.{BTreeMap}
use Rattle.std.specs.BTreeSet.{BTreeSet, contains}
use Rattle.std.specs.FinMap as map
use Rattle.std.specs.FinMap.{get, insert, remove, empty}
use Rattle.std.specs.Ordering.{nat_cmp}
use Rattle.fk_base.specs.Path.{Name, PathNames, name_cmp, path_cmp, same_path, is_root}
use Rattle.fk_tree.specs.Sorted.{rises}
use Rattle.fk_tree.specs.declared.node.Node.{Node}
use Rattle.fk_tree.specs.declared.edit.Edit.{Edit}
use Rattle.fk_tree.specs.declared.edit.What.{What}
use Rattle.fk_tree.specs.declared.edit.What.TheVariants as what
use Rattle.fk_base.specs.declared.code.Code.{Code}
use Rattle.fk_base.specs.declared.code.Code.TheVariants as code
use Rattle.fk_tree.specs.declared.slots.Changed.{Changed}
use Rattle.fk_tree.specs.Tree.{Bare, Nodes, Tree, node_view}
use Rattle.fk_tree.specs.declared.request.Request.{Request}
use Rattle.fk_tree.specs.declared.request.Request.TheVariants as request
use Rattle.fk_tree.specs.View.{View}
use Rattle.fk_tree.specs.Edit.{edited}

-- a node without the names of its children
abbrev pub unnamed : Node → Bare
unnamed n = record { bytes = n.bytes; czxid = n.czxid; mzxid = n.mzxid; pzxid = n.pzxid; ctime = n.ctime; mtime = n.mtime; version = n.version; cversion = n.cversion; made = n.made; owner = n.owner }

-- a path and its node; a path without a node may keep its row
abbrev pub Row : Type 0
Row = PathNames × Option Node

-- the node of a path: the one in its first row
abbrev pub row_node : PathNames → List Row → Option Node
row_node p [] = None
row_node p (r ∷ rs) = if same_path p r.0 then r.1 else row_node p rs

-- whether a path has a row
abbrev pub has_row : PathNames → List Row → Bool
has_row p [] = false
has_row p (r ∷ rs) = same_path p r.0 || has_row p rs

-- the child names of a node, where there is one
abbrev pub names_of : Option Node → List Name
names_of None = []
names_of (Some n) = n.names

-- whether a session owns a node
abbrev pub is_of : ℕ → Option Node → Bool
is_of session None = false
is_of session (Some n) = n.owner == session

-- whether a path is noted as a session's
abbrev pub is_in_set : PathNames → Option (BTreeSet PathNames) → Bool
is_in_set p None = false
is_in_set p (Some set) = contains path_cmp set p

abbrev pub is_noted : ℕ → PathNames → BTreeMap ℕ (BTreeSet PathNames) → Bool
is_noted session p sets = is_in_set p (tree.get nat_cmp sets session)

-- each path whose node a session owns is noted as that session's
abbrev pub AreNoted : List Row → BTreeMap ℕ (BTreeSet PathNames) → Type 0
AreNoted rows sets = (session : ℕ) (p : PathNames) → 0 < session → is_of session (row_node p rows) ≡ true → is_noted session p sets ≡ true

-- what was noted is noted after a change of the rows
abbrev pub StaysNoted : List Row → BTreeMap ℕ (BTreeSet PathNames) → List Row → BTreeMap ℕ (BTreeSet PathNames) → Type 0
StaysNoted rows sets others after = AreNoted rows sets → AreNoted others after

-- a new node that a session owns is noted as that session's
abbrev pub is_make_noted : PathNames → What → BTreeMap ℕ (BTreeSet PathNames) → Bool
is_make_noted p (what.Make bytes owner) sets = (owner == 0) || is_noted owner p sets
is_make_noted p _ sets = true

abbrev pub is_edit_noted : Edit → BTreeMap ℕ (BTreeSet PathNames) → Bool
is_edit_noted e sets = is_make_noted e.path e.what sets

abbrev pub are_noted : List Edit → BTreeMap ℕ (BTreeSet PathNames) → Bool
are_noted [] sets = true
are_noted (e ∷ es) sets = if is_edit_noted e sets then are_noted es sets else false

-- an edit that takes a node or a name out
abbrev pub is_drop : What → Bool
is_drop what.Remove = true
is_drop (what.DropName x) = true
is_drop _ = false

abbrev pub are_drops : List Edit → Bool
are_drops [] = true
are_drops (e ∷ es) = if is_drop e.what then are_drops es else false

-- what rows show
abbrev pub shown : List Row → (ℕ → Bool) → View
shown rows closed = record { node = λ p. row_node p rows; closed = closed }

-- those of these paths whose node a session owns
abbrev pub those_of : ℕ → List Row → List PathNames → List PathNames
those_of session rows [] = []
those_of session rows (p ∷ ps) = if is_of session (row_node p rows) then p ∷ those_of session rows ps else those_of session rows ps

-- the paths that are noted as a session's, in path order
abbrev pub noted_in : Option (BTreeSet PathNames) → List PathNames
noted_in None = []
noted_in (Some set) = set.keys

abbrev pub noted : ℕ → BTreeMap ℕ (BTreeSet PathNames) → List PathNames
noted session sets = noted_in (tree.get nat_cmp sets session)

-- a create of another path than the root, or another request
abbrev pub IsOfChild : Request → Type 0
IsOfChild (request.Create p bytes seq eph) = is_root p ≡ false
IsOfChild (request.Set p bytes version) = Unit {0}
IsOfChild (request.Delete p version) = Unit {0}
IsOfChild (request.Close evict) = Unit {0}
IsOfChild (request.Multi ps) = Unit {0}

-- the final path of a create has no node yet
abbrev pub IsNew : Request → PathNames → List Row → Type 0
IsNew (request.Create p bytes seq eph) name rows = row_node name rows ≡ None
IsNew (request.Set p bytes version) name rows = Unit {0}
IsNew (request.Delete p version) name rows = Unit {0}
IsNew (request.Close evict) name rows = Unit {0}
IsNew (request.Multi ps) name rows = Unit {0}

-- the noted paths that a close removes, else none
abbrev pub gone_from : List Row → BTreeMap ℕ (BTreeSet PathNames) → ℕ → Request → List PathNames
gone_from rows sets session (request.Close evict) = those_of session rows (noted session sets)
gone_from rows sets session _ = []

-- what a create is refused with under a parent, where the final path is taken or not
abbrev pub code_under : Bool → Option Node → Option Code
code_under taken None = Some code.NoNode
code_under taken (Some d) = if taken then Some code.NodeExists else if d.owner == 0 then None else Some code.NoChildrenForEphemerals

-- nothing noted is lost
abbrev pub KeepsNotes : BTreeMap ℕ (BTreeSet PathNames) → BTreeMap ℕ (BTreeSet PathNames) → Type 0
KeepsNotes sets others = (session : ℕ) (p : PathNames) → is_noted session p sets ≡ true → is_noted session p others ≡ true

abbrev pub with_row : PathNames → Option Node → Nodes → Nodes
with_row p None t = remove t p
with_row p (Some n) t = insert t p (unnamed n)

-- the nodes that the rows keep
abbrev pub nodes_of : List Row → Nodes
nodes_of [] = empty
nodes_of (r ∷ rs) = with_row r.0 r.1 (nodes_of rs)

abbrev pub tree_of : List Row → List ℕ → Tree
tree_of rows closed = record { nodes = nodes_of rows; closed = closed }

-- a node that no session owns, so that it may have children
abbrev pub is_free : Option Bare → Bool
is_free None = false
is_free (Some b) = b.owner == 0

-- each node but the root has its parent, which no session owns
abbrev pub HasParents : Nodes → Type 0
HasParents t = (p : PathNames) (n : Name) → is_some (get t (p ++ n ∷ [])) ≡ true → is_free (get t p) ≡ true

-- the names in the rows are those of the children, each node but the root has its parent, which no
-- session owns, and the nodes that a session owns are noted
pub record IsKept (rows : List Row) (sets : BTreeMap ℕ (BTreeSet PathNames)) : Type 0 where
  pub named : (p : PathNames) → row_node p rows ≡ node_view (nodes_of rows) p
  pub parents : HasParents (nodes_of rows)
  pub owned : AreNoted rows sets

-- the child names in each row rise
abbrev pub AreRising : List Row → Type 0
AreRising rows = (p : PathNames) → rises name_cmp (names_of (row_node p rows)) ≡ true

-- two lists of rows keep the same node of each path
abbrev pub KeepSame : List Row → List Row → Type 0
KeepSame rows others = (p : PathNames) → row_node p others ≡ row_node p rows

-- the rows keep what the edits leave of each path
abbrev pub AreEdited : ℕ → ℕ → List Edit → List Row → List Row → Type 0
AreEdited tx moment es rows others = (p : PathNames) → row_node p others ≡ edited tx moment p es (row_node p rows)

-- no row is lost
abbrev pub KeepsRows : List Row → List Row → Type 0
KeepsRows rows others = (p : PathNames) → has_row p rows ≡ true → has_row p others ≡ true

-- each edited path has a row
abbrev pub have_rows : List Edit → List Row → Bool
have_rows [] rows = true
have_rows (e ∷ es) rows = if has_row e.path rows then have_rows es rows else false

-- the path of each change has a row
abbrev pub changes_have_rows : List Changed → List Row → Bool
changes_have_rows [] rows = true
changes_have_rows (c ∷ cs) rows = if has_row c.path rows then changes_have_rows cs rows else false

-- what the edits leave of an edited path
abbrev pub changed_by : ℕ → ℕ → List Row → List Edit → Edit → Changed
changed_by tx moment rows all e = record { path = e.path; node = edited tx moment e.path all (row_node e.path rows) }

abbrev pub changes_by : ℕ → ℕ → List Row → List Edit → List Edit → List Changed
changes_by tx moment rows all [] = []
changes_by tx moment rows all (e ∷ es) = changed_by tx moment rows all e ∷ changes_by tx moment rows all es

-- the node of a path where these changes are written over one
abbrev pub written : PathNames → List Changed → Option Node → Option Node
written p [] o = o
written p (c ∷ cs) o = if same_path p c.path then c.node else written p cs o

abbrev pub bare_code : Coded Bare
bare_code =
    code_by (List ℕ × ((ℕ × (ℕ × ℕ)) × ((ℕ × ℕ) × (ℕ × (ℕ × (ℕ × ℕ)))))) (coded× (coded_list coded_ℕ) (coded× (coded× coded_ℕ (coded× coded_ℕ coded_ℕ)) (coded× (coded× coded_ℕ coded_ℕ) (coded× coded_ℕ (coded× coded_ℕ (coded× coded_ℕ coded_ℕ))))))
    (λ b. (b.bytes, ((b.czxid, (b.mzxid, b.pzxid)), ((b.ctime, b.mtime), (b.version, (b.cversion, (b.made, b.owner)))))))
    (λ c. record { bytes = c.0; czxid = c.1.0.0; mzxid = c.1.0.1.0; pzxid = c.1.0.1.1; ctime = c.1.1.0.0; mtime = c.1.1.0.1; version = c.1.1.1.0; cversion = c.1.1.1.1.0; made = c.1.1.1.1.1.0; owner = c.1.1.1.1.1.1 })
    (λ _. refl)

-- a tree is stored as the pair of its nodes and its closed sessions
abbrev pub tree_code : Coded Tree
tree_code = code_by (Nodes × List ℕ) (coded× (map.code (coded_list (coded_list coded_ℕ)) bare_code) (coded_list coded_ℕ)) (λ t. (t.nodes, t.closed)) (λ c. record { nodes = c.0; closed = c.1 }) (λ _. refl)

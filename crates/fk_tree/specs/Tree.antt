-- The tree: a node for each path, and the sessions that are closed.
use Rattle.std.specs.Prelude.{ℕ, ◌+◌, ◌-◌, ◌^◌, min, if◌then◌else◌, List, [], ◌∷◌, Option, Some, None, length}
use Rattle.std.specs.FinMap.{FinMap, get, insert, entries, empty}
use Rattle.fk_base.specs.Path.{Name, PathNames, path_cmp, same_name}
use Rattle.fk_tree.specs.declared.node.Node.{Node}
use Rattle.fk_tree.specs.declared.node.Stat.{Stat}

-- a node without the names of its children
pub record Bare : Type 0 where
  pub bytes : List ℕ
  pub czxid : ℕ
  pub mzxid : ℕ
  pub pzxid : ℕ
  pub ctime : ℕ
  pub mtime : ℕ
  pub version : ℕ
  pub cversion : ℕ
  pub made : ℕ
  pub owner : ℕ

-- a node for each path that is there, in path order
abbrev pub Nodes : Type 0
Nodes = FinMap path_cmp Bare

pub record Tree : Type 0 where
  pub nodes : Nodes
  pub closed : List ℕ

-- the last name of a path that stands right under p
abbrev pub name_under : PathNames → PathNames → Option Name
name_under [] [] = None
name_under [] (n ∷ []) = Some n
name_under [] (n ∷ m ∷ q) = None
name_under (x ∷ p) [] = None
name_under (x ∷ p) (y ∷ q) = if same_name x y then name_under p q else None

abbrev pub with_first : Option Name → List Name → List Name
with_first (Some n) ns = n ∷ ns
with_first None ns = ns

abbrev pub names_under : PathNames → List (PathNames × Bare) → List Name
names_under p [] = []
names_under p (e ∷ es) = with_first (name_under p e.0) (names_under p es)

-- the names of a path's children, read from the list of paths
abbrev pub children : Nodes → PathNames → List Name
children t p = names_under p (entries t)

-- a node with these child names
abbrev pub with_names : List Name → Bare → Node
with_names names b = record { bytes = b.bytes; czxid = b.czxid; mzxid = b.mzxid; pzxid = b.pzxid; ctime = b.ctime; mtime = b.mtime; version = b.version; cversion = b.cversion; made = b.made; owner = b.owner; names = names }

abbrev pub map_some : {A B : Type 0} → (A → B) → Option A → Option B
map_some f None = None
map_some f (Some x) = Some (f x)

-- the node of a path, with its child names
abbrev pub node_view : Nodes → PathNames → Option Node
node_view t p = map_some (with_names (children t p)) (get t p)

-- the greatest number of 32 bits, at which a count stays
abbrev pub top : ℕ
top = 2 ^ 32 - 1

-- one more, up to the top
abbrev pub up : ℕ → ℕ
up n = min (n + 1) top

-- a new node: no children, version 0, made by transaction tx at this moment
abbrev pub fresh : List ℕ → ℕ → ℕ → ℕ → Bare
fresh bytes owner tx moment = record { bytes = bytes; czxid = tx; mzxid = tx; pzxid = tx; ctime = moment; mtime = moment; version = 0; cversion = 0; made = 0; owner = owner }

-- the root as it starts: no data and all numbers 0
abbrev pub root_node : Bare
root_node = fresh [] 0 0 0

-- the tree as it starts: the root alone, no session closed
abbrev pub start_tree : Tree
start_tree = record { nodes = insert empty [] root_node; closed = [] }

-- the stat of a node: aversion is 0, and the length and the number of children end at the top
abbrev pub stat_of : Node → Stat
stat_of n = record { czxid = n.czxid; mzxid = n.mzxid; pzxid = n.pzxid; ctime = n.ctime; mtime = n.mtime; version = n.version; cversion = n.cversion; aversion = 0; owner = n.owner; length = min (length n.bytes) top; children = min (length n.names) top }

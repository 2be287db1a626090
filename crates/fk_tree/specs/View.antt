-- What a tree shows.
use Rattle.std.specs.Prelude.{ℕ, ◌==◌, Bool, false, if◌then◌else◌, ◌||◌, List, [], ◌∷◌, Option, Some, None}
use Rattle.fk_base.specs.Path.{PathNames, is_root}
use Rattle.fk_tree.specs.Tree.{Tree, node_view, with_names, root_node}
use Rattle.fk_tree.specs.declared.node.Node.{Node}

-- the node of each path, with its child names, and which sessions are closed
pub record View : Type 0 where
  pub node : PathNames → Option Node
  pub closed : ℕ → Bool

abbrev pub is_in : ℕ → List ℕ → Bool
is_in s [] = false
is_in s (c ∷ cs) = (c == s) || is_in s cs

-- what this tree shows
abbrev pub look : Tree → View
look t = record { node = node_view t.nodes; closed = λ s. is_in s t.closed }

-- what the tree shows as it starts
abbrev pub start_view : View
start_view = record { node = λ p. if is_root p then Some (with_names [] root_node) else None; closed = λ s. false }

-- The nodes of some paths as they are seen.
use Rattle.std.specs.Prelude.{ℕ, Bool, false, if◌then◌else◌, Option, None}
use Rattle.fk_base.specs.Path.{PathNames, same_path}
use Rattle.fk_tree.specs.Rows.{shown}
use Rattle.fk_tree.specs.View.{View}
use Rattle.fk_tree.specs.declared.node.Node.{Node}
use Rattle.fk_tree.specs.declared.rows.Rows.{Rows}

-- no node, and no session closed
abbrev pub no_nodes : View
no_nodes = record { node = λ p. None; closed = λ s. false }

-- a view with this in place of the node of a path
abbrev pub with_node : PathNames → Option Node → View → View
with_node path o v = record { node = λ p. if same_path path p then o else v.node p; closed = v.closed }

-- what rows show; code above doesn't look into it
unfoldable pub rows_view : Rows → View
rows_view r = shown r.slots.entries (λ s. false)

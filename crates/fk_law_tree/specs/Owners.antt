-- Which nodes a session owns.
use Rattle.std.specs.Prelude.{◌≡◌, ◌≢◌, ℕ, true}
use Rattle.fk_base.specs.Path.{PathNames, path_cmp}
use Rattle.fk_tree.specs.Sorted.{has_path, rises}
use Rattle.fk_tree.specs.Tree.{Tree}
use Rattle.fk_tree.specs.View.{View, look}
use Rattle.fk_tree.specs.Edit.{after}
use Rattle.fk_tree.specs.Fill.{owned}
use Rattle.fk_tree.specs.declared.applied.Applied.{Applied}
use Rattle.fk_tree.specs.Rows.{is_of}

-- a node that another session owns after an applied request was owned by it before
abbrev pub KeepsForeignOwners : Type 0
KeepsForeignOwners =
    (v : View) (a : Applied) (p : PathNames) (other : ℕ) → other ≢ 0 → other ≢ a.session
    → is_of other ((after v a).node p) ≡ true → is_of other (v.node p) ≡ true

-- the owned paths of a tree rise, and they are those where the tree shows a node with this owner
abbrev pub OwnedAreTheOwners : Type 0
OwnedAreTheOwners = (t : Tree) (session : ℕ) → (rises path_cmp (owned t.nodes session) ≡ true) × ((p : PathNames) → has_path p (owned t.nodes session) ≡ is_of session ((look t).node p))

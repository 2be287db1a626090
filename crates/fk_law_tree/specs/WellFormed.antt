-- Trees whose nodes have their parents.
use Rattle.std.specs.Prelude.{◌≡◌, ◌≢◌, ◌==◌, Bool, true, false, [], ◌∷◌, ◌++◌, Option, Some, None, is_some, ℕ, List}
use Rattle.fk_base.specs.Path.{Name, PathNames}
use Rattle.fk_tree.specs.Sorted.{has_path}
use Rattle.fk_tree.specs.Tree.{Tree}
use Rattle.fk_tree.specs.View.{look, View}
use Rattle.fk_tree.specs.Apply.{apply, IsFilled}
use Rattle.fk_tree.specs.declared.applied.Applied.{Applied}
use Rattle.fk_tree.specs.declared.node.Node.{Node}
use Rattle.fk_tree.specs.declared.request.Request.{Request}
use Rattle.fk_tree.specs.Check.{check}
use Rattle.fk_tree.specs.Locks.{lock_paths}
use Rattle.fk_law_tree.specs.Locking.{unlocked}
use Rattle.fk_law_tree.specs.Reading.{AgreeOn, SameFill}

-- a node is there, and it has no owner
abbrev pub is_unowned : Option Node → Bool
is_unowned None = false
is_unowned (Some n) = n.owner == 0

-- The root is there and has no owner; each other node has its parent, which has no owner.
pub record IsWellFormed (t : Tree) : Type 0 where
  pub root : is_unowned ((look t).node []) ≡ true
  pub parents : (p : PathNames) (x : Name) → is_some ((look t).node (p ++ x ∷ [])) ≡ true → is_unowned ((look t).node p) ≡ true

-- a request that is filled on a well-formed tree keeps it so
abbrev pub KeepsWellFormed : Type 0
KeepsWellFormed = (t : Tree) (a : Applied) → IsWellFormed t → IsFilled t a → IsWellFormed (apply t a)

-- in a well-formed tree a node with an owner has no child
abbrev pub OwnersHaveNoChild : Type 0
OwnersHaveNoChild = (t : Tree) (p : PathNames) (n : Node) → IsWellFormed t → (look t).node p ≡ Some n → n.owner ≢ 0 → (n.names ≡ []) × ((x : Name) → (look t).node (p ++ x ∷ []) ≡ None)

-- in a well-formed tree what is read and not locked isn't there
abbrev pub UnlockedIsMissing : Type 0
UnlockedIsMissing = (t : Tree) (r : Request) (p : PathNames) → IsWellFormed t → has_path p (unlocked (look t) r) ≡ true → (look t).node p ≡ None

-- What is locked for a request is enough in a well-formed tree: a view that shows the same where it is
-- locked, and no other node, gives the same check and fills the same.
abbrev pub LockedIsEnough : Type 0
LockedIsEnough =
    (t : Tree) (v : View) (owned : List PathNames) (session : ℕ) (r : Request) → IsWellFormed t → v.closed session ≡ (look t).closed session
    → AgreeOn v (look t) (lock_paths v owned r) → ((p : PathNames) → has_path p (lock_paths v owned r) ≡ false → v.node p ≡ None)
    → (check v session r ≡ check (look t) session r) × SameFill v (look t) session r

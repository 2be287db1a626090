-- What is computed from the tree at the place where a request is applied.
use Rattle.std.specs.Prelude.{ℕ, zero, suc, ◌+◌, ◌/◌, ◌%◌, ◌==◌, Bool, if◌then◌else◌, List, [], ◌∷◌, ◌++◌, Option, Some, None}
use Rattle.std.specs.FinMap.{entries}
use Rattle.fk_base.specs.Path.{PathNames, parent, last_name}
use Rattle.fk_tree.specs.Tree.{Bare, Nodes, Tree, up}
use Rattle.fk_tree.specs.View.{View, look}
use Rattle.fk_tree.specs.Edit.{after_edits, part_edits}
use Rattle.fk_tree.specs.declared.node.Node.{Node}
use Rattle.fk_tree.specs.declared.applied.Applied.{Applied}
use Rattle.fk_tree.specs.declared.applied.Made.{Made}
use Rattle.fk_tree.specs.declared.request.Part.{Part}
use Rattle.fk_tree.specs.declared.request.Part.TheVariants as part
use Rattle.fk_tree.specs.declared.request.Request.{Request}
use Rattle.fk_tree.specs.declared.request.Request.TheVariants as request

-- the last k decimal digits of n, with zeros in front
unfoldable pub last_digits : ℕ → ℕ → List ℕ
last_digits zero n = []
last_digits (suc k) n = last_digits k (n / 10) ++ (48 + n % 10) ∷ []

-- ten decimal digits
abbrev pub digits : ℕ → List ℕ
digits = last_digits 10

-- the path that a create makes under a parent with this count: a sequential one's name ends in
-- the count
abbrev pub final_path : PathNames → Bool → ℕ → PathNames
final_path p seq made = if seq then parent p ++ (last_name p ++ digits made) ∷ [] else p

abbrev pub made_of : Option Node → ℕ
made_of None = 0
made_of (Some n) = n.made

abbrev pub version_of : Option Node → ℕ
version_of None = 0
version_of (Some n) = n.version

-- the final path of a create, else the root
abbrev pub fill_name : View → Request → PathNames
fill_name v (request.Create p bytes seq eph) = final_path p seq (made_of (v.node (parent p)))
fill_name v _ = []

-- the new version of a set, else 0
abbrev pub fill_version : View → Request → ℕ
fill_version v (request.Set p bytes expected) = up (version_of (v.node p))
fill_version v _ = 0

-- what a part of a multi comes to: the path of a create, else the root, and the new version of a
-- set, else 0
abbrev pub fill_part : View → Part → Made
fill_part v (part.Create p bytes eph) = record { name = p; version = 0 }
fill_part v (part.Set p bytes expected) = record { name = []; version = up (version_of (v.node p)) }
fill_part v (part.Delete p expected) = record { name = []; version = 0 }

-- a view after a part; neither a check nor what is filled reads a transaction or a moment, so
-- both are 0 here
abbrev pub after_part : View → ℕ → Part → View
after_part v session p = after_edits v 0 0 (part_edits session p (fill_part v p))

-- each part on the view after the parts before it
abbrev pub fill_parts : View → ℕ → List Part → List Made
fill_parts v session [] = []
fill_parts v session (p ∷ ps) = fill_part v p ∷ fill_parts (after_part v session p) session ps

-- one entry for each part of a multi, else none
abbrev pub fill_made : View → ℕ → Request → List Made
fill_made v session (request.Multi ps) = fill_parts v session ps
fill_made v session _ = []

abbrev pub owned_in : ℕ → List (PathNames × Bare) → List PathNames
owned_in session [] = []
owned_in session (e ∷ es) = if (e.1).owner == session then e.0 ∷ owned_in session es else owned_in session es

-- the paths whose node has this owner, in path order
abbrev pub owned : Nodes → ℕ → List PathNames
owned t session = owned_in session (entries t)

-- the paths that a close removes, else none
abbrev pub fill_gone : Nodes → ℕ → Request → List PathNames
fill_gone t session (request.Close evict) = owned t session
fill_gone t session _ = []

-- the request as it is applied to this tree
abbrev pub fill : Tree → ℕ → ℕ → ℕ → ℕ → Request → Applied
fill t tx moment session k r = record { tx = tx; moment = moment; session = session; k = k; request = r; name = fill_name (look t) r; version = fill_version (look t) r; gone = fill_gone t.nodes session r; made = fill_made (look t) session r }

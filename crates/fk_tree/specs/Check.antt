-- Which requests are refused, with which code: the first check that fails.
use Rattle.std.specs.Prelude.{◌≡◌, ◌≤◌, ℕ, suc, ℤ, negsuc, pos, ◌==◌, Bool, true, false, if◌then◌else◌, ◌||◌, List, [], ◌∷◌, Option, Some, None, is_some, length}
use Rattle.std.specs.Ordering.{int_eq}
use Rattle.fk_base.specs.Path.{Name, PathNames, parent, is_root}
use Rattle.fk_base.specs.declared.code.Code.{Code}
use Rattle.fk_base.specs.declared.code.Code.TheVariants as code
use Rattle.fk_tree.specs.declared.fault.CheckFault.{CheckFault}
use Rattle.fk_tree.specs.declared.fault.CheckFault.TheVariants as fault
use Rattle.fk_tree.specs.View.{View}
use Rattle.fk_tree.specs.Fill.{final_path, after_part}
use Rattle.fk_tree.specs.declared.node.Node.{Node}
use Rattle.fk_tree.specs.declared.request.Part.{Part}
use Rattle.fk_tree.specs.declared.request.Part.TheVariants as part
use Rattle.fk_tree.specs.declared.request.Request.{Request}
use Rattle.fk_tree.specs.declared.request.Request.TheVariants as request

-- a code, with the place of the part of a multi that it is of, from 1, else 0
pub record Refusal : Type 0 where
  pub code : Code
  pub place : ℕ

-- an expected version of -1 fits any
abbrev pub is_version : ℤ → ℕ → Bool
is_version expected version = int_eq expected (negsuc 0) || int_eq expected (pos version)

abbrev pub has_names : List Name → Bool
has_names [] = false
has_names (n ∷ ns) = true

-- under this parent: it has to be there, the final path has to be free, and the parent must have
-- no owner
abbrev pub check_under : View → PathNames → Bool → Option Node → Option Code
check_under v p seq None = Some code.NoNode
check_under v p seq (Some d) = if is_some (v.node (final_path p seq d.made)) then Some code.NodeExists else if d.owner == 0 then None else Some code.NoChildrenForEphemerals

-- the root is always there
abbrev pub check_create : View → PathNames → Bool → Option Code
check_create v p seq = if is_root p then Some code.NodeExists else check_under v p seq (v.node (parent p))

-- the node has to be there, with the expected version
abbrev pub check_set : ℤ → Option Node → Option Code
check_set expected None = Some code.NoNode
check_set expected (Some n) = if is_version expected n.version then None else Some code.BadVersion

-- the same, and it must have no children and not be the root
abbrev pub check_delete : PathNames → ℤ → Option Node → Option Code
check_delete p expected None = Some code.NoNode
check_delete p expected (Some n) = if is_version expected n.version then (if has_names n.names || is_root p then Some code.NotEmpty else None) else Some code.BadVersion

abbrev pub check_part : View → Part → Option Code
check_part v (part.Create p bytes eph) = check_create v p false
check_part v (part.Set p bytes expected) = check_set expected (v.node p)
check_part v (part.Delete p expected) = check_delete p expected (v.node p)

abbrev pub at_place : ℕ → Option Code → Option Refusal
at_place place None = None
at_place place (Some c) = Some (record { code = c; place = place })

abbrev pub or_else : Option Refusal → Option Refusal → Option Refusal
or_else (Some r) o = Some r
or_else None o = o

-- the parts in order, each on the view after the parts before it; the first has this place
abbrev pub check_parts : View → ℕ → ℕ → List Part → Option Refusal
check_parts v session place [] = None
check_parts v session place (p ∷ ps) = or_else (at_place place (check_part v p)) (check_parts (after_part v session p) session (suc place) ps)

-- a request of a session that isn't closed
abbrev pub check_open : View → ℕ → Request → Option Refusal
check_open v session (request.Create p bytes seq eph) = at_place 0 (check_create v p seq)
check_open v session (request.Set p bytes expected) = at_place 0 (check_set expected (v.node p))
check_open v session (request.Delete p expected) = at_place 0 (check_delete p expected (v.node p))
check_open v session (request.Close evict) = None
check_open v session (request.Multi ps) = check_parts v session 1 ps

-- None where the request passes, else its refusal; a closed session's requests are all refused
abbrev pub check : View → ℕ → Request → Option Refusal
check v session r = if v.closed session then Some (record { code = code.SessionExpired; place = 0 }) else check_open v session r

-- a refusal is told with its code and its place; want of memory says nothing of the request
abbrev pub IsFault : CheckFault → Option Refusal → Type 0
IsFault (fault.Refused c place) o = o ≡ Some (record { code = c; place = place })
IsFault fault.NoMemory o = Unit {0}

-- a multi of at most sixteen parts, or another request
abbrev pub HasFewParts : Request → Type 0
HasFewParts (request.Create p bytes seq eph) = Unit {0}
HasFewParts (request.Set p bytes version) = Unit {0}
HasFewParts (request.Delete p version) = Unit {0}
HasFewParts (request.Close evict) = Unit {0}
HasFewParts (request.Multi ps) = length ps ≤ 16

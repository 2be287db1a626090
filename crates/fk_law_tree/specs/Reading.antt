-- Which paths of a view are read.
use Rattle.std.specs.Prelude.{◌≡◌, ℕ, true, false, Bool, if◌then◌else◌, List, [], ◌∷◌, ◌++◌, Option, Some, None}
use Rattle.fk_base.specs.Path.{PathNames, parent, is_root}
use Rattle.fk_tree.specs.Sorted.{has_path}
use Rattle.fk_tree.specs.View.{View}
use Rattle.fk_tree.specs.Fill.{final_path, fill_name, fill_version, fill_made, after_part}
use Rattle.fk_tree.specs.Check.{check}
use Rattle.fk_tree.specs.Ask.{ask, path_asked}
use Rattle.fk_tree.specs.declared.node.Node.{Node}
use Rattle.fk_tree.specs.declared.request.Part.{Part}
use Rattle.fk_tree.specs.declared.request.Part.TheVariants as part
use Rattle.fk_tree.specs.declared.request.Query.{Query}
use Rattle.fk_tree.specs.declared.request.Request.{Request}
use Rattle.fk_tree.specs.declared.request.Request.TheVariants as request

-- the final path of a create, where its parent is there
abbrev pub final_paths : PathNames → Bool → Option Node → List PathNames
final_paths p seq None = []
final_paths p seq (Some d) = final_path p seq d.made ∷ []

-- the parent, then the final path; the root alone
abbrev pub create_reads : View → PathNames → Bool → List PathNames
create_reads v p seq = if is_root p then p ∷ [] else parent p ∷ final_paths p seq (v.node (parent p))

abbrev pub part_reads : View → Part → List PathNames
part_reads v (part.Create p bytes eph) = create_reads v p false
part_reads v (part.Set p bytes version) = p ∷ []
part_reads v (part.Delete p version) = p ∷ []

-- each part reads the view after the parts before it
abbrev pub parts_reads : View → ℕ → List Part → List PathNames
parts_reads v session [] = []
parts_reads v session (p ∷ ps) = part_reads v p ++ parts_reads (after_part v session p) session ps

-- the paths that a request of a session reads; a close reads no node
abbrev pub reads : View → ℕ → Request → List PathNames
reads v session (request.Create p bytes seq eph) = create_reads v p seq
reads v session (request.Set p bytes version) = p ∷ []
reads v session (request.Delete p version) = p ∷ []
reads v session (request.Close evict) = []
reads v session (request.Multi ps) = parts_reads v session ps

-- the same node at each of these paths
abbrev pub AgreeOn : View → View → List PathNames → Type 0
AgreeOn v w ps = (p : PathNames) → has_path p ps ≡ true → v.node p ≡ w.node p

-- two views with the same nodes where a request reads, and its session closed in both or in none, give the same check
abbrev pub CheckReads : Type 0
CheckReads = (v w : View) (session : ℕ) (r : Request) → v.closed session ≡ w.closed session → AgreeOn v w (reads v session r) → check v session r ≡ check w session r

-- two views with the same nodes where a request reads fill the same name, version and parts
pub record SameFill (v w : View) (session : ℕ) (r : Request) : Type 0 where
  pub name : fill_name v r ≡ fill_name w r
  pub version : fill_version v r ≡ fill_version w r
  pub made : fill_made v session r ≡ fill_made w session r
  pub reads : reads v session r ≡ reads w session r

abbrev pub FillReads : Type 0
FillReads = (v w : View) (session : ℕ) (r : Request) → AgreeOn v w (reads v session r) → SameFill v w session r

-- two views with the same node at the path that is asked give the same answer
abbrev pub AskReads : Type 0
AskReads = (v w : View) (q : Query) → v.node (path_asked q) ≡ w.node (path_asked q) → ask v q ≡ ask w q

-- The tree that the transaction lines drive.
use Rattle.std.specs.Prelude.{ℕ, ◌-◌, nat_le, if◌then◌else◌, List, [], ◌∷◌, Option, Some, None}
use Rattle.fk_base.specs.Path.{PathNames}
use Rattle.fk_tree.specs.Apply.{apply}
use Rattle.fk_tree.specs.Fill.{fill}
use Rattle.fk_tree.specs.Tree.{Tree, start_tree}
use Rattle.fk_tree.specs.View.{View, look}
use Rattle.fk_tree.specs.declared.applied.Applied.{Applied}
use Rattle.fk_tree.specs.declared.applied.Made.{Made}
use Rattle.fk_tree.specs.declared.request.Part.{Part}
use Rattle.fk_tree.specs.declared.request.Part.TheVariants as part
use Rattle.fk_tree.specs.declared.request.Request.{Request}
use Rattle.fk_tree.specs.declared.request.Request.TheVariants as request
use Rattle.fk_print.specs.declared.entry.Entry.{Entry}
use Rattle.fk_print.specs.declared.line.Act.{Act}
use Rattle.fk_print.specs.declared.line.Act.TheVariants as act
use Rattle.fk_print.specs.declared.line.Printed.{Printed}
use Rattle.fk_spec.specs.Plan.{Plan}
use Rattle.fk_spec.specs.Start.{Pushed, pushed_of}
use Rattle.fk_spec.specs.PublicLines.{txs_of}

-- the request that an act shows; its path is the final one
abbrev pub request_shown : Act → Request
request_shown (act.Create path bytes seq eph) = request.Create path bytes seq eph
request_shown (act.Set path bytes version) = request.Set path bytes version
request_shown (act.Delete path version) = request.Delete path version
request_shown (act.Close evict gone) = request.Close evict
request_shown (act.Multi parts) = request.Multi parts

abbrev pub name_shown : Act → PathNames
name_shown (act.Create path bytes seq eph) = path
name_shown _ = []

abbrev pub gone_shown : Act → List PathNames
gone_shown (act.Close evict gone) = gone
gone_shown _ = []

abbrev pub part_made : Part → Made
part_made (part.Create path bytes eph) = record { name = path; version = 0 }
part_made _ = record { name = []; version = 0 }

abbrev pub parts_made : List Part → List Made
parts_made [] = []
parts_made (p ∷ ps) = part_made p ∷ parts_made ps

abbrev pub made_shown : Act → List Made
made_shown (act.Multi parts) = parts_made parts
made_shown _ = []

-- what a transaction line shows is all that is needed to apply it
abbrev pub applied_shown : Printed → Applied
applied_shown x = record { tx = x.tx; moment = x.moment; session = x.session; k = x.k; request = request_shown x.act; name = name_shown x.act; version = 0; gone = gone_shown x.act; made = made_shown x.act }

abbrev pub tree_of : ℕ → List Printed → Tree
tree_of n [] = start_tree
tree_of n (x ∷ xs) = if nat_le x.tx n then apply (tree_of n xs) (applied_shown x) else tree_of n xs

-- the tree after the transaction lines that are numbered at most n
abbrev pub published_tree : List Entry → ℕ → Tree
published_tree h n = tree_of n (txs_of h)

-- what that tree shows
abbrev pub published_view : List Entry → ℕ → View
published_view h n = look (published_tree h n)

abbrev pub filled_on : Tree → ℕ → Option Pushed → Option Applied
filled_on t tx None = None
filled_on t tx (Some x) = Some (fill t tx x.moment x.session x.k x.request)

-- push t as it is applied to the tree before it
abbrev pub published_as : Plan → ℕ → List Entry → Option Applied
published_as p t h = filled_on (published_tree h (t - 1)) t (pushed_of p t h)

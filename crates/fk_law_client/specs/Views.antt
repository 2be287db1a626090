-- No client's view of the tree falls.
use Rattle.std.specs.Prelude.{◌≡◌, ℕ, true, List, Some}
use Rattle.fk_tree.specs.declared.request.Request.{Request}
use Rattle.fk_print.specs.declared.entry.Entry.{Entry}
use Rattle.fk_script.specs.declared.deployment.Deployment.{Deployment}
use Rattle.fk_spec.specs.Plan.{Plan, Ask, Writes, asked, plan_of}
use Rattle.fk_spec.specs.Client.{is_write}
use Rattle.fk_spec.specs.Promises.{ViewNeverFalls}
use Rattle.fk_spec.specs.Next.{IsHistory}

-- what asks for a change of the tree has the verb of a write
abbrev pub WritesAreWrites : Plan → Type 0
WritesAreWrites p = (c i : ℕ) (a : Ask) (r : Request) → asked p c i ≡ Some a → a.want ≡ Writes r → is_write a.verb ≡ true

-- So it is in what a deployment comes to.
abbrev pub DeploymentsWriteByWrites : Type 0
DeploymentsWriteByWrites = (d : Deployment) → WritesAreWrites (plan_of d)

-- A read's number is at least each number that its client was shown before.
abbrev pub EachViewNeverFalls : Type 0
EachViewNeverFalls = (p : Plan) (h : List Entry) → WritesAreWrites p → IsHistory p h → ViewNeverFalls h

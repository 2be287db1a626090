-- A watch's first number: it is published when the watch is set, and the watch fires beyond it.
use Rattle.std.specs.Prelude.{◌≡◌, ℕ, ◌<◌, ◌≤◌, Bool, false, List, ◌∷◌, Some}
use Rattle.fk_tree.specs.declared.request.Query.{Query}
use Rattle.fk_print.specs.declared.entry.Entry.{Entry}
use Rattle.fk_print.specs.declared.op.Op.TheVariants as op
use Rattle.fk_script.specs.declared.deployment.Deployment.{Deployment}
use Rattle.fk_spec.specs.Plan.{Plan, Ask, Reads, asked, plan_of}
use Rattle.fk_spec.specs.Settling.{mark_of}
use Rattle.fk_spec.specs.Client.{is_write}
use Rattle.fk_spec.specs.Watches.{Firing, firing_of}
use Rattle.fk_spec.specs.Next.{IsHistory}
use Rattle.fk_law_watch.specs.Registering.{number_of_read}
use Rattle.fk_law_watch.specs.SetWatches.{first_of}

-- what asks for an answer from the tree has the verb of a read
abbrev pub ReadsAreReads : Plan → Type 0
ReadsAreReads p = (c i : ℕ) (a : Ask) (q : Query) (w : Bool) → asked p c i ≡ Some a → a.want ≡ Reads q w → is_write a.verb ≡ false

-- So it is in what a deployment comes to.
abbrev pub DeploymentsReadByReads : Type 0
DeploymentsReadByReads = (d : Deployment) → ReadsAreReads (plan_of d)

-- A watch is set by a read at a number up to the mark.
abbrev pub WatchesAreSetUpToTheMark : Type 0
WatchesAreSetUpToTheMark = (p : Plan) (c i id : ℕ) (e : Entry) (h : List Entry) → ReadsAreReads p → IsHistory p (e ∷ h) → e.op ≡ op.WatchSet c i id → number_of_read p c h ≤ mark_of h

-- A watch fires at a push beyond its first number.
abbrev pub FiresBeyondItsFirst : Type 0
FiresBeyondItsFirst = (p : Plan) (id first : ℕ) (h : List Entry) (f : Firing) → ReadsAreReads p → IsHistory p h → firing_of p id h ≡ Some f → first_of p id h ≡ Some first → first < f.tx

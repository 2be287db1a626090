-- Every history that the rules allow is lawful.
use Rattle.std.specs.Prelude.{List}
use Rattle.fk_print.specs.declared.entry.Entry.{Entry}
use Rattle.fk_script.specs.declared.deployment.Deployment.{Deployment}
use Rattle.fk_spec.specs.Plan.{Plan, plan_of}
use Rattle.fk_spec.specs.Next.{IsHistory}
use Rattle.fk_spec.specs.Lawful.{Lawful, Promises}
use Rattle.fk_law_reply.specs.Plans.{HasFittingVerbs}

-- A history keeps every promise.
abbrev pub EveryPromiseIsKept : Type 0
EveryPromiseIsKept = (p : Plan) (h : List Entry) → HasFittingVerbs p → IsHistory p h → Promises p h

-- In a deployment, each entry follows those before it, and each prefix keeps the promises.
abbrev pub EveryHistoryIsLawful : Type 0
EveryHistoryIsLawful = (d : Deployment) (h : List Entry) → IsHistory (plan_of d) h → Lawful d h

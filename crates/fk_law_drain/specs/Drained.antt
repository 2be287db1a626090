-- Where a drain does nothing next, all is answered.
use Rattle.std.specs.Prelude.{◌≡◌, List, None}
use Rattle.fk_print.specs.declared.entry.Entry.{Entry}
use Rattle.fk_script.specs.declared.deployment.Deployment.{Deployment}
use Rattle.fk_spec.specs.Plan.{Plan, plan_of}
use Rattle.fk_spec.specs.Schedule.{next_of_drain, AllAnswered, Answered, Scheduled}
use Rattle.fk_spec.specs.Next.{IsHistory}
use Rattle.fk_law_reply.specs.Plans.{HasFittingVerbs}

-- Where a drain does nothing next, each command has its line, every lane is empty, no ping is owed and no
-- function is in flight.
abbrev pub DrainedIsAnswered : Type 0
DrainedIsAnswered = (p : Plan) (h : List Entry) → HasFittingVerbs p → IsHistory p h → next_of_drain p h ≡ None → AllAnswered p h

-- So it is with a deployment's plan,
abbrev pub DrainedDeploymentIsAnswered : Type 0
DrainedDeploymentIsAnswered = (d : Deployment) (h : List Entry) → IsHistory (plan_of d) h → next_of_drain (plan_of d) h ≡ None → Answered d h

-- and so after its whole schedule.
abbrev pub ScheduledIsAnswered : Type 0
ScheduledIsAnswered = (d : Deployment) (h : List Entry) → IsHistory (plan_of d) h → Scheduled d h → Answered d h

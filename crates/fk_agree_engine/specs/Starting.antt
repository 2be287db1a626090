-- A new engine, and the plan of a deployment.
use Rattle.std.specs.Prelude.{◌≡◌, ℕ, List, [], length, Some}
use Rattle.fk_script.specs.PrintLaws.{IsMeant}
use Rattle.fk_script.specs.declared.deployment.Deployment.{Deployment}
use Rattle.fk_store.specs.Meaning.{new_table}
use Rattle.fk_spec.specs.Plan.{Plan, asks_in, nth, plan_of}
use Rattle.fk_client.specs.Meaning as client
use Rattle.fk_client.specs.Meaning.{new_client}
use Rattle.fk_engine.specs.Engine.{new_engine}
use Rattle.fk_agree_engine.specs.World.{IsWithinLimits, IsWorld}

-- A new engine for the clients of a plan, over a new table, stands where no history says.
abbrev pub NewEngineStands : Type 0
NewEngineStands =
    (p : Plan) (ms : List client.Meaning) → length ms ≡ length p.asks → ((c : ℕ) (m : client.Meaning) → nth ms c ≡ Some m → m ≡ new_client c (asks_in p c))
    → IsWorld p [] (new_engine p.lock p.beat ms (new_table (length p.asks))).parts

-- What a deployment that some bytes mean comes to is within the limits.
abbrev pub DeploymentsAreWithinLimits : Type 0
DeploymentsAreWithinLimits = (d : Deployment) → IsMeant d → IsWithinLimits (plan_of d)

-- What a deployment's run is: a history that is lawful, scheduled and answered.
use Rattle.std.specs.Prelude.{List}
use Rattle.fk_print.specs.declared.entry.Entry.{Entry}
use Rattle.fk_script.specs.declared.deployment.Deployment.{Deployment}
use Rattle.fk_spec.specs.Lawful.{Lawful}
use Rattle.fk_spec.specs.Schedule.{Answered, Scheduled}

-- The history follows the deployment's schedule, keeps every promise at each of its prefixes, and
-- answers every command.
pub record IsRunOf (d : Deployment) (h : List Entry) : Type 0 where
  pub lawful : Lawful d h
  pub scheduled : Scheduled d h
  pub answered : Answered d h

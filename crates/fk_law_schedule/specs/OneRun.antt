-- A deployment has one run.
use Rattle.std.specs.Prelude.{◌≡◌, List}
use Rattle.fk_print.specs.declared.entry.Entry.{Entry}
use Rattle.fk_script.specs.declared.deployment.Deployment.{Deployment}
use Rattle.fk_spec.specs.Lawful.{Lawful}
use Rattle.fk_spec.specs.Schedule.{Scheduled}

-- Two lawful histories that follow the deployment's schedule are the same.
abbrev pub ThereIsOneRun : Type 0
ThereIsOneRun = (d : Deployment) (h g : List Entry) → Lawful d h → Scheduled d h → Lawful d g → Scheduled d g → h ≡ g

-- What is printed tells the same as what was read.
use Rattle.std.specs.Prelude.{◌≡◌, ℕ, ◌≤◌, List}
use Rattle.fk_script.specs.Generate.{generated}
use Rattle.fk_script.specs.Printed.{deployment_text}
use Rattle.fk_script.specs.Reading.{Means, deployment_of}
use Rattle.fk_script.specs.declared.deployment.Deployment.{Deployment}

-- Some bytes mean the deployment.
abbrev pub IsMeant : Deployment → Type 0
IsMeant d = (bytes : List ℕ) × (deployment_of bytes ≡ Means d)

-- The printed form of a deployment that some bytes mean means that deployment.
abbrev pub PrintedReadsBack : Type 0
PrintedReadsBack = (d : Deployment) → IsMeant d → deployment_of (deployment_text d) ≡ Means d

-- Each generated deployment is one that some bytes mean.
abbrev pub GeneratedIsMeant : Type 0
GeneratedIsMeant = (number size : ℕ) → size ≤ 500 → IsMeant (generated number size)

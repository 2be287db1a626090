-- What bytes mean is sound, and what is printed of a sound deployment reads back.
use Rattle.std.proofs.Common.{◌≡◌, ℕ, List, [], subst, ◌∙◌, ap}
use Rattle.fk_script.specs.Generate.{generated}
use Rattle.fk_script.specs.Lines.{lines}
use Rattle.fk_script.specs.PrintLaws.{GeneratedIsMeant, IsMeant, PrintedReadsBack}
use Rattle.fk_script.specs.Printed.{deployment_text}
use Rattle.fk_script.specs.Reading.{Means, deployment_of}
use Rattle.fk_script.specs.declared.deployment.Deployment.{Deployment}
use Rattle.fk_script.proofs.GeneratedSound.{generated_is_sound}
use Rattle.fk_script.proofs.Passing.{reading_was}
use Rattle.fk_script.proofs.PrintedDeployment.{sound_reads_back}
use Rattle.fk_script.proofs.SoundLines.{read_is_sound}
use Rattle.fk_script.proofs.Sound.{IsSound}

pub meant_reads_back : PrintedReadsBack
meant_reads_back d meant =
    let read = reading_was [] (lines meant.0) d meant.1 in
    sound_reads_back d (subst IsSound read.2 (read_is_sound meant.0 read.0 read.1))

-- the same of a text that is the printed form
pub text_reads_back : (d : Deployment) (text : List ℕ) → text ≡ deployment_text d → IsMeant d → deployment_of text ≡ Means d
text_reads_back d text e meant = ap deployment_of e ∙ meant_reads_back d meant

-- the printed form of a generated deployment means it
pub generated_meant : GeneratedIsMeant
generated_meant number size few = (deployment_text (generated number size), sound_reads_back (generated number size) (generated_is_sound number size few))

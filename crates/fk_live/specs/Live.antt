-- What each status says of the words, and of the source and the sink, where the clients run on threads.
use Rattle.std.specs.Prelude.{◌≡◌, ◌≢◌, ℕ, false, ⊤, ◌⊎◌, List, Option, Some, None}
use Rattle.std.specs.Io.KnownBytes.{Appends}
use Rattle.fk_print.specs.EntryText.{history_text}
use Rattle.fk_print.specs.declared.entry.Entry.{Entry}
use Rattle.fk_script.specs.Reading.{Means, deployment_of}
use Rattle.fk_script.specs.Unscheduled.{unscheduled_of}
use Rattle.fk_script.specs.declared.deployment.Deployment.{Deployment}
use Rattle.fk_spec.specs.Lawful.{Lawful}
use Rattle.fk_spec.specs.Schedule.{Answered}
use Rattle.fk_world.specs.World.{View}
use Rattle.fk_run.specs.Run.{client_names}
use Rattle.fk_run.specs.Statuses.{AnswersBy, IsOffenceBy, IsRefusalBy, ReadsWhole}
use Rattle.fk_live.specs.Undisturbed.{IsUndisturbed}

-- A history of the deployment that keeps every promise, that nothing disturbed, and that answers every command.
pub record IsLiveRunOf (d : Deployment) (h : List Entry) : Type 0 where
  pub lawful : Lawful d h
  pub undisturbed : IsUndisturbed h
  pub answered : Answered d h

-- The text that status 0 writes: the input was read to its end and means this deployment, where no schedule may stand,
-- and such a history of it was made.
pub record IsLiveText (source source_after : Option (List ℕ)) (text : List ℕ) : Type 0 where
  pub input : List ℕ
  pub deployment : Deployment
  pub history : List Entry
  pub read : ReadsWhole source source_after input
  pub meant : unscheduled_of input ≡ Means deployment
  pub ran : IsLiveRunOf deployment history
  pub is : text ≡ history_text (client_names deployment) history

-- Status 0: that text was written, and a world of the deployment and the history is held, which isn't spent.
pub record Lives (source source_after sink sink_after : Option (List ℕ)) (played : Option View) : Type 0 where
  pub text : List ℕ
  pub run : IsLiveText source source_after text
  pub held : played ≡ Some (record { deployment = run.deployment; past = run.history; spent = false })
  pub written : Appends sink sink_after text

-- A text that status 0 or status 65 writes: at 71 and at 74 a front of one was written.
abbrev pub IsOutput : Option (List ℕ) → Option (List ℕ) → List ℕ → Type 0
IsOutput source source_after text = IsLiveText source source_after text ⊎ IsRefusalBy unscheduled_of source source_after text

-- With words that are accepted, and where nothing failed: the answer, but for want of memory.
abbrev pub Completes : Option ℕ → Option (List ℕ) → ℕ → Type 0
Completes None left status = ⊤
Completes (Some workers) left status = status ≢ 71 → AnswersBy unscheduled_of left status

-- Pieces, in which the functions below the top call say what they did.
-- These bytes mean a deployment.
abbrev pub IsFile : List ℕ → Type 0
IsFile bytes = (d : Deployment) × (deployment_of bytes ≡ Means d)

-- This is the text of such a history of the deployment.
pub record IsTextOf (d : Deployment) (text : List ℕ) : Type 0 where
  pub history : List Entry
  pub ran : IsLiveRunOf d history
  pub is : text ≡ history_text (client_names d) history

-- That text was written, and its world is held, which isn't spent.
pub record WritesLive (d : Deployment) (sink sink_after : Option (List ℕ)) (played : Option View) : Type 0 where
  pub text : List ℕ
  pub run : IsTextOf d text
  pub held : played ≡ Some (record { deployment = d; past = run.history; spent = false })
  pub written : Appends sink sink_after text

-- The same of the deployment that the input means.
pub record LiveOfInput (input : List ℕ) (sink sink_after : Option (List ℕ)) (played : Option View) : Type 0 where
  pub deployment : Deployment
  pub meant : unscheduled_of input ≡ Means deployment
  pub run : WritesLive deployment sink sink_after played

-- This text is written for the input: of a history of the deployment that it means, or the line that says how it offends.
abbrev pub IsAnswer : List ℕ → List ℕ → Type 0
IsAnswer input text = ((d : Deployment) × (unscheduled_of input ≡ Means d) × IsTextOf d text) ⊎ IsOffenceBy unscheduled_of input text

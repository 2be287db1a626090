-- What each status says of the words, and of the source and the sink: their bytes, where they are told, before and after.
use Rattle.std.specs.Prelude.{◌≡◌, ◌≢◌, ◌≤◌, ℕ, ◌+◌, ◌==◌, nat_lt, Bool, true, false, if◌then◌else◌, ⊤, ◌⊎◌, List, [], ◌∷◌, ◌++◌, codes, length, Option, Some, None, is_some}
use Rattle.std.specs.Fmt.{decimal}
use Rattle.std.specs.List.{list_any}
use Rattle.std.specs.Io.KnownBytes.{Appends, Consumes, IsAtEnd}
use Rattle.fk_print.specs.EntryText.{history_text}
use Rattle.fk_print.specs.SummaryText.{summary_text}
use Rattle.fk_print.specs.declared.entry.Entry.{Entry}
use Rattle.fk_script.specs.Generate.{generated}
use Rattle.fk_script.specs.Reading.{Means, Offends, Reading, deployment_of}
use Rattle.fk_script.specs.Reasons.{why_text}
use Rattle.fk_script.specs.declared.deployment.Deployment.{Deployment}
use Rattle.fk_script.specs.declared.why.Why.{Why}
use Rattle.fk_spec.specs.Run.{IsRunOf}
use Rattle.fk_words.specs.declared.words.Asked.{Asked}
use Rattle.fk_words.specs.declared.words.Load.{Load}
use Rattle.fk_world.specs.World.{View}
use Rattle.fk_run.specs.Run.{client_names}

abbrev pub is_status : ℕ → Bool
is_status status = list_any (λ s. s == status) (0 ∷ 64 ∷ 65 ∷ 66 ∷ 71 ∷ 74 ∷ [])

-- the most bytes that are read, 4 MiB
abbrev pub input_limit : ℕ
input_limit = 4194304

abbrev pub too_long_line : List ℕ
too_long_line = codes "bad TooLong\n"

-- the number of a line, and the reason for which it offends
abbrev pub bad_line : ℕ → Why → List ℕ
bad_line line why = codes "bad " ++ decimal line ++ codes " " ++ why_text why ++ codes "\n"

abbrev pub offence : Reading → Option (List ℕ)
offence (Means deployment) = None
offence (Offends line why) = Some (bad_line line why)

-- The line that refuses an input whose bytes are read so: it is too long, or one of its lines offends.
abbrev pub refusal_by : (List ℕ → Reading) → List ℕ → Option (List ℕ)
refusal_by reader input = if nat_lt input_limit (length input) then Some too_long_line else offence (reader input)

-- The same of a deployment file that may have a schedule.
abbrev pub refusal_of : List ℕ → Option (List ℕ)
refusal_of input = refusal_by deployment_of input

-- The words are accepted, and make no deployment.
abbrev pub reads_source : Option Asked → Bool
reads_source None = false
reads_source (Some asked) = if is_some asked.load then false else true

-- what the words make, or what the input means
abbrev pub reading_of : Option Load → List ℕ → Reading
reading_of (Some load) input = Means (generated load.number load.size)
reading_of None input = deployment_of input

-- The input was read to its end, and isn't too long.
abbrev pub ReadsWhole : Option (List ℕ) → Option (List ℕ) → List ℕ → Type 0
ReadsWhole old new input = Consumes old new input × IsAtEnd new × (length input ≤ input_limit)

-- The input was read; where the words make the deployment, nothing is.
abbrev pub Reads : Option Load → Option (List ℕ) → Option (List ℕ) → List ℕ → Type 0
Reads (Some load) old new input = new ≡ old
Reads None old new input = ReadsWhole old new input

-- the text of a run: its summary, or its history
abbrev pub run_text : Bool → Deployment → List Entry → List ℕ
run_text summary d h = if summary then summary_text h else history_text (client_names d) h

-- A front of the text was written: nothing, all of it, or up to a byte within it.
pub record WritesFront (sink sink_after : Option (List ℕ)) (text : List ℕ) : Type 0 where
  pub front : List ℕ
  pub rest : List ℕ
  pub cut : text ≡ front ++ rest
  pub written : Appends sink sink_after front

-- Where a write failed or memory was wanted: a front of one of these texts was written, or nothing, before there was a text.
abbrev pub Cuts : (List ℕ → Type 0) → Option (List ℕ) → Option (List ℕ) → Type 0
Cuts IsText sink sink_after = Appends sink sink_after [] ⊎ ((text : List ℕ) × IsText text × WritesFront sink sink_after text)

-- Pieces, in which the functions below the top call say what they did.
-- This is the text of a run of the deployment.
pub record IsTextOf (summary : Bool) (d : Deployment) (text : List ℕ) : Type 0 where
  pub history : List Entry
  pub ran : IsRunOf d history
  pub is : text ≡ run_text summary d history

-- The text of a run of the deployment was written, and the world that played it is held, which isn't spent.
pub record WritesRun (summary : Bool) (d : Deployment) (sink sink_after : Option (List ℕ)) (played : Option View) : Type 0 where
  pub text : List ℕ
  pub run : IsTextOf summary d text
  pub held : played ≡ Some (record { deployment = d; past = run.history; spent = false })
  pub written : Appends sink sink_after text

-- As the input is read, a line of it offends, and this line says its number and its reason.
pub record IsOffenceBy (reader : List ℕ → Reading) (input text : List ℕ) : Type 0 where
  pub line : ℕ
  pub why : Why
  pub offends : reader input ≡ Offends line why
  pub is : text ≡ bad_line line why

abbrev pub IsOffence : List ℕ → List ℕ → Type 0
IsOffence input text = IsOffenceBy deployment_of input text

-- That line was written.
pub record OffenceBy (reader : List ℕ → Reading) (input : List ℕ) (sink sink_after : Option (List ℕ)) : Type 0 where
  pub text : List ℕ
  pub offends : IsOffenceBy reader input text
  pub written : Appends sink sink_after text

abbrev pub Offence : List ℕ → Option (List ℕ) → Option (List ℕ) → Type 0
Offence input sink sink_after = OffenceBy deployment_of input sink sink_after

-- The text of a run of the deployment that the input means was written.
pub record RunOfInput (summary : Bool) (input : List ℕ) (sink sink_after : Option (List ℕ)) (played : Option View) : Type 0 where
  pub deployment : Deployment
  pub meant : deployment_of input ≡ Means deployment
  pub run : WritesRun summary deployment sink sink_after played

-- This text is written for the input: of a run of the deployment that it means, or the line that says how it offends.
abbrev pub IsAnswer : Bool → List ℕ → List ℕ → Type 0
IsAnswer summary input text = ((d : Deployment) × (deployment_of input ≡ Means d) × IsTextOf summary d text) ⊎ IsOffence input text

-- The text that status 0 writes: the words ask for this deployment, whose input was read to its end, and a run of it was made.
pub record IsRunText (asked : Option Asked) (source source_after : Option (List ℕ)) (text : List ℕ) : Type 0 where
  pub asks : Asked
  pub input : List ℕ
  pub deployment : Deployment
  pub history : List Entry
  pub accepted : asked ≡ Some asks
  pub read : Reads asks.load source source_after input
  pub meant : reading_of asks.load input ≡ Means deployment
  pub ran : IsRunOf deployment history
  pub is : text ≡ run_text asks.summary deployment history

-- Status 0: that text was written, and the world that played the run is held, which isn't spent.
pub record Runs (asked : Option Asked) (source source_after sink sink_after : Option (List ℕ)) (played : Option View) : Type 0 where
  pub text : List ℕ
  pub run : IsRunText asked source source_after text
  pub held : played ≡ Some (record { deployment = run.deployment; past = run.history; spent = false })
  pub written : Appends sink sink_after text

-- The line that status 65 writes: the input was taken, to its end unless it is too long, and as it is read this line
-- refuses it.
pub record IsRefusalBy (reader : List ℕ → Reading) (source source_after : Option (List ℕ)) (line : List ℕ) : Type 0 where
  pub input : List ℕ
  pub taken : Consumes source source_after input
  pub whole : length input ≤ input_limit → IsAtEnd source_after
  pub refused : refusal_by reader input ≡ Some line

abbrev pub IsRefusal : Option (List ℕ) → Option (List ℕ) → List ℕ → Type 0
IsRefusal source source_after line = IsRefusalBy deployment_of source source_after line

-- Status 65: that line was written.
pub record RefusesBy (reader : List ℕ → Reading) (source source_after sink sink_after : Option (List ℕ)) : Type 0 where
  pub line : List ℕ
  pub refusal : IsRefusalBy reader source source_after line
  pub written : Appends sink sink_after line

abbrev pub Refuses : Option (List ℕ) → Option (List ℕ) → Option (List ℕ) → Option (List ℕ) → Type 0
Refuses source source_after sink sink_after = RefusesBy deployment_of source source_after sink sink_after

-- A text that status 0 or status 65 writes: at 71 and at 74 a front of one was written.
abbrev pub IsOutput : Option Asked → Option (List ℕ) → Option (List ℕ) → List ℕ → Type 0
IsOutput asked source source_after text = IsRunText asked source source_after text ⊎ IsRefusal source source_after text

-- the answer at an input that is refused by this line, or by none
abbrev pub status_of : Option (List ℕ) → ℕ
status_of refusal = if is_some refusal then 65 else 0

-- Where the source tells its bytes, what they come to as they are read; else one of the two.
abbrev pub AnswersBy : (List ℕ → Reading) → Option (List ℕ) → ℕ → Type 0
AnswersBy reader None status = (status ≡ 0) ⊎ (status ≡ 65)
AnswersBy reader (Some input) status = status ≡ status_of (refusal_by reader input)

-- Where the deployment is made, 0.
abbrev pub Answers : Option Load → Option (List ℕ) → ℕ → Type 0
Answers (Some load) left status = status ≡ 0
Answers None left status = AnswersBy deployment_of left status

-- With words that are accepted, and where nothing failed: the answer, but for want of memory.
abbrev pub Completes : Option Asked → Option (List ℕ) → ℕ → Type 0
Completes None left status = ⊤
Completes (Some asked) left status = status ≢ 71 → Answers asked.load left status

-- What the bytes of a deployment file mean: the grammar of the file.
use Rattle.std.specs.Prelude.{◌≡◌, ℕ, ◌+◌, List, [], ◌∷◌, length, Option, Some, None}
use Rattle.fk_script.specs.declared.deployment.Deployment.{Deployment}
use Rattle.fk_script.specs.declared.fault.ScriptFault.{ScriptFault}
use Rattle.fk_script.specs.declared.fault.ScriptFault.TheVariants.{Bad, NoMemory}
use Rattle.fk_script.specs.declared.why.Why.{Why}
use Rattle.fk_script.specs.Lines.{Word, Line, lines, words}
use Rattle.fk_script.specs.SoFar.{so_far, meant}
use Rattle.fk_script.specs.Reasons.{offence}

-- a deployment, or the first line that offends, counted from 1, with its first reason
pub data Reading : Type 0 where
  Means : (deployment : Deployment) → Reading
  Offends : (line : ℕ) (why : Why) → Reading

-- a line that offends ends the reading
abbrev pub unless : Option Why → ℕ → Reading → Reading
unless None line others = others
unless (Some why) line others = Offends line why

-- the lines that are left, after those before them, the nearest first
abbrev pub reading_after : List (List Word) → List Line → Reading
reading_after before [] = Means (meant (so_far before))
reading_after before (l ∷ ls) = unless (offence (so_far before) l) (length before + 1) (reading_after (words l.text ∷ before) ls)

-- what the bytes mean
abbrev pub deployment_of : List ℕ → Reading
deployment_of bytes = reading_after [] (lines bytes)

-- A fault tells the offence; want of memory may come at any bytes.
abbrev pub Tells : Reading → ScriptFault → Type 0
Tells reading (Bad line why) = reading ≡ Offends line why
Tells reading NoMemory = Unit {0}

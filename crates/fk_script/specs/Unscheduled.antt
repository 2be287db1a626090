-- What the bytes of a deployment file mean where no schedule may stand.
use Rattle.std.specs.Prelude.{ℕ, ◌+◌, ◌==◌, ◌&&◌, Bool, true, false, if◌then◌else◌, List, [], ◌∷◌, codes, length, Option, Some, None}
use Rattle.fk_script.specs.declared.why.Why.{Why}
use Rattle.fk_script.specs.declared.why.Why.TheVariants as why
use Rattle.fk_script.specs.Lines.{Word, Line, is, first, lines, words}
use Rattle.fk_script.specs.SoFar.{SoFar, so_far, meant}
use Rattle.fk_script.specs.Reasons.{offence}
use Rattle.fk_script.specs.Reading.{Reading, Means, deployment_of, unless}

-- a line whose only word is `schedule`
abbrev pub is_schedule_line : List Word → Bool
is_schedule_line ws = length ws == 1 && is (first ws) (codes "schedule")

-- a line that offends by nothing else, and whose only word is `schedule`, offends by that
abbrev pub or_schedule : List Word → Option Why → Option Why
or_schedule ws None = if is_schedule_line ws then Some why.Schedule else None
or_schedule ws (Some why) = Some why

-- the first reason of a line where no schedule may stand
abbrev pub offence_unscheduled : SoFar → Line → Option Why
offence_unscheduled s l = or_schedule (words l.text) (offence s l)

-- the lines that are left, after those before them, the nearest first
abbrev pub unscheduled_after : List (List Word) → List Line → Reading
unscheduled_after before [] = Means (meant (so_far before))
unscheduled_after before (l ∷ ls) = unless (offence_unscheduled (so_far before) l) (length before + 1) (unscheduled_after (words l.text ∷ before) ls)

-- what the bytes mean where no schedule may stand: a line that would begin one offends too
abbrev pub unscheduled_of : List ℕ → Reading
unscheduled_of bytes = unscheduled_after [] (lines bytes)

-- where a schedule may stand, nothing is added
abbrev pub reason_where : Bool → List Word → Option Why → Option Why
reason_where true ws o = o
reason_where false ws o = or_schedule ws o

-- the first reason of a line, where a schedule may stand or not
abbrev pub offence_where : Bool → SoFar → Line → Option Why
offence_where schedule s l = reason_where schedule (words l.text) (offence s l)

-- what the bytes mean, where a schedule may stand or not
abbrev pub reading_where : Bool → List ℕ → Reading
reading_where true bytes = deployment_of bytes
reading_where false bytes = unscheduled_of bytes

-- Files that have to stand without a schedule, beside what the grammar gives for them. It was written down by hand.
use Rattle.std.specs.Prelude.{◌≡◌, ℕ, false, List, [], ◌∷◌, codes, map}
use Rattle.fk_script.specs.declared.why.Why.TheVariants as why
use Rattle.fk_script.specs.Reading.{Reading, Means, Offends}
use Rattle.fk_script.specs.Unscheduled.{unscheduled_of}

abbrev pub unscheduled : List (List ℕ)
unscheduled = codes "client a\nschedule\n"
    ∷ codes "client a\nfly\nschedule\n"
    ∷ codes "client a\nschedule\nfly\n"
    ∷ codes "client a\nschedule x\n"
    ∷ codes "client a\nschedule"
    ∷ codes "\n  schedule  \n"
    ∷ codes "schedule\nschedule\n"
    ∷ codes "lock 01\nschedule\n"
    ∷ codes "#schedule\n# schedule\n"
    ∷ []

abbrev pub readings : List Reading
readings = Offends 2 why.Schedule
    ∷ Offends 2 why.UnknownCommand
    ∷ Offends 2 why.Schedule
    ∷ Offends 2 why.BadWords
    ∷ Offends 2 why.Unended
    ∷ Offends 2 why.Schedule
    ∷ Offends 1 why.Schedule
    ∷ Offends 1 why.BadNumber
    ∷ Means (record { config = record { lock = 10; beat = 30 }; clients = []; turns = []; scheduled = false })
    ∷ []

abbrev pub UnscheduledAreJudged : Type 0
UnscheduledAreJudged = map unscheduled_of unscheduled ≡ readings

-- Which condition of a transaction that settles a request failed, and what that says.
use Rattle.std.specs.Prelude.{ℕ, suc, ◌==◌, if◌then◌else◌, List, [], ◌∷◌, Option, Some, None}
use Rattle.fk_base.specs.Path.{PathNames}
use Rattle.fk_store.specs.Conds.{Miss}
use Rattle.fk_store.specs.declared.cond.Found.{Found}
use Rattle.fk_store.specs.declared.cond.Found.TheVariants as found
use Rattle.fk_store.specs.declared.lock.Lock.{Lock}
use Rattle.fk_settle.specs.declared.settling.Verdict.{Verdict}
use Rattle.fk_settle.specs.declared.settling.Verdict.TheVariants as verdict

-- the path whose condition has this place, where that of the first of these paths has place i
abbrev pub path_from : ℕ → ℕ → List PathNames → Option PathNames
path_from i place [] = None
path_from i place (p ∷ ps) = if place == i then Some p else path_from (suc i) place ps

abbrev pub passed_at : Lock → Option PathNames → Verdict
passed_at l None = verdict.Failed
passed_at l (Some p) = verdict.Passed p l.inv l.moment

-- a number is found at the settled request, a lock at one of the paths
abbrev pub found_from : ℕ → List PathNames → ℕ → Found → Verdict
found_from i ps place (found.Number n) = verdict.Settled n
found_from i ps place (found.Lock l) = passed_at l (path_from i place ps)

abbrev pub missed_as : ℕ → List PathNames → Option Miss → Verdict
missed_as i ps None = verdict.Done
missed_as i ps (Some m) = found_from i ps m.place m.found

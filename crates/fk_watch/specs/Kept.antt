-- What a table keeps, and what that means.
use Rattle.std.specs.Prelude.{ℕ, Bool, List, Option, Some, None}
use Rattle.std.specs.BTreeMap.{is_at}
use Rattle.std.specs.Map.{lookup}
use Rattle.fk_base.specs.Path.{PathNames, path_cmp}
use Rattle.fk_watch.specs.declared.watch.Watch.{Watch}
use Rattle.fk_watch.specs.declared.watch.Firing.{Firing}
use Rattle.fk_watch.specs.Meaning.{Watches}
use Rattle.fk_watch.specs.Setting.{at}

-- how many numbers were given, the set and the fired watches under their numbers, the greatest swept transaction,
-- and the last sweep of each path that was touched
pub record Kept : Type 0 where
  pub given : ℕ
  pub set : List (ℕ × Watch)
  pub fired : List (ℕ × Firing)
  pub swept : ℕ
  pub sweeps : List (PathNames × ℕ)
  pub armed : Bool
  pub faults : ℕ

-- the number, or else 0
abbrev pub or_zero : Option ℕ → ℕ
or_zero None = 0
or_zero (Some n) = n

-- the last sweep of a path; one that was never touched has 0
abbrev pub last_in : PathNames → List (PathNames × ℕ) → ℕ
last_in p sweeps = or_zero (lookup (is_at (path_cmp p)) sweeps)

-- what a table means by what it keeps
abbrev pub watches_of : Kept → Watches
watches_of k = record {
  given = k.given;
  set = λ n. at n k.set;
  fired = λ n. at n k.fired;
  swept = k.swept;
  last = λ p. last_in p k.sweeps;
  armed = k.armed;
  faults = k.faults;
}

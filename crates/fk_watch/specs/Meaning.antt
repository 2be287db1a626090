-- What a table of watches means: how many watch numbers were given, the set watches and those that fired
-- and aren't told, by their numbers, the greatest swept transaction, and of each path the last sweep that
-- touched it; whether the next call fails, and how often one failed.
use Rattle.std.specs.Prelude.{ℕ, Bool, true, false, Option, None}
use Rattle.fk_base.specs.Path.{PathNames}
use Rattle.fk_base.specs.Faults.{one_more}
use Rattle.fk_watch.specs.declared.watch.Watch.{Watch}
use Rattle.fk_watch.specs.declared.watch.Firing.{Firing}

pub record Watches : Type 0 where
  pub given : ℕ
  pub set : ℕ → Option Watch
  pub fired : ℕ → Option Firing
  pub swept : ℕ
  pub last : PathNames → ℕ
  pub armed : Bool
  pub faults : ℕ

-- nothing was given, set, fired or swept
abbrev pub new_watches : Watches
new_watches = record {
  given = 0;
  set = λ n. None;
  fired = λ n. None;
  swept = 0;
  last = λ p. 0;
  armed = false;
  faults = 0;
}

-- the next call fails
abbrev pub armed : Watches → Watches
armed m = record m { armed = true }

-- the next call doesn't fail
abbrev pub calmed : Watches → Watches
calmed m = record m { armed = false }

-- A call that fails raises the count of faults, calms the table and changes nothing else.
abbrev pub failed : Watches → Watches
failed m = record m { armed = false; faults = one_more m.faults }

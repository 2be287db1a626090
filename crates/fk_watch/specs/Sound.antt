-- What holds of every table of watches.
use Rattle.std.specs.Prelude.{◌≡◌, ◌≤◌, ℕ, true, Some, None, is_some}
use Rattle.fk_base.specs.Path.{PathNames}
use Rattle.fk_watch.specs.declared.watch.Watch.{Watch}
use Rattle.fk_watch.specs.declared.watch.Firing.{Firing}
use Rattle.fk_watch.specs.Meaning.{Watches}

-- a number is one that was given
abbrev pub IsGiven : Watches → ℕ → Type 0
IsGiven m n = (1 ≤ n) × (n ≤ m.given)

-- The numbers of set and of fired watches are from 1 to how many were given, and no watch is both. A session has
-- at most one set watch of a path and kind. What has fired was fired by a swept transaction, and no path was
-- swept beyond the greatest.
pub record IsSound (m : Watches) : Type 0 where
  pub set_given : (n : ℕ) → is_some (m.set n) ≡ true → IsGiven m n
  pub fired_given : (n : ℕ) → is_some (m.fired n) ≡ true → IsGiven m n
  pub apart : (n : ℕ) → is_some (m.set n) ≡ true → m.fired n ≡ None
  pub one : (i j : ℕ) (w : Watch) → m.set i ≡ Some w → m.set j ≡ Some w → i ≡ j
  pub fired_swept : (n : ℕ) (f : Firing) → m.fired n ≡ Some f → f.tx ≤ m.swept
  pub last_swept : (p : PathNames) → m.last p ≤ m.swept

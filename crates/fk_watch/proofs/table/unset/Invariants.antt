use Rattle.std.proofs.Common.{◌≡◌, ℕ, None, cond, drop}
use Rattle.std.specs.Prelude.{is_some}
use Rattle.fk_watch.specs.Answers.{fired_with}
use Rattle.fk_watch.specs.Setting.{at}
use Rattle.fk_watch.proofs.table.unset.Given as goal

abbrev pub invariant-moving : goal.invariant-moving
invariant-moving l = (n : ℕ) → cond (is_some (fired_with n (drop l.fired-index l.list))) None (at n l.set) ≡ cond (is_some (fired_with n l.list)) None (at n l.initial.set)

-- What the functions mean: how many were started, and what stands under each number.
use Rattle.std.specs.Prelude.{◌≡◌, ℕ, ◌+◌, ◌==◌, true, if◌then◌else◌, List, Option, Some, None, is_some}
use Rattle.fk_user.specs.Ids.{has_id, ids_rise}
use Rattle.fk_engine.specs.Machines as machine
use Rattle.fk_engine.specs.Machines.{is_ended}

-- a function that ended, or that was never started, is none
pub record Meaning : Type 0 where
  pub started : ℕ
  pub running : ℕ → Option machine.Meaning

-- no function was started
abbrev pub no_functions : Meaning
no_functions = record { started = 0; running = λ n. None }

-- a number stands for this from now on
abbrev pub with_running : ℕ → Option machine.Meaning → Meaning → Meaning
with_running n o f = record f { running = λ k. if k == n then o else f.running k }

-- the next number stands for a function that started
abbrev pub with_started : machine.Meaning → Meaning → Meaning
with_started m f = record { started = f.started + 1; running = (with_running (f.started + 1) (Some m) f).running }

-- a function ended
abbrev pub without : ℕ → Meaning → Meaning
without n f = with_running n None f

-- a function is none once it has ended
abbrev pub unless_ended : machine.Meaning → Option machine.Meaning
unless_ended m = if is_ended m then None else Some m

-- the functions after one of them made an operation, which left it so
abbrev pub moved : ℕ → machine.Meaning → Meaning → Meaning
moved n m f = with_running n (unless_ended m) f

-- the numbers of the functions in flight, in rising order; there is one such list
pub record AreInFlight (f : Meaning) (ns : List ℕ) : Type 0 where
  pub rising : ids_rise ns ≡ true
  pub exact : (n : ℕ) → has_id n ns ≡ is_some (f.running n)

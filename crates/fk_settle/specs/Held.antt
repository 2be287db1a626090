-- Which locks are still held.
use Rattle.std.specs.Prelude.{ℕ, if◌then◌else◌, List, [], ◌∷◌, Option, Some, None}
use Rattle.fk_base.specs.Path.{PathNames}
use Rattle.fk_store.specs.Locks.{is_held_by}
use Rattle.fk_store.specs.Meaning.{Meaning, lock_of}
use Rattle.fk_store.specs.declared.lock.Lock.{Lock}
use Rattle.fk_spec.specs.Locks.{Passed}

abbrev pub passed_on : PathNames → Lock → Passed
passed_on p l = record { path = p; holder = l.inv; moment = l.moment }

-- the first of the paths whose lock isn't held by invocation n
abbrev pub first_passed : ℕ → Meaning → List PathNames → Option Passed
first_passed n t [] = None
first_passed n t (p ∷ ps) = if is_held_by n (lock_of t p) then first_passed n t ps else Some (passed_on p (lock_of t p))

-- What the answers of a table's calls say of the table before the call, and what it means after it.
use Rattle.std.specs.Prelude.{◌≡◌, ◌<◌, ◌≤◌, ℕ, ◌==◌, true, false, if◌then◌else◌, List, [], ◌∷◌, Option, Some, None, is_some}
use Rattle.fk_tree.specs.declared.change.Touch.{Touch}
use Rattle.fk_wire.specs.declared.fired.Fired.{Fired}
use Rattle.fk_user.specs.Ids.{has_id, ids_rise}
use Rattle.fk_watch.specs.declared.answer.Register.{Register}
use Rattle.fk_watch.specs.declared.answer.Register.TheVariants as register
use Rattle.fk_watch.specs.declared.answer.Sweep.{Sweep}
use Rattle.fk_watch.specs.declared.answer.Sweep.TheVariants as sweep
use Rattle.fk_watch.specs.declared.answer.Told.{Told}
use Rattle.fk_watch.specs.declared.answer.Told.TheVariants as told
use Rattle.fk_watch.specs.declared.watch.Watch.{Watch}
use Rattle.fk_watch.specs.declared.watch.Firing.{Firing}
use Rattle.fk_watch.specs.Listing.{fired_as}
use Rattle.fk_watch.specs.Meaning.{Watches, failed}
use Rattle.fk_watch.specs.Registering.{IsNumberOf, registered}
use Rattle.fk_watch.specs.Sweeping.{only_of, swept_for, told_for}

-- REGISTER
-- Swept with the path's last sweep exactly where that is beyond the mark; else Done with the watch's number.
-- Failed exactly where the table is armed.
abbrev pub IsRegister : Watches → Watch → ℕ → Register → Type 0
IsRegister m w mark (register.Done n) = (m.armed ≡ false) × (m.last w.path ≤ mark) × IsNumberOf w m n
IsRegister m w mark (register.Swept t) = (m.armed ≡ false) × (mark < m.last w.path) × (t ≡ m.last w.path)
IsRegister m w mark register.Failed = m.armed ≡ true
IsRegister m w mark register.NoMemory = m.armed ≡ false

-- what a table means after a registration
abbrev pub after_register : Watches → Watch → Register → Watches
after_register m w (register.Done n) = registered w n m
after_register m w (register.Swept t) = m
after_register m w register.Failed = failed m
after_register m w register.NoMemory = m

-- SWEEP
-- the numbers of listed watches
abbrev pub ids_of : List Fired → List ℕ
ids_of [] = []
ids_of (f ∷ fs) = f.id ∷ ids_of fs

-- the first of these with this number
abbrev pub fired_with : ℕ → List Fired → Option Fired
fired_with n [] = None
fired_with n (f ∷ fs) = if n == f.id then Some f else fired_with n fs

-- a fired watch as it is listed under its number
abbrev pub listed : ℕ → Option Firing → Option Fired
listed n None = None
listed n (Some f) = Some (fired_as n f)

-- the watches that the transaction fired and that aren't told, in rising number
pub record AreFired (tx : ℕ) (fired : ℕ → Option Firing) (fs : List Fired) : Type 0 where
  pub rising : ids_rise (ids_of fs) ≡ true
  pub exact : (n : ℕ) → fired_with n fs ≡ listed n (only_of tx (fired n))

-- The epoch: the numbers of all watches that have fired and aren't told, in rising order.
pub record IsEpoch (fired : ℕ → Option Firing) (ids : List ℕ) : Type 0 where
  pub rising : ids_rise ids ≡ true
  pub exact : (n : ℕ) → has_id n ids ≡ is_some (fired n)

-- Already exactly where the greatest swept transaction is this one or a later one; else Fired. Both with what
-- the transaction fired and with the epoch after the call. Failed exactly where the table is armed.
abbrev pub IsSweep : Watches → ℕ → List Touch → Sweep → Type 0
IsSweep m tx ts (sweep.Fired fs ids) =
    (m.armed ≡ false) × (m.swept < tx) × AreFired tx (swept_for tx ts m).fired fs × IsEpoch (swept_for tx ts m).fired ids
IsSweep m tx ts (sweep.Already s fs ids) =
    (m.armed ≡ false) × (tx ≤ m.swept) × (s ≡ m.swept) × AreFired tx m.fired fs × IsEpoch m.fired ids
IsSweep m tx ts sweep.Failed = m.armed ≡ true
IsSweep m tx ts sweep.NoMemory = m.armed ≡ false

-- what a table means after a sweep
abbrev pub after_sweep : Watches → ℕ → List Touch → Sweep → Watches
after_sweep m tx ts (sweep.Fired fs ids) = swept_for tx ts m
after_sweep m tx ts (sweep.Already s fs ids) = m
after_sweep m tx ts sweep.Failed = failed m
after_sweep m tx ts sweep.NoMemory = m

-- TOLD
-- Failed exactly where the table is armed
abbrev pub IsTold : Watches → Told → Type 0
IsTold m told.Done = m.armed ≡ false
IsTold m told.Failed = m.armed ≡ true

-- what a table means after telling
abbrev pub after_told : Watches → ℕ → Told → Watches
after_told m tx told.Done = told_for tx m
after_told m tx told.Failed = failed m

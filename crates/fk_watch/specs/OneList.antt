-- What a sweep lists is the only such list.
use Rattle.std.specs.Prelude.{◌≡◌, ℕ, List, Option}
use Rattle.fk_wire.specs.declared.fired.Fired.{Fired}
use Rattle.fk_watch.specs.declared.watch.Firing.{Firing}
use Rattle.fk_watch.specs.Answers.{AreFired, IsEpoch}

-- a transaction's fired watches are listed in one way
abbrev pub AreOneList : Type 0
AreOneList = (tx : ℕ) (fired : ℕ → Option Firing) (fs gs : List Fired)
    → AreFired tx fired fs → AreFired tx fired gs → fs ≡ gs

-- there is one epoch
abbrev pub IsOneEpoch : Type 0
IsOneEpoch = (fired : ℕ → Option Firing) (ids others : List ℕ) → IsEpoch fired ids → IsEpoch fired others → ids ≡ others

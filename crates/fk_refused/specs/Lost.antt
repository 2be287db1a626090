-- Lost locks that did not pass on, and are refused. They change the run of a client whose lock of the root was granted
-- to another when more than the lock time had passed.
use Rattle.std.specs.Prelude.{ℕ, List, [], ◌∷◌, codes}
use Rattle.fk_print.specs.declared.entry.Entry.{Entry}
use Rattle.fk_spec.specs.Plan.{plan_of}
use Rattle.fk_spec.specs.Refusals.{RefusalsFit}
use Rattle.fk_refused.specs.Changing.{printing, doing, starting_from}
use Rattle.fk_print.specs.declared.line.Line.TheVariants as line
use Rattle.fk_print.specs.declared.line.Shown.TheVariants as shown
use Rattle.fk_print.specs.declared.line.Verb.TheVariants as verb
use Rattle.fk_print.specs.declared.op.Op.TheVariants as op
use Rattle.fk_spec.specs.LockPassedOn as passed

-- the run up to the reply that tells of the lost lock; its miss stands at place 4, its settling at 3, the later grant at
-- 5, the clock at 6, and its own grant at 12
abbrev pub losing : List Entry
losing = starting_from 26 passed.entries

-- the same with the later grant at this moment
abbrev pub losing_at : ℕ → List Entry
losing_at moment = printing 0 (line.Reply 1 1 verb.Create (shown.Lost [] 0 2 moment) ∷ []) (doing 4 (op.CommitLock 1 1 [] 2 moment) (doing 6 (op.Clock moment) losing))

-- the same with the miss, or the settling, of another function
abbrev pub missed_by_another : List Entry
missed_by_another = doing 4 (op.CommitLock 2 1 [] 2 11) losing

abbrev pub settled_by_another : List Entry
settled_by_another = doing 3 (op.LostOk 2) losing

-- A lock is lost when exactly the lock time has passed.
abbrev pub LostAtTheLockTime : Type 0
LostAtTheLockTime = RefusalsFit (plan_of passed.deployed) (losing_at 10) → ⊥

-- A lock is lost that its function did not find to have passed on.
abbrev pub LostWithoutItsMiss : Type 0
LostWithoutItsMiss = RefusalsFit (plan_of passed.deployed) (doing 4 op.Idle losing) → ⊥

-- A lock is lost to one function where its own found another.
abbrev pub MissOfAnotherHolder : Type 0
MissOfAnotherHolder = RefusalsFit (plan_of passed.deployed) (doing 4 (op.CommitLock 1 1 [] 3 11) losing) → ⊥

-- A lock is lost to a grant at one moment where its function found another.
abbrev pub MissOfAnotherMoment : Type 0
MissOfAnotherMoment = RefusalsFit (plan_of passed.deployed) (doing 4 (op.CommitLock 1 1 [] 2 10) losing) → ⊥

-- A lock is lost of one path where its function missed another.
abbrev pub MissOfAnotherPath : Type 0
MissOfAnotherPath = RefusalsFit (plan_of passed.deployed) (doing 4 (op.CommitLock 1 1 (codes "x" ∷ []) 2 11) losing) → ⊥

-- A lock is lost where another function missed it.
abbrev pub MissOfAnotherFunction : Type 0
MissOfAnotherFunction = RefusalsFit (plan_of passed.deployed) missed_by_another → ⊥

-- A lock is lost to a grant at another moment.
abbrev pub LostToAnotherMoment : Type 0
LostToAnotherMoment = RefusalsFit (plan_of passed.deployed) (printing 0 (line.Reply 1 1 verb.Create (shown.Lost [] 0 2 12) ∷ []) losing) → ⊥

-- A lock is lost to a function that was not granted it.
abbrev pub LostToAnotherFunction : Type 0
LostToAnotherFunction = RefusalsFit (plan_of passed.deployed) (printing 0 (line.Reply 1 1 verb.Create (shown.Lost [] 0 3 11) ∷ []) losing) → ⊥

-- A lock is lost of a path that was not granted again.
abbrev pub LostOfAnotherPath : Type 0
LostOfAnotherPath = RefusalsFit (plan_of passed.deployed) (printing 0 (line.Reply 1 1 verb.Create (shown.Lost (codes "x" ∷ []) 0 2 11) ∷ []) losing) → ⊥

-- A lock is lost that no function was granted later.
abbrev pub LostWithoutALaterGrant : Type 0
LostWithoutALaterGrant = RefusalsFit (plan_of passed.deployed) (doing 5 op.Idle losing) → ⊥

-- A lock is lost that its function was not granted.
abbrev pub LostWithoutAGrant : Type 0
LostWithoutAGrant = RefusalsFit (plan_of passed.deployed) (doing 12 op.Idle losing) → ⊥

-- A lock is lost where the request was not settled so.
abbrev pub LostUnsettled : Type 0
LostUnsettled = RefusalsFit (plan_of passed.deployed) (doing 3 op.Idle losing) → ⊥

-- A lock is lost where another function settled its request so.
abbrev pub SettledByAnotherFunction : Type 0
SettledByAnotherFunction = RefusalsFit (plan_of passed.deployed) settled_by_another → ⊥

-- A lock is lost of a client whose function lost none.
abbrev pub LostOfAnotherClient : Type 0
LostOfAnotherClient = RefusalsFit (plan_of passed.deployed) (printing 0 (line.Reply 2 1 verb.Create (shown.Lost [] 0 2 11) ∷ []) losing) → ⊥

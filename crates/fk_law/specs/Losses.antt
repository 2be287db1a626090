-- A request whose lock passed on has the lines that show it.
use Rattle.std.specs.Prelude.{is_some, None, ◌≡◌, ℕ, true, List, Some}
use Rattle.fk_base.specs.Times.{has_passed}
use Rattle.fk_print.specs.declared.entry.Entry.{Entry}
use Rattle.fk_spec.specs.Plan.{Plan}
use Rattle.fk_spec.specs.Start.{Follows, task_of}
use Rattle.fk_spec.specs.Locks.{Loss, loss_of}
use Rattle.fk_spec.specs.Settling.{Passed, outcome_of}
use Rattle.fk_spec.specs.Refusals.{granted_later, has_missed, has_lost}
use Rattle.fk_spec.specs.Follower.{Follower}
use Rattle.fk_spec.specs.Follower as follower
use Rattle.fk_spec.specs.Function.{Following, place_of}
use Rattle.fk_spec.specs.Next.{IsHistory}

-- function n was granted the lock, another function later, when more than the lock time had passed, and
-- function n found this
pub record IsShownLost (p : Plan) (n : ℕ) (x : Loss) (h : List Entry) : Type 0 where
  pub passed : granted_later n x.path x.own x.found x.moment h ≡ true
  pub beyond : has_passed p.lock x.own x.moment ≡ true
  pub missed : has_missed n x.path x.found x.moment h ≡ true

-- What a follower found at its last miss of a lock has its lines.
abbrev pub LossHasItsLines : Type 0
LossHasItsLines = (p : Plan) (n c k : ℕ) (x : Loss) (h : List Entry) → IsHistory p h → task_of n h ≡ Some (Follows c k) → loss_of n h ≡ Some x → IsShownLost p n x h

-- a request that was settled as lost: a follower of it lost a lock, and settled it so
pub record IsLostFor (p : Plan) (c k : ℕ) (x : Loss) (h : List Entry) : Type 0 where
  pub function : ℕ
  pub task : task_of function h ≡ Some (Follows c k)
  pub shown : IsShownLost p function x h
  pub settled : has_lost function h ≡ true

abbrev pub LostHasItsLines : Type 0
LostHasItsLines = (p : Plan) (c k : ℕ) (x : Loss) (h : List Entry) → IsHistory p h → outcome_of c k h ≡ Some (Passed (Some x)) → IsLostFor p c k x h

-- A follower that stands before its loss has found one.
abbrev pub LoserHasFound : Type 0
LoserHasFound = (p : Plan) (n : ℕ) (h : List Entry) (f : Follower) → IsHistory p h → place_of p n h ≡ Following f → f.stage ≡ follower.Lost → is_some (loss_of n h) ≡ true

-- No request is settled as lost without a loss.
abbrev pub LostHasALoss : Type 0
LostHasALoss = (p : Plan) (c k : ℕ) (h : List Entry) → IsHistory p h → outcome_of c k h ≡ Some (Passed None) → ⊥

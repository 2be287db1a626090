-- The ends of a list of commands that aren't answered.
use Rattle.std.specs.Prelude.{◌≡◌, ◌<◌, ℕ, zero, suc, length, Bool, true, false, ◌&&◌, List, [], ◌∷◌, Option, Some, None}
use Rattle.fk_spec.specs.Client.{goes_on, is_open, ready_first, without_ready}
use Rattle.fk_spec.specs.Plan.{Ask, nth}
use Rattle.fk_client.specs.Known.{by_outcome, known}
use Rattle.fk_client.specs.declared.unanswered.Unanswered.{Unanswered}

-- something is known of each of these many at the front
abbrev pub AreTold : ℕ → List Unanswered → Type 0
AreTold zero ss = Unit {0}
AreTold (suc n) [] = ⊥
AreTold (suc n) (s ∷ ss) = (is_open (known s.outcome) ≡ false) × AreTold n ss

abbrev pub IsFirst : Unanswered → List Unanswered → Type 0
IsFirst s [] = ⊥
IsFirst s (r ∷ rs) = r ≡ s

abbrev pub last_of : List Unanswered → Option Unanswered
last_of [] = None
last_of (s ∷ []) = Some s
last_of (s ∷ t ∷ ss) = last_of (t ∷ ss)

-- the places of the commands
abbrev pub places_of : List Unanswered → List ℕ
places_of [] = []
places_of (s ∷ ss) = s.command ∷ places_of ss

-- none but the last of these has to be waited for
abbrev pub front_goes_on : List Ask → List ℕ → Bool
front_goes_on asks [] = true
front_goes_on asks (i ∷ []) = true
front_goes_on asks (i ∷ j ∷ is) = goes_on (nth asks i) && front_goes_on asks (j ∷ is)

-- whether the last hasn't to be waited for
abbrev pub last_goes_on : List Ask → Option Unanswered → Bool
last_goes_on asks None = true
last_goes_on asks (Some s) = goes_on (nth asks s.command)

-- the first of these is ready, and leaves those
pub record LeavesReady (s : Unanswered) (before : List Unanswered) (left : List Unanswered) : Type 0 where
  pub rest : without_ready by_outcome before ≡ without_ready by_outcome left
  pub ready : ready_first by_outcome before ≡ s ∷ ready_first by_outcome left
  pub fewer : length left < length before

-- the first of these isn't ready, and they stay
pub record StaysUnready (before : List Unanswered) (left : List Unanswered) : Type 0 where
  pub same : left ≡ before
  pub rest : without_ready by_outcome before ≡ before
  pub ready : ready_first by_outcome before ≡ []

-- where none but the last of these has to be waited for, so it is with those
abbrev pub KeepsFront : List Unanswered → List Unanswered → Type 0
KeepsFront before left = (asks : List Ask) → front_goes_on asks (places_of before) ≡ true → front_goes_on asks (places_of left) ≡ true

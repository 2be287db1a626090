-- Records of sessions by their numbers.
use Rattle.std.proofs.Common.{◌≡◌, ℕ, zero, suc, ◌+◌, ◌<◌, ◌≤◌, Bool, true, false, cond, eqb, List, [], ◌∷◌, Some, None, length, get_or, set, refl, sym, ◌∙◌, ap, arith}
use Rattle.std.specs.Prelude.{is_some}
use Rattle.std.proofs.lemmas.Bool.{false≢true}
use Rattle.std.proofs.lemmas.Bool.Decides.{nat_tests}
use Rattle.fk_store.specs.Numbered.{session_at, session_from}
use Rattle.fk_store.specs.declared.session_record.SessionRecord.{SessionRecord}
use Rattle.fk_base.proofs.Logic.{by_test}

from_place : (i k : ℕ) (rs : List SessionRecord) (r : SessionRecord) → k < length rs → session_from i (i + k) rs ≡ Some (get_or rs k r)
from_place i k [] r l = let none : ⊥ = omega arith in absurd none
from_place i zero (x ∷ rs) r l = let same : eqb i (i + 0) ≡ true = grind (arith, nat_tests) in rw same refl
from_place i (suc k) (x ∷ rs) r l =
    let other : eqb i (i + suc k) ≡ false = grind (arith, nat_tests) in
    let later : i + suc k ≡ suc i + k = omega arith in
    let shorter : k < length rs = omega arith in
    rw other (ap (λ s. session_from (suc i) s rs) later ∙ from_place (suc i) k rs r shorter)

pub found : (rs : List SessionRecord) (s k : ℕ) (r : SessionRecord) → k < length rs → s ≡ k + 1 → r ≡ get_or rs k r → session_at s rs ≡ Some r
found rs s k r l e g = let later : s ≡ 1 + k = omega arith in ap (λ n. session_at n rs) later ∙ from_place 1 k rs r l ∙ ap Some (sym g)

below : (i s : ℕ) (rs : List SessionRecord) → s < i → session_from i s rs ≡ None
below i s [] l = refl
below i s (r ∷ rs) l = let other : eqb i s ≡ false = grind (arith, nat_tests) in let more : s < suc i = omega arith in rw other (below (suc i) s rs more)

past : (i s : ℕ) (rs : List SessionRecord) → i + length rs ≤ s → session_from i s rs ≡ None
past i s [] l = refl
past i s (r ∷ rs) l = let other : eqb i s ≡ false = grind (arith, nat_tests) in let more : suc i + length rs ≤ s = omega arith in rw other (past (suc i) s rs more)

pub none_zero : (rs : List SessionRecord) (s : ℕ) → s ≡ 0 → session_at s rs ≡ None
none_zero rs s e = let low : s < 1 = omega arith in below 1 s rs low

pub none_past : (rs : List SessionRecord) (s k : ℕ) → s ≡ k + 1 → length rs ≤ k → session_at s rs ≡ None
none_past rs s k e l = let high : 1 + length rs ≤ s = omega arith in past 1 s rs high

there_from : (i s : ℕ) (rs : List SessionRecord) → is_some (session_from i s rs) ≡ true → (i ≤ s) × (s < i + length rs)
there_from i s [] h = absurd (false≢true h)
there_from i s (r ∷ rs) h = step (eqb i s) refl h (there_from (suc i) s rs)
  where
    step : (b : Bool) → eqb i s ≡ b → is_some (cond b (Some r) (session_from (suc i) s rs)) ≡ true → (is_some (session_from (suc i) s rs) ≡ true → (suc i ≤ s) × (s < suc i + length rs)) → (i ≤ s) × (s < i + length (r ∷ rs))
    step true e h f = let same : i ≡ s = grind (arith, nat_tests) in (omega arith, omega arith)
    step false e h f = let rest : (suc i ≤ s) × (s < suc i + length rs) = f h in (omega (arith, rest.0), omega (arith, rest.1))

pub numbered : (s : ℕ) (rs : List SessionRecord) → is_some (session_at s rs) ≡ true → (1 ≤ s) × (s < 1 + length rs)
numbered s rs h = there_from 1 s rs h

set_from : (i k s : ℕ) (rs : List SessionRecord) (r : SessionRecord) → k < length rs → session_from i s (set rs k r) ≡ cond (eqb (i + k) s) (Some r) (session_from i s rs)
set_from i k s [] r l = let none : ⊥ = omega arith in absurd none
set_from i zero s (x ∷ rs) r l = let same : i + 0 ≡ i = omega arith in rw same (step (eqb i s))
  where
    step : (b : Bool) → cond b (Some r) (session_from (suc i) s rs) ≡ cond b (Some r) (cond b (Some x) (session_from (suc i) s rs))
    step true = refl
    step false = refl
set_from i (suc k) s (x ∷ rs) r l =
    let later : i + suc k ≡ suc i + k = omega arith in
    let shorter : k < length rs = omega arith in
    by_test (eqb i s) (λ b. cond b (Some x) (session_from (suc i) s (set rs k r)) ≡ cond (eqb (i + suc k) s) (Some r) (cond b (Some x) (session_from (suc i) s rs)))
    (λ t. let other : eqb (i + suc k) s ≡ false = grind (arith, nat_tests) in rw other refl)
    (λ _. set_from (suc i) k s rs r shorter ∙ ap (λ n. cond (eqb n s) (Some r) (session_from (suc i) s rs)) (sym later))

pub set_at : (s t k : ℕ) (rs : List SessionRecord) (r : SessionRecord) → k < length rs → t ≡ k + 1 → session_at s (set rs k r) ≡ cond (eqb t s) (Some r) (session_at s rs)
set_at s t k rs r l e = let later : t ≡ 1 + k = omega arith in set_from 1 k s rs r l ∙ ap (λ n. cond (eqb n s) (Some r) (session_at s rs)) (sym later)

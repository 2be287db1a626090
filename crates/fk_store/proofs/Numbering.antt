-- Records of sessions, and what writes make of them, one by one.
use Rattle.std.proofs.Common.{◌≡◌, ℕ, zero, suc, ◌+◌, ◌<◌, ◌==◌, ◌&&◌, nat_le, nat_lt, add-one, Bool, true, false, cond, List, [], ◌∷◌, ◌++◌, Some, None, length, take, drop, get_or, refl, ◌∙◌, ap, arith, drop-cons}
use Rattle.std.proofs.lemmas.List.{take_more, length-take-le}
use Rattle.std.proofs.Math.Seq.{take-length}
use Rattle.std.proofs.lemmas.Bool.{eqb-true}
use Rattle.std.proofs.lemmas.Bool.Decides.{nat_tests}
use Rattle.fk_tree.specs.Tree.{map_some}
use Rattle.fk_store.specs.declared.session_record.SessionRecord.{SessionRecord}
use Rattle.fk_store.specs.declared.write.Write.{Write}
use Rattle.fk_store.specs.Meaning.{new_session}
use Rattle.fk_store.specs.Numbered.{session_at, new_sessions, session_from, sessions_written}
use Rattle.fk_store.specs.Writes.{done_after, done_written, session_after, session_written, without}
use Rattle.fk_base.proofs.Logic.{by_test}

-- PENDING NUMBERS
without_more : (n m : ℕ) (ms : List ℕ) → without n (ms ++ m ∷ []) ≡ cond (m == n) (without n ms) (without n ms ++ m ∷ [])
without_more n m [] = refl
without_more n m (x ∷ ms) = rw (without_more n m ms) (step (x == n) (m == n))
  where
    step : (a b : Bool) → cond a (cond b (without n ms) (without n ms ++ m ∷ [])) (x ∷ cond b (without n ms) (without n ms ++ m ∷ [])) ≡ cond b (cond a (without n ms) (x ∷ without n ms)) (cond a (without n ms) (x ∷ without n ms) ++ m ∷ [])
    step true true = refl
    step true false = refl
    step false true = refl
    step false false = refl

pub without_step : (n : ℕ) (ms : List ℕ) (i : ℕ) → i < length ms → without n (take (i + 1) ms) ≡ cond (get_or ms i 0 == n) (without n (take i ms)) (without n (take i ms) ++ get_or ms i 0 ∷ [])
without_step n ms i l = rw (take_more ms i 0 l) (without_more n (get_or ms i 0) (take i ms))

-- WRITES
pub session_step : (s : ℕ) (ws : List Write) (i : ℕ) (w : Write) (r : SessionRecord) → i < length ws → w ≡ get_or ws i w → session_written s (drop i ws) r ≡ session_written s (drop (i + 1) ws) (session_after w s r)
session_step s ws i w r l e = step (i + 1) (omega arith)
  where
    step : (j : ℕ) → j ≡ suc i → session_written s (drop i ws) r ≡ session_written s (drop j ws) (session_after w s r)
    step j h = rw (h, drop-cons ws i w l, ← e) refl

pub done_step : (ws : List Write) (i : ℕ) (w : Write) (d : ℕ) → i < length ws → w ≡ get_or ws i w → done_written (drop i ws) d ≡ done_written (drop (i + 1) ws) (done_after w d)
done_step ws i w d l e = step (i + 1) (omega arith)
  where
    step : (j : ℕ) → j ≡ suc i → done_written (drop i ws) d ≡ done_written (drop j ws) (done_after w d)
    step j h = rw (h, drop-cons ws i w l, ← e) refl

-- SESSIONS
written_more : (i : ℕ) (ws : List Write) (rs : List SessionRecord) (r : SessionRecord) → sessions_written i ws (rs ++ r ∷ []) ≡ sessions_written i ws rs ++ session_written (i + length rs) ws r ∷ []
written_more i ws [] r = let same : i + 0 ≡ i = omega arith in rw same refl
written_more i ws (x ∷ rs) r = let same : i + suc (length rs) ≡ suc i + length rs = omega arith in rw same (ap (λ xs. session_written i ws x ∷ xs) (written_more (suc i) ws rs r))

pub sessions_step : (ws : List Write) (rs : List SessionRecord) (i : ℕ) (r : SessionRecord) → i < length rs → r ≡ get_or rs i r → sessions_written 1 ws (take (i + 1) rs) ≡ sessions_written 1 ws (take i rs) ++ session_written (i + 1) ws r ∷ []
sessions_step ws rs i r l e = rw (take_more rs i r l, ← e) (written_more 1 ws (take i rs) r ∙ ap (λ n. sessions_written 1 ws (take i rs) ++ session_written n ws r ∷ []) (counted l))
  where
    counted : i < length rs → 1 + length (take i rs) ≡ i + 1
    counted l = let cut : length (take i rs) ≡ i = length-take-le i rs (omega arith) in omega arith

written_from : (i s : ℕ) (ws : List Write) (rs : List SessionRecord) → session_from i s (sessions_written i ws rs) ≡ map_some (session_written s ws) (session_from i s rs)
written_from i s ws [] = refl
written_from i s ws (r ∷ rs) =
    by_test (i == s) (λ b. cond b (Some (session_written i ws r)) (session_from (suc i) s (sessions_written (suc i) ws rs)) ≡ map_some (session_written s ws) (cond b (Some r) (session_from (suc i) s rs)))
    (λ e. rw (eqb-true i s e) refl)
    (λ _. written_from (suc i) s ws rs)

-- all of them were written
pub written_at : (s : ℕ) (ws : List Write) (rs after : List SessionRecord) (i : ℕ) → i ≡ length rs → after ≡ sessions_written 1 ws (take i rs) → session_at s after ≡ map_some (session_written s ws) (session_at s rs)
written_at s ws rs after i l e = ap (session_at s) (e ∙ ap (sessions_written 1 ws) (rw l (take-length rs))) ∙ written_from 1 s ws rs

-- NEW ONES
pub new_more : (count : ℕ) → new_sessions (count + 1) ≡ new_sessions count ++ new_session ∷ []
new_more count = rw add-one (go count)
  where
    go : (count : ℕ) → new_sessions (suc count) ≡ new_sessions count ++ new_session ∷ []
    go zero = refl
    go (suc count) = ap (λ rs. new_session ∷ rs) (go count)

new_from : (i s count : ℕ) → session_from i s (new_sessions count) ≡ cond (nat_le i s && nat_lt s (i + count)) (Some new_session) None
new_from i s zero = grind (arith, nat_tests)
new_from i s (suc count) = rw (new_from (suc i) s count) (grind (arith, nat_tests))

pub new_at : (s count : ℕ) → session_at s (new_sessions count) ≡ cond (nat_le 1 s && nat_le s count) (Some new_session) None
new_at s count = new_from 1 s count ∙ grind (arith, nat_tests)

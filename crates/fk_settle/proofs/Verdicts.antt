-- The conditions of a transaction that settles a request, and what their first miss says.
use Rattle.std.proofs.Common.{◌≡◌, ◌≤◌, ℕ, suc, ◌+◌, ◌-◌, Bool, true, false, cond, List, [], ◌∷◌, Option, Some, None, refl, sym, ◌∙◌, ap, arith}
use Rattle.std.specs.Prelude.{is_some, ◌==◌}
use Rattle.std.proofs.lemmas.Bool.Decides.{nat_tests}
use Rattle.std.proofs.lemmas.Bool.{eq-eqb}
use Rattle.fk_base.specs.Path.{PathNames}
use Rattle.fk_store.specs.Answers.{IsTransact, after_transact}
use Rattle.fk_store.specs.Conds.{Miss, are_fit_conds, first_missed, found_at, holds_cond, missed_from, session_of}
use Rattle.fk_store.specs.Locks.{is_held_by}
use Rattle.fk_store.specs.Meaning.{Meaning, called, lock_of}
use Rattle.fk_store.specs.declared.answer.Transact.{Transact}
use Rattle.fk_store.specs.declared.answer.Transact.TheVariants as transact
use Rattle.fk_store.specs.declared.cond.Cond.{Cond}
use Rattle.fk_store.specs.declared.cond.Found.{Found}
use Rattle.fk_store.specs.declared.cond.Found.TheVariants as found
use Rattle.fk_store.specs.declared.write.Write.{Write}
use Rattle.fk_settle.specs.Missing.{found_from, missed_as}
use Rattle.fk_settle.specs.Held.{first_passed, passed_on}
use Rattle.fk_settle.specs.Verdicts.{verdict_of, verdict_on}
use Rattle.fk_store.specs.Writes.{all_written}
use Rattle.fk_settle.specs.Transaction.{hold_conds, settle_conds, transacted, written_unless}
use Rattle.fk_settle.specs.declared.settling.Verdict.{Verdict}
use Rattle.fk_settle.specs.declared.settling.Verdict.TheVariants as verdict

fit_holds : (t : Meaning) (inv : ℕ) (ps : List PathNames) → are_fit_conds t (hold_conds inv ps) ≡ true
fit_holds t inv [] = refl
fit_holds t inv (p ∷ ps) = fit_holds t inv ps

pub fit_conds : (t : Meaning) (session k inv : ℕ) (ps : List PathNames) → is_some (t.sessions session) ≡ true → are_fit_conds t (settle_conds session k inv ps) ≡ true
fit_conds t session k inv ps e = rw e (fit_holds t inv ps)

-- a miss has its place behind the conditions that hold
missed_behind : (i : ℕ) (t : Meaning) (cs : List Cond) (m : Miss) → missed_from i t cs ≡ Some m → i ≤ m.place
missed_behind i t [] m e = grind arith
missed_behind i t (c ∷ cs) m e = step (holds_cond t c) e (missed_behind (suc i) t cs m)
  where
    step : (b : Bool) → cond b (missed_from (suc i) t cs) (Some (record { place = i; found = found_at t c })) ≡ Some m → (missed_from (suc i) t cs ≡ Some m → suc i ≤ m.place) → i ≤ m.place
    step true e f = let l : suc i ≤ m.place = f e in omega arith
    step false e f = grind arith

apart : (i place : ℕ) → suc i ≤ place → (place == i) ≡ false
apart i place l = grind (arith, nat_tests)

-- a place behind the first
later : (i : ℕ) (p : PathNames) (ps : List PathNames) (place : ℕ) (f : Found) → suc i ≤ place → found_from i (p ∷ ps) place f ≡ found_from (suc i) ps place f
later i p ps place (found.Number n) l = refl
later i p ps place (found.Lock x) l = rw (apart i place l) refl

hold_verdict : (i : ℕ) (t : Meaning) (inv : ℕ) (ps : List PathNames) → missed_as i ps (missed_from i t (hold_conds inv ps)) ≡ verdict_on (first_passed inv t ps)
hold_verdict i t inv [] = refl
hold_verdict i t inv (p ∷ ps) = step (is_held_by inv (lock_of t p)) (missed_from (suc i) t (hold_conds inv ps)) (missed_behind (suc i) t (hold_conds inv ps)) (hold_verdict (suc i) t inv ps)
  where
    step : (b : Bool) (o : Option Miss) → ((m : Miss) → o ≡ Some m → suc i ≤ m.place) → missed_as (suc i) ps o ≡ verdict_on (first_passed inv t ps) → missed_as i (p ∷ ps) (cond b o (Some (record { place = i; found = found.Lock (lock_of t p) }))) ≡ verdict_on (cond b (first_passed inv t ps) (Some (passed_on p (lock_of t p))))
    step true None l h = h
    step true (Some m) l h = later i p ps m.place m.found (l m refl) ∙ h
    step false o l h = rw (eq-eqb i i refl) refl

-- request k is the next to settle
pub next_is : (n k : ℕ) → 1 ≤ k → (n == (k - 1)) ≡ (n + 1 == k)
next_is n k l = grind (arith, nat_tests)

pub verdict_is : (t : Meaning) (session k inv : ℕ) (ps : List PathNames) → 1 ≤ k → t.armed ≡ false → missed_as 1 ps (first_missed t (settle_conds session k inv ps)) ≡ verdict_of t session k inv ps
verdict_is t session k inv ps l a = whole t.armed ((session_of t session).settled == (k - 1)) a (next_is (session_of t session).settled k l) (step ((session_of t session).settled + 1 == k) (hold_verdict 1 t inv ps))
  where
    step : (b : Bool) → missed_as 1 ps (missed_from 1 t (hold_conds inv ps)) ≡ verdict_on (first_passed inv t ps) → missed_as 1 ps (cond b (missed_from 1 t (hold_conds inv ps)) (Some (record { place = 0; found = found.Number (session_of t session).settled }))) ≡ cond b (verdict_on (first_passed inv t ps)) (verdict.Settled (session_of t session).settled)
    step true h = h
    step false h = refl

    whole : (a : Bool) (b : Bool) → a ≡ false → b ≡ ((session_of t session).settled + 1 == k) → missed_as 1 ps (cond ((session_of t session).settled + 1 == k) (missed_from 1 t (hold_conds inv ps)) (Some (record { place = 0; found = found.Number (session_of t session).settled }))) ≡ cond ((session_of t session).settled + 1 == k) (verdict_on (first_passed inv t ps)) (verdict.Settled (session_of t session).settled) → missed_as 1 ps (cond b (missed_from 1 t (hold_conds inv ps)) (Some (record { place = 0; found = found.Number (session_of t session).settled }))) ≡ cond a verdict.Failed (cond ((session_of t session).settled + 1 == k) (verdict_on (first_passed inv t ps)) (verdict.Settled (session_of t session).settled))
    whole a b e f h = rw (e, f) h

made_step : (t : Meaning) (ws : List Write) (b : Bool) (o : Option Miss) → b ≡ false → o ≡ None → all_written ws t ≡ cond b (called t) (written_unless o ws t)
made_step t ws b o e f = rw (e, f) refl

missed_step : (t : Meaning) (ws : List Write) (b : Bool) (o : Option Miss) (m : Miss) → b ≡ false → o ≡ Some m → t ≡ cond b (called t) (written_unless o ws t)
missed_step t ws b o m e f = rw (e, f) refl

failed_step : (t : Meaning) (ws : List Write) (b : Bool) (o : Option Miss) → b ≡ true → called t ≡ cond b (called t) (written_unless o ws t)
failed_step t ws b o e = rw e refl

pub transacted_is : (t : Meaning) (cs : List Cond) (ws : List Write) (r : Transact) → IsTransact t cs r → (r ≡ transact.NoMemory → ⊥) → after_transact t ws r ≡ transacted cs ws t
transacted_is t cs ws transact.Done i n = made_step t ws t.armed (first_missed t cs) i.0 i.1
transacted_is t cs ws (transact.Missed place found) i n = missed_step t ws t.armed (first_missed t cs) (record { place = place; found = found }) i.0 i.1
transacted_is t cs ws transact.Failed i n = failed_step t ws t.armed (first_missed t cs) i
transacted_is t cs ws transact.NoMemory i n = absurd (n refl)

-- what the answer of a transaction says
abbrev pub verdict_by : List PathNames → Transact → Verdict
verdict_by ps transact.Done = verdict.Done
verdict_by ps (transact.Missed place found) = found_from 1 ps place found
verdict_by ps transact.Failed = verdict.Failed
verdict_by ps transact.NoMemory = verdict.Failed

failed_verdict : (t : Meaning) (session k inv : ℕ) (ps : List PathNames) (b : Bool) → b ≡ true → verdict.Failed ≡ cond b verdict.Failed (cond ((session_of t session).settled + 1 == k) (verdict_on (first_passed inv t ps)) (verdict.Settled (session_of t session).settled))
failed_verdict t session k inv ps b e = rw e refl

pub answer_is : (t : Meaning) (session k inv : ℕ) (ps : List PathNames) (r : Transact) → 1 ≤ k → IsTransact t (settle_conds session k inv ps) r → (r ≡ transact.NoMemory → ⊥) → verdict_by ps r ≡ verdict_of t session k inv ps
answer_is t session k inv ps transact.Done l i n = ap (missed_as 1 ps) (sym i.1) ∙ verdict_is t session k inv ps l i.0
answer_is t session k inv ps (transact.Missed place found) l i n = ap (missed_as 1 ps) (sym i.1) ∙ verdict_is t session k inv ps l i.0
answer_is t session k inv ps transact.Failed l i n = failed_verdict t session k inv ps t.armed i
answer_is t session k inv ps transact.NoMemory l i n = absurd (n refl)

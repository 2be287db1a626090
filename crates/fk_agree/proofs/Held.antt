-- Transactions that settle: which of a function's locks are held, and what comes of them.
use Rattle.std.specs.Prelude.{◌+◌, ◌-◌, ◌==◌, if◌then◌else◌}
use Rattle.std.proofs.Common.{◌≡◌, ℕ, zero, suc, ◌≤◌, Bool, true, false, cond, List, [], ◌∷◌, refl, sym, ◌∙◌, ap, subst, arith, Option, Some, None}
use Rattle.std.proofs.lemmas.Bool.Decides.{nat_tests}
use Rattle.fk_base.specs.Path.{PathNames}
use Rattle.fk_print.specs.declared.entry.Entry.{Entry}
use Rattle.fk_print.specs.declared.op.Op.{Op}
use Rattle.fk_settle.specs.Held as held
use Rattle.fk_settle.specs.Transaction.{hold_conds, settle_conds, transacted, written_unless}
use Rattle.fk_store.specs.Conds.{Miss, first_missed, found_at, missed_from, session_of}
use Rattle.fk_store.specs.Locks as store
use Rattle.fk_store.specs.Meaning.{Meaning, lock_of}
use Rattle.fk_store.specs.Writes.{all_written}
use Rattle.fk_store.specs.declared.cond.Cond.TheVariants as cond_of
use Rattle.fk_store.specs.declared.write.Write.{Write}
use Rattle.fk_stand.specs.Tables.{lock_from, table_after}
use Rattle.fk_spec.specs.Plan.{Plan, is_client}
use Rattle.fk_spec.specs.Locks as rules
use Rattle.fk_spec.specs.Locks.{Grant, first_passed, is_held_by, last_grant, passed_on}
use Rattle.fk_spec.specs.Settling.{settled_of}
use Rattle.fk_spec.specs.Next.{IsHistory}
use Rattle.fk_stand.specs.Posts.{post_after}
use Rattle.fk_stand.specs.Stores.{store_after, watches_after}
use Rattle.fk_agree.specs.Records.{LeavesRecords}
use Rattle.fk_agree.specs.Stored.{LeavesStore}
use Rattle.fk_agree.specs.Watched.{LeavesWatches}
use Rattle.fk_agree.proofs.Granting.{records_stay}
use Rattle.fk_agree.proofs.Locking.{holds_the_same, lock_is}
use Rattle.fk_agree.proofs.Serving.{session_is, post_left, LeavesPost}
use Rattle.fk_agree.proofs.Putting.{store_stays}
use Rattle.fk_agree.proofs.Watching.{watches_stay}
use Rattle.fk_base.proofs.Logic.{by_test}

found_so : (h : List Entry) (q : PathNames) (o : Option Grant) → (held.passed_on q (lock_from h o)) ≡ passed_on q o
found_so h q None = refl
found_so h q (Some g) = refl

-- the first lock that isn't held any more
pub passed_same : (p : Plan) (n faults : ℕ) (h : List Entry) (ps : List PathNames) → (held.first_passed n (table_after p h faults) ps) ≡ first_passed n h ps
passed_same p n faults h [] = refl
passed_same p n faults h (q ∷ ps) =
    ap (λ b. (cond b (held.first_passed n (table_after p h faults) ps) (Some (held.passed_on q (lock_of (table_after p h faults) q))))) (holds_the_same p n h faults q)
    ∙ by_test (is_held_by n h (last_grant q h)) (λ b. (cond b (held.first_passed n (table_after p h faults) ps) (Some (held.passed_on q (lock_of (table_after p h faults) q)))) ≡ cond b (first_passed n h ps) (Some (passed_on q (last_grant q h)))) (λ _. passed_same p n faults h ps) (λ _. ap Some (ap (λ l. (held.passed_on q l)) (lock_is p h faults q) ∙ found_so h q (last_grant q h)))

pub settled_is : (p : Plan) (c faults : ℕ) (h : List Entry) → is_client p c ≡ true → (session_of (table_after p h faults) c).settled ≡ settled_of c h
settled_is p c faults h i = ap (λ r. r.settled) (session_is p c h (table_after p h faults) refl i)

-- What comes of such a transaction. ---------------------------------------------------------------------

-- it is made where its request is next and no lock passed on
abbrev pub settled_if : {A : Type 0} → Bool → Option rules.Passed → A → A → A
settled_if true None a b = a
settled_if true (Some x) a b = b
settled_if false o a b = b

missed_then : (ws : List Write) (t : Meaning) (i n : ℕ) (ps : List PathNames) → written_unless (missed_from i t (hold_conds n ps)) ws t ≡ settled_if true (held.first_passed n t ps) (all_written ws t) t
missed_then ws t i n [] = refl
missed_then ws t i n (q ∷ ps) = by_test (store.is_held_by n (lock_of t q)) (λ b. written_unless (cond b (missed_from (suc i) t (hold_conds n ps)) (Some (record { place = i; found = found_at t (cond_of.Holds q n) }))) ws t ≡ settled_if true (cond b (held.first_passed n t ps) (Some (held.passed_on q (lock_of t q)))) (all_written ws t) t) (λ _. missed_then ws t (suc i) n ps) (λ _. refl)

next_number : (s k : ℕ) → 1 ≤ k → (s == k - 1) ≡ (s + 1 == k)
next_number s zero a = absurd (omega (arith, a))
next_number s (suc k) a = grind (arith, nat_tests)

pub settled_so : (t : Meaning) (n c k : ℕ) (ps : List PathNames) (ws : List Write) → 1 ≤ k → t.armed ≡ false → transacted (settle_conds c k n ps) ws t ≡ settled_if ((session_of t c).settled + 1 == k) (held.first_passed n t ps) (all_written ws t) t
settled_so t n c k ps ws a b =
    calm
    ∙ (ap (λ z. written_unless (cond z (missed_from 1 t (hold_conds n ps)) (Some miss)) ws t) (next_number (session_of t c).settled k a)
    ∙ by_test ((session_of t c).settled + 1 == k) (λ z. written_unless (cond z (missed_from 1 t (hold_conds n ps)) (Some miss)) ws t ≡ settled_if z (held.first_passed n t ps) (all_written ws t) t) (λ _. missed_then ws t 1 n ps) (λ _. refl))
  where
    miss : Miss
    miss = record { place = 0; found = found_at t (cond_of.Settled c (k - 1)) }

    calm : transacted (settle_conds c k n ps) ws t ≡ written_unless (first_missed t (settle_conds c k n ps)) ws t
    calm = rw b refl

-- The services where its line leaves them. -----------------------------------------------------------

pub left_table : (p : Plan) (faults : ℕ) (e : Entry) (h : List Entry) (o : Op) → e.op ≡ o → LeavesRecords o → table_after p h faults ≡ table_after p (e ∷ h) faults
left_table p faults e h o g k = sym (records_stay p faults e h (subst LeavesRecords (sym g) k))

pub left_post : (p : Plan) (faults : ℕ) (e : Entry) (h : List Entry) (o : Op) → e.op ≡ o → LeavesPost o → post_after p h faults ≡ post_after p (e ∷ h) faults
left_post p faults e h o g k = sym (post_left p faults e h o g k)

pub left_store : (p : Plan) (faults : ℕ) (e : Entry) (h : List Entry) (o : Op) → IsHistory p (e ∷ h) → e.op ≡ o → LeavesStore o → store_after p h faults ≡ store_after p (e ∷ h) faults
left_store p faults e h o l g k = sym (store_stays p faults e h l (subst LeavesStore (sym g) k))

pub left_watches : (p : Plan) (faults : ℕ) (e : Entry) (h : List Entry) (o : Op) → e.op ≡ o → LeavesWatches o → watches_after p h faults ≡ watches_after p (e ∷ h) faults
left_watches p faults e h o g k = sym (watches_stay p faults e h (subst LeavesWatches (sym g) k))

-- The table after it. -----------------------------------------------------------------------------------

-- by what its line says
pub settled_table : (p : Plan) (faults : ℕ) (e : Entry) (h : List Entry) (b : Bool) (o : Option rules.Passed) (f : Option rules.Passed → Op) (s : Op) (z : Meaning) → e.op ≡ (if b then f (o) else s)
    → (e.op ≡ f None → z ≡ table_after p (e ∷ h) faults) → LeavesRecords s → ((x : rules.Passed) → LeavesRecords (f (Some x))) → settled_if b o z (table_after p h faults) ≡ table_after p (e ∷ h) faults
settled_table p faults e h true None f s z g a b c = a g
settled_table p faults e h true (Some x) f s z g a b c = left_table p faults e h (f (Some (x))) g (c (x))
settled_table p faults e h false o f s z g a b c = left_table p faults e h s g b

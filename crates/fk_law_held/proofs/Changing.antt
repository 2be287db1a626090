-- What an operation makes of the watches that its client holds.
use Rattle.std.specs.Prelude.{◌==◌, ◌||◌}
use Rattle.std.proofs.Common.{◌≡◌, ℕ, ◌+◌, ◌++◌, ◌⊎◌, inl, inr, if◌then◌else◌, Bool, true, false, List, [], ◌∷◌, refl, sym, ◌∙◌, ap, arith, Option, Some, None}
use Rattle.std.proofs.lemmas.Bool.{false≢true, or_right, eqb-true}
use Rattle.std.proofs.lemmas.Bool.Decides.{nat_tests}
use Rattle.std.proofs.lemmas.Option.{same_Some}
use Rattle.fk_print.specs.declared.entry.Entry.{Entry}
use Rattle.fk_print.specs.declared.op.Op.{Op}
use Rattle.fk_print.specs.declared.op.Op.TheVariants as op
use Rattle.fk_spec.specs.Plan.{Plan, asked, asks_in}
use Rattle.fk_spec.specs.Settling.{Outcome}
use Rattle.fk_spec.specs.Sight.{sight_of}
use Rattle.fk_spec.specs.Client.{acted_by, by_result, client_in, client_of, close_if, contains, is_close, kept_outcome, looked, looked_at, looked_for, registers, settle_with, settled_as, with_held, without, Reading, Sent}
use Rattle.fk_law_tree.proofs.Members.{or_left}
use Rattle.fk_law_watch.proofs.SetWatches.{by_or}
use Rattle.fk_law_held.specs.Held.{HeldChange, Left, Emptied, Dropped, Added}
use Rattle.fk_base.proofs.Logic.{itself}

-- Lists of numbers. ------------------------------------------------------------------------------------

pub without_has : (id j : ℕ) (xs : List ℕ) → contains id (without j xs) ≡ true → (contains id xs ≡ true) × (id ≡ j → ⊥)
without_has id j [] e = absurd (false≢true e)
without_has id j (x ∷ xs) e = by_test (x == j) refl e (without_has id j xs)
  where
    other : (x == j) ≡ false → (x == id) ≡ true → id ≡ j → ⊥
    other f g k = grind (arith, nat_tests)

    by_test : (b : Bool) → (x == j) ≡ b → contains id (if b then without j xs else x ∷ without j xs) ≡ true → (contains id (without j xs) ≡ true → (contains id xs ≡ true) × (id ≡ j → ⊥)) → (((x == id) || contains id xs) ≡ true) × (id ≡ j → ⊥)
    by_test true f g i = let y = i g in (or_right (x == id) (contains id xs) y.0, y.1)
    by_test false f g i = by_or (x == id) (contains id (without j xs)) g (λ k. (or_left (x == id) (contains id xs) k, other f k)) (λ k. let y = i k in (or_right (x == id) (contains id xs) y.0, y.1))

pub without_other : (id j : ℕ) (xs : List ℕ) → contains id xs ≡ true → (id ≡ j → ⊥) → contains id (without j xs) ≡ true
without_other id j [] e n = e
without_other id j (x ∷ xs) e n = by_test (x == j) refl (λ k. without_other id j xs k n)
  where
    apart : (x == j) ≡ true → (x == id) ≡ true → ⊥
    apart f g = n (sym (eqb-true x id g) ∙ eqb-true x j f)

    by_test : (b : Bool) → (x == j) ≡ b → (contains id xs ≡ true → contains id (without j xs) ≡ true) → contains id (if b then without j xs else x ∷ without j xs) ≡ true
    by_test true f i = by_or (x == id) (contains id xs) e (λ k. absurd (apart f k)) i
    by_test false f i = by_or (x == id) (contains id xs) e (λ k. or_left (x == id) (contains id (without j xs)) k) (λ k. or_right (x == id) (contains id (without j xs)) (i k))

append_has : (id j : ℕ) (xs : List ℕ) → contains id (xs ++ j ∷ []) ≡ true → (contains id xs ≡ true) ⊎ (id ≡ j)
append_has id j [] e = by_or (j == id) false e (λ k. inr (sym (eqb-true j id k))) (λ k. absurd (false≢true k))
append_has id j (x ∷ xs) e = by_or (x == id) (contains id (xs ++ j ∷ [])) e (λ k. inl (or_left (x == id) (contains id xs) k)) (λ k. later (append_has id j xs k))
  where
    later : (contains id xs ≡ true) ⊎ (id ≡ j) → (((x == id) || contains id xs) ≡ true) ⊎ (id ≡ j)
    later (inl k) = inl (or_right (x == id) (contains id xs) k)
    later (inr k) = inr k

append_old : (id j : ℕ) (xs : List ℕ) → contains id xs ≡ true → contains id (xs ++ j ∷ []) ≡ true
append_old id j [] e = absurd (false≢true e)
append_old id j (x ∷ xs) e = by_or (x == id) (contains id xs) e (λ k. or_left (x == id) (contains id (xs ++ j ∷ [])) k) (λ k. or_right (x == id) (contains id (xs ++ j ∷ [])) (append_old id j xs k))

append_new : (j : ℕ) (xs : List ℕ) → contains j (xs ++ j ∷ []) ≡ true
append_new j [] = or_left (j == j) false (itself j)
append_new j (x ∷ xs) = or_right (x == j) (contains j (xs ++ j ∷ [])) (append_new j xs)

pub with_has : (id j : ℕ) (xs : List ℕ) → contains id (with_held j xs) ≡ true → (contains id xs ≡ true) ⊎ (id ≡ j)
with_has id j xs e = by_test (contains j xs) e
  where
    by_test : (b : Bool) → contains id (if b then xs else xs ++ j ∷ []) ≡ true → (contains id xs ≡ true) ⊎ (id ≡ j)
    by_test true f = inl f
    by_test false f = append_has id j xs f

pub with_old : (id j : ℕ) (xs : List ℕ) → contains id xs ≡ true → contains id (with_held j xs) ≡ true
with_old id j xs e = by_test (contains j xs)
  where
    by_test : (b : Bool) → contains id (if b then xs else xs ++ j ∷ []) ≡ true
    by_test true = e
    by_test false = append_old id j xs e

pub with_new : (j : ℕ) (xs : List ℕ) → contains j (with_held j xs) ≡ true
with_new j xs = by_test (contains j xs) refl
  where
    by_test : (b : Bool) → contains j xs ≡ b → contains j (if b then xs else xs ++ j ∷ []) ≡ true
    by_test true f = f
    by_test false f = append_new j xs

-- Operations. ------------------------------------------------------------------------------------------

-- the operation tells its client of no watch
abbrev TellsNone : ℕ → Op → Type 0
TellsNone c o = (id : ℕ) → o ≡ op.TakeWatch c id → ⊥

for_change : (p : Plan) (c : ℕ) (h : List Entry) (o : Op) (ss : List Sent) → TellsNone c o → HeldChange p c h o (looked_for by_result (asks_in p c) ss (client_of p c h))
for_change p c h o [] n = Left n refl refl
for_change p c h o (s ∷ ss) n = closing (is_close (asked p c s.command))
  where
    closing : (b : Bool) → HeldChange p c h o (close_if b (record (client_of p c h) { sent = ss }))
    closing true = Emptied refl refl
    closing false = Left n refl refl

look_change : (p : Plan) (c : ℕ) (h : List Entry) (o : Op) (r : Option Reading) → TellsNone c o → HeldChange p c h o (looked by_result (asks_in p c) r (client_of p c h))
look_change p c h o None n = for_change p c h o (client_of p c h).sent n
look_change p c h o (Some r) n = registering (registers (asked p c ((client_of p c h).begun + 1)) r.node)
  where
    registering : (b : Bool) → HeldChange p c h o (looked_at b r (client_of p c h))
    registering true = Left n refl refl
    registering false = Left n refl refl

kept_change : (p : Plan) (c k : ℕ) (h : List Entry) (o : Op) (w : Option Outcome) → TellsNone c o → HeldChange p c h o (settle_with by_result k (settled_as w) (client_of p c h))
kept_change p c k h o None n = Left n refl refl
kept_change p c k h o (Some w) n = Left n refl refl

pub held_change : (p : Plan) (c : ℕ) (h : List Entry) (o : Op) → client_in o ≡ Some c → HeldChange p c h o (acted_by (sight_of p c h) o (client_of p c h))
held_change p c h (op.TakeEvicted d k t) q = Emptied refl refl
held_change p c h (op.TakeWatch d id) q = Dropped id (ap (λ z. op.TakeWatch z id) (same_Some d c q)) refl refl
held_change p c h (op.WatchSet d i id) q = Added i id (ap (λ z. op.WatchSet z i id) (same_Some d c q)) refl refl
held_change p c h (op.LookOk d i m) q = look_change p c h (op.LookOk d i m) (client_of p c h).reading (λ id e. grind arith)
held_change p c h (op.TakeRefused d k) q = kept_change p c k h (op.TakeRefused d k) (kept_outcome (sight_of p c h).head) (λ id e. grind arith)
held_change p c h (op.TakeLost d k) q = kept_change p c k h (op.TakeLost d k) (kept_outcome (sight_of p c h).head) (λ id e. grind arith)
held_change p c h o q = Left (λ id e. grind arith) refl refl

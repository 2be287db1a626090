-- What the answer of a sweep says is what the watches give.
use Rattle.std.proofs.Common.{◌≡◌, ℕ, Bool, true, false, cond, List, Option, Result, Ok, Err, refl, sym, ◌∙◌, ap, subst, arith, length}
use Rattle.std.specs.Prelude.{nat_lt, IfOk, ⊤}
use Rattle.std.specs.FinMap.{nat_cmp-IsAntisymmetric}
use Rattle.std.proofs.lemmas.Bool.Decides.{nat_tests}
use Rattle.std.proofs.lemmas.Bool.{true≢false}
use Rattle.std.proofs.lemmas.Cmp.{nat_cmp_total}
use Rattle.fk_base.specs.declared.memory.NoMemory.{NoMemory}
use Rattle.fk_tree.proofs.Rising.{same_rising}
use Rattle.fk_tree.specs.declared.change.Touch.{Touch}
use Rattle.fk_print.specs.declared.op.Op.{Op}
use Rattle.fk_print.specs.declared.op.Op.TheVariants as op
use Rattle.fk_print.specs.declared.op.Word.TheVariants as word
use Rattle.fk_watch.proofs.Uniqueness.{same_fired}
use Rattle.fk_watch.specs.Answers.{after_sweep, IsSweep}
use Rattle.fk_watch.specs.Meaning.{Watches, failed}
use Rattle.fk_watch.specs.Sweeping.{swept_for}
use Rattle.fk_watch.specs.declared.answer.Sweep.{Sweep}
use Rattle.fk_watch.specs.declared.answer.Sweep.TheVariants as sweep
use Rattle.fk_watch.specs.declared.watch.Firing.{Firing}
use Rattle.fk_lead.specs.Meaning.{Meaning, Swept}
use Rattle.fk_lead.specs.Next.{next_with}
use Rattle.fk_spec.specs.Failing.{or_fault}
use Rattle.fk_lead.specs.Operation.{sweep_op}
use Rattle.fk_lead.specs.Said.{sweep_by, swept_by}
use Rattle.fk_lead.specs.Sweeping.{AreSwept, IsSweepOf, swept_at}

-- there is one list of what a push fired, and one epoch
one_swept : (tx : ℕ) (fired : ℕ → Option Firing) (r s : Swept) → AreSwept tx fired r → AreSwept tx fired s → r ≡ s
one_swept tx fired r s a b =
    both (same_fired r.fired s.fired a.fired.rising b.fired.rising (λ n. a.fired.exact n ∙ sym (b.fired.exact n)))
    (same_rising nat_cmp_total nat_cmp-IsAntisymmetric r.epoch s.epoch a.epoch.rising b.epoch.rising (λ n. a.epoch.exact n ∙ sym (b.epoch.exact n)))
  where
    both : r.fired ≡ s.fired → r.epoch ≡ s.epoch → r ≡ s
    both e f = grind arith

-- ---- the watches after it

pub sweep_after : (w : Watches) (tx : ℕ) (ts : List Touch) (r : Sweep) → IsSweep w tx ts r → (r ≡ sweep.NoMemory → ⊥) → after_sweep w tx ts r ≡ swept_at tx ts w
sweep_after w tx ts (sweep.Fired fs ids) i e = fired w.armed (nat_lt w.swept tx) i.0 (grind (arith, nat_tests))
  where
    fired : (a b : Bool) → a ≡ false → b ≡ true → swept_for tx ts w ≡ cond a (failed w) (cond b (swept_for tx ts w) w)
    fired a b f g = rw (f, g) refl
sweep_after w tx ts (sweep.Already s fs ids) i e = late w.armed (nat_lt w.swept tx) i.0 (grind (arith, nat_tests))
  where
    late : (a b : Bool) → a ≡ false → b ≡ false → w ≡ cond a (failed w) (cond b (swept_for tx ts w) w)
    late a b f g = rw (f, g) refl
sweep_after w tx ts sweep.Failed i e = failing w.armed i
  where
    failing : (a : Bool) → a ≡ true → failed w ≡ cond a (failed w) (cond (nat_lt w.swept tx) (swept_for tx ts w) w)
    failing a f = rw f refl
sweep_after w tx ts sweep.NoMemory i e = absurd (e refl)

-- ---- what came with the answer

-- an answer that lists what was fired
abbrev lists : Sweep → Type 0
lists (sweep.Fired fs ids) = ⊤
lists (sweep.Already s fs ids) = ⊤
lists sweep.Failed = ⊥
lists sweep.NoMemory = ⊥

listed : (w : Watches) (tx : ℕ) (ts : List Touch) (r : Sweep) → IsSweep w tx ts r → lists r → AreSwept tx (after_sweep w tx ts r).fired (swept_by r)
listed w tx ts (sweep.Fired fs ids) i l = record { fired = i.2; epoch = i.3 }
listed w tx ts (sweep.Already s fs ids) i l = record { fired = i.3; epoch = i.4 }
listed w tx ts sweep.Failed i l = absurd l
listed w tx ts sweep.NoMemory i l = absurd l

-- so it is what the watches give
given : (w : Watches) (tx : ℕ) (ts : List Touch) (r : Sweep) (s : Swept) → IsSweep w tx ts r → lists r → AreSwept tx (swept_at tx ts w).fired s → (r ≡ sweep.NoMemory → ⊥) → swept_by r ≡ s
given w tx ts r s i l g e = one_swept tx (swept_at tx ts w).fired (swept_by r) s (subst (λ m. AreSwept tx m.fired (swept_by r)) (sweep_after w tx ts r i e) (listed w tx ts r i l)) g

pub sweep_said : (w : Watches) (n tx : ℕ) (ts : List Touch) (r : Sweep) (s : Swept) → IsSweep w tx ts r → (r ≡ sweep.NoMemory → ⊥) → IsSweepOf tx ts w s → sweep_by n tx r ≡ or_fault w.armed n word.Sweep (sweep_op w n tx s.fired)
sweep_said w n tx ts (sweep.Fired fs ids) s i e g = fired w.armed (nat_lt w.swept tx) i.0 (grind (arith, nat_tests)) (given w tx ts (sweep.Fired fs ids) s i tt (g i.0) e)
  where
    fired : (a b : Bool) → a ≡ false → b ≡ true → swept_by (sweep.Fired fs ids) ≡ s → op.SweepOk n tx (length fs) ≡ cond a (op.Fault n word.Sweep) (cond b (op.SweepOk n tx (length s.fired)) (op.SweepMiss n tx w.swept (length s.fired)))
    fired a b f g h = rw (f, g, ← h) refl
sweep_said w n tx ts (sweep.Already k fs ids) s i e g = late w.armed (nat_lt w.swept tx) i.0 (grind (arith, nat_tests)) (given w tx ts (sweep.Already k fs ids) s i tt (g i.0) e) i.2
  where
    late : (a b : Bool) → a ≡ false → b ≡ false → swept_by (sweep.Already k fs ids) ≡ s → k ≡ w.swept → op.SweepMiss n tx k (length fs) ≡ cond a (op.Fault n word.Sweep) (cond b (op.SweepOk n tx (length s.fired)) (op.SweepMiss n tx w.swept (length s.fired)))
    late a b f g h x = rw (f, g, ← h, x) refl
sweep_said w n tx ts sweep.Failed s i e g = failing w.armed i
  where
    failing : (a : Bool) → a ≡ true → op.Fault n word.Sweep ≡ cond a (op.Fault n word.Sweep) (sweep_op w n tx s.fired)
    failing a f = rw f refl
sweep_said w n tx ts sweep.NoMemory s i e g = absurd (e refl)

-- the leader keeps what the watches gave
pub sweep_next : (w : Watches) (n tx : ℕ) (ts : List Touch) (r : Sweep) (s : Swept) (m : Meaning) → IsSweep w tx ts r → (r ≡ sweep.NoMemory → ⊥) → IsSweepOf tx ts w s → next_with (swept_by r) (sweep_by n tx r) m ≡ next_with s (sweep_by n tx r) m
sweep_next w n tx ts (sweep.Fired fs ids) s m i e g = ap (λ x. next_with x (op.SweepOk n tx (length fs)) m) (given w tx ts (sweep.Fired fs ids) s i tt (g i.0) e)
sweep_next w n tx ts (sweep.Already k fs ids) s m i e g = ap (λ x. next_with x (op.SweepMiss n tx k (length fs)) m) (given w tx ts (sweep.Already k fs ids) s i tt (g i.0) e)
sweep_next w n tx ts sweep.Failed s m i e g = refl
sweep_next w n tx ts sweep.NoMemory s m i e g = absurd (e refl)

-- ---- a step that got an answer, and memory for what comes after it

both_ok : {A E : Type 0} {P Q R : A → Type 0} (o : Result A E) → IfOk o P → IfOk o Q → ((x : A) → P x → Q x → R x) → IfOk o R
both_ok (Ok x) p q f = f x p q
both_ok (Err e) p q f = tt

pub swept_op : (w : Watches) (n tx : ℕ) (us ts : List Touch) (r : Sweep) (o : Result Op NoMemory) → us ≡ ts → IsSweep w tx us r → IfOk o (λ x. r ≡ sweep.NoMemory → ⊥) → IfOk o (λ x. x ≡ sweep_by n tx r)
    → (s : Swept) → IsSweepOf tx ts w s → IfOk o (λ x. x ≡ or_fault w.armed n word.Sweep (sweep_op w n tx s.fired))
swept_op w n tx us ts r o e i some h s g = both_ok o some h (λ x a b. b ∙ sweep_said w n tx ts r s (subst (λ t. IsSweep w tx t r) e i) a g)

pub swept_leader : (w : Watches) (n tx : ℕ) (us ts : List Touch) (r : Sweep) (o : Result Op NoMemory) (m l : Meaning) → us ≡ ts → IsSweep w tx us r → IfOk o (λ x. r ≡ sweep.NoMemory → ⊥) → IfOk o (λ x. x ≡ sweep_by n tx r) → IfOk o (λ x. l ≡ next_with (swept_by r) x m)
    → (s : Swept) → IsSweepOf tx ts w s → IfOk o (λ x. l ≡ next_with s x m)
swept_leader w n tx us ts r o m l e i some h k s g =
    both_ok {Q = λ x. (x ≡ sweep_by n tx r) × (l ≡ next_with (swept_by r) x m)} o some (both_ok o h k (λ x a b. (a, b))) (λ x a b. let j : IsSweep w tx ts r = subst (λ t. IsSweep w tx t r) e i in b.1 ∙ (ap (λ y. next_with (swept_by r) y m) b.0 ∙ (sweep_next w n tx ts r s m j a g ∙ ap (λ y. next_with s y m) (sym b.0))))

pub swept_watches : (w v : Watches) (tx : ℕ) (us ts : List Touch) (r : Sweep) (o : Result Op NoMemory) → us ≡ ts → IsSweep w tx us r → v ≡ after_sweep w tx us r → IfOk o (λ x. r ≡ sweep.NoMemory → ⊥) → IfOk o (λ x. v ≡ swept_at tx ts w)
swept_watches w v tx us ts r o e i h some = both_ok o some some (λ x a b. h ∙ (sweep_after w tx us r i a ∙ ap (λ t. swept_at tx t w) e))

-- what the leader holds after it is what the watches gave
kept : (w : Watches) (n tx : ℕ) (ts : List Touch) (r : Sweep) (m : Meaning) → IsSweep w tx ts r → (r ≡ sweep.NoMemory → ⊥) → IsSweepOf tx ts w (next_with (swept_by r) (sweep_by n tx r) m).swept
kept w n tx ts (sweep.Fired fs ids) m i e a = subst (λ x. AreSwept tx x.fired (swept_by (sweep.Fired fs ids))) (sweep_after w tx ts (sweep.Fired fs ids) i e) (listed w tx ts (sweep.Fired fs ids) i tt)
kept w n tx ts (sweep.Already k fs ids) m i e a = subst (λ x. AreSwept tx x.fired (swept_by (sweep.Already k fs ids))) (sweep_after w tx ts (sweep.Already k fs ids) i e) (listed w tx ts (sweep.Already k fs ids) i tt)
kept w n tx ts sweep.Failed m i e a = absurd (true≢false (sym i ∙ a))
kept w n tx ts sweep.NoMemory m i e a = absurd (e refl)

pub swept_given : (w : Watches) (n tx : ℕ) (us ts : List Touch) (r : Sweep) (o : Result Op NoMemory) (m l : Meaning) → us ≡ ts → IsSweep w tx us r → IfOk o (λ x. r ≡ sweep.NoMemory → ⊥) → IfOk o (λ x. x ≡ sweep_by n tx r) → IfOk o (λ x. l ≡ next_with (swept_by r) x m) → IfOk o (λ x. IsSweepOf tx ts w l.swept)
swept_given w n tx us ts r o m l e i some h k =
    both_ok {Q = λ x. l ≡ next_with (swept_by r) (sweep_by n tx r) m} o some (both_ok o h k (λ x a b. b ∙ ap (λ y. next_with (swept_by r) y m) a)) (λ x a b. subst (λ y. IsSweepOf tx ts w y.swept) (sym b) (kept w n tx ts r m (subst (λ t. IsSweep w tx t r) e i) a))

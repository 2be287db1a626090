-- The functions after a line.
use Rattle.std.specs.Prelude.{◌==◌, if◌then◌else◌}
use Rattle.std.proofs.Common.{◌≡◌, ◌≢◌, ℕ, ◌+◌, Bool, true, false, List, ◌∷◌, refl, sym, ◌∙◌, ap, subst, arith, Option, Some, None}
use Rattle.std.proofs.lemmas.Bool.Decides.{nat_tests}
use Rattle.std.proofs.lemmas.Option.{same_Some, none-some}
use Rattle.std.proofs.lemmas.Bool.{eqb-true}
use Rattle.fk_print.specs.declared.entry.Entry.{Entry}
use Rattle.fk_spec.specs.Plan.{Plan}
use Rattle.fk_spec.specs.Start.{Start, count_start, started_in, starts_of}
use Rattle.fk_spec.specs.Function.{Absent, actor, moved, place_by, place_of, placed, started_at}
use Rattle.fk_spec.specs.Function as function
use Rattle.fk_spec.specs.Next.{IsHistory}
use Rattle.fk_engine.specs.Flights.{Meaning, with_running, with_started}
use Rattle.fk_engine.specs.Machines as machine
use Rattle.fk_engine.specs.Machines.{Follower, Leader, Teller, Beat}
use Rattle.fk_agree_notify.proofs.Beating.{others_leave_beats}
use Rattle.fk_agree_notify.proofs.Telling.{others_leave_tellers}
use Rattle.fk_agree_follow.proofs.Staying.{others_leave_followers}
use Rattle.fk_agree_lead.proofs.Starting.{others_leave_leaders}
use Rattle.fk_agree_engine.specs.World.{FunctionsStand, StandsAs}

-- a line that starts function n
abbrev pub Starts : ℕ → Option Start → Type 0
Starts n None = ⊥
Starts n (Some s) = s.function ≡ n

-- no line makes a function stand that it doesn't start
absent_stays : (p : Plan) (n : ℕ) (e : Entry) (h : List Entry) → (Starts n (started_in e.op) → ⊥) → place_of p n h ≡ Absent → place_of p n (e ∷ h) ≡ Absent
absent_stays p n e h k a = by_actor (actor e.op)
  where
    by_start : (o : Option Start) → (Starts n o → ⊥) → started_at p n h o (place_of p n h) ≡ Absent
    by_start None k = a
    by_start (Some s) k = by_number (s.function == n) refl
      where
        by_number : (b : Bool) → (s.function == n) ≡ b → (if b then placed p h s.task else place_of p n h) ≡ Absent
        by_number true e = absurd (k (eqb-true s.function n e))
        by_number false e = a

    by_actor : (o : Option ℕ) → place_by p n h e.op o (place_of p n h) ≡ Absent
    by_actor None = by_start (started_in e.op) k
    by_actor (Some m) = by_number (m == n)
      where
        by_number : (b : Bool) → (if b then function.moved p h e.op (place_of p n h) else place_of p n h) ≡ Absent
        by_number true = ap (function.moved p h e.op) a
        by_number false = a

-- what stands under another number stands as before
pub others_stand : (p : Plan) (n : ℕ) (e : Entry) (h : List Entry) (o : Option machine.Meaning) → IsHistory p (e ∷ h) → actor e.op ≢ Some n → (Starts n (started_in e.op) → ⊥) → StandsAs p n h o → StandsAs p n (e ∷ h) o
others_stand p n e h None l a k s = absent_stays p n e h k s
others_stand p n e h (Some (Follower m)) l a k s = others_leave_followers p n e h m l s a
others_stand p n e h (Some (Leader m)) l a k s = others_leave_leaders p n e h m l s a
others_stand p n e h (Some (Teller m)) l a k s = others_leave_tellers p n e h m l s a
others_stand p n e h (Some (Beat m)) l a k s = others_leave_beats p n e h m l s a

-- A line that starts none and is no function's own.
pub functions_stay : (p : Plan) (e : Entry) (h : List Entry) (f : Meaning) → IsHistory p (e ∷ h) → actor e.op ≡ None → started_in e.op ≡ None → FunctionsStand p h f → FunctionsStand p (e ∷ h) f
functions_stay p e h f l a b s = record {
  started = s.started ∙ sym (ap (λ o. count_start o (starts_of h)) b);
  running = λ n. others_stand p n e h (f.running n) l (λ q. none-some n (sym a ∙ q)) (λ q. subst (Starts n) b q) (s.running n);
}

-- A line that starts the next one.
pub functions_start : (p : Plan) (e : Entry) (h : List Entry) (f : Meaning) (x : Start) (m : machine.Meaning) → IsHistory p (e ∷ h) → actor e.op ≡ None → started_in e.op ≡ Some x → x.function ≡ starts_of h + 1 → StandsAs p x.function (e ∷ h) (Some m) → FunctionsStand p h f → FunctionsStand p (e ∷ h) (with_started m f)
functions_start p e h f x m l a b i t s = record {
  started = ap (λ z. z + 1) s.started ∙ sym (ap (λ o. count_start o (starts_of h)) b);
  running = λ n. by_number n (n == f.started + 1) refl;
}
  where
    by_number : (n : ℕ) (z : Bool) → (n == f.started + 1) ≡ z → StandsAs p n (e ∷ h) (if z then Some m else f.running n)
    by_number n true q = subst (λ z. StandsAs p z (e ∷ h) (Some m)) (i ∙ (ap (λ z. z + 1) (sym s.started) ∙ sym (eqb-true n (f.started + 1) q))) t
    by_number n false q = others_stand p n e h (f.running n) l (λ z. none-some n (sym a ∙ z)) (λ z. apart n q (subst (Starts n) b z)) (s.running n)
      where
        apart : (n : ℕ) → (n == f.started + 1) ≡ false → x.function ≡ n → ⊥
        apart n q z = let j = i in let k = s.started in grind (arith, nat_tests)

-- A function's own line.
pub functions_move : (p : Plan) (n : ℕ) (e : Entry) (h : List Entry) (f : Meaning) (o : Option machine.Meaning) → IsHistory p (e ∷ h) → actor e.op ≡ Some n → started_in e.op ≡ None → StandsAs p n (e ∷ h) o → FunctionsStand p h f → FunctionsStand p (e ∷ h) (with_running n o f)
functions_move p n e h f o l a b t s = record {
  started = s.started ∙ sym (ap (λ z. count_start z (starts_of h)) b);
  running = λ k. by_number k (k == n) refl;
}
  where
    by_number : (k : ℕ) (z : Bool) → (k == n) ≡ z → StandsAs p k (e ∷ h) (if z then o else f.running k)
    by_number k true q = subst (λ z. StandsAs p z (e ∷ h) o) (sym (eqb-true k n q)) t
    by_number k false q = others_stand p k e h (f.running k) l (λ z. apart k q (same_Some n k (sym a ∙ z))) (λ z. subst (Starts k) b z) (s.running k)
      where
        apart : (k : ℕ) → (k == n) ≡ false → n ≡ k → ⊥
        apart k q z = grind (arith, nat_tests)

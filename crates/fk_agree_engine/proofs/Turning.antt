-- The clients after a line.
use Rattle.std.specs.Prelude.{◌==◌, ◌-◌, zero, nat_le, ◌&&◌, set}
use Rattle.std.proofs.Common.{◌≡◌, ◌≢◌, ℕ, suc, ◌<◌, Bool, true, false, List, [], ◌∷◌, length, refl, sym, ◌∙◌, ap, subst, arith, Some, None}
use Rattle.std.proofs.lemmas.List.{length-set}
use Rattle.std.proofs.lemmas.Bool.Decides.{nat_tests}
use Rattle.std.proofs.lemmas.Option.{same_Some, none-some}
use Rattle.fk_print.specs.declared.entry.Entry.{Entry}
use Rattle.fk_spec.specs.Plan.{Plan, is_client, item_after, nth}
use Rattle.fk_spec.specs.Client.{client_in}
use Rattle.fk_spec.specs.Next.{IsHistory}
use Rattle.fk_client.specs.Meaning.{Meaning}
use Rattle.fk_engine.specs.Turning.{with_client}
use Rattle.fk_agree_client.specs.Standing.{IsClient}
use Rattle.fk_agree_client.proofs.Going.{others_leave_it}
use Rattle.fk_agree_engine.specs.World.{ClientsStand}

-- Places of a list. --------------------------------------------------------------------------------------

set_there : (xs : List Meaning) (i : ℕ) (x y : Meaning) → item_after (set xs i x) i ≡ Some y → x ≡ y
set_there [] i x y e = absurd (none-some y e)
set_there (z ∷ xs) zero x y e = same_Some x y e
set_there (z ∷ xs) (suc i) x y e = set_there xs i x y e

set_elsewhere : (xs : List Meaning) (i j : ℕ) (x : Meaning) → i ≢ j → item_after (set xs i x) j ≡ item_after xs j
set_elsewhere [] i j x n = refl
set_elsewhere (z ∷ xs) zero zero x n = absurd (n refl)
set_elsewhere (z ∷ xs) zero (suc j) x n = refl
set_elsewhere (z ∷ xs) (suc i) zero x n = refl
set_elsewhere (z ∷ xs) (suc i) (suc j) x n = set_elsewhere xs i j x (λ e. n (ap suc e))

is_there : (xs : List Meaning) (i : ℕ) → i < length xs → (m : Meaning) × (item_after xs i ≡ Some m)
is_there [] i b = absurd (omega (arith, b))
is_there (x ∷ xs) zero b = (x, refl)
is_there (x ∷ xs) (suc i) b = is_there xs i (omega (arith, b))

-- each client of the plan is there
pub client_there : (p : Plan) (c : ℕ) (h : List Entry) (ms : List Meaning) → is_client p c ≡ true → ClientsStand p h ms → (m : Meaning) × (nth ms c ≡ Some m)
client_there p zero h ms i s = absurd (grind arith)
client_there p (suc c) h ms i s = is_there ms c (within (length p.asks) i s.count)
  where
    within : (k : ℕ) → (nat_le 1 (suc c) && nat_le (suc c) k) ≡ true → length ms ≡ k → c < length ms
    within k e f = grind (arith, nat_tests)

set_same : (xs : List Meaning) (i : ℕ) (x : Meaning) → item_after xs i ≡ Some x → set xs i x ≡ xs
set_same [] i x e = refl
set_same (y ∷ xs) zero x e = ap (λ z. z ∷ xs) (sym (same_Some y x e))
set_same (y ∷ xs) (suc i) x e = ap (λ zs. y ∷ zs) (set_same xs i x e)

-- a client that stays as it is leaves them all
pub same_clients : (c : ℕ) (m : Meaning) (ms : List Meaning) → nth ms c ≡ Some m → with_client c m ms ≡ ms
same_clients zero m ms q = absurd (none-some m q)
same_clients (suc c) m ms q = ap (λ z. set ms z m) before ∙ set_same ms c m q
  where
    before : suc c - 1 ≡ c
    before = omega arith

-- The clients. -------------------------------------------------------------------------------------------

pub clients_stay : (p : Plan) (e : Entry) (h : List Entry) (ms : List Meaning) → IsHistory p (e ∷ h) → client_in e.op ≡ None → ClientsStand p h ms → ClientsStand p (e ∷ h) ms
clients_stay p e h ms l n s = record { count = s.count; each = λ c m q. others_leave_it p c e h m l (λ z. none-some c (sym n ∙ z)) (s.each c m q) }

pub clients_turn : (p : Plan) (c : ℕ) (e : Entry) (h : List Entry) (ms : List Meaning) (x : Meaning) → IsHistory p (e ∷ h) → client_in e.op ≡ Some c → is_client p c ≡ true → IsClient p c (e ∷ h) x → ClientsStand p h ms → ClientsStand p (e ∷ h) (with_client c x ms)
clients_turn p zero e h ms x l a i t s = absurd (grind arith)
clients_turn p (suc c) e h ms x l a i t s = record { count = length-set ms (suc c - 1) x ∙ s.count; each = each }
  where
    before : suc c - 1 ≡ c
    before = omega arith

    at_place : (d : ℕ) (m : Meaning) (b : Bool) → (c == d) ≡ b → item_after (set ms c x) d ≡ Some m → IsClient p (suc d) (e ∷ h) m
    at_place d m true q r =
        let g : c ≡ d = grind (arith, nat_tests) in
        subst (λ z. IsClient p (suc z) (e ∷ h) m) g (subst (IsClient p (suc c) (e ∷ h)) (set_there ms c x m (subst (λ z. item_after (set ms c x) z ≡ Some m) (sym g) r)) t)
    at_place d m false q r = others_leave_it p (suc d) e h m l (λ z. apart d q (same_Some (suc c) (suc d) (sym a ∙ z))) (s.each (suc d) m (sym (set_elsewhere ms c d x (λ z. apart d q (ap suc z))) ∙ r))
      where
        apart : (d : ℕ) → (c == d) ≡ false → suc c ≡ suc d → ⊥
        apart d q z = grind (arith, nat_tests)

    each : (d : ℕ) (m : Meaning) → nth (with_client (suc c) x ms) d ≡ Some m → IsClient p d (e ∷ h) m
    each zero m q = absurd (none-some m q)
    each (suc d) m q = at_place d m (c == d) refl (subst (λ z. item_after (set ms z x) d ≡ Some m) before q)

-- Sessions have the numbers of clients.
use Rattle.std.specs.Prelude.{nat_eq}
use Rattle.std.proofs.Common.{◌≡◌, ℕ, zero, suc, ◌≤◌, Bool, true, false, List, [], ◌∷◌, length, refl, ◌∙◌, ap, arith, Option, Some, None}
use Rattle.std.proofs.lemmas.Bool.Decides.{nat_tests}
use Rattle.fk_print.specs.declared.entry.Entry.{Entry}
use Rattle.fk_print.specs.declared.op.Op.{Op}
use Rattle.fk_print.specs.declared.op.Op.TheVariants as op
use Rattle.fk_spec.specs.Plan.{Plan, Ask, asked, is_client, item_after, nth, or_empty}
use Rattle.fk_spec.specs.Start.{Task, Follows, Probes, task_of, task_here, started_in, or_else, sends_of, sent_in, count_sent, written}
use Rattle.fk_spec.specs.Next.{IsHistory}
use Rattle.fk_law.specs.Due.{IsDue}
use Rattle.fk_law.specs.Sessions.{BeatsAClient, BeatsClients, FollowsAClient}
use Rattle.fk_law.proofs.Beating.{heartbeats_are_of_clients}
use Rattle.fk_law.proofs.Due.{due}
use Rattle.fk_law.proofs.Settled.{reached}

probes_step : (p : Plan) (n c : ℕ) (o : Op) (x : Option Task) → BeatsAClient p o → (x ≡ Some (Probes c) → is_client p c ≡ true) → or_else (task_here n (started_in o)) x ≡ Some (Probes c) → is_client p c ≡ true
probes_step p n c o x b i e = grind (arith, nat_tests)

pub probes_client : (p : Plan) (n c : ℕ) (h : List Entry) → BeatsClients p h → task_of n h ≡ Some (Probes c) → is_client p c ≡ true
probes_client p n c [] b e = absurd (grind arith)
probes_client p n c (x ∷ h) b e = probes_step p n c x.op (task_of n h) b.1 (probes_client p n c h b.0) e

-- Who is no client asks for nothing. -------------------------------------------------------------------

none_after : {A : Type 0} (xs : List A) (n : ℕ) → length xs ≤ n → item_after xs n ≡ None
none_after [] n l = refl
none_after (x ∷ xs) zero l = absurd (grind arith)
none_after (x ∷ xs) (suc n) l = none_after xs n (omega (arith, l))

abbrev no_asks : List Ask
no_asks = []

none_empty : (i : ℕ) → nth no_asks i ≡ None
none_empty zero = refl
none_empty (suc i) = refl

pub none_asked : (p : Plan) (c i : ℕ) → is_client p c ≡ false → asked p c i ≡ None
none_asked p zero i f = none_empty i
none_asked p (suc c) i f = ap (λ xs. nth (or_empty xs) i) (none_after p.asks c (grind (arith, nat_tests))) ∙ none_empty i

none_written : (p : Plan) (c i : ℕ) → is_client p c ≡ false → written (asked p c i) ≡ None
none_written p c i f = ap written (none_asked p c i f)

none_step : (p : Plan) (c : ℕ) (h : List Entry) (o : Op) → is_client p c ≡ false → IsDue p h o → ((n d : ℕ) → task_of n h ≡ Some (Probes d) → is_client p d ≡ true) → sends_of c h ≡ 0 → count_sent (sent_in c h o) (sends_of c h) ≡ 0
none_step p c h (op.Send d i k) f w b e = by_test (nat_eq d c) refl
  where
    by_test : (z : Bool) → nat_eq d c ≡ z → count_sent (sent_in c h (op.Send d i k)) (sends_of c h) ≡ 0
    by_test true g = let q : d ≡ c = grind (arith, nat_tests) in absurd (grind (arith, none_written p c i f, w.2))
    by_test false g = grind arith
none_step p c h (op.Evict n k) f w b e = grind (arith, nat_tests, b n)
none_step p c h o f w b e = grind arith

none_sent : (p : Plan) (c : ℕ) (h : List Entry) → is_client p c ≡ false → IsHistory p h → sends_of c h ≡ 0
none_sent p c [] f l = refl
none_sent p c (x ∷ h) f l = none_step p c h x.op f (due p x h l) (λ n d e. probes_client p n d h (heartbeats_are_of_clients p h l.0) e) (none_sent p c h f l.0)

pub follows_a_client : FollowsAClient
follows_a_client p n c k h l t = by_test (is_client p c) refl
  where
    by_test : (z : Bool) → is_client p c ≡ z → is_client p c ≡ true
    by_test true f = f
    by_test false f = let r = reached p n c k h l t in absurd (omega (arith, r.0, r.2, none_sent p c h f l))

from_1 : (p : Plan) (c : ℕ) → is_client p c ≡ true → 1 ≤ c
from_1 p c e = grind (arith, nat_tests)

pub follows_from_1 : (p : Plan) (n c k : ℕ) (h : List Entry) → IsHistory p h → task_of n h ≡ Some (Follows c k) → 1 ≤ c
follows_from_1 p n c k h l t = from_1 p c (follows_a_client p n c k h l t)

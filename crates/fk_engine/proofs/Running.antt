-- The functions after one of them started, moved or ended: what stands under each number, and which are listed.
use Rattle.std.proofs.Common.{◌≡◌, ℕ, ◌+◌, ◌==◌, ◌<◌, ◌≤◌, Bool, true, false, cond, ◌||◌, List, [], ◌∷◌, ◌++◌, Option, Some, None, refl, sym, ◌∙◌, ap, subst, arith}
use Rattle.std.specs.Prelude.{is_some, option_map}
use Rattle.std.specs.BTreeMap.{is_at}
use Rattle.std.specs.Cmp.{nat_cmp_total}
use Rattle.std.specs.FinMap.{nat_cmp-IsAntisymmetric}
use Rattle.std.specs.Ordering.{nat_cmp, is_eq}
use Rattle.fk_tree.proofs.Rising.{has_without}
use Rattle.fk_user.specs.Ids.{has_id, without_id}
use Rattle.fk_watch.proofs.Firing.{same_id, same_is}
use Rattle.fk_watch.proofs.Noting.{same_number}
use Rattle.fk_watch.specs.Setting.{at}
use Rattle.fk_engine.specs.Entries.{IsUpdated}
use Rattle.fk_engine.specs.Flights.{Meaning, moved, without}
use Rattle.fk_engine.specs.Machines as machine
use Rattle.fk_engine.specs.Machines.{is_ended, machine_of}
use Rattle.fk_engine.specs.declared.machine.Machine.{Machine}
use Rattle.fk_base.proofs.Logic.{by_test}

-- which numbers are listed
abbrev pub AreListed : {X : Type 0} → List ℕ → List (ℕ × X) → Type 0
AreListed ns es = (n : ℕ) → has_id n ns ≡ is_some (at n es)

abbrev pub AreLow : {X : Type 0} → ℕ → List (ℕ × X) → Type 0
AreLow k es = (n : ℕ) → is_some (at n es) ≡ true → n ≤ k

by_number : {X : Type 0} (es fs : List (ℕ × X)) (k : ℕ) (o : Option X) → IsUpdated es fs k o → (q : ℕ) → at q fs ≡ cond (q == k) o (at q es)
by_number es fs k o u q = u q ∙ ap (λ b. cond b o (at q es)) (same_number k q)

-- ---- what they mean

pub same_functions : (f g : Meaning) → f.started ≡ g.started → ((n : ℕ) → f.running n ≡ g.running n) → f ≡ g
same_functions f g a b = λ i. record { started = a i; running = λ n. (b n) i }

pub running_after : (es fs : List (ℕ × Machine)) (k : ℕ) (o : Option Machine) → IsUpdated es fs k o
    → (q : ℕ) → option_map machine_of (at q fs) ≡ cond (q == k) (option_map machine_of o) (option_map machine_of (at q es))
running_after es fs k o u q = ap (option_map machine_of) (by_number es fs k o u q) ∙ step (q == k) (at q es)
  where
    step : (b : Bool) (a : Option Machine) → option_map machine_of (cond b o a) ≡ cond b (option_map machine_of o) (option_map machine_of a)
    step true a = refl
    step false a = refl

-- ---- which are listed

has_pushed : (n k : ℕ) (ns : List ℕ) → has_id n (ns ++ k ∷ []) ≡ (has_id n ns || (n == k))
has_pushed n k [] = step (is_eq (nat_cmp n k)) (n == k) (same_is n k)
  where
    step : (a b : Bool) → a ≡ b → (a || false) ≡ (false || b)
    step true b e = e
    step false b e = e
has_pushed n k (m ∷ ns) = ap (λ b. is_eq (nat_cmp n m) || b) (has_pushed n k ns) ∙ step (is_eq (nat_cmp n m)) (has_id n ns) (n == k)
  where
    step : (a b c : Bool) → (a || (b || c)) ≡ ((a || b) || c)
    step true b c = refl
    step false b c = refl

pub listed_more : {X : Type 0} (es fs : List (ℕ × X)) (k : ℕ) (x : X) (ns : List ℕ) → IsUpdated es fs k (Some x) → AreListed ns es → AreListed (ns ++ k ∷ []) fs
listed_more {X} es fs k x ns u l n = has_pushed n k ns ∙ ap (λ b. b || (n == k)) (l n) ∙ step (n == k) (at n es) ∙ ap is_some (sym (by_number es fs k (Some x) u n))
  where
    step : (b : Bool) (a : Option X) → (is_some a || b) ≡ is_some (cond b (Some x) a)
    step true None = refl
    step true (Some y) = refl
    step false None = refl
    step false (Some y) = refl

pub listed_less : {X : Type 0} (es fs : List (ℕ × X)) (k : ℕ) (ns : List ℕ) → IsUpdated es fs k None → AreListed ns es → AreListed (without_id k ns) fs
listed_less {X} es fs k ns u l n =
    has_without nat_cmp_total nat_cmp-IsAntisymmetric n k ns ∙ rw (same_is n k, l n) (step (n == k) (at n es)) ∙ ap is_some (sym (by_number es fs k None u n))
  where
    step : (b : Bool) (a : Option X) → cond b false (is_some a) ≡ is_some (cond b None a)
    step true a = refl
    step false a = refl

-- one that was there has another value
pub listed_same : {X : Type 0} (es fs : List (ℕ × X)) (k : ℕ) (x y : X) (ns : List ℕ) → at k es ≡ Some y → IsUpdated es fs k (Some x) → AreListed ns es → AreListed ns fs
listed_same {X} es fs k x y ns here u l n = l n ∙ by_test (is_at (nat_cmp k) n) (λ b. is_some (at n es) ≡ is_some (cond b (Some x) (at n es)))
    (λ t. ap (λ m. is_some (at m es)) (sym (same_id k n t)) ∙ ap is_some here) (λ _. refl)
    ∙ ap is_some (sym (u n))

-- ---- none is beyond the last start

pub low_more : {X : Type 0} (es fs : List (ℕ × X)) (k : ℕ) (x : X) → IsUpdated es fs (k + 1) (Some x) → AreLow k es → AreLow (k + 1) fs
low_more {X} es fs k x u l n = subst (λ o. is_some o ≡ true → n ≤ k + 1) (sym (by_number es fs (k + 1) (Some x) u n)) (by_test (n == k + 1) (λ b. is_some (cond b (Some x) (at n es)) ≡ true → n ≤ k + 1)
    (λ t _. grind (arith, t)) (λ _ h. let low : n ≤ k = l n h in omega (arith, low)))

pub low_less : {X : Type 0} (es fs : List (ℕ × X)) (k n : ℕ) → IsUpdated es fs n None → AreLow k es → AreLow k fs
low_less {X} es fs k n u l q = subst (λ o. is_some o ≡ true → q ≤ k) (sym (by_number es fs n None u q)) (by_test (q == n) (λ b. is_some (cond b None (at q es)) ≡ true → q ≤ k)
    (λ _ h. absurd (cc)) (λ _ h. l q h))

pub low_same : {X : Type 0} (es fs : List (ℕ × X)) (k n : ℕ) (x y : X) → at n es ≡ Some y → IsUpdated es fs n (Some x) → AreLow k es → AreLow k fs
low_same {X} es fs k n x y here u l q = subst (λ o. is_some o ≡ true → q ≤ k) (sym (u q)) (by_test (is_at (nat_cmp n) q) (λ b. is_some (cond b (Some x) (at q es)) ≡ true → q ≤ k)
    (λ t _. l q (ap (λ m. is_some (at m es)) (sym (same_id n q t)) ∙ ap is_some here)) (λ _ h. l q h))

-- a listed number is below the next
pub listed_below : {X : Type 0} (es : List (ℕ × X)) (k : ℕ) (ns : List ℕ) → AreListed ns es → AreLow k es → (m : ℕ) → has_id m ns ≡ true → m < k + 1
listed_below es k ns l low m h = let up : m ≤ k = low m (sym (l m) ∙ h) in omega (arith, up)

-- a start that had no memory for its number leaves what was there
none_next : {X : Type 0} (es : List (ℕ × X)) (k : ℕ) → AreLow k es → at (k + 1) es ≡ None
none_next {X} es k low = by (at (k + 1) es) refl
  where
    by : (o : Option X) → at (k + 1) es ≡ o → o ≡ None
    by None e = refl
    by (Some x) e = let up : k + 1 ≤ k = low (k + 1) (ap is_some e) in absurd (omega (arith, up))

pub taken_back : {X : Type 0} (es fs gs : List (ℕ × X)) (k : ℕ) (x : X) → AreLow k es → IsUpdated es fs (k + 1) (Some x) → IsUpdated fs gs (k + 1) None → (q : ℕ) → at q gs ≡ at q es
taken_back es fs gs k x low u v q = v q ∙ by_test (is_at (nat_cmp (k + 1)) q) (λ b. cond b None (at q fs) ≡ at q es)
    (λ t. sym (subst (λ m. at m es ≡ None) (same_id (k + 1) q t) (none_next es k low)))
    (λ f. u q ∙ ap (λ b. cond b (Some x) (at q es)) f)

-- ---- a function made an operation

-- it has ended
pub moved_out : (f g : Meaning) (n : ℕ) (m : machine.Meaning) → g.started ≡ f.started → ((q : ℕ) → g.running q ≡ cond (q == n) (Some m) (f.running q)) → is_ended m ≡ true
    → without n g ≡ moved n m f
moved_out f g n m a b e = same_functions (without n g) (moved n m f) a (λ q. rw (b q, e) (step (q == n) (f.running q)))
  where
    step : (t : Bool) (o : Option machine.Meaning) → cond t None (cond t (Some m) o) ≡ cond t None o
    step true o = refl
    step false o = refl

-- it goes on
pub moved_on : (f g : Meaning) (n : ℕ) (m : machine.Meaning) → g.started ≡ f.started → ((q : ℕ) → g.running q ≡ cond (q == n) (Some m) (f.running q)) → is_ended m ≡ false
    → g ≡ moved n m f
moved_on f g n m a b e = same_functions g (moved n m f) a (λ q. b q ∙ rw e refl)

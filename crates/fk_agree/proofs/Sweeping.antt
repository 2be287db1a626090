-- What a sweep lists of the fired watches.
use Rattle.std.specs.Prelude.{◌==◌, map, max, option_map, is_some}
use Rattle.std.specs.Ordering.{is_eq, is_lt, nat_cmp}
use Rattle.std.specs.FinMap.{nat_cmp-IsAntisymmetric}
use Rattle.std.proofs.Common.{◌≡◌, ℕ, ◌+◌, ◌≤◌, ◌<◌, ◌++◌, ◌||◌, inl, inr, Bool, true, false, cond, List, [], ◌∷◌, refl, sym, ◌∙◌, ap, subst, arith, Option, Some, None}
use Rattle.std.proofs.lemmas.Bool.{eqb-true, false≢true}
use Rattle.std.proofs.lemmas.Bool.Decides.{nat_tests}
use Rattle.std.proofs.lemmas.Cmp.{nat_cmp_total}
use Rattle.fk_tree.specs.Sorted.{is_below, rises, sorted}
use Rattle.fk_tree.specs.Watch.{first_taken}
use Rattle.fk_tree.specs.declared.change.Change.{Change}
use Rattle.fk_tree.specs.declared.change.Touch.{Touch}
use Rattle.fk_tree.proofs.Rising.{has_with, rises_with, same_rising}
use Rattle.fk_print.specs.declared.entry.Entry.{Entry}
use Rattle.fk_print.specs.declared.op.Op.{Op}
use Rattle.fk_print.specs.declared.op.Op.TheVariants as op
use Rattle.fk_user.specs.Ids.{has_id, ids_rise}
use Rattle.fk_watch.specs.Answers as answers
use Rattle.fk_watch.specs.Answers.{fired_with, listed}
use Rattle.fk_watch.specs.Notes.{fired_as}
use Rattle.fk_watch.specs.Sweeping.{only_of}
use Rattle.fk_watch.proofs.Uniqueness.{same_fired}
use Rattle.fk_stand.specs.Stores.{firing_as}
use Rattle.fk_spec.specs.Plan.{Plan}
use Rattle.fk_spec.specs.Watches.{Firing, Watch, epoch_of, fired_by, fired_watches, firing_with, firings, given_in, given_of, ids_of, kept_unless, not_fired, set_after, set_watches, touches_of_push}
use Rattle.fk_spec.specs.Watches as rules
use Rattle.fk_spec.specs.Next.{IsHistory}
use Rattle.fk_law_watch.specs.Noting.{fired_at, fired_at_in, is_told, untold}
use Rattle.fk_law_watch.specs.Registering.{Registers}
use Rattle.fk_law_watch.proofs.Noting.{fired_is_listed}
use Rattle.fk_law_watch.proofs.Registering.{watches_are_registered}
use Rattle.fk_law_watch.proofs.SetWatches.{set_cases}
use Rattle.fk_agree.specs.Watched.{EpochIsTheRules, FiredAreTheRules}
use Rattle.fk_agree.proofs.Firing.{FireOnce, fired_once}
use Rattle.fk_base.proofs.Logic.{and_left, and_right, by_test}

-- Set watches stand in rising number. -------------------------------------------------------------------

abbrev ids_in : List Watch → List ℕ
ids_in [] = []
ids_in (w ∷ ws) = w.id ∷ ids_in ws

-- each number is at most so
abbrev pub UpTo : ℕ → List ℕ → Type 0
UpTo n [] = Unit {0}
UpTo n (x ∷ xs) = (x ≤ n) × UpTo n xs

up_more : (m n : ℕ) (xs : List ℕ) → m ≤ n → UpTo m xs → UpTo n xs
up_more m n [] b i = tt
up_more m n (x ∷ xs) b i = (let a = i.0 in omega (arith, a, b), up_more m n xs b i.1)

is_less : (a b : ℕ) → a < b → is_lt (nat_cmp a b) ≡ true
is_less a b l = grind (arith, nat_tests)

below_append : (k n : ℕ) (ws : List Watch) (w : Watch) → is_below nat_cmp k (ids_in ws) ≡ true → k < w.id → is_below nat_cmp k (ids_in (ws ++ w ∷ [])) ≡ true
below_append k n [] w e l = rw (is_less k w.id l) refl
below_append k n (v ∷ ws) w e l = rw (and_left (is_lt (nat_cmp k v.id)) (is_below nat_cmp k (ids_in ws)) e) (below_append k n ws w (and_right (is_lt (nat_cmp k v.id)) (is_below nat_cmp k (ids_in ws)) e) l)

rises_append : (n : ℕ) (ws : List Watch) (w : Watch) → ids_rise (ids_in ws) ≡ true → UpTo n (ids_in ws) → n < w.id → ids_rise (ids_in (ws ++ w ∷ [])) ≡ true
rises_append n [] w e i l = refl
rises_append n (v ∷ ws) w e i l =
    rw (below_append v.id n ws w (and_left (is_below nat_cmp v.id (ids_in ws)) (rises nat_cmp (ids_in ws)) e) (let a = i.0 in omega (arith, a, l))) (rises_append n ws w (and_right (is_below nat_cmp v.id (ids_in ws)) (rises nat_cmp (ids_in ws)) e) i.1 l)

up_append : (n : ℕ) (ws : List Watch) (w : Watch) → UpTo n (ids_in ws) → w.id ≤ n → UpTo n (ids_in (ws ++ w ∷ []))
up_append n [] w i l = (l, tt)
up_append n (v ∷ ws) w i l = (i.0, up_append n ws w i.1 l)

below_left : (k : ℕ) (ts : List Touch) (ws : List Watch) → is_below nat_cmp k (ids_in ws) ≡ true → is_below nat_cmp k (ids_in (not_fired ts ws)) ≡ true
below_left k ts [] e = e
below_left k ts (w ∷ ws) e = one (first_taken w.path w.kind ts) (and_left (is_lt (nat_cmp k w.id)) (is_below nat_cmp k (ids_in ws)) e) (below_left k ts ws (and_right (is_lt (nat_cmp k w.id)) (is_below nat_cmp k (ids_in ws)) e))
  where
    one : (o : Option Change) → is_lt (nat_cmp k w.id) ≡ true → is_below nat_cmp k (ids_in (not_fired ts ws)) ≡ true → is_below nat_cmp k (ids_in (kept_unless o w (not_fired ts ws))) ≡ true
    one None a b = rw a b
    one (Some c) a b = b

rises_left : (ts : List Touch) (ws : List Watch) → ids_rise (ids_in ws) ≡ true → ids_rise (ids_in (not_fired ts ws)) ≡ true
rises_left ts [] e = e
rises_left ts (w ∷ ws) e = one (first_taken w.path w.kind ts) (below_left w.id ts ws (and_left (is_below nat_cmp w.id (ids_in ws)) (rises nat_cmp (ids_in ws)) e)) (rises_left ts ws (and_right (is_below nat_cmp w.id (ids_in ws)) (rises nat_cmp (ids_in ws)) e))
  where
    one : (o : Option Change) → is_below nat_cmp w.id (ids_in (not_fired ts ws)) ≡ true → ids_rise (ids_in (not_fired ts ws)) ≡ true → ids_rise (ids_in (kept_unless o w (not_fired ts ws))) ≡ true
    one None a b = rw a b
    one (Some c) a b = b

up_left : (n : ℕ) (ts : List Touch) (ws : List Watch) → UpTo n (ids_in ws) → UpTo n (ids_in (not_fired ts ws))
up_left n ts [] i = i
up_left n ts (w ∷ ws) i = one (first_taken w.path w.kind ts) (up_left n ts ws i.1)
  where
    one : (o : Option Change) → UpTo n (ids_in (not_fired ts ws)) → UpTo n (ids_in (kept_unless o w (not_fired ts ws)))
    one None a = (i.0, a)
    one (Some c) a = a

record AreRising (given : ℕ) (ws : List Watch) : Type 0 where
  pub rising : ids_rise (ids_in ws) ≡ true
  pub given_all : UpTo given (ids_in ws)

rising_step : (p : Plan) (h : List Entry) (o : Op) → Registers p h o → AreRising (given_of h) (set_watches p h) → AreRising (given_in o (given_of h)) (set_after p h o (set_watches p h))
rising_step p h (op.WatchSet c i id) r s = elim (set_cases p h c i id r) [ inl x ↦ subst (AreRising (max id (given_of h))) (sym x.1) (record { rising = s.rising; given_all = up_more (given_of h) (max id (given_of h)) (ids_in (set_watches p h)) (omega arith) s.given_all }) | inr y ↦ subst (AreRising (max id (given_of h))) (sym y.appended) (new y.next) ]
  where
    new : r.watch.id ≡ given_of h + 1 → AreRising (max id (given_of h)) (set_watches p h ++ r.watch ∷ [])
    new e =
        let f = r.its_id in
        record {
          rising = rises_append (given_of h) (set_watches p h) r.watch s.rising s.given_all (omega (arith, e));
          given_all = up_append (max id (given_of h)) (set_watches p h) r.watch (up_more (given_of h) (max id (given_of h)) (ids_in (set_watches p h)) (omega arith) s.given_all) (omega (arith, f));
        }
rising_step p h (op.SweepOk n t k) r s = record { rising = rises_left (touches_of_push p t h) (set_watches p h) s.rising; given_all = up_left (given_of h) (touches_of_push p t h) (set_watches p h) s.given_all }
rising_step p h o r s = s

sets_rise : (p : Plan) (h : List Entry) → IsHistory p h → AreRising (given_of h) (set_watches p h)
sets_rise p [] l = record { rising = refl; given_all = tt }
sets_rise p (e ∷ h) l = rising_step p h e.op (watches_are_registered p e h l) (sets_rise p h l.0)

-- So do those that one push fired. ----------------------------------------------------------------------

below_fires : (k t : ℕ) (ts : List Touch) (ws : List Watch) → is_below nat_cmp k (ids_in ws) ≡ true → is_below nat_cmp k (ids_of (firings t ts ws)) ≡ true
below_fires k t ts [] e = e
below_fires k t ts (w ∷ ws) e = one (first_taken w.path w.kind ts) (and_left (is_lt (nat_cmp k w.id)) (is_below nat_cmp k (ids_in ws)) e) (below_fires k t ts ws (and_right (is_lt (nat_cmp k w.id)) (is_below nat_cmp k (ids_in ws)) e))
  where
    one : (o : Option Change) → is_lt (nat_cmp k w.id) ≡ true → is_below nat_cmp k (ids_of (firings t ts ws)) ≡ true → is_below nat_cmp k (ids_of (rules.fired_as t w o (firings t ts ws))) ≡ true
    one None a b = b
    one (Some c) a b = rw a b

rises_fires : (t : ℕ) (ts : List Touch) (ws : List Watch) → ids_rise (ids_in ws) ≡ true → ids_rise (ids_of (firings t ts ws)) ≡ true
rises_fires t ts [] e = e
rises_fires t ts (w ∷ ws) e = one (first_taken w.path w.kind ts) (below_fires w.id t ts ws (and_left (is_below nat_cmp w.id (ids_in ws)) (rises nat_cmp (ids_in ws)) e)) (rises_fires t ts ws (and_right (is_below nat_cmp w.id (ids_in ws)) (rises nat_cmp (ids_in ws)) e))
  where
    one : (o : Option Change) → is_below nat_cmp w.id (ids_of (firings t ts ws)) ≡ true → ids_rise (ids_of (firings t ts ws)) ≡ true → ids_rise (ids_of (rules.fired_as t w o (firings t ts ws))) ≡ true
    one None a b = b
    one (Some c) a b = rw a b

at_rises_step : (p : Plan) (t : ℕ) (h : List Entry) (o : Op) → IsHistory p h → ids_rise (ids_of (fired_at p t h)) ≡ true → ids_rise (ids_of (fired_at_in p t h o (fired_at p t h))) ≡ true
at_rises_step p t h (op.SweepOk n s k) l i = by_test (s == t) (λ b. ids_rise (ids_of (cond b (firings s (touches_of_push p s h) (set_watches p h)) (fired_at p t h))) ≡ true) (λ _. rises_fires s (touches_of_push p s h) (set_watches p h) (sets_rise p h l).rising) (λ _. i)
at_rises_step p t h o l i = i

at_rises : (p : Plan) (t : ℕ) (h : List Entry) → IsHistory p h → ids_rise (ids_of (fired_at p t h)) ≡ true
at_rises p t [] l = refl
at_rises p t (e ∷ h) l = at_rises_step p t h e.op l.0 (at_rises p t h l.0)

by_rises : (p : Plan) (t : ℕ) (h : List Entry) → IsHistory p h → ids_rise (ids_of (fired_by t (fired_watches p h))) ≡ true
by_rises p t h l = subst (λ fs. ids_rise (ids_of fs) ≡ true) (sym (fired_is_listed p t h l)) (by_test (is_told t h) (λ b. ids_rise (ids_of (untold b (fired_at p t h))) ≡ true) (λ _. refl) (λ _. at_rises p t h l))

-- What the table lists. ---------------------------------------------------------------------------------

same_ids : (fs : List Firing) → answers.ids_of (map fired_as fs) ≡ ids_of fs
same_ids [] = refl
same_ids (f ∷ fs) = ap (λ xs. f.watch.id ∷ xs) (same_ids fs)

listed_so : (n t : ℕ) (fs : List Firing) → FireOnce fs → fired_with n (map fired_as (fired_by t fs)) ≡ listed n (only_of t (option_map firing_as (firing_with n fs)))
listed_so n t [] u = refl
listed_so n t (f ∷ fs) u = one (f.tx == t) (f.watch.id == n) (n == f.watch.id) refl refl refl (listed_so n t fs u.1)
  where
    none : (f.watch.id == n) ≡ true → listed n (only_of t (option_map firing_as (firing_with n fs))) ≡ None
    none e = ap (λ o. listed n (only_of t (option_map firing_as o))) (subst (λ x. firing_with x fs ≡ None) (eqb-true f.watch.id n e) u.0)

    clash : (b c : Bool) → (f.watch.id == n) ≡ b → (n == f.watch.id) ≡ c → b ≡ c
    clash b c x y = grind (arith, nat_tests)

    one : (a b c : Bool) → (f.tx == t) ≡ a → (f.watch.id == n) ≡ b → (n == f.watch.id) ≡ c → fired_with n (map fired_as (fired_by t fs)) ≡ listed n (only_of t (option_map firing_as (firing_with n fs)))
        → fired_with n (map fired_as (cond a (f ∷ fired_by t fs) (fired_by t fs))) ≡ listed n (only_of t (option_map firing_as (cond b (Some f) (firing_with n fs))))
    one true true true x y z i =
        ap (λ b. cond b (Some (fired_as f)) (fired_with n (map fired_as (fired_by t fs)))) z
        ∙ ((λ j. Some (record { id = (eqb-true f.watch.id n y) j; session = f.watch.session; path = f.watch.path; kind = f.watch.kind; change = f.change })) ∙ sym (ap (λ b. listed n (cond b (Some (firing_as f)) None)) x))
    one true false false x y z i = ap (λ b. cond b (Some (fired_as f)) (fired_with n (map fired_as (fired_by t fs)))) z ∙ i
    one false true true x y z i = i ∙ (none y ∙ sym (ap (λ b. listed n (cond b (Some (firing_as f)) None)) x))
    one false false false x y z i = i
    one true true false x y z i = absurd (false≢true (sym (clash true false y z)))
    one true false true x y z i = absurd (false≢true (clash false true y z))
    one false true false x y z i = absurd (false≢true (sym (clash true false y z)))
    one false false true x y z i = absurd (false≢true (clash false true y z))

pub fired_are_the_rules : FiredAreTheRules
fired_are_the_rules p t faults h fs l i =
    let gs = fired_by t (fired_watches p h) in
    same_fired fs (map fired_as gs) i.rising (ap ids_rise (same_ids gs) ∙ by_rises p t h l) (λ n. i.exact n ∙ sym (listed_so n t (fired_watches p h) (fired_once p h l)))

sorted_rises : (xs : List ℕ) → ids_rise (sorted nat_cmp xs) ≡ true
sorted_rises [] = refl
sorted_rises (x ∷ xs) = rises_with nat_cmp_total nat_cmp-IsAntisymmetric x (sorted nat_cmp xs) (sorted_rises xs)

sorted_has : (n : ℕ) (xs : List ℕ) → has_id n (sorted nat_cmp xs) ≡ has_id n xs
sorted_has n [] = refl
sorted_has n (x ∷ xs) = has_with nat_cmp_total nat_cmp-IsAntisymmetric n x (sorted nat_cmp xs) ∙ ap (λ b. is_eq (nat_cmp n x) || b) (sorted_has n xs)

ids_has : (n : ℕ) (fs : List Firing) → has_id n (ids_of fs) ≡ is_some (option_map firing_as (firing_with n fs))
ids_has n [] = refl
ids_has n (f ∷ fs) = ap (λ b. b || has_id n (ids_of fs)) (same_tests f.watch.id n) ∙ by_test (f.watch.id == n) (λ b. (b || has_id n (ids_of fs)) ≡ is_some (option_map firing_as (cond b (Some f) (firing_with n fs)))) (λ _. refl) (λ _. ids_has n fs)
  where
    same_tests : (x id : ℕ) → is_eq (nat_cmp id x) ≡ (x == id)
    same_tests x id = grind (arith, nat_tests)

pub epoch_is_the_rules : EpochIsTheRules
epoch_is_the_rules p faults h ids l i =
    let fs = fired_watches p h in
    same_rising nat_cmp_total nat_cmp-IsAntisymmetric ids (epoch_of fs) i.rising (sorted_rises (ids_of fs)) (λ n. i.exact n ∙ sym (sorted_has n (ids_of fs) ∙ ids_has n fs))

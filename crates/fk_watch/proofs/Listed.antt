-- What is listed of the fired watches, and what is forgotten.
use Rattle.std.proofs.Common.{◌≡◌, ℕ, ◌==◌, Bool, true, false, cond, not, List, [], ◌∷◌, ◌++◌, Option, Some, None, refl, sym, ◌∙◌, ap, subst, arith}
use Rattle.std.specs.Cmp.{nat_cmp_total, eq_by_cmp_equiv}
use Rattle.std.specs.List.{AllByRecursion, filter}
use Rattle.std.specs.List.Sorted.{IsStrictlySortedBy}
use Rattle.std.specs.Map.{keys_of}
use Rattle.std.specs.Ordering.{nat_cmp, is_eq, is_lt, eq_by_cmp}
use Rattle.std.specs.declared.cmp.Ordering.TheVariants.{Less, Greater}
use Rattle.std.proofs.lemmas.List.{append_assoc, append-nil}
use Rattle.std.proofs.lemmas.Map.Entries.{lookup-filter-values, option_filter}
use Rattle.std.proofs.lemmas.Map.Keys.{sorted_head, sorted_tail, IsDistinct-from_sorted}
use Rattle.fk_tree.specs.Sorted.{is_below}
use Rattle.fk_user.specs.Ids.{ids_rise, with_id}
use Rattle.fk_watch.specs.declared.watch.Firing.{Firing}
use Rattle.fk_watch.specs.Answers.{fired_with, ids_of, listed}
use Rattle.fk_watch.specs.Listing.{fired_as, those_of}
use Rattle.fk_watch.specs.Setting.{at}
use Rattle.fk_watch.specs.Sweeping.{not_of, only_of}
use Rattle.fk_watch.proofs.Firing.{same_is, same_id}
use Rattle.fk_base.proofs.Logic.{by_test}

-- RISING
below_listed : (tx k : ℕ) (es : List (ℕ × Firing)) → AllByRecursion (λ y. nat_cmp k y ≡ Less) (keys_of es) → is_below nat_cmp k (ids_of (those_of tx es)) ≡ true
below_listed tx k [] h = refl
below_listed tx k (e ∷ es) h =
    by_test (e.1.tx == tx) (λ b. is_below nat_cmp k (ids_of (cond b (fired_as e.0 e.1 ∷ []) [] ++ those_of tx es)) ≡ true)
    (λ _. rw (ap is_lt h.0) (below_listed tx k es h.1)) (λ _. below_listed tx k es h.1)

pub listed_rise : (tx : ℕ) (es : List (ℕ × Firing)) → IsStrictlySortedBy nat_cmp (keys_of es) → ids_rise (ids_of (those_of tx es)) ≡ true
listed_rise tx [] h = refl
listed_rise tx (e ∷ es) h =
    by_test (e.1.tx == tx) (λ b. ids_rise (ids_of (cond b (fired_as e.0 e.1 ∷ []) [] ++ those_of tx es)) ≡ true)
    (λ _. rw (below_listed tx e.0 es (sorted_head nat_cmp e.0 (keys_of es) h)) (listed_rise tx es (sorted_tail nat_cmp e.0 (keys_of es) h)))
    (λ _. listed_rise tx es (sorted_tail nat_cmp e.0 (keys_of es) h))

-- EXACT
less_other : (n m : ℕ) → nat_cmp n m ≡ Less → (n == m) ≡ false
less_other n m e = grind arith

none_listed : (tx n : ℕ) (es : List (ℕ × Firing)) → AllByRecursion (λ y. nat_cmp n y ≡ Less) (keys_of es) → fired_with n (those_of tx es) ≡ None
none_listed tx n [] h = refl
none_listed tx n (e ∷ es) h =
    by_test (e.1.tx == tx) (λ b. fired_with n (cond b (fired_as e.0 e.1 ∷ []) [] ++ those_of tx es) ≡ None)
    (λ _. rw (less_other n e.0 h.0) (none_listed tx n es h.1)) (λ _. none_listed tx n es h.1)

pub listed_exact : (tx n : ℕ) (es : List (ℕ × Firing)) → IsStrictlySortedBy nat_cmp (keys_of es) → fired_with n (those_of tx es) ≡ listed n (only_of tx (at n es))
listed_exact tx n [] h = refl
listed_exact tx n (e ∷ es) h =
    by_test (is_eq (nat_cmp n e.0)) (λ b. fired_with n (those_of tx (e ∷ es)) ≡ listed n (only_of tx (cond b (Some e.1) (at n es)))) here (later (listed_exact tx n es (sorted_tail nat_cmp e.0 (keys_of es) h)))
  where
    here : is_eq (nat_cmp n e.0) ≡ true → fired_with n (those_of tx (e ∷ es)) ≡ listed n (only_of tx (Some e.1))
    here t =
        let test : (n == e.0) ≡ true = sym (same_is n e.0) ∙ t in
        by_test (e.1.tx == tx) (λ b. fired_with n (cond b (fired_as e.0 e.1 ∷ []) [] ++ those_of tx es) ≡ listed n (cond b (Some e.1) None))
        (λ _. rw test (ap (λ k. Some (fired_as k e.1)) (sym (same_id n e.0 t))))
        (λ _. none_listed tx n es (subst (λ k. AllByRecursion (λ y. nat_cmp k y ≡ Less) (keys_of es)) (sym (same_id n e.0 t)) (sorted_head nat_cmp e.0 (keys_of es) h)))

    later : fired_with n (those_of tx es) ≡ listed n (only_of tx (at n es)) → is_eq (nat_cmp n e.0) ≡ false → fired_with n (those_of tx (e ∷ es)) ≡ listed n (only_of tx (at n es))
    later rest t =
        let test : (n == e.0) ≡ false = sym (same_is n e.0) ∙ t in
        by_test (e.1.tx == tx) (λ b. fired_with n (cond b (fired_as e.0 e.1 ∷ []) [] ++ those_of tx es) ≡ listed n (only_of tx (at n es)))
        (λ _. rw test rest) (λ _. rest)

-- THE EPOCH
flipped : (n m : ℕ) → nat_cmp m n ≡ Less → nat_cmp n m ≡ Greater
flipped n m e = grind arith

-- a number above all goes to the end
with_last : (ids : List ℕ) (x : ℕ) (ms : List ℕ) → IsStrictlySortedBy nat_cmp (ids ++ x ∷ ms) → with_id x ids ≡ ids ++ x ∷ []
with_last [] x ms h = refl
with_last (m ∷ ids) x ms h =
    let less : nat_cmp m x ≡ Less = at_end ids (sorted_head nat_cmp m (ids ++ x ∷ ms) h) in
    rw (flipped x m less) (ap (λ ns. m ∷ ns) (with_last ids x ms (sorted_tail nat_cmp m (ids ++ x ∷ ms) h)))
  where
    at_end : (ids : List ℕ) → AllByRecursion (λ y. nat_cmp m y ≡ Less) (ids ++ x ∷ ms) → nat_cmp m x ≡ Less
    at_end [] h = h.0
    at_end (y ∷ ids) h = at_end ids h.1

pub epoch_step : (keys ids new ns ms : List ℕ) (x : ℕ) → IsStrictlySortedBy nat_cmp keys → ids ++ ns ≡ keys → ns ≡ x ∷ ms → new ≡ with_id x ids → new ++ ms ≡ keys
epoch_step keys ids new ns ms x sorted e f g =
    let whole : ids ++ x ∷ ms ≡ keys = ap (λ xs. ids ++ xs) (sym f) ∙ e in
    rw (g, with_last ids x ms (subst (IsStrictlySortedBy nat_cmp) (sym whole) sorted)) (append_assoc ids (x ∷ []) ms ∙ whole)

pub whole_list : {X : Type 0} (xs ys zs : List X) → xs ++ ys ≡ zs → ys ≡ [] → xs ≡ zs
whole_list xs ys zs e f = sym (append-nil xs) ∙ ap (λ k. xs ++ k) (sym f) ∙ e

pub one_more : {X : Type 0} (xs new ys zs whole step : List X) → xs ++ ys ≡ whole → ys ≡ step ++ zs → new ≡ xs ++ step → new ++ zs ≡ whole
one_more xs new ys zs whole step e f g = rw g (append_assoc xs step zs ∙ ap (λ k. xs ++ k) (sym f) ∙ e)

-- FORGETTING
pub forgotten : (tx n : ℕ) (es kept : List (ℕ × Firing)) → IsStrictlySortedBy nat_cmp (keys_of es) → kept ≡ filter (λ e. not (e.1.tx == tx)) es → at n kept ≡ not_of tx (at n es)
forgotten tx n es kept sorted e =
    ap (at n) e
    ∙ lookup-filter-values {eq = eq_by_cmp nat_cmp} (eq_by_cmp_equiv nat_cmp_total) (λ f. not (f.tx == tx)) n es (IsDistinct-from_sorted nat_cmp (keys_of es) sorted)
    ∙ same (at n es)
  where
    turned : (b : Bool) (f : Firing) → cond (not b) (Some f) None ≡ cond b None (Some f)
    turned true f = refl
    turned false f = refl

    same : (o : Option Firing) → option_filter (λ f. not (f.tx == tx)) o ≡ not_of tx o
    same None = refl
    same (Some f) = turned (f.tx == tx) f

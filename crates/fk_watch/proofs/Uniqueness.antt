-- Lists of fired watches with the same watch under each number are the same.
use Rattle.std.proofs.Common.{◌≡◌, ◌<◌, ℕ, ◌==◌, true, false, cond, List, [], ◌∷◌, Option, Some, None, refl, sym, ◌∙◌, ap, subst, arith}
use Rattle.std.specs.Ordering.{nat_cmp, is_lt}
use Rattle.std.proofs.lemmas.Bool.{eqb-true}
use Rattle.fk_tree.specs.Sorted.{is_below}
use Rattle.fk_user.specs.Ids.{ids_rise}
use Rattle.fk_wire.specs.declared.fired.Fired.{Fired}
use Rattle.fk_watch.specs.Answers.{fired_with, ids_of}
use Rattle.fk_base.proofs.Logic.{and_left, and_right, by_test, itself}

below_less : (k n : ℕ) → is_lt (nat_cmp k n) ≡ true → k < n
below_less k n e = grind arith

-- what is found stands above what is below all
found_above : (k n : ℕ) (x : Fired) (fs : List Fired) → is_below nat_cmp k (ids_of fs) ≡ true → fired_with n fs ≡ Some x → k < n
found_above k n x [] h e = absurd (cc)
found_above k n x (f ∷ fs) h e =
    by_test (n == f.id) (λ b. cond b (Some f) (fired_with n fs) ≡ Some x → k < n)
    (λ t _. subst (λ i. k < i) (sym (eqb-true n f.id t)) (below_less k f.id (and_left _ _ h)))
    (λ _ g. found_above k n x fs (and_right _ _ h) g) e

absent_below : (k : ℕ) (fs : List Fired) → is_below nat_cmp k (ids_of fs) ≡ true → fired_with k fs ≡ None
absent_below k fs h = go (fired_with k fs) refl
  where
    go : (o : Option Fired) → fired_with k fs ≡ o → o ≡ None
    go None e = refl
    go (Some x) e = let above : k < k = found_above k k x fs h e in absurd (omega arith)

-- the first ones are the same
same_first : (f g : Fired) (fs gs : List Fired) → is_below nat_cmp f.id (ids_of fs) ≡ true → is_below nat_cmp g.id (ids_of gs) ≡ true → ((n : ℕ) → fired_with n (f ∷ fs) ≡ fired_with n (g ∷ gs)) → f ≡ g
same_first f g fs gs a b h =
    by_test (f.id == g.id) (λ c. Some f ≡ cond c (Some g) (fired_with f.id gs) → f ≡ g)
    (λ _ e. cc)
    (λ t e. absurd (apart t (found_above g.id f.id f gs b (sym e))))
    (here f.id f fs refl ∙ h f.id)
  where
    here : (n : ℕ) (x : Fired) (xs : List Fired) → n ≡ x.id → Some x ≡ fired_with n (x ∷ xs)
    here n x xs e = rw (e, itself x.id) refl

    apart : (f.id == g.id) ≡ false → g.id < f.id → ⊥
    apart t l =
        by_test (g.id == f.id) (λ c. Some g ≡ cond c (Some f) (fired_with g.id fs) → ⊥)
        (λ u _. let same : g.id ≡ f.id = eqb-true g.id f.id u in omega arith)
        (λ _ e. let more : f.id < g.id = found_above f.id g.id g fs a (sym e) in omega arith)
        (here g.id g gs refl ∙ sym (h g.id))

pub same_fired : (fs gs : List Fired) → ids_rise (ids_of fs) ≡ true → ids_rise (ids_of gs) ≡ true → ((n : ℕ) → fired_with n fs ≡ fired_with n gs) → fs ≡ gs
same_fired [] [] a b h = refl
same_fired [] (g ∷ gs) a b h = let e : None ≡ Some g = h g.id ∙ rw (itself g.id) refl in absurd (cc)
same_fired (f ∷ fs) [] a b h = let e : None ≡ Some f = sym (h f.id) ∙ rw (itself f.id) refl in absurd (cc)
same_fired (f ∷ fs) (g ∷ gs) a b h =
    let first : f ≡ g = same_first f g fs gs (and_left _ _ a) (and_left _ _ b) h in
    let low : is_below nat_cmp f.id (ids_of gs) ≡ true = rw first (and_left _ _ b) in
    ap (λ x. x ∷ fs) first ∙ ap (λ xs. g ∷ xs) (same_fired fs gs (and_right _ _ a) (and_right _ _ b) (λ n.
    by_test (n == f.id) (λ c. n == f.id ≡ c → fired_with n fs ≡ fired_with n gs)
    (λ t _. rw (eqb-true n f.id t) (absent_below f.id fs (and_left _ _ a) ∙ sym (absent_below f.id gs low)))
    (λ t _. let other : (n == g.id) ≡ false = rw (← first) t in sym (rw t refl) ∙ h n ∙ rw other refl) refl))

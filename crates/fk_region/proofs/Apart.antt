-- Chains stay apart when blocks go from one to another.
use Rattle.std.proofs.Common.{◌≡◌, ℕ, zero, suc, ◌+◌, ◌-◌, ◌==◌, ◌<◌, ◌≤◌, cond, if◌then◌else◌, ltb, Option, Some, None, refl, sym, ap, ◌∙◌, ⊎_elim, arith}
use Rattle.std.proofs.lemmas.Bool.{cases_lt, eqb-true, eq-eqb, ne_eqb}
use Rattle.std.proofs.lemmas.Bool.Decides.{nat_tests}
use Rattle.fk_region.specs.Blocks.{steps}
use Rattle.fk_region.specs.Changes.{changed}
use Rattle.fk_region.specs.Chains.{AreApart, size, start}
use Rattle.fk_region.specs.Kept.{blocks_of}
use Rattle.fk_base.proofs.Logic.{by_test}

-- the chain of the free blocks is no other
pub none_is_some : {b : ℕ} {P : Type 0} → (None ≡ Some b) × P → ⊥
none_is_some w = cc

-- STEPS
pub steps_more : (f : ℕ → ℕ) (i j b : ℕ) → steps f (i + j) b ≡ steps f j (steps f i b)
steps_more f zero j b = let e : 0 + j ≡ j = omega arith in rw e refl
steps_more f (suc i) j b = let e : suc i + j ≡ suc (i + j) = omega arith in rw e (steps_more f i j (f b))

-- what is led to on the way has the same block behind it
pub steps_same : (f g : ℕ → ℕ) (i b : ℕ) → ((j : ℕ) → j < i → g (steps f j b) ≡ f (steps f j b)) → steps g i b ≡ steps f i b
steps_same f g zero b h = refl
steps_same f g (suc i) b h = ap (steps g i) (h zero (omega arith)) ∙ steps_same f g i (f b) (λ j l. h (suc j) (omega arith))

-- PLACES
-- where a place of a chain was before, and how that tells the place
pub record Origin (next held : ℕ → ℕ) (free spare : ℕ) (back : Option ℕ → ℕ → Option ℕ × ℕ) (x : Option ℕ) (i place : ℕ) : Type 0 where
  pub chain : Option ℕ
  pub nth : ℕ
  pub below : nth < size held spare chain
  pub there : place ≡ steps next nth (start free chain)
  pub is_back : back chain nth ≡ (x, i)

pub moved : (f g h k : ℕ → ℕ) (free spare free2 spare2 total : ℕ) (back : Option ℕ → ℕ → Option ℕ × ℕ) → AreApart f h free spare total
    → ((x : Option ℕ) (i : ℕ) → i < size k spare2 x → Origin f h free spare back x i (steps g i (start free2 x)))
    → AreApart g k free2 spare2 total
moved f g h k free spare free2 spare2 total back s from = record {
  inside = λ x i l. below x i (from x i l);
  apart = λ x y i j l m e. same x y i j (from x i l) (from y j m) e;
}
  where
    below : (x : Option ℕ) (i : ℕ) → Origin f h free spare back x i (steps g i (start free2 x)) → steps g i (start free2 x) < total
    below x i o = rw o.there (s.inside o.chain o.nth o.below)

    told : (o w : Option ℕ) (i j : ℕ) → (o ≡ w) × (i ≡ j) → back o i ≡ back w j
    told o w i j e = cc

    same : (x y : Option ℕ) (i j : ℕ) → Origin f h free spare back x i (steps g i (start free2 x)) → Origin f h free spare back y j (steps g j (start free2 y)) → steps g i (start free2 x) ≡ steps g j (start free2 y) → (x ≡ y) × (i ≡ j)
    same x y i j o w e =
        let b : (x, i) ≡ (y, j) = sym o.is_back ∙ told o.chain w.chain o.nth w.nth (s.apart o.chain w.chain o.nth w.nth o.below w.below (sym o.there ∙ e ∙ w.there)) ∙ w.is_back in
        (ap (λ (p : Option ℕ × ℕ). p.0) b, ap (λ (p : Option ℕ × ℕ). p.1) b)

-- TAKEN
-- the first so many free blocks become a chain of their own
pub taken : (f h : ℕ → ℕ) (free spare total n : ℕ) → AreApart f h free spare total → 0 < n → blocks_of n ≤ spare → AreApart f (changed free n h) (steps f (blocks_of n) free) (spare - blocks_of n) total
taken f h free spare total n s some room = moved f f h (changed free n h) free spare (steps f (blocks_of n) free) (spare - blocks_of n) total back s from
  where
    back : Option ℕ → ℕ → Option ℕ × ℕ
    back None j = cond (ltb j (blocks_of n)) (Some free, j) (None, j - blocks_of n)
    back (Some b) j = (Some b, j)

    from : (x : Option ℕ) (i : ℕ) → i < size (changed free n h) (spare - blocks_of n) x → Origin f h free spare back x i (steps f i (start (steps f (blocks_of n) free) x))
    from None i l = record {
      chain = None;
      nth = blocks_of n + i;
      below = omega arith;
      there = sym (steps_more f (blocks_of n) i free);
      is_back = grind (arith, nat_tests);
    }
    from (Some b) i l = by_test (b == free) (λ t. i < blocks_of (cond t n (h b)) → Origin f h free spare back (Some b) i (steps f i b))
        (λ e m. record { chain = None; nth = i; below = omega arith; there = ap (steps f i) (eqb-true b free e); is_back = grind (arith, nat_tests, eqb-true b free e) })
        (λ e m. record { chain = Some b; nth = i; below = m; there = refl; is_back = refl }) l

-- GIVEN BACK
-- a chain of which the last block leads to the first free one goes before the free blocks
abbrev pub last_of : (ℕ → ℕ) → (ℕ → ℕ) → ℕ → ℕ
last_of f h a = steps f (blocks_of (h a) - 1) a

-- until then each block is where it was
pub joined_before : (f h : ℕ → ℕ) (free spare total a : ℕ) → AreApart f h free spare total → 0 < h a → (x : Option ℕ) (i : ℕ) → i < size h spare x
    → steps (changed (last_of f h a) free f) i (start free x) ≡ steps f i (start free x)
joined_before f h free spare total a s some x i l = steps_same f (changed (last_of f h a) free f) i (start free x) (λ j m. rw (ne_eqb (steps f j (start free x)) (last_of f h a) (not_last j m)) refl)
  where
    contrary : (j : ℕ) → j < i → (x ≡ Some a) × (j ≡ blocks_of (h a) - 1) → ⊥
    contrary j m w = omega (arith, ap (size h spare) w.0, w.1)

    not_last : (j : ℕ) → j < i → steps f j (start free x) ≡ last_of f h a → ⊥
    not_last j m e = contrary j m (s.apart x (Some a) j (blocks_of (h a) - 1) (omega arith) (omega arith) e)

pub joined : (f h : ℕ → ℕ) (free spare total a : ℕ) → AreApart f h free spare total → 0 < h a
    → AreApart (changed (last_of f h a) free f) (changed a 0 h) a (spare + blocks_of (h a)) total
joined f h free spare total a s some = moved f g h (changed a 0 h) free spare a (spare + blocks_of (h a)) total back s from
  where
    g : ℕ → ℕ
    g = changed (last_of f h a) free f

    back : Option ℕ → ℕ → Option ℕ × ℕ
    back None j = (None, blocks_of (h a) + j)
    back (Some b) j = cond (b == a) (None, j) (Some b, j)

    before : (x : Option ℕ) (i : ℕ) → i < size h spare x → steps g i (start free x) ≡ steps f i (start free x)
    before = joined_before f h free spare total a s some

    at_last : g (last_of f h a) ≡ free
    at_last = rw (eq-eqb (last_of f h a) (last_of f h a) refl) refl

    over : steps g (blocks_of (h a)) a ≡ free
    over =
        let e : blocks_of (h a) ≡ (blocks_of (h a) - 1) + 1 = omega arith in
        ap (λ i. steps g i a) e ∙ steps_more g (blocks_of (h a) - 1) 1 a ∙ ap g (before (Some a) (blocks_of (h a) - 1) (omega arith)) ∙ at_last

    behind : (i : ℕ) → blocks_of (h a) ≤ i → steps g i a ≡ steps g (i - blocks_of (h a)) free
    behind i l =
        let e : i ≡ blocks_of (h a) + (i - blocks_of (h a)) = omega arith in
        ap (λ i. steps g i a) e ∙ steps_more g (blocks_of (h a)) (i - blocks_of (h a)) a ∙ ap (steps g (i - blocks_of (h a))) over

    from : (x : Option ℕ) (i : ℕ) → i < size (changed a 0 h) (spare + blocks_of (h a)) x → Origin f h free spare back x i (steps g i (start a x))
    from None i l = ⊎_elim
        (λ m. record { chain = Some a; nth = i; below = m; there = before (Some a) i m; is_back = grind (arith, nat_tests) })
        (λ m. record { chain = None; nth = i - blocks_of (h a); below = omega arith; there = behind i m ∙ before None (i - blocks_of (h a)) (omega arith); is_back = grind (arith, nat_tests) })
        (cases_lt i (blocks_of (h a)))
    from (Some b) i l = by_test (b == a) (λ t. i < blocks_of (if t then 0 else h b) → Origin f h free spare back (Some b) i (steps g i b))
        (λ e m. absurd (omega arith))
        (λ e m. record { chain = Some b; nth = i; below = m; there = before (Some b) i m; is_back = grind (arith, nat_tests, e) }) l

-- ADDED
-- one more block leads to the first free one, and each block is where it was
pub added_before : (f h : ℕ → ℕ) (free spare total : ℕ) → AreApart f h free spare total → (x : Option ℕ) (i : ℕ) → i < size h spare x → steps (changed total free f) i (start free x) ≡ steps f i (start free x)
added_before f h free spare total s x i l = steps_same f (changed total free f) i (start free x) (λ j m. rw (ne_eqb (steps f j (start free x)) total (λ e. below j m e (s.inside x j (omega arith)))) refl)
  where
    below : (j : ℕ) → j < i → steps f j (start free x) ≡ total → steps f j (start free x) < total → ⊥
    below j m e l = omega arith

-- it goes before the free blocks
pub added : (f h : ℕ → ℕ) (free spare total : ℕ) → AreApart f h free spare total → AreApart (changed total free f) h total (spare + 1) (total + 1)
added f h free spare total s = record { inside = inside; apart = apart }
  where
    g : ℕ → ℕ
    g = changed total free f

    before : (x : Option ℕ) (i : ℕ) → i < size h spare x → steps g i (start free x) ≡ steps f i (start free x)
    before = added_before f h free spare total s

    more : (i : ℕ) → i < spare → steps g (suc i) total ≡ steps f i free
    more i l = ap (steps g i) (rw (eq-eqb total total refl) refl) ∙ before None i l

    inside : (x : Option ℕ) (i : ℕ) → i < size h (spare + 1) x → steps g i (start total x) < total + 1
    inside None zero l = omega arith
    inside None (suc i) l = rw (more i (omega arith)) (omega (arith, s.inside None i (omega arith)))
    inside (Some b) i l = rw (before (Some b) i l) (omega (arith, s.inside (Some b) i l))

    never : (x : Option ℕ) (i : ℕ) → i < size h spare x → total ≡ steps f i (start free x) → ⊥
    never x i l e = omega (arith, s.inside x i l)

    apart : (x y : Option ℕ) (i j : ℕ) → i < size h (spare + 1) x → j < size h (spare + 1) y → steps g i (start total x) ≡ steps g j (start total y) → (x ≡ y) × (i ≡ j)
    apart None None zero zero l m e = (refl, refl)
    apart None None zero (suc j) l m e = absurd (never None j (omega arith) (e ∙ more j (omega arith)))
    apart None None (suc i) zero l m e = absurd (never None i (omega arith) (sym e ∙ more i (omega arith)))
    apart None None (suc i) (suc j) l m e = (refl, ap suc ((s.apart None None i j (omega arith) (omega arith) (sym (more i (omega arith)) ∙ e ∙ more j (omega arith))).1))
    apart None (Some b) zero j l m e = absurd (never (Some b) j m (e ∙ before (Some b) j m))
    apart None (Some b) (suc i) j l m e = absurd (none_is_some (s.apart None (Some b) i j (omega arith) m (sym (more i (omega arith)) ∙ e ∙ before (Some b) j m)))
    apart (Some a) None i zero l m e = absurd (never (Some a) i l (sym e ∙ before (Some a) i l))
    apart (Some a) None i (suc j) l m e = absurd (none_is_some (s.apart None (Some a) j i (omega arith) l (sym (more j (omega arith)) ∙ sym e ∙ before (Some a) i l)))
    apart (Some a) (Some b) i j l m e = s.apart (Some a) (Some b) i j l m (sym (before (Some a) i l) ∙ e ∙ before (Some b) j m)

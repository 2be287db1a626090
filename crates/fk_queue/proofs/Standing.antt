-- The lanes stand apart in the list of what is kept of them.
use Rattle.std.proofs.Common.{◌≡◌, ◌≢◌, ℕ, ◌+◌, ◌*◌, ◌<◌, true, false, cond, List, length, get_or, set, replicate, refl, sym, ◌∙◌, ap, subst, arith}
use Rattle.std.proofs.lemmas.Bool.Decides.{nat_tests}
use Rattle.std.proofs.lemmas.List.{get_or-set_same, get_or-set_other, get_or_default, get_or-replicate}
use Rattle.fk_queue.specs.declared.lane.Lane.{Lane}
use Rattle.fk_queue.specs.declared.lane.Lane.TheVariants as lane
use Rattle.fk_queue.specs.Lanes.{is_lane, same_lane}
use Rattle.fk_queue.specs.Meaning.{with_lane}
use Rattle.fk_queue.specs.Places.{place_of, slips_of}
use Rattle.fk_queue.specs.Slips.{Slips, no_slips}
use Rattle.fk_base.proofs.Logic.{by_test}

pub same_lane_self : (l : Lane) → same_lane l l ≡ true
same_lane_self lane.Leader = refl
same_lane_self lane.Watch = refl
same_lane_self (lane.Session s) = grind (arith, nat_tests)
same_lane_self (lane.Inbox s) = grind (arith, nat_tests)

pub same_lane_is : (p q : Lane) → same_lane p q ≡ true → p ≡ q
same_lane_is p q e = grind (arith, nat_tests)

place_within : (n : ℕ) (l : Lane) → is_lane n l ≡ true → place_of l < 2 * n + 2
place_within n l e = grind (arith, nat_tests)

places_apart : (n : ℕ) (p q : Lane) → is_lane n p ≡ true → is_lane n q ≡ true → same_lane p q ≡ false → place_of p ≢ place_of q
places_apart n p q a b e = grind (arith, nat_tests)

-- what is kept of a lane is written
slips_set : (n : ℕ) (queues : List Slips) (l : Lane) (s : Slips) (q : Lane) → is_lane n l ≡ true → length queues ≡ 2 * n + 2
    → slips_of n (set queues (place_of l) s) q ≡ with_lane l s (slips_of n queues) q
slips_set n queues l s q h k =
    by_test (same_lane q l) (λ b. slips_of n (set queues (place_of l) s) q ≡ cond b s (slips_of n queues q))
    (λ e. subst (λ x. slips_of n (set queues (place_of l) s) x ≡ s) (sym (same_lane_is q l e)) here)
    (λ e. by_test (is_lane n q) (λ b. cond b (get_or (set queues (place_of l) s) (place_of q) no_slips) no_slips ≡ cond b (get_or queues (place_of q) no_slips) no_slips)
    (λ i. get_or-set_other queues (place_of l) (place_of q) s no_slips (places_apart n q l i h e))
    (λ _. refl))
  where
    inside : place_of l < length queues
    inside = subst (λ m. place_of l < m) (sym k) (place_within n l h)

    here : slips_of n (set queues (place_of l) s) l ≡ s
    here = ap (λ b. cond b (get_or (set queues (place_of l) s) (place_of l) no_slips) no_slips) h ∙ get_or-set_same queues (place_of l) s no_slips inside

pub wrote_lane : (n : ℕ) (queues after : List Slips) (l : Lane) (s : Slips) → is_lane n l ≡ true → length queues ≡ 2 * n + 2
    → after ≡ set queues (place_of l) s → slips_of n after ≡ with_lane l s (slips_of n queues)
wrote_lane n queues after l s h k e = λ i. λ q. (ap (λ qs. slips_of n qs q) e ∙ slips_set n queues l s q h k) i

pub found_at : (n : ℕ) (queues : List Slips) (l : Lane) (place : ℕ) (x : Slips) → is_lane n l ≡ true → length queues ≡ 2 * n + 2 → place ≡ place_of l → x ≡ get_or queues place x → x ≡ slips_of n queues l
found_at n queues l place x h k e a = a ∙ ap (λ p. get_or queues p x) e ∙ get_or_default queues (place_of l) x no_slips inside ∙ ap (λ b. cond b (get_or queues (place_of l) no_slips) no_slips) (sym h)
  where
    inside : place_of l < length queues
    inside = subst (λ m. place_of l < m) (sym k) (place_within n l h)

-- something that was written where the lane's was found
pub placed : (n : ℕ) (queues : List Slips) (l : Lane) (f : Slips → Slips) (place : ℕ) (x y : Slips) → is_lane n l ≡ true → length queues ≡ 2 * n + 2
    → place ≡ place_of l → x ≡ get_or queues place x → y ≡ f x → set queues place y ≡ set queues (place_of l) (f (slips_of n queues l))
placed n queues l f place x y h k e a b = ap (λ p. set queues p y) e ∙ ap (set queues (place_of l)) (b ∙ ap f (found_at n queues l place x h k e a))

-- only empty lanes
pub none_kept : (n : ℕ) (queues : List Slips) → queues ≡ replicate (2 * n + 2) no_slips → slips_of n queues ≡ λ l. no_slips
none_kept n queues e = λ i. λ q. (ap (λ qs. slips_of n qs q) e ∙ none q) i
  where
    none : (q : Lane) → slips_of n (replicate (2 * n + 2) no_slips) q ≡ no_slips
    none q = by_test (is_lane n q) (λ b. cond b (get_or (replicate (2 * n + 2) no_slips) (place_of q) no_slips) no_slips ≡ no_slips)
        (λ h. get_or-replicate (2 * n + 2) (place_of q) no_slips no_slips (place_within n q h))
        (λ _. refl)

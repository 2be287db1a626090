-- Each drain comes to its end.
use Rattle.std.specs.Prelude.{◌-◌}
use Rattle.std.proofs.Common.{◌≡◌, ℕ, zero, suc, ◌+◌, ◌<◌, ◌++◌, inl, inr, List, [], ◌∷◌, length, refl, sym, subst, arith, Option, Some, None}
use Rattle.fk_print.specs.declared.entry.Entry.{Entry}
use Rattle.fk_print.specs.declared.event.Event.{Event}
use Rattle.fk_spec.specs.Plan.{Plan}
use Rattle.fk_spec.specs.Start.{pushes_of, starts_of}
use Rattle.fk_spec.specs.Lanes.{leads, notes_of, notifies, removed_by}
use Rattle.fk_spec.specs.Function.{Place, Absent, Following, Leading, Telling, Beating, place_of}
use Rattle.fk_spec.specs.Schedule.{Emptied, Empties, next_of_drain}
use Rattle.fk_spec.specs.Schedule as schedule
use Rattle.fk_spec.specs.Next.{IsHistory, next_entry}
use Rattle.fk_law.proofs.Draining.{drains_name_clients}
use Rattle.fk_law_reply.specs.Plans.{HasFittingVerbs}
use Rattle.fk_law_drain.specs.Draining.{Goes, IsOfDrain}
use Rattle.fk_law_drain.specs.Ending.{DrainsEnd}
use Rattle.fk_law_drain.specs.Falling.{IsLower, client_sum, client_weight, commands_left, follower_rank, leader_rank, rank, requests_left, teller_rank}
use Rattle.fk_law_drain.proofs.Falling.{drain_falls}

-- No list falls for ever. ------------------------------------------------------------------------------

-- from these numbers each fall of lists of this length ends
data Ends (n : ℕ) : List ℕ → Type 0 where
  Each : (xs : List ℕ) → ((ys : List ℕ) → length ys ≡ n → IsLower ys xs → Ends n ys) → Ends n xs

-- the lists with a first number less than this end
abbrev LessEnd : ℕ → ℕ → Type 0
LessEnd n x = (y : ℕ) (ys : List ℕ) → y < x → length ys ≡ n → Ends (suc n) (y ∷ ys)

shorter : (n : ℕ) (y : ℕ) (ys : List ℕ) → length (y ∷ ys) ≡ suc n → length ys ≡ n
shorter n y ys e = omega (arith, e)

longer_ends : (n x : ℕ) (xs : List ℕ) → LessEnd n x → Ends n xs → Ends (suc n) (x ∷ xs)
longer_ends n x xs f (Each _ g) = Each (x ∷ xs) (λ ys e l. lower ys e l (λ zs d k. longer_ends n x zs f (g zs d k)))
  where
    lower : (ys : List ℕ) → length ys ≡ suc n → IsLower ys (x ∷ xs) → ((zs : List ℕ) → length zs ≡ n → IsLower zs xs → Ends (suc n) (x ∷ zs)) → Ends (suc n) ys
    lower [] e l i = absurd l
    lower (y ∷ ys) e (inl l) i = f y ys l (shorter n y ys e)
    lower (y ∷ ys) e (inr l) i = subst (λ z. Ends (suc n) (z ∷ ys)) (sym l.0) (i ys (shorter n y ys e) l.1)

below_ends : (n b : ℕ) → ((ys : List ℕ) → length ys ≡ n → Ends n ys) → LessEnd n b
below_ends n zero g y ys l e = absurd (omega (arith, l))
below_ends n (suc b) g y ys l e = longer_ends n y ys (λ z zs k d. below_ends n b g z zs (omega (arith, k, l)) d) (g ys e)

all_end : (n : ℕ) (xs : List ℕ) → length xs ≡ n → Ends n xs
all_end zero [] e = Each [] (λ ys _ l. nothing ys l)
  where
    nothing : (ys : List ℕ) → IsLower ys [] → Ends zero ys
    nothing [] l = absurd l
    nothing (y ∷ ys) l = absurd l
all_end zero (x ∷ xs) e = absurd (omega (arith, e))
all_end (suc n) [] e = absurd (omega (arith, e))
all_end (suc n) (x ∷ xs) e = below_ends n (suc x) (all_end n) x xs (omega arith) (shorter n x xs e)

-- Each rank has fourteen numbers. ----------------------------------------------------------------------

joined_length : (xs ys : List ℕ) → length (xs ++ ys) ≡ length xs + length ys
joined_length [] ys = omega arith
joined_length (x ∷ xs) ys = let a = joined_length xs ys in omega (arith, a)

place_lengths : (p : Plan) (h : List Entry) (x : Place) → (length (follower_rank p h x) ≡ 3) × (length (leader_rank x) ≡ 3) × (length (teller_rank x) ≡ 3)
place_lengths p h (Following f) = (refl, refl, refl)
place_lengths p h (Leading t s) = (refl, refl, refl)
place_lengths p h (Telling w t s) = (refl, refl, refl)
place_lengths p h (Beating c s) = (refl, refl, refl)
place_lengths p h Absent = (refl, refl, refl)

fourteen : (a b c d e : ℕ) (xs ys zs : List ℕ) → length xs ≡ 3 → length ys ≡ 3 → length zs ≡ 3 → length (a ∷ b ∷ (xs ++ (c ∷ (ys ++ (d ∷ (zs ++ (e ∷ []))))))) ≡ 14
fourteen a b c d e xs ys zs i j k =
    let x = joined_length xs (c ∷ (ys ++ (d ∷ (zs ++ (e ∷ []))))) in
    let y = joined_length ys (d ∷ (zs ++ (e ∷ []))) in
    let z = joined_length zs (e ∷ []) in
    omega (arith, x, y, z, i, j, k)

rank_length : (p : Plan) (h : List Entry) → length (rank p h) ≡ 14
rank_length p h =
    let x = place_of p (starts_of h) h in
    let a = place_lengths p h x in
    fourteen (client_sum (commands_left p h) p.asks 1) (client_sum (requests_left h) p.asks 1) (pushes_of h - removed_by leads h) (notes_of h - removed_by notifies h) (client_sum (client_weight p h) p.asks 1) (follower_rank p h x) (leader_rank x) (teller_rank x) a.0 a.1 a.2

-- Drains. ----------------------------------------------------------------------------------------------

next_history : (p : Plan) (h : List Entry) (v : Event) → IsHistory p h → next_of_drain p h ≡ Some v → IsHistory p (next_entry p h v ∷ h)
next_history p h v l e = (l, (refl, drains_name_clients p h v e))

drain_ends : (p : Plan) (h : List Entry) (xs : List ℕ) → HasFittingVerbs p → IsHistory p h → IsOfDrain p h → rank p h ≡ xs → Ends 14 xs → (k : List Entry) × Empties p h k × IsHistory p k
drain_ends p h _ v l d q (Each xs g) = by_event (next_of_drain p h) refl (λ x m b e. drain_ends p (x ∷ h) (rank p (x ∷ h)) v m b refl (g (rank p (x ∷ h)) (rank_length p (x ∷ h)) (subst (IsLower (rank p (x ∷ h))) q (drain_falls p h x v m d e))))
  where
    by_event : (o : Option Event) → next_of_drain p h ≡ o → ((x : Entry) → IsHistory p (x ∷ h) → IsOfDrain p (x ∷ h) → next_of_drain p h ≡ Some x.event → (k : List Entry) × Empties p (x ∷ h) k × IsHistory p k) → (k : List Entry) × Empties p h k × IsHistory p k
    by_event None e i = (h, Emptied h e, l)
    by_event (Some w) e i = let x = next_entry p h w in let r = i x (next_history p h w l e) (Goes h x d e) e in (r.0, schedule.Goes h r.0 x e r.1, r.2)

pub drains_end : DrainsEnd
drains_end p h v l d = drain_ends p h (rank p h) v l d refl (all_end 14 (rank p h) (rank_length p h))

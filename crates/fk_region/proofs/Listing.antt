-- What is kept from some blocks on, as the lengths at the blocks change.
use Rattle.std.proofs.Common.{◌≡◌, ℕ, zero, suc, ◌+◌, ◌==◌, ◌<◌, ◌≤◌, Bool, true, false, cond, List, [], ◌∷◌, Some, None, refl, ◌∙◌, arith}
use Rattle.std.proofs.lemmas.Bool.{eqb-true}
use Rattle.std.proofs.lemmas.Bool.Decides.{nat_tests}
use Rattle.fk_region.specs.declared.ticket.Ticket.{Ticket}
use Rattle.fk_region.specs.Blocks.{kept_at, kept_from}
use Rattle.fk_region.specs.Kept.{Kept, bytes_under, is_kept, same_ticket, with_kept, without_ticket}
use Rattle.fk_region.specs.Changes.{changed}
use Rattle.fk_region.proofs.Keeping.{same_is}
use Rattle.fk_base.proofs.Logic.{by_test}

-- SAME
pub same_bytes : (h : ℕ → ℕ) (f g : ℕ → ℕ → List ℕ) (b n : ℕ) → ((c : ℕ) → 0 < h c → g c (h c) ≡ f c (h c)) → kept_from h g b n ≡ kept_from h f b n
same_bytes h f g b zero e = refl
same_bytes h f g b (suc n) e = by_test (h b == 0) (λ t. cond t (kept_from h g (b + 1) n) (kept_at h g b ∷ kept_from h g (b + 1) n) ≡ cond t (kept_from h f (b + 1) n) (kept_at h f b ∷ kept_from h f (b + 1) n))
    (λ t. same_bytes h f g (b + 1) n e)
    (λ t. rw (e b (grind (arith, nat_tests)), same_bytes h f g (b + 1) n e) refl)

pub same_past : (h : ℕ → ℕ) (f : ℕ → ℕ → List ℕ) (b n i m : ℕ) → i < b → kept_from (changed i m h) f b n ≡ kept_from h f b n
same_past h f b zero i m l = refl
same_past h f b (suc n) i m l = grind (arith, nat_tests, same_past h f (b + 1) n i m (omega arith))

none_kept : (h : ℕ → ℕ) (f : ℕ → ℕ → List ℕ) (b n : ℕ) → ((c : ℕ) → b ≤ c → h c ≡ 0) → kept_from h f b n ≡ []
none_kept h f b zero e = refl
none_kept h f b (suc n) e = grind (arith, nat_tests, e b (omega arith), none_kept h f (b + 1) n (λ c l. e c (omega arith)))

-- nothing is kept at blocks that are new
pub same_longer : (h : ℕ → ℕ) (f : ℕ → ℕ → List ℕ) (b n m : ℕ) → ((c : ℕ) → b + n ≤ c → h c ≡ 0) → kept_from h f b (n + m) ≡ kept_from h f b n
same_longer h f b zero m e = let z : 0 + m ≡ m = omega arith in rw z (none_kept h f b m (λ c l. e c (omega arith)))
same_longer h f b (suc n) m e = let z : suc n + m ≡ suc (n + m) = omega arith in rw z (rw (same_longer h f (b + 1) n m (λ c l. e c (omega arith))) refl)

-- ONE MORE
in_front : (k : Kept) (h : ℕ → ℕ) (f : ℕ → ℕ → List ℕ) (b n : ℕ) → k.ticket.first ≤ b → with_kept k (kept_from h f b n) ≡ k ∷ kept_from h f b n
in_front k h f b zero l = refl
in_front k h f b (suc n) l = grind (arith, nat_tests, in_front k h f (b + 1) n (omega arith))

pub one_more : (h : ℕ → ℕ) (f : ℕ → ℕ → List ℕ) (b n i m : ℕ) → b ≤ i → i < b + n → h i ≡ 0 → 0 < m
    → kept_from (changed i m h) f b n ≡ with_kept (record { ticket = record { first = i; length = m }; bytes = f i m }) (kept_from h f b n)
one_more h f b zero i m l u z s = absurd (omega arith)
one_more h f b (suc n) i m l u z s = by_test (b == i) (λ t. Goal t) (λ e. here (eqb-true b i e)) (λ e. grind (arith, nat_tests, e, one_more h f (b + 1) n i m (grind (arith, nat_tests, e)) (omega arith) z s))
  where
    Goal : Bool → Type 0
    Goal t = kept_from (changed i m h) f b (suc n) ≡ with_kept (record { ticket = record { first = i; length = m }; bytes = f i m }) (kept_from h f b (suc n))

    here : b ≡ i → kept_from (changed i m h) f b (suc n) ≡ with_kept (record { ticket = record { first = i; length = m }; bytes = f i m }) (kept_from h f b (suc n))
    here e = grind (arith, nat_tests, e, z, same_past h f (b + 1) n i m (omega arith), in_front (record { ticket = record { first = i; length = m }; bytes = f i m }) h f (b + 1) n (omega arith))

-- ONE LESS
pub one_less : (h : ℕ → ℕ) (f : ℕ → ℕ → List ℕ) (b n i : ℕ) → b ≤ i → i < b + n → 0 < h i
    → kept_from (changed i 0 h) f b n ≡ without_ticket (record { first = i; length = h i }) (kept_from h f b n)
one_less h f b zero i l u s = absurd (omega arith)
one_less h f b (suc n) i l u s = by_test (b == i) (λ t. kept_from (changed i 0 h) f b (suc n) ≡ without_ticket (record { first = i; length = h i }) (kept_from h f b (suc n)))
    (λ e. here (eqb-true b i e))
    (λ e. grind (arith, nat_tests, e, one_less h f (b + 1) n i (grind (arith, nat_tests, e)) (omega arith) s))
  where
    here : b ≡ i → kept_from (changed i 0 h) f b (suc n) ≡ without_ticket (record { first = i; length = h i }) (kept_from h f b (suc n))
    here e = grind (arith, nat_tests, e, s, same_past h f (b + 1) n i 0 (omega arith))

-- FOUND
-- what is kept under a ticket begins at its first block
pub record IsFound (h : ℕ → ℕ) (f : ℕ → ℕ → List ℕ) (b n : ℕ) (t : Ticket) : Type 0 where
  pub low : b ≤ t.first
  pub high : t.first < b + n
  pub held : h t.first ≡ t.length
  pub some : 0 < t.length
  pub bytes : bytes_under t (kept_from h f b n) ≡ Some (f t.first t.length)

pub found : (h : ℕ → ℕ) (f : ℕ → ℕ → List ℕ) (b n : ℕ) (t : Ticket) → is_kept t (kept_from h f b n) ≡ true → IsFound h f b n t
found h f b zero t e = absurd (cc)
found h f b (suc n) t e = by_test (h b == 0) (λ z. IsFound h f b (suc n) t)
    (λ z. later (found h f (b + 1) n t (grind (arith, nat_tests, z, e))) (grind (arith, z)))
    (λ z. by_test (same_ticket t (kept_at h f b).ticket) (λ s. IsFound h f b (suc n) t)
    (λ s. here z s (same_is t (kept_at h f b).ticket s))
    (λ s. later (found h f (b + 1) n t (grind (arith, z, s, e))) (grind (arith, z, s))))
  where
    later : IsFound h f (b + 1) n t → bytes_under t (kept_from h f b (suc n)) ≡ bytes_under t (kept_from h f (b + 1) n) → IsFound h f b (suc n) t
    later w k = record { low = omega (arith, w.low); high = omega (arith, w.high); held = w.held; some = w.some; bytes = k ∙ w.bytes }

    here : (h b == 0) ≡ false → same_ticket t (kept_at h f b).ticket ≡ true → t ≡ (kept_at h f b).ticket → IsFound h f b (suc n) t
    here z s k = record { low = grind (arith, k); high = grind (arith, k); held = grind (arith, k); some = grind (arith, nat_tests, k, z); bytes = grind (arith, nat_tests, k, z, s) }

pub fresh : (h : ℕ → ℕ) (f : ℕ → ℕ → List ℕ) (b n : ℕ) (t : Ticket) → h t.first ≡ 0 → 0 < t.length → bytes_under t (kept_from h f b n) ≡ None
fresh h f b zero t z s = refl
fresh h f b (suc n) t z s = grind (arith, nat_tests, z, s, fresh h f (b + 1) n t z s)

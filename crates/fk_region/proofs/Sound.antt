-- Blocks stay sound when bytes are kept in free ones, when blocks are given back, and when there are new ones.
use Rattle.std.proofs.Common.{◌≡◌, ℕ, zero, ◌<◌, ◌≤◌, List, length, take, Some, None, refl, ap, ◌∙◌, arith}
use Rattle.fk_region.specs.Blocks.{bytes_at, kept_from, steps}
use Rattle.fk_region.specs.Chains.{AreApart}
use Rattle.fk_region.specs.Kept.{Kept, blocks_of, with_kept, without_ticket}
use Rattle.fk_region.specs.Changes.{changed, written}
use Rattle.fk_region.proofs.Apart.{added_before, joined_before, last_of, none_is_some}
use Rattle.fk_region.proofs.Listing.{one_less, one_more, same_bytes}
use Rattle.fk_region.proofs.Writing.{reads_back, same_chain, untouched}

-- what is kept at some of n blocks, by how chains go on, by what is held and by the bytes
abbrev pub listed : (ℕ → ℕ) → (ℕ → ℕ) → (ℕ → List ℕ) → ℕ → List Kept
listed f h p n = kept_from h (bytes_at f p) 0 n

-- TAKEN
-- bytes that were written over free blocks are kept there, and the others are as before
pub listed_more : (f h : ℕ → ℕ) (p : ℕ → List ℕ) (free spare n : ℕ) (xs : List ℕ) → AreApart f h free spare n → ((b : ℕ) → b < n → length (p b) ≡ 256)
    → 0 < length xs → blocks_of (length xs) ≤ spare → h free ≡ 0
    → listed f (changed free (length xs) h) (written f (blocks_of (length xs)) free xs p) n ≡ with_kept (record { ticket = record { first = free; length = length xs }; bytes = xs }) (listed f h p n)
listed_more f h p free spare n xs s w some room z =
    one_more h (bytes_at f q) 0 n free (length xs) (omega arith) (omega (arith, s.inside None zero (omega arith))) z some
    ∙ rw (reads_back f (blocks_of (length xs)) free xs p once whole (omega arith), same_bytes h (bytes_at f p) (bytes_at f q) 0 n others) refl
  where
    q : ℕ → List ℕ
    q = written f (blocks_of (length xs)) free xs p

    once : (i j : ℕ) → i < blocks_of (length xs) → j < blocks_of (length xs) → steps f i free ≡ steps f j free → i ≡ j
    once i j l m e = (s.apart None None i j (omega arith) (omega arith) e).1

    whole : (j : ℕ) → j < blocks_of (length xs) → length (p (steps f j free)) ≡ 256
    whole j l = w (steps f j free) (s.inside None j (omega arith))

    others : (c : ℕ) → 0 < h c → bytes_at f q c (h c) ≡ bytes_at f p c (h c)
    others c l = ap (take (h c)) (same_chain f f p q (blocks_of (h c)) c c (λ j m. untouched f (blocks_of (length xs)) free xs p (steps f j c) (λ i k e. none_is_some (s.apart None (Some c) i j (omega arith) m e))))

-- GIVEN BACK
pub listed_less : (f h : ℕ → ℕ) (p : ℕ → List ℕ) (free spare n a : ℕ) → AreApart f h free spare n → 0 < h a → a < n
    → listed (changed (last_of f h a) free f) (changed a 0 h) p n ≡ without_ticket (record { first = a; length = h a }) (listed f h p n)
listed_less f h p free spare n a s some l =
    one_less h (bytes_at g p) 0 n a (omega arith) (omega arith) some
    ∙ ap (without_ticket (record { first = a; length = h a })) (same_bytes h (bytes_at f p) (bytes_at g p) 0 n same)
  where
    g : ℕ → ℕ
    g = changed (last_of f h a) free f

    same : (c : ℕ) → 0 < h c → bytes_at g p c (h c) ≡ bytes_at f p c (h c)
    same c m = ap (take (h c)) (same_chain f g p p (blocks_of (h c)) c c (λ j k. ap p (joined_before f h free spare n a s some (Some c) j k)))

-- ADDED
pub listed_same : (f h : ℕ → ℕ) (p : ℕ → List ℕ) (free spare total n : ℕ) → AreApart f h free spare total → listed (changed total free f) h p n ≡ listed f h p n
listed_same f h p free spare total n s = same_bytes h (bytes_at f p) (bytes_at (changed total free f) p) 0 n same
  where
    same : (c : ℕ) → 0 < h c → bytes_at (changed total free f) p c (h c) ≡ bytes_at f p c (h c)
    same c m = ap (take (h c)) (same_chain f (changed total free f) p p (blocks_of (h c)) c c (λ j k. ap p (added_before f h free spare total s (Some c) j k)))

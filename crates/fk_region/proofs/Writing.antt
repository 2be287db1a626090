-- What was written over the blocks of a chain is read back from it.
use Rattle.std.proofs.Common.{◌≡◌, ℕ, zero, suc, ◌+◌, ◌-◌, ◌*◌, ◌==◌, ◌<◌, ◌≤◌, cond, List, [], ◌++◌, length, take, drop, min, refl, sym, ap, ◌∙◌, arith, ⊎_elim}
use Rattle.std.proofs.lemmas.Bool.{cases_lt, eqb-true, eq-eqb, ne_eqb}
use Rattle.std.proofs.lemmas.List.{append-nil, append_assoc, drop_all, length-append, length-drop, length-take, nil_from_length, take-append-drop, take_all, take_at}
use Rattle.std.proofs.Math.Seq.{take-append-add}
use Rattle.fk_region.specs.Blocks.{bytes_at, chain_bytes, steps}
use Rattle.fk_region.specs.Kept.{blocks_of}
use Rattle.fk_region.specs.Changes.{over, written}
use Rattle.fk_base.proofs.Logic.{by_test}

-- CHAINS
-- chains with the same bytes on their way have the same bytes
pub same_chain : (f g : ℕ → ℕ) (p q : ℕ → List ℕ) (n b c : ℕ) → ((j : ℕ) → j < n → q (steps g j c) ≡ p (steps f j b)) → chain_bytes g q n c ≡ chain_bytes f p n b
same_chain f g p q zero b c h = refl
same_chain f g p q (suc n) b c h = rw (h zero (omega arith), same_chain f g p q n (f b) (g c) (λ j l. h (suc j) (omega arith))) refl

-- the blocks of a chain have 256 bytes
abbrev pub IsWholeChain : (ℕ → ℕ) → (ℕ → List ℕ) → ℕ → ℕ → Type 0
IsWholeChain f p n b = (j : ℕ) → j < n → length (p (steps f j b)) ≡ 256

chain_length : (f : ℕ → ℕ) (p : ℕ → List ℕ) (n b : ℕ) → IsWholeChain f p n b → length (chain_bytes f p n b) ≡ 256 * n
chain_length f p zero b w = refl
chain_length f p (suc n) b w = omega (arith, length-append (p b) (chain_bytes f p n (f b)), w zero (omega arith), chain_length f p n (f b) (λ j l. w (suc j) (omega arith)))

pub length_at : (f : ℕ → ℕ) (p : ℕ → List ℕ) (n b : ℕ) → IsWholeChain f p (blocks_of n) b → length (bytes_at f p b n) ≡ n
length_at f p n b w = omega (arith, length-take n (chain_bytes f p (blocks_of n) b), chain_length f p (blocks_of n) b w)

-- READ
-- the bytes of a chain are those of its first block and then those of the rest
pub first_part : (f : ℕ → ℕ) (p : ℕ → List ℕ) (b n : ℕ) → 0 < n → length (p b) ≡ 256
    → bytes_at f p b n ≡ take (min n 256) (p b) ++ bytes_at f p (f b) (n - min n 256)
first_part f p b n s w = ⊎_elim within beyond (cases_lt 256 n)
  where
    beyond : n ≤ 256 → bytes_at f p b n ≡ take (min n 256) (p b) ++ bytes_at f p (f b) (n - min n 256)
    beyond l =
        let one : blocks_of n ≡ 1 = omega arith in
        let all : min n 256 ≡ n = omega arith in
        let none : n - n ≡ 0 = omega arith in
        rw (one, all, none) (rw (append-nil (p b)) (sym (append-nil (take n (p b)))))

    within : 256 < n → bytes_at f p b n ≡ take (min n 256) (p b) ++ bytes_at f p (f b) (n - min n 256)
    within l =
        let more : blocks_of n ≡ suc (blocks_of (n - 256)) = omega arith in
        let full : min n 256 ≡ 256 = omega arith in
        let sum : n ≡ length (p b) + (n - 256) = omega arith in
        rw (more, full) (ap (λ m. take m (p b ++ chain_bytes f p (blocks_of (n - 256)) (f b))) sum ∙ take-append-add (p b) (chain_bytes f p (blocks_of (n - 256)) (f b)) (n - 256) ∙ ap (λ ys. ys ++ bytes_at f p (f b) (n - 256)) (sym (take_all 256 (p b) (omega arith))))

-- WRITTEN
pub untouched : (f : ℕ → ℕ) (n b : ℕ) (xs : List ℕ) (p : ℕ → List ℕ) (c : ℕ) → ((j : ℕ) → j < n → steps f j b ≡ c → ⊥) → written f n b xs p c ≡ p c
untouched f zero b xs p c h = refl
untouched f (suc n) b xs p c h =
    untouched f n (f b) (drop 256 xs) (over b (take 256 xs) p) c (λ j l. h (suc j) (omega arith))
    ∙ rw (ne_eqb c b (λ e. h zero (omega arith) (sym e))) refl

whole_over : (b : ℕ) (ys : List ℕ) (p : ℕ → List ℕ) (c : ℕ) → length ys ≤ 256 → length (p c) ≡ 256 → length (over b ys p c) ≡ 256
whole_over b ys p c l w = by_test (c == b) (λ t. length (cond t (ys ++ drop (length ys) (p b)) (p c)) ≡ 256) (λ e. same (eqb-true c b e)) (λ e. w)
  where
    same : c ≡ b → length (ys ++ drop (length ys) (p b)) ≡ 256
    same e = omega (arith, length-append ys (drop (length ys) (p b)), length-drop (length ys) (p b), ap (λ i. length (p i)) e)

pub still_whole : (f : ℕ → ℕ) (n b : ℕ) (xs : List ℕ) (p : ℕ → List ℕ) (c : ℕ) → length (p c) ≡ 256 → length (written f n b xs p c) ≡ 256
still_whole f zero b xs p c w = w
still_whole f (suc n) b xs p c w = still_whole f n (f b) (drop 256 xs) (over b (take 256 xs) p) c (whole_over b (take 256 xs) p c (omega (arith, length-take 256 xs)) w)

-- a part that was written over the front of a block, and the bytes of the other blocks behind it
parts : (xs y ys : List ℕ) → length y ≡ 256 → take (length (drop 256 xs)) ys ≡ drop 256 xs → take (length xs) ((take 256 xs ++ drop (length (take 256 xs)) y) ++ ys) ≡ xs
parts xs y ys w e = ⊎_elim within beyond (cases_lt 256 (length xs))
  where
    beyond : length xs ≤ 256 → take (length xs) ((take 256 xs ++ drop (length (take 256 xs)) y) ++ ys) ≡ xs
    beyond l = rw (take_all 256 xs l, append_assoc xs (drop (length xs) y) ys) (take_at xs (drop (length xs) y ++ ys) (length xs) refl)

    within : 256 < length xs → take (length xs) ((take 256 xs ++ drop (length (take 256 xs)) y) ++ ys) ≡ xs
    within l =
        let front : length (take 256 xs) ≡ 256 = omega (arith, length-take 256 xs) in
        let sum : length xs ≡ length (take 256 xs) + length (drop 256 xs) = omega (arith, length-take 256 xs, length-drop 256 xs) in
        ap (λ zs. take (length xs) ((take 256 xs ++ zs) ++ ys)) (drop_all (length (take 256 xs)) y (omega arith))
        ∙ rw (append-nil (take 256 xs)) refl
        ∙ ap (λ m. take m (take 256 xs ++ ys)) sum
        ∙ take-append-add (take 256 xs) ys (length (drop 256 xs))
        ∙ rw e (take-append-drop 256 xs)

pub reads_back : (f : ℕ → ℕ) (n b : ℕ) (xs : List ℕ) (p : ℕ → List ℕ) → ((i j : ℕ) → i < n → j < n → steps f i b ≡ steps f j b → i ≡ j) → IsWholeChain f p n b → length xs ≤ 256 * n
    → take (length xs) (chain_bytes f (written f n b xs p) n b) ≡ xs
reads_back f zero b xs p d w l = let e : xs ≡ [] = nil_from_length xs (omega arith) in rw e refl
reads_back f (suc n) b xs p d w l =
    ap (λ y. take (length xs) (y ++ chain_bytes f after n (f b))) first
    ∙ parts xs (p b) (chain_bytes f after n (f b)) (w zero (omega arith)) (reads_back f n (f b) (drop 256 xs) (over b (take 256 xs) p) apart whole (omega (arith, length-drop 256 xs)))
  where
    after : ℕ → List ℕ
    after = written f n (f b) (drop 256 xs) (over b (take 256 xs) p)

    passed : (j : ℕ) → j < n → steps f j (f b) ≡ b → ⊥
    passed j m e = omega (arith, d (suc j) zero (omega arith) (omega arith) e)

    first : after b ≡ take 256 xs ++ drop (length (take 256 xs)) (p b)
    first = untouched f n (f b) (drop 256 xs) (over b (take 256 xs) p) b passed ∙ rw (eq-eqb b b refl) refl

    apart : (i j : ℕ) → i < n → j < n → steps f i (f b) ≡ steps f j (f b) → i ≡ j
    apart i j k m e = omega (arith, d (suc i) (suc j) (omega arith) (omega arith) e)

    whole : IsWholeChain f (over b (take 256 xs) p) n (f b)
    whole j k = whole_over b (take 256 xs) p (steps f j (f b)) (omega (arith, length-take 256 xs)) (w (suc j) (omega arith))

-- Pieces of a text.
use Rattle.std.proofs.Common.{◌≡◌, ℕ, ◌<◌, ◌+◌, Bool, false, List, [], ◌∷◌, length, take, drop, refl, arith, add-one, length-drop, ◌-◌}
use Rattle.std.proofs.lemmas.List.{take_all}
use Prim.Native.Nat.{suc, zero}
use Rattle.std.specs.List.{slice_split, AllByRecursion}
use Rattle.fk_read.specs.Cut.{IsEnd}

-- the end of the rest, behind a byte that isn't cut at
end_behind : (p : ℕ → Bool) (x : ℕ) (xs : List ℕ) (n : ℕ) → IsEnd p (x ∷ xs) (suc n) → IsEnd p xs n
end_behind p x xs n e = (omega (arith, e.0), e.1.1, λ l. e.2 (omega (arith, l)))

-- the first piece ends at the first place that is cut at
cut_at : (p : ℕ → Bool) (text : List ℕ) (end : ℕ) → IsEnd p text end → end < length text
    → slice_split p text ≡ take end text ∷ slice_split p (drop (suc end) text)
cut_at p [] end e l = absurd (omega (arith, l))
cut_at p (x ∷ xs) zero e l = rw (e.2 l) refl
cut_at p (x ∷ xs) (suc n) e l =
    rw (e.1.0, cut_at p xs n (end_behind p x xs n e) (omega (arith, l))) refl

-- a text that isn't cut at all is its one piece
pub cut_none : (p : ℕ → Bool) (text : List ℕ) → AllByRecursion (λ b. p b ≡ false) text → slice_split p text ≡ text ∷ []
cut_none p [] a = refl
cut_none p (x ∷ xs) a = rw (a.0, cut_none p xs a.1) refl

-- what the slice behind the first piece has
pub first_piece : (p : ℕ → Bool) (text : List ℕ) (end : ℕ) → IsEnd p text end → end < length text
    → slice_split p text ≡ take end text ∷ slice_split p (take (length text - (end + 1)) (drop (end + 1) text))
first_piece p text end e l =
    let whole : take (length text - (end + 1)) (drop (end + 1) text) ≡ drop (end + 1) text
    = take_all (length text - (end + 1)) (drop (end + 1) text) (omega (arith, length-drop (end + 1) text)) in
    rw (whole, add-one) (cut_at p text end e l)

pub last_piece : (p : ℕ → Bool) (text : List ℕ) (end : ℕ) → IsEnd p text end → end ≡ length text
    → slice_split p text ≡ text ∷ []
last_piece p text end e l =
    let a : AllByRecursion (λ b. p b ≡ false) (take end text) = e.1 in
    cut_none p text (rw (take_all end text (omega (arith, l))) at a)

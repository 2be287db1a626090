-- Where the bytes of a file are cut into lines.
use Rattle.std.proofs.Common.{◌≡◌, ℕ, suc, ◌+◌, ◌-◌, ◌<◌, length, take, drop, Bool, true, false, cond, List, [], ◌∷◌, Some, None, refl, ap, add-one, arith}
use Rattle.std.specs.Prelude.{nat_lt, not, position}
use Rattle.std.specs.List.{position_or_len}
use Rattle.std.proofs.lemmas.Bool.Decides.{nat_tests}
use Rattle.std.specs.Str.{IsUtf8, is_utf8}
use Rattle.std.proofs.lemmas.Str.{IsUtf8-from_is_utf8}
use Rattle.std.proofs.lemmas.List.Sums.{prefix_len-le-length}
use Rattle.fk_script.specs.Lines.{Line, is_line_feed, onto_line, lines}
use Rattle.fk_base.proofs.Joins.{take_rest}

-- how many bytes stand before the first line feed
abbrev pub front : List ℕ → ℕ
front bs = position_or_len is_line_feed bs

cut_front : (bs : List ℕ) → front bs < length bs → lines bs ≡ record { text = take (front bs) bs; ended = true } ∷ lines (drop (suc (front bs)) bs)
cut_front [] h = absurd (omega arith)
cut_front (b ∷ bs) h = step (is_line_feed b) (front bs) h (cut_front bs)
  where
    step : (t : Bool) (n : ℕ) → cond (not t) (1 + n) 0 < suc (length bs) → (n < length bs → lines bs ≡ record { text = take n bs; ended = true } ∷ lines (drop (suc n) bs))
        → cond t (record { text = []; ended = true } ∷ lines bs) (onto_line b (lines bs)) ≡ record { text = take (cond (not t) (1 + n) 0) (b ∷ bs); ended = true } ∷ lines (drop (suc (cond (not t) (1 + n) 0)) (b ∷ bs))
    step true n l i = refl
    step false n l i = let e : 1 + n ≡ suc n = omega arith in rw (e, i (omega arith)) refl

unended : List ℕ → List Line
unended bs = record { text = bs; ended = false } ∷ []

no_front : (bs : List ℕ) → front bs ≡ length bs → 0 < length bs → lines bs ≡ unended bs
unfolding unended
no_front [] h l = absurd (omega arith)
no_front (b ∷ []) h l = step (is_line_feed b) h
  where
    step : (t : Bool) → cond (not t) (1 + 0) 0 ≡ 1 → cond {A = List Line} t (record { text = []; ended = true } ∷ []) (unended (b ∷ [])) ≡ unended (b ∷ [])
    step true e = absurd (omega arith)
    step false e = refl
no_front (b ∷ d ∷ bs) h l = step (is_line_feed b) (front (d ∷ bs)) h (no_front (d ∷ bs))
  where
    step : (t : Bool) (n : ℕ) → cond (not t) (1 + n) 0 ≡ suc (length (d ∷ bs)) → (n ≡ length (d ∷ bs) → 0 < length (d ∷ bs) → lines (d ∷ bs) ≡ unended (d ∷ bs))
        → cond {A = List Line} t (record { text = []; ended = true } ∷ lines (d ∷ bs)) (onto_line b (lines (d ∷ bs))) ≡ unended (b ∷ d ∷ bs)
    step true n e i = absurd (omega arith)
    step false n e i = ap (onto_line b) (i (omega arith) (omega arith))

-- a line feed stands there
cut_at : (bs : List ℕ) (at : ℕ) → Some at ≡ position is_line_feed bs → lines bs ≡ record { text = take at bs; ended = true } ∷ lines (drop (at + 1) bs)
cut_at bs at e = step (nat_lt (front bs) (length bs)) refl e
  where
    step : (t : Bool) → nat_lt (front bs) (length bs) ≡ t → Some at ≡ cond t (Some (front bs)) None → lines bs ≡ record { text = take at bs; ended = true } ∷ lines (drop (at + 1) bs)
    step true f g = let h : at ≡ front bs = cc in rw (h, add-one) (cut_front bs (grind (arith, nat_tests)))
    step false f g = cc g

-- none stands there
pub cut_nowhere : (bs : List ℕ) → None ≡ position is_line_feed bs → 0 < length bs → lines bs ≡ record { text = bs; ended = false } ∷ []
unfolding unended
cut_nowhere bs e l = step (nat_lt (front bs) (length bs)) refl e
  where
    step : (t : Bool) → nat_lt (front bs) (length bs) ≡ t → None ≡ cond t (Some (front bs)) None → lines bs ≡ record { text = bs; ended = false } ∷ []
    step true f g = cc g
    step false f g = no_front bs (grind (arith, nat_tests, prefix_len-le-length (λ b. not (is_line_feed b)) bs)) l

-- the same, with the rest as a range
pub cut_range : (bs : List ℕ) (at : ℕ) → Some at ≡ position is_line_feed bs
    → lines bs ≡ record { text = take at bs; ended = true } ∷ lines (take (length bs - (at + 1)) (drop (at + 1) bs))
cut_range bs at e = rw (take_rest bs (at + 1)) (cut_at bs at e)

pub is_not_utf8 : (bs : List ℕ) → ¬ (IsUtf8 bs) → is_utf8 bs ≡ false
is_not_utf8 bs h = step (is_utf8 bs) (λ (e : is_utf8 bs ≡ true). h (IsUtf8-from_is_utf8 bs e))
  where
    step : (t : Bool) → (t ≡ true → ⊥) → t ≡ false
    step true f = absurd (f refl)
    step false f = refl

-- The numbers of a lane.
use Rattle.std.proofs.Common.{◌≡◌, ℕ, zero, suc, ◌+◌, ◌-◌, cond, List, [], ◌∷◌, ◌++◌, length, refl, ◌∙◌, ap, arith}
use Rattle.std.proofs.lemmas.List.{length_push, map-append}
use Rattle.fk_queue.specs.declared.lane.Lane.{Lane}
use Rattle.fk_queue.specs.declared.letter.Letter.{Letter}
use Rattle.fk_queue.specs.Lanes.{same_lane}
use Rattle.fk_queue.specs.Letters.{IsNumbered, LaneState, empty_lane, numbers_after, with_letter, without_head}
use Rattle.fk_queue.specs.Meaning.{with_lane}
use Rattle.fk_base.proofs.Logic.{by_test}

numbers_more : (n count m : ℕ) → m ≡ n + count → numbers_after n count ++ suc m ∷ [] ≡ numbers_after n (suc count)
numbers_more n zero m e = let same : m ≡ n = omega arith in ap (λ k. suc k ∷ []) same
numbers_more n (suc count) m e = ap (λ ks. suc n ∷ ks) (numbers_more (suc n) count m (omega arith))

pub numbered_more : (bytes : List ℕ) (s : LaneState) → IsNumbered s → IsNumbered (with_letter bytes s)
numbered_more bytes s (fits, numbers) = (omega (arith, longer), map-append (λ x. x.number) s.waiting (next ∷ []) ∙ ap (λ ks. ks ++ (s.given + 1) ∷ []) numbers ∙ last (s.given + 1) (length (s.waiting ++ next ∷ [])) (omega arith) longer)
  where
    next : Letter
    next = record { number = s.given + 1; bytes = bytes }

    longer : length (s.waiting ++ next ∷ []) ≡ length s.waiting + 1
    longer = length_push s.waiting next

    last : (k l : ℕ) → k ≡ suc s.given → l ≡ length s.waiting + 1 → numbers_after (s.given - length s.waiting) (length s.waiting) ++ k ∷ [] ≡ numbers_after (k - l) l
    last k l a b = let same : k - l ≡ s.given - length s.waiting = omega arith in let more : l ≡ suc (length s.waiting) = omega arith in rw (same, more, a) (numbers_more (s.given - length s.waiting) (length s.waiting) s.given (omega arith))

abbrev pub all_but_first : List ℕ → List ℕ
all_but_first [] = []
all_but_first (n ∷ ns) = ns

pub numbered_less : (s : LaneState) → IsNumbered s → IsNumbered (without_head s)
numbered_less s h = step s.given s.waiting h
  where
    step : (given : ℕ) (xs : List Letter) → IsNumbered (record { given = given; waiting = xs }) → IsNumbered (without_head (record { given = given; waiting = xs }))
    step given [] h = h
    step given (x ∷ xs) (fits, numbers) = (omega arith, ap all_but_first numbers ∙ ap (λ n. numbers_after n (length xs)) (omega arith))

-- a lane was written
pub numbered_write : (l : Lane) (s : LaneState) (lanes : Lane → LaneState) → ((q : Lane) → IsNumbered (lanes q)) → IsNumbered s → (q : Lane) → IsNumbered (with_lane l s lanes q)
numbered_write l s lanes a b q = by_test (same_lane q l) (λ c. IsNumbered (cond c s (lanes q))) (λ _. b) (λ _. a q)

pub numbered_none : IsNumbered empty_lane
numbered_none = (omega arith, refl)

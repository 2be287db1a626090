-- Sums over all lanes: how many messages wait, and how many blocks they take.
use Rattle.std.proofs.Common.{◌≡◌, ℕ, zero, suc, ◌+◌, ◌==◌, ◌<◌, ◌≤◌, true, false, cond, List, [], ◌∷◌, ◌++◌, length, refl, ap, subst, arith}
use Rattle.std.specs.Prelude.{is_some}
use Rattle.std.proofs.lemmas.List.{length_push}
use Rattle.std.proofs.lemmas.Bool.{eqb-true, eq-eqb}
use Rattle.std.proofs.lemmas.Bool.Decides.{nat_tests}
use Rattle.fk_region.specs.Kept.{blocks_of}
use Rattle.fk_queue.specs.declared.lane.Lane.{Lane}
use Rattle.fk_queue.specs.declared.lane.Lane.TheVariants as lane
use Rattle.fk_queue.specs.Lanes.{is_lane, is_session}
use Rattle.fk_queue.specs.declared.letter.Letter.{Letter}
use Rattle.fk_queue.specs.Letters.{LaneState, empty_lane, first_bytes, first_number, head_bytes, head_number, rest, with_letter, without_head}
use Rattle.fk_queue.specs.Meaning.{blocks_among, blocks_for, length_of, over_lanes, sum_to, waiting_among, with_lane}
use Rattle.fk_base.proofs.Logic.{by_test}

-- SUMS
-- numbers that differ only at k
abbrev pub DifferAt : ℕ → (ℕ → ℕ) → (ℕ → ℕ) → Type 0
DifferAt k f g = (s : ℕ) → (s == k) ≡ false → f s ≡ g s

sum_below : (n k : ℕ) (f g : ℕ → ℕ) → DifferAt k f g → n < k → sum_to n f ≡ sum_to n g
sum_below zero k f g d l = refl
sum_below (suc n) k f g d l = grind (arith, sum_below n k f g d (omega arith), d (suc n) (grind (arith, nat_tests)))

sum_changed : (n k : ℕ) (f g : ℕ → ℕ) → DifferAt k f g → is_session n k ≡ true → sum_to n f + g k ≡ sum_to n g + f k
sum_changed zero k f g d l = absurd (grind (arith, nat_tests))
sum_changed (suc n) k f g d l = by_test (suc n == k) (λ _. sum_to (suc n) f + g k ≡ sum_to (suc n) g + f k)
    (λ e. last k (eqb-true (suc n) k e) (sum_below n k f g d (grind (arith, nat_tests))))
    (λ e. grind (arith, d (suc n) e, sum_changed n k f g d (grind (arith, nat_tests))))
  where
    last : (k : ℕ) → suc n ≡ k → sum_to n f ≡ sum_to n g → sum_to (suc n) f + g k ≡ sum_to (suc n) g + f k
    last k e i = subst (λ j. sum_to n f + f (suc n) + g j ≡ sum_to n g + g (suc n) + f j) e (grind (arith, i))

-- LANES
-- One lane is changed.
pub counted_with : {X : Type 0} (m : X → ℕ) (n : ℕ) (l : Lane) (s : X) (f : Lane → X) → is_lane n l ≡ true → over_lanes n (λ q. m (with_lane l s f q)) + m (f l) ≡ over_lanes n (λ q. m (f q)) + m s
counted_with m n lane.Leader s f h = omega arith
counted_with m n lane.Watch s f h = omega arith
counted_with m n (lane.Session k) s f h = by_sums (sum_changed n k after before (λ t e. ap (λ b. m (cond b s (f (lane.Session t))) + m (f (lane.Inbox t))) e) h) (ap (λ b. m (cond b s (f (lane.Session k)))) (eq-eqb k k refl))
  where
    before : ℕ → ℕ
    before = λ t. m (f (lane.Session t)) + m (f (lane.Inbox t))

    after : ℕ → ℕ
    after = λ t. m (cond (t == k) s (f (lane.Session t))) + m (f (lane.Inbox t))

    by_sums : sum_to n after + before k ≡ sum_to n before + after k → m (cond (k == k) s (f (lane.Session k))) ≡ m s
        → over_lanes n (λ q. m (with_lane (lane.Session k) s f q)) + m (f (lane.Session k)) ≡ over_lanes n (λ q. m (f q)) + m s
    by_sums a b = omega arith
counted_with m n (lane.Inbox k) s f h = by_sums (sum_changed n k after before (λ t e. ap (λ b. m (f (lane.Session t)) + m (cond b s (f (lane.Inbox t)))) e) h) (ap (λ b. m (cond b s (f (lane.Inbox k)))) (eq-eqb k k refl))
  where
    before : ℕ → ℕ
    before = λ t. m (f (lane.Session t)) + m (f (lane.Inbox t))

    after : ℕ → ℕ
    after = λ t. m (f (lane.Session t)) + m (cond (t == k) s (f (lane.Inbox t)))

    by_sums : sum_to n after + before k ≡ sum_to n before + after k → m (cond (k == k) s (f (lane.Inbox k))) ≡ m s
        → over_lanes n (λ q. m (with_lane (lane.Inbox k) s f q)) + m (f (lane.Inbox k)) ≡ over_lanes n (λ q. m (f q)) + m s
    by_sums a b = omega arith

pub no_more_than_all : {X : Type 0} (m : X → ℕ) (none : X) → m none ≡ 0 → (n : ℕ) (f : Lane → X) (l : Lane) → is_lane n l ≡ true → m (f l) ≤ over_lanes n (λ q. m (f q))
no_more_than_all m none e n f l h = below _ _ _ _ (counted_with m n l none f h) e
  where
    below : (after x all least : ℕ) → after + x ≡ all + least → least ≡ 0 → x ≤ all
    below after x all least a b = omega (arith, a, b)

no_sum : (n : ℕ) (f : ℕ → ℕ) → ((s : ℕ) → is_session n s ≡ true → f s ≡ 0) → sum_to n f ≡ 0
no_sum zero f h = refl
no_sum (suc n) f h = omega (arith, no_sum n f (λ s e. h s (grind (arith, nat_tests))), h (suc n) (grind (arith, nat_tests)))

pub none_over : (n : ℕ) (f : Lane → ℕ) → ((l : Lane) → is_lane n l ≡ true → f l ≡ 0) → over_lanes n f ≡ 0
none_over n f h = omega (arith, h lane.Leader refl, h lane.Watch refl, no_sum n both none)
  where
    both : ℕ → ℕ
    both = λ s. f (lane.Session s) + f (lane.Inbox s)

    none : (s : ℕ) → is_session n s ≡ true → both s ≡ 0
    none s e = omega (arith, h (lane.Session s) e, h (lane.Inbox s) e)

-- MESSAGES
pub push_adds_one : (n : ℕ) (lanes : Lane → LaneState) (l : Lane) (bytes : List ℕ) → is_lane n l ≡ true → waiting_among n (with_lane l (with_letter bytes (lanes l)) lanes) ≡ waiting_among n lanes + 1
push_adds_one n lanes l bytes h = more (lanes l) (counted_with length_of n l (with_letter bytes (lanes l)) lanes h)
  where
    after : ℕ
    after = waiting_among n (with_lane l (with_letter bytes (lanes l)) lanes)

    more : (s : LaneState) → after + length_of s ≡ waiting_among n lanes + length_of (with_letter bytes s) → after ≡ waiting_among n lanes + 1
    more s a = omega (arith, a, length_push s.waiting (record { number = s.given + 1; bytes = bytes }))

pub ack_takes_one : (n : ℕ) (lanes : Lane → LaneState) (l : Lane) → is_lane n l ≡ true → is_some (head_number (lanes l)) ≡ true → waiting_among n lanes ≡ waiting_among n (with_lane l (without_head (lanes l)) lanes) + 1
ack_takes_one n lanes l h a = less (lanes l) (one_less (lanes l).waiting a) (counted_with length_of n l (without_head (lanes l)) lanes h)
  where
    after : ℕ
    after = waiting_among n (with_lane l (without_head (lanes l)) lanes)

    one_less : (xs : List Letter) → is_some (first_number xs) ≡ true → length xs ≡ length (rest xs) + 1
    one_less [] a = absurd (cc)
    one_less (x ∷ xs) a = omega arith

    less : (s : LaneState) → length_of s ≡ length_of (without_head s) + 1 → after + length_of s ≡ waiting_among n lanes + length_of (without_head s) → waiting_among n lanes ≡ after + 1
    less s a b = omega (arith, a, b)

no_letter : (xs : List Letter) → length xs ≡ 0 → xs ≡ []
no_letter [] e = refl
no_letter (x ∷ xs) e = absurd (omega arith)

pub empty_where_none_waits : (n : ℕ) (lanes : Lane → LaneState) (l : Lane) → is_lane n l ≡ true → waiting_among n lanes ≡ 0 → (lanes l).waiting ≡ []
empty_where_none_waits n lanes l h e = no_letter (lanes l).waiting (none _ _ (no_more_than_all length_of empty_lane refl n lanes l h) e)
  where
    none : (x all : ℕ) → x ≤ all → all ≡ 0 → x ≡ 0
    none x all a b = omega (arith, a, b)

pub none_waits_where_empty : (n : ℕ) (lanes : Lane → LaneState) → ((l : Lane) → is_lane n l ≡ true → (lanes l).waiting ≡ []) → waiting_among n lanes ≡ 0
none_waits_where_empty n lanes h = none_over n (λ l. length_of (lanes l)) (λ l e. ap length (h l e))

-- BLOCKS
abbrev pub lane_blocks : LaneState → ℕ
lane_blocks s = blocks_for s.waiting

blocks_more : (xs : List Letter) (x : Letter) → blocks_for (xs ++ x ∷ []) ≡ blocks_for xs + blocks_of (length x.bytes)
blocks_more [] x = omega arith
blocks_more (y ∷ ys) x = omega (arith, blocks_more ys x)

pub push_adds_blocks : (n : ℕ) (lanes : Lane → LaneState) (l : Lane) (bytes : List ℕ) → is_lane n l ≡ true → blocks_among n (with_lane l (with_letter bytes (lanes l)) lanes) ≡ blocks_among n lanes + blocks_of (length bytes)
push_adds_blocks n lanes l bytes h = by_numbers _ _ _ _ _ (counted_with lane_blocks n l (with_letter bytes (lanes l)) lanes h) (blocks_more (lanes l).waiting (record { number = (lanes l).given + 1; bytes = bytes }))
  where
    by_numbers : (x s all t b : ℕ) → x + s ≡ all + t → t ≡ s + b → x ≡ all + b
    by_numbers x s all t b e f = omega (arith, e, f)

pub ack_frees_blocks : (n : ℕ) (lanes : Lane → LaneState) (l : Lane) → is_lane n l ≡ true → blocks_among n lanes ≡ blocks_among n (with_lane l (without_head (lanes l)) lanes) + blocks_of (length (head_bytes (lanes l)))
ack_frees_blocks n lanes l h = by_numbers _ _ _ _ _ (counted_with lane_blocks n l (without_head (lanes l)) lanes h) (fewer (lanes l).waiting)
  where
    fewer : (xs : List Letter) → blocks_for xs ≡ blocks_for (rest xs) + blocks_of (length (first_bytes xs))
    fewer [] = refl
    fewer (x ∷ xs) = omega arith

    by_numbers : (x s all t b : ℕ) → x + s ≡ all + t → s ≡ t + b → all ≡ x + b
    by_numbers x s all t b e f = omega (arith, e, f)

pub no_blocks_where_none_waits : (n : ℕ) (lanes : Lane → LaneState) → waiting_among n lanes ≡ 0 → blocks_among n lanes ≡ 0
no_blocks_where_none_waits n lanes e = none_over n (λ l. lane_blocks (lanes l)) (λ l h. ap blocks_for (empty_where_none_waits n lanes l h e))

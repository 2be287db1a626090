-- What a region keeps for the lanes, after a push and after a head was removed.
use Rattle.std.proofs.Common.{◌≡◌, ℕ, ◌+◌, ◌<◌, ◌≤◌, Bool, true, false, cond, List, [], ◌∷◌, ◌++◌, length, map, Option, Some, None, refl, sym, ◌∙◌, ap, subst, arith}
use Rattle.std.specs.Prelude.{is_some, unwrap_or}
use Rattle.std.proofs.lemmas.List.{map-append}
use Rattle.fk_region.specs.declared.ticket.Ticket.{Ticket}
use Rattle.fk_region.specs.Kept.{Kept, blocks_of, bytes_of, bytes_under, is_kept, same_ticket, used_by, with_kept, without_ticket}
use Rattle.fk_region.proofs.Keeping.{found_with, others_with, others_without, same_flip, same_is, same_self, used_with, used_without}
use Rattle.fk_queue.specs.declared.lane.Lane.{Lane}
use Rattle.fk_queue.specs.declared.slip.Slip.{Slip}
use Rattle.fk_queue.specs.Keeping.{AreKept, HasOneEach, IsFirst}
use Rattle.fk_queue.specs.Lanes.{is_lane, same_lane}
use Rattle.fk_queue.specs.Letters.{LaneState, first_bytes, first_number, head_bytes, head_number, with_letter, without_head}
use Rattle.fk_queue.specs.Meaning.{over_lanes, with_lane}
use Rattle.fk_queue.specs.Slips.{IsFirstGone, IsFirstKept, Slips, how_often, lane_of, later, letter_of, no_slips, tickets_in, with_slip, without_first, without_ticket_of}
use Rattle.fk_queue.proofs.Counting.{counted_with, no_more_than_all}
use Rattle.fk_queue.proofs.Standing.{same_lane_is}
use Rattle.fk_base.proofs.Logic.{by_test}

-- how often a ticket is that of a message in a lane
abbrev pub how_often_in : Ticket → Slips → ℕ
how_often_in t s = how_often t (tickets_in s)

-- the lanes, where a region keeps this
abbrev pub lanes_by : List Kept → (Lane → Slips) → Lane → LaneState
lanes_by ks slips l = lane_of ks (slips l)

-- ONE LANE
same_message : (ks kept : List Kept) (t u : Ticket) → (same_ticket u t ≡ false → bytes_under u kept ≡ bytes_under u ks) → same_ticket t u ≡ false → bytes_of u kept ≡ bytes_of u ks
same_message ks kept t u f e = ap (λ o. unwrap_or o []) (f (same_flip u t ∙ e))

differs : (b : Bool) (n : ℕ) → cond b 1 0 + n ≡ 0 → (b ≡ false) × (n ≡ 0)
differs true n e = absurd (omega (arith, e))
differs false n e = (refl, omega (arith, e))

same_letters : (ks kept : List Kept) (t : Ticket) (xs : List Slip) → ((u : Ticket) → same_ticket u t ≡ false → bytes_under u kept ≡ bytes_under u ks) → how_often t (map (λ x. x.ticket) xs) ≡ 0 → map (letter_of kept) xs ≡ map (letter_of ks) xs
same_letters ks kept t [] f e = refl
same_letters ks kept t (x ∷ xs) f e =
    let (a, b) = differs (same_ticket t x.ticket) (how_often t (map (λ y. y.ticket) xs)) e in
    ap (λ bytes. record { number = x.number; bytes = bytes } ∷ map (letter_of kept) xs) (same_message ks kept t x.ticket (f x.ticket) a) ∙ ap (λ ys. letter_of ks x ∷ ys) (same_letters ks kept t xs f b)

-- Two regions that differ only at a ticket give a lane without it the same messages.
same_lane_of : (ks kept : List Kept) (t : Ticket) (s : Slips) → ((u : Ticket) → same_ticket u t ≡ false → bytes_under u kept ≡ bytes_under u ks) → how_often_in t s ≡ 0 → lane_of kept s ≡ lane_of ks s
same_lane_of ks kept t s f e = ap (λ xs. record (lane_of ks s) { waiting = xs }) (same_letters ks kept t s.waiting f e)

often_more : (u t : Ticket) (s : Slips) → how_often_in u (with_slip t s) ≡ how_often_in u s + cond (same_ticket u t) 1 0
often_more u t s = last s.waiting (record { number = s.given + 1; ticket = t })
  where
    last : (xs : List Slip) (x : Slip) → how_often u (map (λ y. y.ticket) (xs ++ x ∷ [])) ≡ how_often u (map (λ y. y.ticket) xs) + cond (same_ticket u x.ticket) 1 0
    last [] x = omega arith
    last (y ∷ ys) x = omega (arith, last ys x)

-- a message more at the end of a lane
lane_more : (ks : List Kept) (t : Ticket) (bytes : List ℕ) (s : Slips) → bytes_under t ks ≡ None → how_often_in t s ≡ 0
    → lane_of (with_kept (record { ticket = t; bytes = bytes }) ks) (with_slip t s) ≡ with_letter bytes (lane_of ks s)
lane_more ks t bytes s fresh none = ap (λ xs. record { given = s.given + 1; waiting = xs }) (map-append (letter_of kept) s.waiting (last ∷ []) ∙ ap (λ l. l.waiting ++ letter_of kept last ∷ []) (same_lane_of ks kept t s (λ u e. others_with u put ks e) none) ∙ ap (λ found. (lane_of ks s).waiting ++ record { number = s.given + 1; bytes = found } ∷ []) here)
  where
    put : Kept
    put = record { ticket = t; bytes = bytes }

    kept : List Kept
    kept = with_kept put ks

    last : Slip
    last = record { number = s.given + 1; ticket = t }

    found_is : (o : Option (List ℕ)) → o ≡ Some bytes → unwrap_or o [] ≡ bytes
    found_is o e = ap (λ p. unwrap_or p []) e

    here : bytes_of t kept ≡ bytes
    here = found_is (bytes_under t kept) (found_with put ks fresh)

-- a lane without its head
lane_less : (ks : List Kept) (s : Slips) → lane_of ks (without_first s) ≡ without_head (lane_of ks s)
lane_less ks s = by_slips s.given s.waiting
  where
    by_slips : (n : ℕ) (xs : List Slip) → lane_of ks (without_first (record { given = n; waiting = xs })) ≡ without_head (lane_of ks (record { given = n; waiting = xs }))
    by_slips n [] = refl
    by_slips n (x ∷ xs) = refl

-- ALL LANES
-- The lanes that no post for so many sessions has are empty.
abbrev pub NoneElsewhere : ℕ → (Lane → Slips) → Type 0
NoneElsewhere n slips = (q : Lane) → is_lane n q ≡ false → slips q ≡ no_slips

nowhere : (n : ℕ) (slips : Lane → Slips) (t : Ticket) → NoneElsewhere n slips → over_lanes n (λ q. how_often_in t (slips q)) ≡ 0 → (q : Lane) → how_often_in t (slips q) ≡ 0
nowhere n slips t out e q = by_test (is_lane n q) (λ _. how_often_in t (slips q) ≡ 0)
    (λ h. least (how_often_in t (slips q)) (over_lanes n (λ p. how_often_in t (slips p))) (no_more_than_all (how_often_in t) no_slips refl n slips q h) e)
    (λ h. ap (how_often_in t) (out q h))
  where
    least : (x all : ℕ) → x ≤ all → all ≡ 0 → x ≡ 0
    least x all a b = omega (arith, a, b)

-- A PUSH
one_more_each : (n : ℕ) (l : Lane) (t : Ticket) (bytes : List ℕ) (slips : Lane → Slips) (ks : List Kept) → is_lane n l ≡ true → HasOneEach n (λ q. tickets_in (slips q)) ks → bytes_under t ks ≡ None
    → HasOneEach n (λ q. tickets_in (with_lane l (with_slip t (slips l)) slips q)) (with_kept (record { ticket = t; bytes = bytes }) ks)
one_more_each n l t bytes slips ks h backed fresh u = by_numbers _ _ _ _ _ _ _ (counted_with (how_often_in u) n l (with_slip t (slips l)) slips h) (often_more u t (slips l)) (backed u) (by_test (same_ticket u t) (λ b. cond (is_kept u kept) 1 0 ≡ cond (is_kept u ks) 1 0 + cond b 1 0) same other)
  where
    put : Kept
    put = record { ticket = t; bytes = bytes }

    kept : List Kept
    kept = with_kept put ks

    here : cond (is_kept t kept) 1 0 ≡ cond (is_kept t ks) 1 0 + 1
    here = ap (λ o. cond (is_some o) 1 0) (found_with put ks fresh) ∙ sym (ap (λ o. cond (is_some o) 1 0 + 1) fresh)

    same : same_ticket u t ≡ true → cond (is_kept u kept) 1 0 ≡ cond (is_kept u ks) 1 0 + 1
    same e = subst (λ v. cond (is_kept v kept) 1 0 ≡ cond (is_kept v ks) 1 0 + 1) (sym (same_is u t e)) here

    no_more : (k : ℕ) → k ≡ k + 0
    no_more k = omega arith

    other : same_ticket u t ≡ false → cond (is_kept u kept) 1 0 ≡ cond (is_kept u ks) 1 0 + 0
    other e = ap (λ o. cond (is_some o) 1 0) (others_with u put ks e) ∙ no_more (cond (is_kept u ks) 1 0)

    by_numbers : (after s all t b x y : ℕ) → after + s ≡ all + t → t ≡ s + b → all ≡ x → y ≡ x + b → after ≡ y
    by_numbers after s all t b x y i j k l = omega (arith, i, j, k, l)

pub record Pushed (n : ℕ) (l : Lane) (bytes : List ℕ) (slips after : Lane → Slips) (ks kept : List Kept) : Type 0 where
  pub lanes : lanes_by kept after ≡ with_lane l (with_letter bytes (lanes_by ks slips l)) (lanes_by ks slips)
  pub backed : HasOneEach n (λ q. tickets_in (after q)) kept
  pub measured : used_by kept ≡ used_by ks + blocks_of (length bytes)

pub pushed_by : (n : ℕ) (l : Lane) (t : Ticket) (bytes : List ℕ) (slips : Lane → Slips) (ks : List Kept) → is_lane n l ≡ true → NoneElsewhere n slips → HasOneEach n (λ q. tickets_in (slips q)) ks → bytes_under t ks ≡ None
    → Pushed n l bytes slips (with_lane l (with_slip t (slips l)) slips) ks (with_kept (record { ticket = t; bytes = bytes }) ks)
pushed_by n l t bytes slips ks h out backed fresh = record { lanes = λ i. λ q. lanes q i; backed = one_more_each n l t bytes slips ks h backed fresh; measured = used_with put ks }
  where
    put : Kept
    put = record { ticket = t; bytes = bytes }

    kept : List Kept
    kept = with_kept put ks

    none : (q : Lane) → how_often_in t (slips q) ≡ 0
    none = nowhere n slips t out (backed t ∙ ap (λ o. cond (is_some o) 1 0) fresh)

    lanes : (q : Lane) → lane_of kept (with_lane l (with_slip t (slips l)) slips q) ≡ with_lane l (with_letter bytes (lane_of ks (slips l))) (lanes_by ks slips) q
    lanes q = by_test (same_lane q l) (λ b. lane_of kept (cond b (with_slip t (slips l)) (slips q)) ≡ cond b (with_letter bytes (lane_of ks (slips l))) (lane_of ks (slips q)))
        (λ _. lane_more ks t bytes (slips l) fresh (none l))
        (λ _. same_lane_of ks kept t (slips q) (λ u e. others_with u put ks e) (none q))

-- A HEAD REMOVED
pub record Popped (n : ℕ) (l : Lane) (slips after : Lane → Slips) (ks kept : List Kept) : Type 0 where
  pub lanes : lanes_by kept after ≡ with_lane l (without_head (lanes_by ks slips l)) (lanes_by ks slips)
  pub backed : HasOneEach n (λ q. tickets_in (after q)) kept
  pub measured : used_by ks ≡ used_by kept + blocks_of (length (head_bytes (lanes_by ks slips l)))

once : (t u : Ticket) (k : ℕ) → u ≡ t → 0 < cond (same_ticket t u) 1 0 + k
once t u k e = more (same_ticket t u) (subst (λ v. same_ticket t v ≡ true) (sym e) (same_self t))
  where
    more : (b : Bool) → b ≡ true → 0 < cond b 1 0 + k
    more true e = omega arith
    more false e = absurd (cc)

-- A ticket that stands in a lane is kept.
pub kept_in : (n : ℕ) (l : Lane) (t : Ticket) (slips : Lane → Slips) (ks : List Kept) → is_lane n l ≡ true → HasOneEach n (λ q. tickets_in (slips q)) ks → 0 < how_often_in t (slips l) → is_kept t ks ≡ true
kept_in n l t slips ks h backed some = by_test (is_kept t ks) (λ b. over_lanes n (λ q. how_often_in t (slips q)) ≡ cond b 1 0 → b ≡ true) (λ _ _. refl)
    (λ _ e. absurd (least _ _ (no_more_than_all (how_often_in t) no_slips refl n slips l h) e some)) (backed t)
  where
    least : (x all : ℕ) → x ≤ all → all ≡ 0 → 0 < x → ⊥
    least x all a b c = omega (arith, a, b, c)

often_less : (u : Ticket) (x : Slip) (s : Slips) → s.waiting ≡ x ∷ later s.waiting → how_often_in u s ≡ how_often_in u (without_first s) + cond (same_ticket u x.ticket) 1 0
often_less u x s e = ap (λ xs. how_often u (map (λ y. y.ticket) xs)) e ∙ swap (cond (same_ticket u x.ticket) 1 0) (how_often u (map (λ y. y.ticket) (later s.waiting)))
  where
    swap : (a b : ℕ) → a + b ≡ b + a
    swap a b = omega arith

one_less_each : (n : ℕ) (l : Lane) (x : Slip) (slips : Lane → Slips) (ks : List Kept) → is_lane n l ≡ true → (slips l).waiting ≡ x ∷ later (slips l).waiting → HasOneEach n (λ q. tickets_in (slips q)) ks
    → is_kept x.ticket ks ≡ true → bytes_under x.ticket (without_ticket x.ticket ks) ≡ None
    → HasOneEach n (λ q. tickets_in (with_lane l (without_first (slips l)) slips q)) (without_ticket x.ticket ks)
one_less_each n l x slips ks h first backed is gone u = by_numbers _ _ _ _ _ _ _ (counted_with (how_often_in u) n l (without_first (slips l)) slips h) (often_less u x (slips l) first) (backed u) (by_test (same_ticket u x.ticket) (λ b. cond (is_kept u ks) 1 0 ≡ cond (is_kept u kept) 1 0 + cond b 1 0) same other)
  where
    kept : List Kept
    kept = without_ticket x.ticket ks

    here : cond (is_kept x.ticket ks) 1 0 ≡ cond (is_kept x.ticket kept) 1 0 + 1
    here = ap (λ b. cond b 1 0) is ∙ sym (ap (λ o. cond (is_some o) 1 0 + 1) gone)

    same : same_ticket u x.ticket ≡ true → cond (is_kept u ks) 1 0 ≡ cond (is_kept u kept) 1 0 + 1
    same e = subst (λ v. cond (is_kept v ks) 1 0 ≡ cond (is_kept v kept) 1 0 + 1) (sym (same_is u x.ticket e)) here

    no_more : (k : ℕ) → k ≡ k + 0
    no_more k = omega arith

    other : same_ticket u x.ticket ≡ false → cond (is_kept u ks) 1 0 ≡ cond (is_kept u kept) 1 0 + 0
    other e = sym (ap (λ o. cond (is_some o) 1 0) (others_without u x.ticket ks e)) ∙ no_more (cond (is_kept u kept) 1 0)

    by_numbers : (after s all t b y z : ℕ) → after + s ≡ all + t → s ≡ t + b → all ≡ z → z ≡ y + b → after ≡ y
    by_numbers after s all t b y z i j k l = omega (arith, i, j, k, l)

pub popped_by : (n : ℕ) (l : Lane) (x : Slip) (slips : Lane → Slips) (ks : List Kept) → is_lane n l ≡ true → NoneElsewhere n slips → (slips l).waiting ≡ x ∷ later (slips l).waiting → HasOneEach n (λ q. tickets_in (slips q)) ks
    → is_kept x.ticket ks ≡ true → bytes_under x.ticket (without_ticket x.ticket ks) ≡ None
    → Popped n l slips (with_lane l (without_first (slips l)) slips) ks (without_ticket x.ticket ks)
popped_by n l x slips ks h out first backed is gone = record { lanes = λ i. λ q. lanes q i; backed = after; measured = used_without x.ticket ks is ∙ ap (λ xs. used_by kept + blocks_of (length (first_bytes (map (letter_of ks) xs)))) (sym first) }
  where
    kept : List Kept
    kept = without_ticket x.ticket ks

    left : Lane → Slips
    left = with_lane l (without_first (slips l)) slips

    after : HasOneEach n (λ q. tickets_in (left q)) kept
    after = one_less_each n l x slips ks h first backed is gone

    elsewhere : NoneElsewhere n left
    elsewhere q e = by_test (same_lane q l) (λ b. cond b (without_first (slips l)) (slips q) ≡ no_slips) (λ s. absurd (apart (is_lane n l) (ap (is_lane n) (sym (same_lane_is q l s)) ∙ e) h)) (λ _. out q e)
      where
        apart : (b : Bool) → b ≡ false → b ≡ true → ⊥
        apart b i j = grind (arith, i, j)

    none : (q : Lane) → how_often_in x.ticket (left q) ≡ 0
    none = nowhere n left x.ticket elsewhere (after x.ticket ∙ ap (λ o. cond (is_some o) 1 0) gone)

    lanes : (q : Lane) → lane_of kept (left q) ≡ with_lane l (without_head (lane_of ks (slips l))) (lanes_by ks slips) q
    lanes q = same_lane_of ks kept x.ticket (left q) (λ u e. others_without u x.ticket ks e) (none q)
        ∙ by_test (same_lane q l) (λ b. lane_of ks (cond b (without_first (slips l)) (slips q)) ≡ cond b (without_head (lane_of ks (slips l))) (lane_of ks (slips q)))
        (λ _. lane_less ks (slips l)) (λ _. refl)

-- the same where a lane isn't empty
pub popped_first : (n : ℕ) (l : Lane) (slips : Lane → Slips) (ks : List Kept) → is_lane n l ≡ true → NoneElsewhere n slips → is_some (head_number (lanes_by ks slips l)) ≡ true → HasOneEach n (λ q. tickets_in (slips q)) ks
    → IsFirstGone (without_ticket_of (slips l).waiting ks) (slips l).waiting
    → Popped n l slips (with_lane l (without_first (slips l)) slips) ks (without_ticket_of (slips l).waiting ks)
popped_first n l slips ks h out some backed = by_first (slips l).waiting refl some
  where
    by_first : (xs : List Slip) → (slips l).waiting ≡ xs → is_some (first_number (map (letter_of ks) xs)) ≡ true → IsFirstGone (without_ticket_of xs ks) xs
        → Popped n l slips (with_lane l (without_first (slips l)) slips) ks (without_ticket_of xs ks)
    by_first [] e s g = absurd (cc)
    by_first (x ∷ xs) e s g = popped_by n l x slips ks h out (e ∙ ap (λ ys. x ∷ ys) (sym (ap later e))) backed (kept_in n l x.ticket slips ks h backed (subst (λ ys. 0 < how_often x.ticket (map (λ z. z.ticket) ys)) (sym e) (once x.ticket x.ticket (how_often x.ticket (map (λ z. z.ticket) xs)) refl))) g

-- READING
pub messages_kept : (ks : List Kept) (s : Slips) → AreKept ks (tickets_in s) (lane_of ks s)
messages_kept ks s = by_slips s.waiting
  where
    by_slips : (xs : List Slip) → map (λ x. x.bytes) (map (letter_of ks) xs) ≡ map (λ t. bytes_of t ks) (map (λ x. x.ticket) xs)
    by_slips [] = refl
    by_slips (x ∷ xs) = ap (λ ys. bytes_of x.ticket ks ∷ ys) (by_slips xs)

-- The region keeps a head's message under its ticket.
pub head_kept : (n : ℕ) (l : Lane) (t : Ticket) (slips : Lane → Slips) (ks : List Kept) → is_lane n l ≡ true → HasOneEach n (λ q. tickets_in (slips q)) ks → IsFirst t (tickets_in (slips l)) → bytes_under t ks ≡ Some (head_bytes (lanes_by ks slips l))
head_kept n l t slips ks h backed first = some (bytes_under t ks) (head_bytes (lanes_by ks slips l)) (kept_in n l t slips ks h backed (stands (slips l).waiting first)) (read (slips l).waiting first)
  where
    some : (o : Option (List ℕ)) (bytes : List ℕ) → is_some o ≡ true → bytes ≡ unwrap_or o [] → o ≡ Some bytes
    some None bytes e f = absurd (cc)
    some (Some b) bytes e f = ap Some (sym f)

    stands : (xs : List Slip) → IsFirst t (map (λ x. x.ticket) xs) → 0 < how_often t (map (λ x. x.ticket) xs)
    stands [] f = absurd f
    stands (x ∷ xs) f = once t x.ticket (how_often t (map (λ y. y.ticket) xs)) f

    read : (xs : List Slip) → IsFirst t (map (λ x. x.ticket) xs) → first_bytes (map (letter_of ks) xs) ≡ bytes_of t ks
    read [] f = absurd f
    read (x ∷ xs) f = ap (λ u. bytes_of u ks) f

pub first_kept : (n : ℕ) (l : Lane) (slips : Lane → Slips) (ks : List Kept) → is_lane n l ≡ true → HasOneEach n (λ q. tickets_in (slips q)) ks → IsFirstKept ks (slips l).waiting
first_kept n l slips ks h backed = by_first (slips l).waiting (λ t some. kept_in n l t slips ks h backed some)
  where
    by_first : (xs : List Slip) → ((t : Ticket) → 0 < how_often t (map (λ x. x.ticket) xs) → is_kept t ks ≡ true) → IsFirstKept ks xs
    by_first [] f = tt
    by_first (x ∷ xs) f = f x.ticket (once x.ticket x.ticket (how_often x.ticket (map (λ y. y.ticket) xs)) refl)

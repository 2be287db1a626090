-- What a region's blocks are after each of its calls.
use Rattle.std.proofs.Common.{◌≡◌, ℕ, ◌+◌, ◌-◌, ◌<◌, ◌≤◌, true, List, [], length, Some, None, refl, sym, ap, ◌∙◌, subst, arith, ⊎_elim}
use Rattle.std.specs.Prelude.{unwrap_or}
use Rattle.std.proofs.lemmas.Bool.{cases_lt}
use Rattle.fk_region.specs.declared.block.Block.{Block}
use Rattle.fk_region.specs.declared.ticket.Ticket.{Ticket}
use Rattle.fk_region.specs.Blocks.{bytes_at, bytes_in, held_in, kept_from, kept_in, meaning_of, next_in, steps}
use Rattle.fk_region.specs.Chains.{AreApart, AreSound, HasChain}
use Rattle.fk_region.specs.Kept.{Kept, blocks_of, bytes_of, bytes_under, is_kept, used_by, with_kept, without_ticket}
use Rattle.fk_region.specs.Meaning.{returned, stored}
use Rattle.fk_region.specs.Changes.{AreKept, AreReleased, changed}
use Rattle.fk_region.proofs.Apart.{joined, last_of, none_is_some, taken}
use Rattle.fk_region.proofs.Keeping.{not_there, used_with, used_without}
use Rattle.fk_region.proofs.Listing.{IsFound, found, fresh, one_less}
use Rattle.fk_region.proofs.Sound.{listed, listed_less, listed_more}
use Rattle.fk_region.proofs.Writing.{length_at, still_whole}
use Rattle.fk_base.proofs.Logic.{by_test}

-- the same in each part
pub same_listed : (f g h k : ℕ → ℕ) (p q : ℕ → List ℕ) (m n : ℕ) → f ≡ g → h ≡ k → p ≡ q → m ≡ n → listed f h p m ≡ listed g k q n
same_listed f g h k p q m n a b c d = λ i. listed (a i) (b i) (c i) (d i)

pub same_apart : (f g h k : ℕ → ℕ) (free spare m n : ℕ) → f ≡ g → h ≡ k → m ≡ n → AreApart g k free spare n → AreApart f h free spare m
same_apart f g h k free spare m n a b c s =
    subst (λ f. AreApart f h free spare m) (sym a) (subst (λ h. AreApart g h free spare m) (sym b) (subst (λ m. AreApart g k free spare m) (sym c) s))

-- equal blocks mean the same
pub same_sound : (bs cs : List Block) (free free2 spare spare2 : ℕ) → cs ≡ bs → free2 ≡ free → spare2 ≡ spare → AreSound bs free spare (length bs) → AreSound cs free2 spare2 (length cs)
same_sound bs cs free free2 spare spare2 e f g s =
    subst (λ l. AreSound l free2 spare2 (length l)) (sym e) (subst (λ n. AreSound bs n spare2 (length bs)) (sym f) (subst (λ n. AreSound bs free n (length bs)) (sym g) s))

pub same_meaning : (bs cs : List Block) (spare spare2 : ℕ) → cs ≡ bs → spare2 ≡ spare → meaning_of cs spare2 ≡ meaning_of bs spare
same_meaning bs cs spare spare2 e g = λ i. meaning_of (e i) (g i)

-- THERE
-- where a ticket's bytes are
pub record IsThere (bs : List Block) (t : Ticket) : Type 0 where
  pub first : t.first < length bs
  pub held : held_in bs t.first ≡ t.length
  pub some : 0 < t.length
  pub inside : HasChain bs t.first (blocks_of t.length)
  pub bytes : bytes_of t (kept_in bs) ≡ bytes_at (next_in bs) (bytes_in bs) t.first t.length
  pub len : length (bytes_of t (kept_in bs)) ≡ t.length

pub there : (bs : List Block) (free spare : ℕ) (t : Ticket) → AreSound bs free spare (length bs) → is_kept t (kept_in bs) ≡ true → IsThere bs t
there bs free spare t s k = at (found (held_in bs) (bytes_at (next_in bs) (bytes_in bs)) 0 (length bs) t k)
  where
    inside : held_in bs t.first ≡ t.length → HasChain bs t.first (blocks_of t.length)
    inside e j l = s.chains.inside (Some t.first) j (omega arith)

    at : IsFound (held_in bs) (bytes_at (next_in bs) (bytes_in bs)) 0 (length bs) t → IsThere bs t
    at w =
        let bytes : bytes_of t (kept_in bs) ≡ bytes_at (next_in bs) (bytes_in bs) t.first t.length = ap (λ o. unwrap_or o []) w.bytes in
        record {
          first = omega (arith, w.high);
          held = w.held;
          some = w.some;
          inside = inside w.held;
          bytes = bytes;
          len = ap length bytes ∙ length_at (next_in bs) (bytes_in bs) t.length t.first (λ j l. s.whole (steps (next_in bs) j t.first) (inside w.held j l));
        }

-- PUT
-- what blocks are after bytes were kept in free ones
pub record AreStored (bs cs : List Block) (free spare : ℕ) (xs : List ℕ) : Type 0 where
  pub sound : AreSound cs (steps (next_in bs) (blocks_of (length xs)) free) (spare - blocks_of (length xs)) (length cs)
  pub fresh : bytes_under (record { first = free; length = length xs }) (kept_in bs) ≡ None
  pub after : meaning_of cs (spare - blocks_of (length xs)) ≡ stored (record { first = free; length = length xs }) xs (meaning_of bs spare)

-- nothing is kept at the first free block
not_held : (f h : ℕ → ℕ) (free spare n : ℕ) → AreApart f h free spare n → 0 < spare → h free ≡ 0
not_held f h free spare n s l = ⊎_elim (λ m. absurd (none_is_some (s.apart None (Some free) 0 0 l (omega arith) refl))) (λ m. omega arith) (cases_lt 0 (h free))

pub are_stored : (bs cs : List Block) (free spare : ℕ) (xs : List ℕ) → AreSound bs free spare (length bs) → AreKept bs free xs cs → 0 < length xs → blocks_of (length xs) ≤ spare → AreStored bs cs free spare xs
are_stored bs cs free spare xs s w some room = record {
  sound = record {
    chains = same_apart (next_in cs) (next_in bs) (held_in cs) (changed free (length xs) (held_in bs)) (steps (next_in bs) (blocks_of (length xs)) free) (spare - blocks_of (length xs)) (length cs) (length bs) w.next w.held w.len
        (taken (next_in bs) (held_in bs) free spare (length bs) (length xs) s.chains some room);
    whole = λ b l. ap (λ p. length (p b)) w.bytes ∙ still_whole (next_in bs) (blocks_of (length xs)) free xs (bytes_in bs) b (s.whole b (omega (arith, w.len)));
    counted = omega (arith, ap used_by kept, used_with k (kept_in bs), s.counted, w.len);
  };
  fresh = fresh (held_in bs) (bytes_at (next_in bs) (bytes_in bs)) 0 (length bs) k.ticket new some;
  after = λ i. record { kept = kept i; spare = spare - blocks_of (length xs); total = w.len i };
}
  where
    k : Kept
    k = record { ticket = record { first = free; length = length xs }; bytes = xs }

    new : held_in bs free ≡ 0
    new = not_held (next_in bs) (held_in bs) free spare (length bs) s.chains (omega arith)

    kept : kept_in cs ≡ with_kept k (kept_in bs)
    kept = same_listed _ _ _ _ _ _ _ _ w.next w.held w.bytes w.len ∙ listed_more (next_in bs) (held_in bs) (bytes_in bs) free spare (length bs) xs s.chains s.whole some room new

-- GIVE BACK
-- what blocks are after a ticket was given back
pub record AreReturned (bs cs : List Block) (spare : ℕ) (t : Ticket) : Type 0 where
  pub room : spare + blocks_of t.length ≤ length bs
  pub sound : AreSound cs t.first (spare + blocks_of t.length) (length cs)
  pub gone : bytes_under t (kept_in cs) ≡ None
  pub after : meaning_of cs (spare + blocks_of t.length) ≡ returned t (meaning_of bs spare)

pub are_returned : (bs cs : List Block) (free spare : ℕ) (t : Ticket) → AreSound bs free spare (length bs) → is_kept t (kept_in bs) ≡ true → AreReleased bs t.first (blocks_of t.length) free cs → AreReturned bs cs spare t
are_returned bs cs free spare t s k w = record {
  room = omega (arith, count, s.counted);
  sound = record {
    chains = subst (λ n. AreApart (next_in cs) (held_in cs) t.first (spare + blocks_of n) (length cs)) a.held
        (same_apart (next_in cs) (changed (last_of (next_in bs) (held_in bs) t.first) free (next_in bs)) (held_in cs) (changed t.first 0 (held_in bs)) t.first (spare + blocks_of (held_in bs t.first)) (length cs) (length bs) next w.held w.len
        (joined (next_in bs) (held_in bs) free spare (length bs) t.first s.chains some));
    whole = λ b m. ap (λ p. length (p b)) w.bytes ∙ s.whole b (omega (arith, w.len));
    counted = omega (arith, ap used_by kept, count, s.counted, w.len);
  };
  gone = ap (bytes_under t) (same_listed _ _ _ _ _ _ _ _ next w.held w.bytes w.len) ∙ fresh (changed t.first 0 (held_in bs)) (bytes_at (changed (last_of (next_in bs) (held_in bs) t.first) free (next_in bs)) (bytes_in bs)) 0 (length bs) t none a.some;
  after = λ i. record { kept = kept i; spare = spare + blocks_of ((sym a.len) i); total = w.len i };
}
  where
    a : IsThere bs t
    a = there bs free spare t s k

    some : 0 < held_in bs t.first
    some = omega (arith, a.held, a.some)

    next : next_in cs ≡ changed (last_of (next_in bs) (held_in bs) t.first) free (next_in bs)
    next = w.next ∙ ap (λ n. changed (steps (next_in bs) (blocks_of n - 1) t.first) free (next_in bs)) (sym a.held)

    kept : kept_in cs ≡ without_ticket t (kept_in bs)
    kept =
        same_listed _ _ _ _ _ _ _ _ next w.held w.bytes w.len
        ∙ listed_less (next_in bs) (held_in bs) (bytes_in bs) free spare (length bs) t.first s.chains some a.first
        ∙ ap (λ n. without_ticket (record { first = t.first; length = n }) (kept_in bs)) a.held

    count : used_by (kept_in bs) ≡ used_by (without_ticket t (kept_in bs)) + blocks_of t.length
    count = used_without t (kept_in bs) k ∙ ap (λ n. used_by (without_ticket t (kept_in bs)) + blocks_of n) a.len

    none : changed t.first 0 (held_in bs) t.first ≡ 0
    none = grind arith

-- each ticket stands once
pub once : (h : ℕ → ℕ) (f : ℕ → ℕ → List ℕ) (n : ℕ) (t : Ticket) → bytes_under t (without_ticket t (kept_from h f 0 n)) ≡ None
once h f n t = by_test (is_kept t (kept_from h f 0 n)) (λ b. bytes_under t (without_ticket t (kept_from h f 0 n)) ≡ None)
    (λ e. gone (found h f 0 n t e))
    (λ e. not_there t (kept_from h f 0 n) e)
  where
    none : changed t.first 0 h t.first ≡ 0
    none = grind arith

    gone : IsFound h f 0 n t → bytes_under t (without_ticket t (kept_from h f 0 n)) ≡ None
    gone w =
        ap (λ k. bytes_under t (without_ticket (record { first = t.first; length = k }) (kept_from h f 0 n))) (sym w.held)
        ∙ ap (bytes_under t) (sym (one_less h f 0 n t.first w.low w.high (omega (arith, w.held, w.some))))
        ∙ fresh (changed t.first 0 h) f 0 n t none w.some

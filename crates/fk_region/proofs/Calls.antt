-- What the calls of a region leave, over the vector of its blocks.
use Rattle.std.proofs.Common.{◌≡◌, ℕ, ◌+◌, ◌-◌, ◌<◌, ◌≤◌, true, List, ◌++◌, length, take, replicate, Some, None, refl, sym, ap, ◌∙◌, subst, arith}
use Rattle.std.proofs.lemmas.List.{length-append, length-replicate, take_all, with_items_is}
use Rattle.std.specs.Vec.{with_items}
use Rattle.std.specs.declared.vec.Vec.{Vec}
use Rattle.fk_region.specs.declared.block.Block.{Block}
use Rattle.fk_region.specs.declared.ticket.Ticket.{Ticket}
use Rattle.fk_region.specs.Blocks.{bytes_at, bytes_in, kept_in, meaning_of, next_in, steps}
use Rattle.fk_region.specs.Chains.{AreLinked, AreSound, HasChain}
use Rattle.fk_region.specs.Changes.{AreKept, AreReleased}
use Rattle.fk_region.specs.Kept.{blocks_of, bytes_of, bytes_under, is_kept}
use Rattle.fk_region.specs.Meaning.{HasRoom, RegionMeaning, returned, stored}
use Rattle.fk_region.proofs.Keeping.{found_with}
use Rattle.fk_region.proofs.Regions.{AreReturned, AreStored, are_returned, are_stored, same_meaning, same_sound, there}
use Rattle.fk_region.proofs.Reserving.{AreLonger, are_longer}

-- TICKETS
-- where the bytes of a ticket are in a row of blocks
pub record IsIn (row : List Block) (m : RegionMeaning) (t : Ticket) : Type 0 where
  pub some : 0 < t.length
  pub inside : HasChain row t.first (blocks_of t.length)
  pub bytes : bytes_of t m.kept ≡ bytes_at (next_in row) (bytes_in row) t.first t.length
  pub len : t.length ≡ length (bytes_of t m.kept)

pub is_in : {bs row : List Block} {free spare : ℕ} {m : RegionMeaning} (t : Ticket) → AreSound bs free spare (length bs) → meaning_of bs spare ≡ m → row ≡ bs → is_kept t m.kept ≡ true → IsIn row m t
is_in {bs} {row} {free} {spare} {m} t s is e k =
    subst (λ (l : List Block). IsIn l m t) (sym e) (subst (λ (z : RegionMeaning). is_kept t z.kept ≡ true → IsIn bs z t) is at k)
  where
    at : is_kept t (kept_in bs) ≡ true → IsIn bs (meaning_of bs spare) t
    at k = let w = there bs free spare t s k in record { some = w.some; inside = w.inside; bytes = w.bytes; len = sym w.len }

-- PUT
-- the free blocks are enough for what is put
pub free_inside : {bs row : List Block} {free spare n : ℕ} {m : RegionMeaning} → AreSound bs free spare (length bs) → meaning_of bs spare ≡ m → row ≡ bs → n ≤ m.spare → HasChain row free n
free_inside {bs} {row} {free} {spare} {n} {m} s is e room j l = subst (λ (r : List Block). steps (next_in r) j free < length r) (sym e) (s.chains.inside None j (omega (arith, ap (λ (z : RegionMeaning). z.spare) is)))

pub record HasPut (m : RegionMeaning) (cs : List Block) (free behind spare : ℕ) (xs : List ℕ) : Type 0 where
  pub sound : AreSound cs behind spare (length cs)
  pub fresh : bytes_under (record { first = free; length = length xs }) m.kept ≡ None
  pub after : meaning_of cs spare ≡ stored (record { first = free; length = length xs }) xs m
  pub found : bytes_under (record { first = free; length = length xs }) (kept_in cs) ≡ Some xs

pub has_put : {Z : Type 0} {row ws : List Block} {free spare behind n : ℕ} {xs : List ℕ} {m : RegionMeaning} (v : Vec Block Z) → AreSound v.items free spare (length v.items) → meaning_of v.items spare ≡ m
    → row ≡ v.items → length row ≡ v.len → AreKept row free xs ws → behind ≡ steps (next_in row) (blocks_of (length xs)) free → n ≡ blocks_of (length xs)
    → 0 < length xs → blocks_of (length xs) ≤ m.spare → HasPut m (with_items v ws).items free behind (spare - n) xs
has_put {Z} {row} {ws} {free} {spare} {behind} {n} {xs} {m} v s is e l w b f some room = so (are_stored v.items ws free spare xs s (subst (λ bs. AreKept bs free xs ws) e w) some (omega (arith, ap (λ (z : RegionMeaning). z.spare) is)))
  where
    same : (with_items v ws).items ≡ ws
    same = with_items_is v ws (w.len ∙ l)

    so : AreStored v.items ws free spare xs → HasPut m (with_items v ws).items free behind (spare - n) xs
    so a =
        let t : Ticket = record { first = free; length = length xs } in
        let after : meaning_of (with_items v ws).items (spare - n) ≡ stored t xs m = same_meaning ws (with_items v ws).items (spare - blocks_of (length xs)) (spare - n) same (ap (λ k. spare - k) f) ∙ a.after ∙ ap (stored t xs) is in
        let fresh : bytes_under t m.kept ≡ None = subst (λ (z : RegionMeaning). bytes_under t z.kept ≡ None) is a.fresh in
        record {
          sound = same_sound ws (with_items v ws).items (steps (next_in v.items) (blocks_of (length xs)) free) behind (spare - blocks_of (length xs)) (spare - n) same (b ∙ ap (λ bs. steps (next_in bs) (blocks_of (length xs)) free) e) (ap (λ k. spare - k) f) a.sound;
          fresh = fresh;
          after = after;
          found = ap (λ (z : RegionMeaning). bytes_under t z.kept) after ∙ found_with (record { ticket = t; bytes = xs }) m.kept fresh;
        }

-- GIVE BACK
pub record HasGiven (m : RegionMeaning) (cs : List Block) (spare total : ℕ) (t : Ticket) : Type 0 where
  pub room : spare ≤ total
  pub sound : AreSound cs t.first spare (length cs)
  pub gone : bytes_under t (kept_in cs) ≡ None
  pub after : meaning_of cs spare ≡ returned t m

pub has_given : {Z : Type 0} {row ws : List Block} {free spare n : ℕ} {m : RegionMeaning} (v : Vec Block Z) (t : Ticket) → AreSound v.items free spare (length v.items) → meaning_of v.items spare ≡ m
    → row ≡ v.items → length row ≡ v.len → AreReleased row t.first n free ws → n ≡ blocks_of t.length → is_kept t m.kept ≡ true → HasGiven m (with_items v ws).items (spare + n) (length row) t
has_given {Z} {row} {ws} {free} {spare} {n} {m} v t s is e l w f k =
    so (are_returned v.items ws free spare t s (subst (λ (z : RegionMeaning). is_kept t z.kept ≡ true) (sym is) k) (subst (λ j. AreReleased v.items t.first j free ws) f (subst (λ bs. AreReleased bs t.first n free ws) e w)))
  where
    same : (with_items v ws).items ≡ ws
    same = with_items_is v ws (w.len ∙ l)

    so : AreReturned v.items ws spare t → HasGiven m (with_items v ws).items (spare + n) (length row) t
    so a = record {
      room = omega (arith, a.room, f, ap length e);
      sound = same_sound ws (with_items v ws).items t.first t.first (spare + blocks_of t.length) (spare + n) same refl (ap (λ j. spare + j) f) a.sound;
      gone = ap (λ bs. bytes_under t (kept_in bs)) same ∙ a.gone;
      after = same_meaning ws (with_items v ws).items (spare + blocks_of t.length) (spare + n) same (ap (λ j. spare + j) f) ∙ a.after ∙ ap (returned t) is;
    }

-- RESERVE
pub record HasReserved (m : RegionMeaning) (cs : List Block) (first spare blocks : ℕ) : Type 0 where
  pub sound : AreSound cs first spare (length cs)
  pub room : HasRoom blocks m (meaning_of cs spare)

pub has_reserved : {Z : Type 0} {row ws : List Block} {free spare total first blocks : ℕ} {m : RegionMeaning} (v u : Vec Block Z) (x : Block) → AreSound v.items free spare (length v.items) → meaning_of v.items spare ≡ m
    → total ≡ length v.items → total ≡ v.len → spare ≤ blocks → x.next ≡ 0 → x.held ≡ 0 → length x.bytes ≡ 256
    → u.items ≡ take (total + (blocks - spare)) v.items ++ replicate (total + (blocks - spare) - v.len) x
    → row ≡ u.items → length row ≡ u.len → AreLinked row total free ws (length row) first
    → HasReserved m (with_items u ws).items first (spare + (blocks - spare)) blocks
has_reserved {Z} {row} {ws} {free} {spare} {total} {first} {blocks} {m} v u x s is t n le nx hx bx e r l w = so (are_longer v.items row free spare (blocks - spare) x s nx hx bx longer)
  where
    same : (with_items u ws).items ≡ ws
    same = with_items_is u ws (w.len ∙ l)

    longer : row ≡ v.items ++ replicate (blocks - spare) x
    longer =
        let front : take (total + (blocks - spare)) v.items ≡ v.items = take_all (total + (blocks - spare)) v.items (omega arith) in
        let more : total + (blocks - spare) - v.len ≡ blocks - spare = omega arith in
        r ∙ e ∙ rw (front, more) refl

    size : length row ≡ total + (blocks - spare)
    size = ap length longer ∙ omega (arith, length-append v.items (replicate (blocks - spare) x), length-replicate (blocks - spare) x)

    so : AreLonger v.items row free spare → HasReserved m (with_items u ws).items first (spare + (blocks - spare)) blocks
    so a = record {
      sound = same_sound ws (with_items u ws).items first first (spare + (length row - total)) (spare + (blocks - spare)) same refl (omega (arith, size)) (subst (λ n. AreSound ws first (spare + (length row - total)) n) (sym w.len) (w.sound spare old));
      room = subst (λ (z : RegionMeaning). HasRoom blocks z (meaning_of (with_items u ws).items (spare + (blocks - spare)))) is (record {
        same = ap kept_in same ∙ w.same spare old ∙ a.same;
        room = omega arith;
        grown = omega (arith, ap length same, w.len, size);
        free = omega (arith, ap length same, w.len, size);
      });
    }
      where
        old : AreSound row free spare total
        old = subst (λ n. AreSound row free spare n) (sym t) a.sound

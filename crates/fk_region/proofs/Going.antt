-- What the loops keep that write bytes over a chain of blocks and read them from it.
use Rattle.std.proofs.Common.{◌≡◌, ℕ, zero, suc, ◌+◌, ◌-◌, ◌<◌, ◌≤◌, List, ◌++◌, length, take, drop, get_or, set, min, refl, sym, ap, ◌∙◌, arith}
use Rattle.std.proofs.lemmas.List.{append_assoc, drop_min, length-append, length-drop, length-set, length-take, take_min}
use Rattle.std.proofs.lemmas.Slice.{take-put_mid}
use borrow.Rule.Slice.PartMut.{put_mid}
use Rattle.fk_region.specs.declared.block.Block.{Block}
use Rattle.fk_region.specs.Blocks.{bytes_at, bytes_in, held_in, next_in, no_block, steps}
use Rattle.fk_region.specs.Chains.{AreWhole}
use Rattle.fk_region.specs.Kept.{blocks_of}
use Rattle.fk_region.specs.Changes.{over, written}
use Rattle.fk_region.proofs.Setting.{equal, field_set, same_field}
use Rattle.fk_region.proofs.Writing.{first_part}

-- WRITING
-- what is left to write over the blocks as they are gives what was to be written over them as they were
pub record IsWriting (bs : List Block) (first : ℕ) (xs : List ℕ) (cs : List Block) (b : ℕ) (ys : List ℕ) : Type 0 where
  pub len : length cs ≡ length bs
  pub next : next_in cs ≡ next_in bs
  pub held : held_in cs ≡ held_in bs
  pub bytes : written (next_in bs) (blocks_of (length ys)) b ys (bytes_in cs) ≡ written (next_in bs) (blocks_of (length xs)) first xs (bytes_in bs)
  pub behind : steps (next_in bs) (blocks_of (length ys)) b ≡ steps (next_in bs) (blocks_of (length xs)) first
  pub inside : (j : ℕ) → j < blocks_of (length ys) → steps (next_in bs) j b < length bs

one_block : (n : ℕ) → 0 < n → blocks_of n ≡ suc (blocks_of (n - 256))
one_block n s = omega arith

pub wrote_one : (bs : List Block) (first : ℕ) (xs : List ℕ) (cs : List Block) (b : ℕ) (ys front others : List ℕ) (x : Block) → IsWriting bs first xs cs b ys → 0 < length ys
    → front ≡ take (min 256 (length ys)) ys → others ≡ drop (min 256 (length ys)) ys
    → x ≡ record (get_or cs b no_block) { bytes = front ++ drop (length front) (bytes_in cs b) }
    → IsWriting bs first xs (set cs b x) (get_or (set cs b x) b no_block).next others
wrote_one bs first xs cs b ys front others x w s f o e = record {
  len = length-set cs b x ∙ w.len;
  next = equal _ _ same_next ∙ w.next;
  held = equal _ _ (λ c. same_field (λ z. z.held) cs b x c within (ap (λ z. z.held) e)) ∙ w.held;
  bytes = rw (rest, goes, equal (bytes_in (set cs b x)) (over b (take 256 ys) (bytes_in cs)) wrote) (rw blocks at w.bytes);
  behind = rw (rest, goes) (rw blocks at w.behind);
  inside = rw (rest, goes) (λ j l. w.inside (suc j) (omega (arith, blocks)));
}
  where
    within : b < length cs
    within = omega (arith, w.len, w.inside zero (omega arith))

    rest : others ≡ drop 256 ys
    rest = o ∙ drop_min 256 ys

    same_next : (c : ℕ) → next_in (set cs b x) c ≡ next_in cs c
    same_next c = same_field (λ z. z.next) cs b x c within (ap (λ z. z.next) e)

    goes : (get_or (set cs b x) b no_block).next ≡ next_in bs b
    goes = same_next b ∙ ap (λ g. g b) w.next

    blocks : blocks_of (length ys) ≡ suc (blocks_of (length (drop 256 ys)))
    blocks = one_block (length ys) s ∙ ap (λ n. suc (blocks_of n)) (sym (length-drop 256 ys))

    wrote : (c : ℕ) → bytes_in (set cs b x) c ≡ over b (take 256 ys) (bytes_in cs) c
    wrote c = field_set (λ z. z.bytes) cs b x c within ∙ rw (e, f, take_min 256 ys) refl

-- READING
-- what was read and what is left to read are what was to be read
pub record IsReading (bs : List Block) (first n : ℕ) (into : List ℕ) (b done : ℕ) : Type 0 where
  pub len : length into ≡ n
  pub within : done ≤ n
  pub bytes : take done into ++ bytes_at (next_in bs) (bytes_in bs) b (n - done) ≡ bytes_at (next_in bs) (bytes_in bs) first n
  pub inside : (j : ℕ) → j < blocks_of (n - done) → steps (next_in bs) j b < length bs

pub read_one : (bs : List Block) (first n : ℕ) (into : List ℕ) (b done count k : ℕ) (ys : List ℕ) → AreWhole bs → IsReading bs first n into b done → done < n
    → count ≡ min 256 (n - done) → k ≡ count → ys ≡ take count (bytes_in bs b)
    → IsReading bs first n (put_mid done k into ys) (next_in bs b) (done + count)
read_one bs first n into b done count k ys whole r l c e y = record {
  len = simp (length-append, length-take, length-drop) (omega (arith, all, r.len));
  within = omega arith;
  bytes = rw (take-put_mid done k into ys (done + count) (omega (arith, all)) (omega (arith, r.len)), append_assoc (take done into) ys _) (rw y (ap (λ zs. take done into ++ zs) (sym part)) ∙ r.bytes);
  inside = λ j m. r.inside (suc j) (omega arith);
}
  where
    here : length (bytes_in bs b) ≡ 256
    here = whole b (r.inside zero (omega arith))

    all : length ys ≡ count
    all = ap length y ∙ omega (arith, length-take count (bytes_in bs b), here)

    left : n - done - count ≡ n - (done + count)
    left = omega arith

    min_flip : min (n - done) 256 ≡ min 256 (n - done)
    min_flip = omega arith

    part : bytes_at (next_in bs) (bytes_in bs) b (n - done) ≡ take count (bytes_in bs b) ++ bytes_at (next_in bs) (bytes_in bs) (next_in bs b) (n - (done + count))
    part = first_part (next_in bs) (bytes_in bs) b (n - done) (omega arith) here ∙ rw (min_flip, ← c, left) refl

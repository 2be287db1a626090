-- What blocks are after bytes were kept in them, and after they were given back.
use Rattle.std.specs.Prelude.{◌≡◌, ℕ, zero, suc, ◌-◌, ◌==◌, if◌then◌else◌, List, ◌++◌, length, take, drop}
use Rattle.fk_region.specs.declared.block.Block.{Block}
use Rattle.fk_region.specs.Blocks.{bytes_in, held_in, next_in, steps}
use Rattle.fk_region.specs.Kept.{blocks_of}

-- the same but for one block
abbrev pub changed : ℕ → ℕ → (ℕ → ℕ) → ℕ → ℕ
changed b n f c = if c == b then n else f c

-- the front of a block's bytes is written over
abbrev pub over : ℕ → List ℕ → (ℕ → List ℕ) → ℕ → List ℕ
over b ys bytes c = if c == b then ys ++ drop (length ys) (bytes b) else bytes c

-- the bytes of blocks after these bytes were written over so many blocks of a chain, from b on
abbrev pub written : (ℕ → ℕ) → ℕ → ℕ → List ℕ → (ℕ → List ℕ) → ℕ → List ℕ
written next zero b xs bytes = bytes
written next (suc n) b xs bytes = written next n (next b) (drop 256 xs) (over b (take 256 xs) bytes)

-- These bytes were written over the chain of block b; all else stays.
pub record AreWritten (bs : List Block) (b : ℕ) (xs : List ℕ) (cs : List Block) : Type 0 where
  pub len : length cs ≡ length bs
  pub next : next_in cs ≡ next_in bs
  pub held : held_in cs ≡ held_in bs
  pub bytes : bytes_in cs ≡ written (next_in bs) (blocks_of (length xs)) b xs (bytes_in bs)

-- These bytes were written over the chain of block b, and are kept from it on; all else stays.
pub record AreKept (bs : List Block) (b : ℕ) (xs : List ℕ) (cs : List Block) : Type 0 where
  pub len : length cs ≡ length bs
  pub next : next_in cs ≡ next_in bs
  pub held : held_in cs ≡ changed b (length xs) (held_in bs)
  pub bytes : bytes_in cs ≡ written (next_in bs) (blocks_of (length xs)) b xs (bytes_in bs)

-- Nothing is kept from block b on, and the last of so many blocks of its chain leads to the first free one; all else stays.
pub record AreReleased (bs : List Block) (b n free : ℕ) (cs : List Block) : Type 0 where
  pub len : length cs ≡ length bs
  pub next : next_in cs ≡ changed (steps (next_in bs) (n - 1) b) free (next_in bs)
  pub held : held_in cs ≡ changed b 0 (held_in bs)
  pub bytes : bytes_in cs ≡ bytes_in bs

-- Chains of blocks stand apart: that of the free ones, and one for each block at which something is kept.
use Rattle.std.specs.Prelude.{◌≡◌, ℕ, ◌+◌, ◌-◌, ◌<◌, List, length, Option, Some, None}
use Rattle.fk_region.specs.declared.block.Block.{Block}
use Rattle.fk_region.specs.Blocks.{bytes_in, held_in, kept_in, next_in, steps}
use Rattle.fk_region.specs.Kept.{blocks_of, used_by}

-- where a chain begins; None is that of the free blocks
abbrev pub start : ℕ → Option ℕ → ℕ
start free None = free
start free (Some b) = b

-- how many blocks a chain has
abbrev pub size : (ℕ → ℕ) → ℕ → Option ℕ → ℕ
size held spare None = spare
size held spare (Some b) = blocks_of (held b)

-- So many blocks of a chain are there, from b on.
abbrev pub HasChain : List Block → ℕ → ℕ → Type 0
HasChain bs b n = (j : ℕ) → j < n → steps (next_in bs) j b < length bs

-- No block stands at two places of chains, and each is below a number.
pub record AreApart (next held : ℕ → ℕ) (free spare total : ℕ) : Type 0 where
  pub inside : (x : Option ℕ) (i : ℕ) → i < size held spare x → steps next i (start free x) < total
  pub apart : (x y : Option ℕ) (i j : ℕ) → i < size held spare x → j < size held spare y
      → steps next i (start free x) ≡ steps next j (start free y) → (x ≡ y) × (i ≡ j)

-- each block has 256 bytes
abbrev pub AreWhole : List Block → Type 0
AreWhole bs = (b : ℕ) → b < length bs → length (bytes_in bs b) ≡ 256

-- Each of the first so many blocks stands in one chain.
pub record AreSound (bs : List Block) (free spare total : ℕ) : Type 0 where
  pub chains : AreApart (next_in bs) (held_in bs) free spare total
  pub whole : AreWhole bs
  pub counted : used_by (kept_in bs) + spare ≡ total

-- What blocks are after those from one number up to another went before the free blocks; what is kept stays.
pub record AreLinked (bs : List Block) (from free : ℕ) (cs : List Block) (to first : ℕ) : Type 0 where
  pub len : length cs ≡ length bs
  pub sound : (spare : ℕ) → AreSound bs free spare from → AreSound cs first (spare + (to - from)) to
  pub same : (spare : ℕ) → AreSound bs free spare from → kept_in cs ≡ kept_in bs

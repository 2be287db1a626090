-- What blocks mean: at which of them something is kept, and how a chain of blocks goes on.
use Rattle.std.specs.Prelude.{ℕ, zero, suc, ◌+◌, ◌==◌, if◌then◌else◌, List, [], ◌∷◌, ◌++◌, length, take, get_or}
use Rattle.fk_region.specs.declared.block.Block.{Block}
use Rattle.fk_region.specs.Kept.{Kept, blocks_of}
use Rattle.fk_region.specs.Meaning.{RegionMeaning}

-- what stands at a number that no block has
abbrev pub no_block : Block
no_block = record { bytes = []; next = 0; held = 0 }

-- the block behind a block in its chain
abbrev pub next_in : List Block → ℕ → ℕ
next_in bs b = (get_or bs b no_block).next

-- how many bytes are kept from a block on; 0 where nothing begins
abbrev pub held_in : List Block → ℕ → ℕ
held_in bs b = (get_or bs b no_block).held

-- the bytes of a block
abbrev pub bytes_in : List Block → ℕ → List ℕ
bytes_in bs b = (get_or bs b no_block).bytes

-- the block that so many steps lead to
abbrev pub steps : (ℕ → ℕ) → ℕ → ℕ → ℕ
steps next zero b = b
steps next (suc i) b = steps next i (next b)

-- the bytes of so many blocks of a chain, from a block on
abbrev pub chain_bytes : (ℕ → ℕ) → (ℕ → List ℕ) → ℕ → ℕ → List ℕ
chain_bytes next bytes zero b = []
chain_bytes next bytes (suc n) b = bytes b ++ chain_bytes next bytes n (next b)

-- so many bytes of a chain, from the first of a block on
abbrev pub bytes_at : (ℕ → ℕ) → (ℕ → List ℕ) → ℕ → ℕ → List ℕ
bytes_at next bytes b n = take n (chain_bytes next bytes (blocks_of n) b)

-- what is kept at a block where something begins; f tells the bytes by block and length
abbrev pub kept_at : (ℕ → ℕ) → (ℕ → ℕ → List ℕ) → ℕ → Kept
kept_at held f b = record { ticket = record { first = b; length = held b }; bytes = f b (held b) }

-- what is kept in so many blocks, of which the first is b
abbrev pub kept_from : (ℕ → ℕ) → (ℕ → ℕ → List ℕ) → ℕ → ℕ → List Kept
kept_from held f b zero = []
kept_from held f b (suc n) = if held b == 0 then kept_from held f (b + 1) n else kept_at held f b ∷ kept_from held f (b + 1) n

-- what is kept in blocks
abbrev pub kept_in : List Block → List Kept
kept_in bs = kept_from (held_in bs) (bytes_at (next_in bs) (bytes_in bs)) 0 (length bs)

-- what blocks mean of which so many are free
abbrev pub meaning_of : List Block → ℕ → RegionMeaning
meaning_of bs spare = record { kept = kept_in bs; spare = spare; total = length bs }

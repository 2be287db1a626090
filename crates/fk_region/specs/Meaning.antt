-- What a region means: what it keeps, how many blocks are free, and how many there are.
use Rattle.std.specs.Prelude.{◌≡◌, ℕ, ◌+◌, ◌-◌, ◌≤◌, List, [], length}
use Rattle.fk_region.specs.declared.ticket.Ticket.{Ticket}
use Rattle.fk_region.specs.Kept.{Kept, blocks_of, bytes_of, with_kept, without_ticket}

-- What is kept stands in the order of its first blocks; no ticket stands twice.
pub record RegionMeaning : Type 0 where
  pub kept : List Kept
  pub spare : ℕ
  pub total : ℕ

-- A new region has no block.
abbrev pub new_region : RegionMeaning
new_region = record { kept = []; spare = 0; total = 0 }

-- the bytes are kept under the ticket
abbrev pub stored : Ticket → List ℕ → RegionMeaning → RegionMeaning
stored t bytes m = record m {
  kept = with_kept (record { ticket = t; bytes = bytes }) m.kept;
  spare = m.spare - blocks_of (length bytes);
}

-- the ticket was given back
abbrev pub returned : Ticket → RegionMeaning → RegionMeaning
returned t m = record m {
  kept = without_ticket t m.kept;
  spare = m.spare + blocks_of (length (bytes_of t m.kept));
}

-- So many blocks are free: the same is kept, and each block that is new is free.
pub record HasRoom (blocks : ℕ) (m n : RegionMeaning) : Type 0 where
  pub same : n.kept ≡ m.kept
  pub room : blocks ≤ n.spare
  pub grown : m.total ≤ n.total
  pub free : n.spare + m.total ≡ m.spare + n.total

-- What a region keeps: bytes, each under a ticket.
use Rattle.std.specs.Prelude.{ℕ, ◌+◌, ◌/◌, ◌==◌, nat_le, Bool, ◌&&◌, if◌then◌else◌, List, [], ◌∷◌, length, Option, Some, None, is_some, unwrap_or}
use Rattle.fk_region.specs.declared.ticket.Ticket.{Ticket}

-- bytes that are kept, and the ticket for them
pub record Kept : Type 0 where
  pub ticket : Ticket
  pub bytes : List ℕ

-- whether two tickets are one
abbrev pub same_ticket : Ticket → Ticket → Bool
same_ticket t u = t.first == u.first && t.length == u.length

-- how many blocks of 256 bytes hold so many bytes
abbrev pub blocks_of : ℕ → ℕ
blocks_of n = (n + 255) / 256

-- the bytes under a ticket; there are none where nothing is kept under it
abbrev pub bytes_under : Ticket → List Kept → Option (List ℕ)
bytes_under t [] = None
bytes_under t (k ∷ ks) = if same_ticket t k.ticket then Some k.bytes else bytes_under t ks

-- whether something is kept under a ticket
abbrev pub is_kept : Ticket → List Kept → Bool
is_kept t ks = is_some (bytes_under t ks)

-- the bytes under a ticket; where nothing is kept under it they count as empty
abbrev pub bytes_of : Ticket → List Kept → List ℕ
bytes_of t ks = unwrap_or (bytes_under t ks) []

-- one more, before the first whose first block isn't a lower one
abbrev pub with_kept : Kept → List Kept → List Kept
with_kept k [] = k ∷ []
with_kept k (x ∷ xs) = if nat_le k.ticket.first x.ticket.first then k ∷ x ∷ xs else x ∷ with_kept k xs

-- all but the first that has the ticket
abbrev pub without_ticket : Ticket → List Kept → List Kept
without_ticket t [] = []
without_ticket t (k ∷ ks) = if same_ticket t k.ticket then ks else k ∷ without_ticket t ks

-- how many blocks they take
abbrev pub used_by : List Kept → ℕ
used_by [] = 0
used_by (k ∷ ks) = blocks_of (length k.bytes) + used_by ks

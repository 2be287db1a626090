-- A text in pieces: lines between line feeds, words between spaces.
use Rattle.std.specs.Prelude.{◌≡◌, ℕ, ◌==◌, ◌≤◌, ◌<◌, Bool, true, false, List, [], length, take, slice_index, Option, Some, None}
use Rattle.std.specs.List.{slice_split, AllByRecursion}
use denote.Ref.{Bor}

abbrev pub is_byte_at : ℕ → ℕ → Bool
is_byte_at at byte = byte == at

-- the pieces of what is left; none where nothing is
abbrev pub pieces_left : ℕ → Option (Bor (List ℕ)) → List (List ℕ)
pieces_left at None = []
pieces_left at (Some rest) = slice_split (is_byte_at at) rest.now

-- the first piece ends before this place
abbrev pub IsEnd : (ℕ → Bool) → List ℕ → ℕ → Type 0
IsEnd p text end = (end ≤ length text) × AllByRecursion (λ b. p b ≡ false) (take end text) × (end < length text → p (slice_index text end) ≡ true)

-- the words of a line
abbrev pub words_in : List ℕ → List (List ℕ)
words_in = slice_split (is_byte_at 32)

-- the lines of a text
abbrev pub lines_in : List ℕ → List (List ℕ)
lines_in = slice_split (is_byte_at 10)

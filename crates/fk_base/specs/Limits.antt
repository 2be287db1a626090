-- The limits of values that are written and read.
use Rattle.std.specs.Prelude.{◌≡◌, ℕ, ◌<◌, ◌^◌, ℤ, pos, negsuc, true, List, slice_index}
use Rattle.std.specs.Str.{is_utf8}
use Rattle.fk_base.specs.Path.{PathNames, are_names, path_text}

-- a number, such as a transaction's or a moment
abbrev pub IsNumber : ℕ → Type 0
IsNumber n = n < 2 ^ 63

-- a number that has 32 bits
abbrev pub IsSmall : ℕ → Type 0
IsSmall n = n < 2 ^ 32

-- an expected version is -1 or more
abbrev pub IsExpected : ℤ → Type 0
IsExpected (pos v) = v < 2 ^ 31
IsExpected (negsuc v) = v ≡ 0

-- a path's names are names, and its text is UTF-8
abbrev pub IsPath : PathNames → Type 0
IsPath p = (are_names p ≡ true) × (is_utf8 (path_text p) ≡ true)

-- data has bytes
abbrev pub IsData : List ℕ → Type 0
IsData bytes = (i : ℕ) → slice_index bytes i < 256

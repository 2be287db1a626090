-- What a text of decimal digits says.
use Rattle.std.specs.Prelude.{ℕ, ◌^◌, nat_lt, ℤ, pos, negsuc, if◌then◌else◌, ◌&&◌, List, codes, length, Option, Some, None, option_map}
use Rattle.std.specs.Str.{all_ascii_digits, bytes_eq}
use Rattle.std.specs.Str.Parse.{digits_value, without_leading_plus}

-- the number that these digits say, below a limit
abbrev pub digits_below : ℕ → List ℕ → Option ℕ
digits_below limit digits = if all_ascii_digits digits && nat_lt 0 (length digits) && nat_lt (digits_value 10 digits) limit then Some (digits_value 10 digits) else None

-- A number below a limit; a `+` before it is passed over.
unfoldable pub number_below : ℕ → List ℕ → Option ℕ
number_below limit word = digits_below limit (without_leading_plus word)

-- an expected version: -1, or a number
unfoldable pub expected_of : List ℕ → Option ℤ
expected_of word = if bytes_eq word (codes "-1") then Some (negsuc 0) else option_map pos (number_below (2 ^ 31) word)

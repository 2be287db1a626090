-- The values that words stand for.
use Rattle.std.specs.Prelude.{ℕ, ℤ, pos, negsuc, ◌==◌, nat_le, Bool, false, if◌then◌else◌, ◌&&◌, ◌||◌, not, List, [], ◌∷◌, codes, length, Option, Some, None}
use Rattle.std.specs.Option.{option_map}
use Rattle.std.specs.Result.{result_ok}
use Rattle.std.specs.Str.{all_ascii_digits}
use Rattle.std.specs.Str.Parse.{digits_value}
use Rattle.base64.specs.Engines.{standard}
use Rattle.base64.specs.GeneralPurpose.{decode_of}
use Rattle.fk_script.specs.Lines.{Word, is}

-- decimal digits, at least one, without leading zeros
abbrev pub is_decimal : Word → Bool
is_decimal [] = false
is_decimal (d ∷ ds) = all_ascii_digits (d ∷ ds) && (not (d == 48) || (length ds == 0))

-- the number, where it is at most this one
abbrev pub number : ℕ → Word → Option ℕ
number most word = if is_decimal word && nat_le (digits_value 10 word) most then Some (digits_value 10 word) else None

-- how long a lock or a ping may last at most
abbrev pub most_time : ℕ
most_time = 1000000

-- the greatest function's number and moment of a schedule: below 2^40
abbrev pub most_event : ℕ
most_event = 1099511627775

-- how many clients, commands and turns a file may have; a multi counts as its parts
abbrev pub most_clients : ℕ
most_clients = 64

abbrev pub most_commands : ℕ
most_commands = 2048

abbrev pub most_turns : ℕ
most_turns = 65536

-- the greatest version
abbrev pub most_version : ℕ
most_version = 2147483647

-- an expected version: -1, or a number
abbrev pub version : Word → Option ℤ
version word = if is word (codes "-1") then Some (negsuc 0) else option_map pos (number most_version word)

-- the bytes whose base64 the word is
abbrev pub decoded : Word → Option (List ℕ)
decoded word = result_ok (decode_of standard word)

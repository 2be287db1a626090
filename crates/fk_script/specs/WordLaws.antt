-- What the values of words are, said without a reader.
use Rattle.std.specs.Prelude.{◌≡◌, ◌↔◌, ◌≤◌, ◌<◌, ◌^◌, ℕ, List, Some}
use Rattle.std.specs.Fmt.{decimal}
use Rattle.base64.specs.Engines.{standard}
use Rattle.base64.specs.GeneralPurpose.{IsBytes, encode_of}
use Rattle.fk_script.specs.Values.{decoded, number}

-- A word stands for a number exactly where it is the number's decimal text, and the number is within the limit.
abbrev pub NumbersAreDecimal : Type 0
NumbersAreDecimal = (most n : ℕ) (word : List ℕ) → most < 2 ^ 64 → (number most word ≡ Some n) ↔ ((n ≤ most) × (word ≡ decimal n))

-- A word is decoded to bytes exactly where it is their encoding.
abbrev pub DataIsEncoded : Type 0
DataIsEncoded = (word bytes : List ℕ) → IsBytes word → IsBytes bytes → (decoded word ≡ Some bytes) ↔ (word ≡ encode_of standard bytes)

-- What the texts of all messages have in common: compact JSON, keys in the order of their bytes.
use Rattle.std.specs.Prelude.{◌≡◌, ℕ, ◌^◌, ◌==◌, ℤ, if◌then◌else◌, Bool, List, [], ◌∷◌, ◌++◌, codes, map, Option, Some, None, option_and_then}
use Rattle.std.specs.Result.{result_ok}
use Rattle.base64.specs.Engines.{standard}
use Rattle.base64.specs.GeneralPurpose.{decode_of, encode_of}
use Rattle.json.specs.Find.{get, as_array, as_bool, as_number, as_str}
use Rattle.json.specs.Json.{Json, Items, no_items, item, document}
use Rattle.serde_json.specs.Data.{Data, array, number, unsigned, string}
use Rattle.serde_json.specs.Find.{of_integer}
use Rattle.serde_json.specs.View.{items_of}
use Rattle.serde_json.specs.Written.{compact_text}
use Rattle.fk_base.specs.Digits.{expected_of, number_below}
use Rattle.fk_base.specs.Path.{PathNames, path_of, path_text}
use Rattle.fk_wire.specs.declared.version.Version.{Version}
use Rattle.fk_wire.specs.declared.version.Version.TheVariants as version

-- The bytes are a text of the message: in one of the versions that can say it, the text of its value.
abbrev pub IsTextOf : {A : Type 0} → (A → Type 0) → (Version → A → Type 0) → (Version → A → Data) → List ℕ → A → Type 0
IsTextOf is_message can_say value bytes m = is_message m × ((v : Version) × can_say v m × (bytes ≡ compact_text (value v m)))

-- The bytes are the text of some message. `text` says which bytes are a message's text.
abbrev pub IsText : {A : Type 0} → (List ℕ → A → Type 0) → List ℕ → Type 0
IsText {A} text bytes = (m : A) × text bytes m

-- ---- values

-- the number of a version
abbrev pub version_number : Version → ℕ
version_number version.One = 1
version_number version.Two = 2

-- the version of a text
abbrev pub version_data : Version → Data
version_data v = number (unsigned (version_number v))

-- a number without sign
abbrev pub number_data : ℕ → Data
number_data n = number (unsigned n)

-- an expected version
abbrev pub expected_data : ℤ → Data
expected_data v = number (of_integer v)

-- a path is its text
abbrev pub path_data : PathNames → Data
path_data p = string (path_text p)

-- data is its base64
abbrev pub bytes_data : List ℕ → Data
bytes_data bytes = string (encode_of standard bytes)

-- a list is an array
abbrev pub list_data : {A : Type 0} → (A → Data) → List A → Data
list_data value xs = array (items_of (map value xs))

-- ---- fields of a value that was read

-- the text at a key
abbrev pub text_at : List ℕ → Json → Option (List ℕ)
text_at key j = option_and_then as_str (get key j)

-- the text of the number at a key
abbrev pub digits_at : List ℕ → Json → Option (List ℕ)
digits_at key j = option_and_then as_number (get key j)

-- whether a key holds true
abbrev pub flag_at : List ℕ → Json → Option Bool
flag_at key j = option_and_then as_bool (get key j)

-- the number at a key, where it is below the limit
abbrev pub number_at : ℕ → List ℕ → Json → Option ℕ
number_at limit key j = option_and_then (number_below limit) (digits_at key j)

-- the version of this number
abbrev pub version_of : ℕ → Option Version
version_of n = if n == 1 then Some version.One else if n == 2 then Some version.Two else None

-- the version of a text
abbrev pub version_from : Json → Option Version
version_from j = option_and_then version_of (number_at (2 ^ 63) (codes "v") j)

-- the expected version at a key
abbrev pub expected_at : List ℕ → Json → Option ℤ
expected_at key j = option_and_then expected_of (digits_at key j)

-- the path that a text means
abbrev pub path_from : Json → Option PathNames
path_from j = option_and_then path_of (as_str j)

-- the path at a key
abbrev pub path_at : List ℕ → Json → Option PathNames
path_at key j = option_and_then path_from (get key j)

-- the bytes at a key
abbrev pub bytes_at : List ℕ → Json → Option (List ℕ)
bytes_at key j = option_and_then (λ s. result_ok (decode_of standard s)) (text_at key j)

-- what the items are behind these, where each is one
abbrev pub items_onto : {A : Type 0} → (Json → Option A) → List A → Items → Option (List A)
items_onto read xs no_items = Some xs
items_onto read xs (item j js) = option_and_then (λ x. items_onto read (xs ++ x ∷ []) js) (read j)

-- the list at a key
abbrev pub list_at : {A : Type 0} → (Json → Option A) → List ℕ → Json → Option (List A)
list_at read key j = option_and_then (items_onto read []) (option_and_then as_array (get key j))

-- The bytes are JSON of this version, of which the fields are those of this message.
abbrev pub HasFields : {A : Type 0} → (Version → Json → Option A) → List ℕ → Version → A → Type 0
HasFields from bytes v m = (j : Json) × (document bytes ≡ Some j) × (version_from j ≡ Some v) × (from v j ≡ Some m)

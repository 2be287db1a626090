-- The names that clients have.
use Rattle.std.specs.Prelude.{ℕ, nat_le, Bool, true, false, ◌&&◌, ◌||◌, not, List, [], ◌∷◌, codes, length}
use Rattle.std.specs.List.{list_all}
use Rattle.std.specs.Str.{bytes_eq}
use Rattle.fk_base.specs.Path.{Name}
use Rattle.fk_tree.specs.Sorted.{has_name}

-- `a` to `z`
abbrev pub is_letter : ℕ → Bool
is_letter byte = nat_le 97 byte && nat_le byte 122

-- `a` to `z` and `0` to `9`
abbrev pub is_letter_or_digit : ℕ → Bool
is_letter_or_digit byte = is_letter byte || (nat_le 48 byte && nat_le byte 57)

-- the words that an event's line has in a client's place
abbrev pub is_reserved : List ℕ → Bool
is_reserved name = bytes_eq name (codes "leader") || bytes_eq name (codes "watch") || bytes_eq name (codes "client")

abbrev pub starts_with_letter : List ℕ → Bool
starts_with_letter [] = false
starts_with_letter (b ∷ bs) = is_letter b

-- A client's name has letters and digits, a letter first, at most 32 of them, and isn't reserved.
abbrev pub is_client_name : List ℕ → Bool
is_client_name name = starts_with_letter name && list_all is_letter_or_digit name && nat_le (length name) 32 && not (is_reserved name)

-- no two of the names are alike
abbrev pub are_distinct : List Name → Bool
are_distinct [] = true
are_distinct (n ∷ ns) = not (has_name n ns) && are_distinct ns

-- The names of a deployment's clients: at most 64, no two alike.
abbrev pub are_client_names : List Name → Bool
are_client_names names = list_all is_client_name names && are_distinct names && nat_le (length names) 64

-- What the words of a transaction's act say.
use Rattle.std.specs.Prelude.{ℕ, nat_le, Bool, if◌then◌else◌, ◌&&◌, ◌||◌, List, [], ◌∷◌, ◌++◌, codes, Option, Some, None}
use Prim.Native.Nat.{suc, zero}
use Rattle.std.specs.Str.{bytes_eq}
use Rattle.fk_base.specs.Digits.{expected_of}
use Rattle.fk_tree.specs.declared.request.Part.{Part}
use Rattle.fk_tree.specs.declared.request.Part.TheVariants as part
use Rattle.fk_print.specs.Words.{Text}
use Rattle.fk_print.specs.declared.line.Act.{Act}
use Rattle.fk_print.specs.declared.line.Act.TheVariants as act
use Rattle.fk_read.specs.Reads.{take, then_read, then_word}
use Rattle.fk_read.specs.ReadWords.{data_of, number_of, path_of_word}

-- so many items, behind those that were read
abbrev pub take_onto : {A : Type 0} → (List Text → Option (A × List Text)) → ℕ → List A → List Text → Option (List A × List Text)
take_onto take_one zero items words = Some (items, words)
take_onto take_one (suc n) items words = then_read (take_one words) λ item rest. take_onto take_one n (items ++ item ∷ []) rest

abbrev pub is_seq : Text → Bool
is_seq flags = bytes_eq flags (codes "s") || bytes_eq flags (codes "se")

abbrev pub is_eph : Text → Bool
is_eph flags = bytes_eq flags (codes "e") || bytes_eq flags (codes "se")

-- a part of a multi
abbrev pub take_part : List Text → Option (Part × List Text)
take_part words = then_word words λ word rest.
    if bytes_eq word (codes "create") then (then_word rest λ flags rest. then_read (take path_of_word rest) λ path rest. then_read (take data_of rest) λ bytes rest. Some (part.Create path bytes (bytes_eq flags (codes "e")), rest))
    else (then_read (take expected_of rest) λ version rest. then_read (take path_of_word rest) λ path rest.
    if bytes_eq word (codes "set") then (then_read (take data_of rest) λ bytes rest. Some (part.Set path bytes version, rest)) else Some (part.Delete path version, rest))

abbrev pub create_act : List Text → Option Act
create_act words =
    then_word words λ flags rest. then_read (take path_of_word rest) λ path rest. then_read (take data_of rest) λ bytes rest.
    Some (act.Create path bytes (is_seq flags) (is_eph flags))

abbrev pub set_act : List Text → Option Act
set_act words =
    then_read (take expected_of words) λ version rest. then_read (take path_of_word rest) λ path rest. then_read (take data_of rest) λ bytes rest.
    Some (act.Set path bytes version)

abbrev pub multi_act : List Text → Option Act
multi_act words = then_read (take number_of words) λ count rest.
    if nat_le 1 count && nat_le count 16 then (then_read (take_onto take_part count [] rest) λ parts rest. Some (act.Multi parts)) else None

-- what a transaction did
abbrev pub act_of : List Text → Option Act
act_of words = then_word words λ word rest.
    if bytes_eq word (codes "create") then create_act rest
    else if bytes_eq word (codes "set") then set_act rest
    else if bytes_eq word (codes "delete") then (then_read (take expected_of rest) λ version rest. then_read (take path_of_word rest) λ path rest. Some (act.Delete path version))
    else if bytes_eq word (codes "multi") then multi_act rest
    else (then_read (take number_of rest) λ count rest. then_read (take_onto (take path_of_word) count [] rest) λ gone rest. Some (act.Close (bytes_eq word (codes "evict")) gone))

-- The command that `clap` is told of, and what it takes of the words.
use Rattle.std.specs.Prelude.{List, [], ◌∷◌, ◌++◌, Bool, true, Option, Some, None, codes, ◌==◌, not, is_some, ◌&&◌, length, if◌then◌else◌}
use Rattle.std.specs.Option.{option_map_or}
use Rattle.std.specs.List.{list_any}
use Rattle.std.specs.Str.{bytes_eq, chars}
use Rattle.clap.specs.Words.{App, Rule, new_app, new_rule, with_rule}
use Rattle.clap.specs.Lexer.{long_of, short_of}
use Rattle.clap.specs.Simple.{on_top}
use Rattle.clap.specs.declared.builder.ArgAction.TheVariants.{SetTrue}
use Rattle.fk_words.specs.Words.{Word}

abbrev pub summary_rule : Rule
summary_rule = record (new_rule (codes "summary")) { long = Some (codes "summary"); action = Some SetTrue }

abbrev pub gen_rule : Rule
gen_rule = record (new_rule (codes "gen")) { long = Some (codes "gen") }

abbrev pub size_rule : Rule
size_rule = record (new_rule (codes "size")) { long = Some (codes "size") }

-- no name of the program before the words, and no `--help`
abbrev pub bare : App
bare = on_top (λ s. record s { no_binary_name = true; disable_help_flag = true }) (new_app (codes "fkrun"))

abbrev pub app : App
app = with_rule (with_rule (with_rule bare summary_rule) gen_rule) size_rule

-- an option that takes a value
pub data Key : Type 0 where
  gen : Key
  size : Key

-- what one or two words say
pub data Item : Type 0 where
  summary : Item
  given : Key → Word → Item

abbrev pub key_name : Key → Word
key_name gen = codes "gen"
key_name size = codes "size"

abbrev pub item_name : Item → Word
item_name summary = codes "summary"
item_name (given k v) = key_name k

-- an item of this name is among them
abbrev pub has : List Item → Word → Bool
has items name = list_any (λ i. bytes_eq (item_name i) name) items

-- the word is no `--NAME` and no `-x`
abbrev pub is_value : Word → Bool
is_value word = not (is_some (long_of word)) && option_map_or (λ flags. length (chars flags) == 0) (short_of word) true

abbrev pub Next : Type 0
Next = List Item → Option Key → Option (List Item)

abbrev pub add : List Item → Item → Next → Option (List Item)
add items i next = if has items (item_name i) then None else next (items ++ i ∷ []) None

abbrev pub flag : List Item → Option Word → Next → Option (List Item)
flag items None next = add items summary next
flag items (Some v) next = None

abbrev pub option : Key → List Item → Option Word → Next → Option (List Item)
option k items None next = next items (Some k)
option k items (Some v) next = add items (given k v) next

abbrev pub named : List Item → Word → Option Word → Next → Option (List Item)
named items name v next =
    if bytes_eq (codes "summary") name then flag items v next
    else (if bytes_eq (codes "gen") name then option gen items v next
    else (if bytes_eq (codes "size") name then option size items v next else None))

abbrev pub begun : List Item → Option (Word × Option Word) → Next → Option (List Item)
begun items None next = None
begun items (Some p) next = named items p.0 p.1 next

abbrev pub step : List Item → Option Key → Word → Next → Option (List Item)
step items None word next = begun items (long_of word) next
step items (Some k) word next = if is_value word then add items (given k word) next else None

abbrev pub ended : List Item → Option Key → Option (List Item)
ended items None = Some items
ended items (Some k) = None

-- the items of the words, after those that are there
unfoldable pub read : List Item → Option Key → List Word → Option (List Item)
read items waiting [] = ended items waiting
read items waiting (word ∷ words) = step items waiting word (λ more next. read more next words)

abbrev pub has_dashes : List Word → Bool
has_dashes words = list_any (λ word. bytes_eq word (codes "--")) words

-- `clap` ends its options at a word `--`; here it is no word of a command line
abbrev pub line_of : List Word → Option (List Item)
line_of words = if has_dashes words then None else read [] None words

-- the value of an option
abbrev pub value_of : Key → List Item → Option Word
value_of k [] = None
value_of k (summary ∷ items) = value_of k items
value_of k (given j v ∷ items) = if bytes_eq (key_name j) (key_name k) then Some v else value_of k items

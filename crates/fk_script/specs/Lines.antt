-- How the bytes of a deployment file are cut into lines, and a line into words.
use Rattle.std.specs.Prelude.{ℕ, ◌==◌, Bool, true, false, if◌then◌else◌, not, List, [], ◌∷◌, length, filter}
use Rattle.std.specs.List.{list_any, slice_split}
use Rattle.std.specs.Str.{bytes_eq}

-- a word, by its bytes
abbrev pub Word : Type 0
Word = List ℕ

-- a line, and whether a line feed ends it
pub record Line : Type 0 where
  pub text : List ℕ
  pub ended : Bool

-- one byte more at the front of the first line
abbrev pub onto_line : ℕ → List Line → List Line
onto_line byte [] = record { text = byte ∷ []; ended = false } ∷ []
onto_line byte (l ∷ ls) = record { text = byte ∷ l.text; ended = l.ended } ∷ ls

abbrev pub is_line_feed : ℕ → Bool
is_line_feed byte = byte == 10

-- Each line feed ends a line. What is left behind the last one is a line without a line feed, unless it is empty.
abbrev pub lines : List ℕ → List Line
lines [] = []
lines (b ∷ bs) = if is_line_feed b then record { text = []; ended = true } ∷ lines bs else onto_line b (lines bs)

abbrev pub is_empty : Word → Bool
is_empty word = length word == 0

abbrev pub is_space : ℕ → Bool
is_space byte = byte == 32

-- One or more spaces separate words; those at the start and the end of a line don't count.
abbrev pub words : List ℕ → List Word
words text = filter (λ word. not (is_empty word)) (slice_split is_space text)

-- whether it is this word
abbrev pub is : Word → Word → Bool
is a b = bytes_eq a b

-- whether it is one of these words
abbrev pub is_one_of : List Word → Word → Bool
is_one_of names word = list_any (is word) names

-- whether a word stands there twice
abbrev pub has_repeated : List Word → Bool
has_repeated [] = false
has_repeated (w ∷ ws) = if is_one_of ws w then true else has_repeated ws

abbrev pub starts_with : ℕ → Word → Bool
starts_with byte [] = false
starts_with byte (b ∷ bs) = b == byte

-- the first word; it is empty where there is none
abbrev pub first : List Word → Word
first [] = []
first (w ∷ ws) = w

-- the second word; it is empty where there is none
abbrev pub second : List Word → Word
second [] = []
second (w ∷ ws) = first ws

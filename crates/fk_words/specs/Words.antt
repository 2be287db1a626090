-- The words of a command line, and what they ask for.
use Rattle.std.specs.Prelude.{ℕ, ◌≤◌, ◌==◌, ◌&&◌, ◌||◌, nat_le, Bool, true, false, if◌then◌else◌, List, [], ◌∷◌, ◌++◌, codes, length, Option, Some, None, option_and_then, is_some}
use Rattle.std.specs.Str.{all_ascii_digits, bytes_eq}
use Rattle.std.specs.Str.Parse.{digits_value}
use Rattle.fk_words.specs.declared.words.Asked.{Asked}
use Rattle.fk_words.specs.declared.words.Load.{Load}

-- a word, as its bytes
abbrev pub Word : Type 0
Word = List ℕ

-- The words that take a value: the word after them, or what follows a `=`.
abbrev pub takes_value : Word → Bool
takes_value word = bytes_eq word (codes "--gen") || bytes_eq word (codes "--size")

-- Each option in one word with its value: `--gen 7` is `--gen=7`.
abbrev pub joined : List Word → List Word
joined [] = []
joined (w ∷ []) = w ∷ []
joined (w ∷ v ∷ ws) = if takes_value w then (w ++ codes "=" ++ v) ∷ joined ws else w ∷ joined (v ∷ ws)

-- what stands in a word behind these bytes at its front
abbrev pub behind : List ℕ → Word → Option Word
behind [] word = Some word
behind (c ∷ cs) [] = None
behind (c ∷ cs) (d ∷ ds) = if c == d then behind cs ds else None

-- What the words so far say.
pub record Heard : Type 0 where
  pub summary : Bool
  pub gen : Option Word
  pub size : Option Word

abbrev pub nothing : Heard
nothing = record { summary = false; gen = None; size = None }

-- Nothing is said twice.
abbrev pub hear_summary : Heard → Option Heard
hear_summary h = if h.summary then None else Some (record { summary = true; gen = h.gen; size = h.size })

abbrev pub hear_gen : Heard → Word → Option Heard
hear_gen h v = if is_some h.gen then None else Some (record { summary = h.summary; gen = Some v; size = h.size })

abbrev pub hear_size : Heard → Word → Option Heard
hear_size h v = if is_some h.size then None else Some (record { summary = h.summary; gen = h.gen; size = Some v })

abbrev pub hear_valued : Heard → Option Word → Option Word → Option Heard
hear_valued h (Some v) size = hear_gen h v
hear_valued h None (Some v) = hear_size h v
hear_valued h None None = None

-- One word more: `--summary`, `--gen=NUMBER` or `--size=N`, and no other.
abbrev pub hear : Heard → Word → Option Heard
hear h word =
    if bytes_eq word (codes "--summary") then hear_summary h
    else hear_valued h (behind (codes "--gen=") word) (behind (codes "--size=") word)

abbrev pub hear_all : Heard → List Word → Option Heard
hear_all h [] = Some h
hear_all h (w ∷ ws) = option_and_then (λ more. hear_all more ws) (hear h w)

-- the number that 1 to `most` decimal digits write
abbrev pub number_of : ℕ → Word → Option ℕ
number_of most word =
    if all_ascii_digits word && nat_le 1 (length word) && nat_le (length word) most
    then Some (digits_value 10 word) else None

-- how many commands a client of a deployment that is made may have
abbrev pub IsSized : Load → Type 0
IsSized load = (1 ≤ load.size) × (load.size ≤ 500)

-- NUMBER has at most nine digits; N has at most three, and is from 1 to 500.
abbrev pub load_with : Bool → Option ℕ → Option ℕ → Option Asked
load_with summary (Some number) (Some size) =
    if nat_le 1 size && nat_le size 500
    then Some (record { load = Some (record { number = number; size = size }); summary = summary })
    else None
load_with summary number size = None

-- `--gen` and `--size` stand both or neither.
abbrev pub load_of : Bool → Option Word → Option Word → Option Asked
load_of summary None None = Some (record { load = None; summary = summary })
load_of summary (Some gen) (Some size) = load_with summary (number_of 9 gen) (number_of 3 size)
load_of summary gen size = None

abbrev pub asked_of : Heard → Option Asked
asked_of h = load_of h.summary h.gen h.size

-- What the words ask for; none where they are not accepted.
abbrev pub words_meaning : List Word → Option Asked
words_meaning words = option_and_then asked_of (hear_all nothing (joined words))

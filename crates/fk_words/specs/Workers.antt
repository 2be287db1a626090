-- The words of a program that plays by workers, and how many they ask for.
use Rattle.std.specs.Prelude.{ℕ, ◌≤◌, ◌&&◌, nat_le, if◌then◌else◌, List, [], ◌∷◌, codes, Option, Some, None, option_and_then}
use Rattle.std.specs.Str.{bytes_eq}
use Rattle.fk_words.specs.Words.{Word, behind, number_of}

-- how many workers there may be
abbrev pub IsCrew : ℕ → Type 0
IsCrew n = (1 ≤ n) × (n ≤ 16)

abbrev pub crew_of : ℕ → Option ℕ
crew_of n = if nat_le 1 n && nat_le n 16 then Some n else None

-- N has one or two decimal digits, and is from 1 to 16
abbrev pub count_of : Word → Option ℕ
count_of number = option_and_then crew_of (number_of 2 number)

-- `--workers=N`
abbrev pub count_in : Word → Option ℕ
count_in word = option_and_then count_of (behind (codes "--workers=") word)

-- How many workers the words ask for; none where they are not accepted. Without words there are four.
abbrev pub worker_count : List Word → Option ℕ
worker_count [] = Some 4
worker_count (word ∷ []) = count_in word
worker_count (word ∷ number ∷ []) = if bytes_eq word (codes "--workers") then count_of number else None
worker_count (word ∷ number ∷ more ∷ words) = None

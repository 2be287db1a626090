-- How an operation that has conditions ended.
use Rattle.std.specs.Prelude.{ℕ, if◌then◌else◌, List, codes, Option, Some}
use Rattle.std.specs.Option.{option_and_then}
use Rattle.std.specs.Str.{bytes_eq}
use Rattle.fk_print.specs.Words.{Text}
use Rattle.fk_read.specs.Reads.{option_or_else, take, then_read, then_word}
use Rattle.fk_read.specs.ReadWords.{at_of, number_of, path_of_word, small_of}
use Rattle.fk_read.specs.declared.ending.Ending.{Ending}
use Rattle.fk_read.specs.declared.ending.Ending.TheVariants as ending

-- a lock that isn't the request's any more
abbrev pub lock_of : List Text → Option Ending
lock_of words =
    then_read (take path_of_word words) λ path rest. then_read (take number_of rest) λ holder rest. then_read (take number_of rest) λ moment rest.
    Some (ending.Lock path holder moment)

-- `settled` and a number, or a lock
abbrev pub miss_of : List Text → Option Ending
miss_of words = then_word words λ word rest.
    if bytes_eq word (codes "settled") then (then_read (take number_of rest) λ settled rest. Some (ending.Settled settled)) else lock_of rest

-- `ok`, or a miss
abbrev pub ending_of : List Text → Option Ending
ending_of words = then_word words λ word rest.
    if bytes_eq word (codes "ok") then Some ending.Done else miss_of rest

-- a part's place, 0 where none is said, and a number behind `@`
abbrev pub spot_by : Text → List Text → Option ((ℕ × ℕ) × List Text)
spot_by word rest =
    option_or_else (at_of word) (λ m. Some ((0, m), rest)) (option_and_then (λ place. then_read (take at_of rest) λ m rest. Some ((place, m), rest)) (small_of word))

abbrev pub take_spot : List Text → Option ((ℕ × ℕ) × List Text)
take_spot words = then_word words spot_by

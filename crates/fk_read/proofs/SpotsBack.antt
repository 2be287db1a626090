-- A place and a number behind `@`, and the first word of an operation.
use Rattle.std.proofs.Common.{◌≡◌, ℕ, Bool, true, false, cond, List, [], ◌∷◌, ◌++◌, Some, None, refl, arith}
use Rattle.std.specs.Prelude.{◌&&◌, ◌==◌}
use Rattle.std.specs.List.{flat_map}
use Rattle.std.specs.Fmt.{decimal}
use Rattle.std.specs.Char.{is_ascii_digit}
use Rattle.std.specs.Str.{all_ascii_digits}
use Rattle.std.proofs.lemmas.Bool.Decides.{nat_tests}
use Rattle.fk_print.specs.Words.{Text, at, place_words}
use Rattle.fk_print.specs.OpText.{word_text}
use Rattle.fk_base.specs.Limits.{IsNumber, IsSmall}
use Rattle.fk_print.specs.declared.op.Word.{Word}
use Rattle.fk_print.specs.declared.op.Word.TheVariants as word
use Rattle.fk_read.specs.Cut.{words_in}
use Rattle.fk_read.specs.Reads.{take}
use Rattle.fk_read.specs.ReadEnding.{take_spot}
use Rattle.fk_read.specs.ReadOp.{word_of}
use Rattle.fk_read.specs.ReadWords.{at_of}
use Rattle.fk_base.proofs.Numerals.{decimal_digits}
use Rattle.fk_read.proofs.WordsBack.{at_back, bare_at, bare_decimal, is_bare, small_back, take_back, words_in_bare}

digit_no_at : (c : ℕ) (rest : Bool) → (is_ascii_digit c && rest) ≡ true → (c == 64) ≡ false
digit_no_at c rest h = grind (arith, nat_tests)

pub digits_no_at : (ds : Text) → all_ascii_digits ds ≡ true → at_of ds ≡ None
unfolding at_of
digits_no_at [] h = refl
digits_no_at (c ∷ ds) h = rw (digit_no_at c (all_ascii_digits ds) h) refl

pub take_at : (m : ℕ) → IsNumber m → (rest : List Text) → take at_of (words_in (at m) ++ rest) ≡ Some (m, rest)
take_at m l rest = take_back at_of (at m) m rest (bare_at m l) (at_back m l)

pub take_spot_back : (place m : ℕ) → IsSmall place → IsNumber m → (rest : List Text)
    → take_spot (flat_map words_in (place_words place ++ at m ∷ rest)) ≡ Some ((place, m), flat_map words_in rest)
take_spot_back place m small l rest = step (place == 0) refl
  where
    step : (b : Bool) → (place == 0) ≡ b → take_spot (flat_map words_in (cond b [] (decimal place ∷ []) ++ at m ∷ rest)) ≡ Some ((place, m), flat_map words_in rest)
    step true e = let zero_is : place ≡ 0 = grind (arith, nat_tests) in rw (words_in_bare (at m) (bare_at m l), at_back m l, zero_is) refl
    step false e = rw (words_in_bare (decimal place) (bare_decimal place (omega arith)), digits_no_at (decimal place) (decimal_digits place (omega arith)), small_back place small, take_at m l) refl

pub bare_word : (w : Word) → is_bare (word_text w) ≡ true
bare_word word.Session = refl
bare_word word.Owned = refl
bare_word word.Lock = refl
bare_word word.Push = refl
bare_word word.Commit = refl
bare_word word.Refuse = refl
bare_word word.Lost = refl
bare_word word.Reply = refl
bare_word word.Ack = refl
bare_word word.Pending = refl
bare_word word.Drop = refl
bare_word word.Sweep = refl
bare_word word.Put = refl
bare_word word.Publish = refl
bare_word word.Notify = refl
bare_word word.Done = refl
bare_word word.Tell = refl
bare_word word.Told = refl
bare_word word.Probe = refl
bare_word word.Ping = refl
bare_word word.Note = refl
bare_word word.Evict = refl

word_back : (w : Word) → word_of (word_text w) ≡ Some w
unfolding word_of
word_back word.Session = refl
word_back word.Owned = refl
word_back word.Lock = refl
word_back word.Push = refl
word_back word.Commit = refl
word_back word.Refuse = refl
word_back word.Lost = refl
word_back word.Reply = refl
word_back word.Ack = refl
word_back word.Pending = refl
word_back word.Drop = refl
word_back word.Sweep = refl
word_back word.Put = refl
word_back word.Publish = refl
word_back word.Notify = refl
word_back word.Done = refl
word_back word.Tell = refl
word_back word.Told = refl
word_back word.Probe = refl
word_back word.Ping = refl
word_back word.Note = refl
word_back word.Evict = refl

pub take_word : (w : Word) (rest : List Text) → take word_of (words_in (word_text w) ++ rest) ≡ Some (w, rest)
take_word w rest = take_back word_of (word_text w) w rest (bare_word w) (word_back w)

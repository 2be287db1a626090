-- What each word of a line reads back to.
use Rattle.std.proofs.Common.{◌≡◌, ℕ, ◌<◌, ◌^◌, Bool, true, false, List, [], ◌∷◌, ◌++◌, Option, Some, refl, arith}
use Rattle.std.specs.Prelude.{◌&&◌, nat_le}
use Rattle.std.specs.List.{AllByRecursion, list_all}
use Rattle.std.specs.Fmt.{decimal}
use Rattle.std.specs.Char.{is_ascii_digit}
use Rattle.std.specs.Str.{all_ascii_digits}
use Rattle.std.proofs.lemmas.Bool.Decides.{nat_tests}
use Rattle.fk_base.specs.Path.{Name, PathNames, are_names, is_name, has_barred, names_text, path_text}
use Rattle.fk_base.specs.Code.{name_of}
use Rattle.fk_base.specs.declared.code.Code.{Code}
use Rattle.fk_base.specs.declared.code.Code.TheVariants as code
use Rattle.fk_base.proofs.Numerals.{below_back, decimal_digits}
use Rattle.fk_base.proofs.PathTexts.{name_clean, text_reads_back}
use Rattle.fk_print.specs.Words.{Text, at}
use Rattle.fk_base.specs.Limits.{IsNumber, IsSmall, IsPath}
use Rattle.fk_read.specs.Cut.{is_byte_at, words_in}
use Rattle.fk_read.specs.Reads.{take}
use Rattle.fk_read.specs.ReadWords.{at_of, code_of, number_of, small_of, path_of_word}
use Rattle.fk_read.proofs.Cuts.{cut_none}
use Rattle.fk_base.proofs.Logic.{and_both, and_left, and_right}

-- every byte is beyond the space
abbrev pub is_bare : Text → Bool
is_bare = list_all (λ b. nat_le 33 b)

no_space : (b : ℕ) → nat_le 33 b ≡ true → is_byte_at 32 b ≡ false
no_space b e = grind (arith, nat_tests)

bare_clear : (w : Text) → is_bare w ≡ true → AllByRecursion (λ b. is_byte_at 32 b ≡ false) w
bare_clear [] e = tt
bare_clear (b ∷ w) e = (no_space b (and_left (nat_le 33 b) (is_bare w) e), bare_clear w (and_right (nat_le 33 b) (is_bare w) e))

-- a bare word is one word
pub words_in_bare : (w : Text) → is_bare w ≡ true → words_in w ≡ w ∷ []
words_in_bare w e = cut_none (is_byte_at 32) w (bare_clear w e)

-- and is taken from the front
pub take_back : {A : Type 0} (read : Text → Option A) (w : Text) (x : A) (rest : List Text)
    → is_bare w ≡ true → read w ≡ Some x → take read (words_in w ++ rest) ≡ Some (x, rest)
unfolding take
take_back read w x rest bare e = rw (words_in_bare w bare, e) refl

-- numbers

digit_bare : (c : ℕ) (rest : Bool) → (is_ascii_digit c && rest) ≡ true → (nat_le 33 c ≡ true) × (rest ≡ true)
digit_bare c rest h = (grind (arith, nat_tests), grind (arith, nat_tests))

digits_bare : (ds : Text) → all_ascii_digits ds ≡ true → is_bare ds ≡ true
digits_bare [] h = refl
digits_bare (c ∷ ds) h = let s = digit_bare c (all_ascii_digits ds) h in rw (s.0, digits_bare ds s.1) refl

pub bare_decimal : (n : ℕ) → n < 2 ^ 64 → is_bare (decimal n) ≡ true
bare_decimal n l = digits_bare (decimal n) (decimal_digits n l)

pub number_back : (n : ℕ) → IsNumber n → number_of (decimal n) ≡ Some n
unfolding number_of
number_back n l = below_back (2 ^ 63) n l (omega arith)

pub small_back : (n : ℕ) → IsSmall n → small_of (decimal n) ≡ Some n
unfolding small_of
small_back n l = below_back (2 ^ 32) n l (omega arith)

pub take_number : (n : ℕ) → IsNumber n → (rest : List Text) → take number_of (words_in (decimal n) ++ rest) ≡ Some (n, rest)
take_number n l rest = take_back number_of (decimal n) n rest (bare_decimal n (omega arith)) (number_back n l)

pub take_small : (n : ℕ) → IsSmall n → (rest : List Text) → take small_of (words_in (decimal n) ++ rest) ≡ Some (n, rest)
take_small n l rest = take_back small_of (decimal n) n rest (bare_decimal n (omega arith)) (small_back n l)

pub bare_at : (n : ℕ) → IsNumber n → is_bare (at n) ≡ true
bare_at n l = bare_decimal n (omega arith)

pub at_back : (n : ℕ) → IsNumber n → at_of (at n) ≡ Some n
unfolding at_of
at_back n l = number_back n l

-- codes

pub bare_code : (c : Code) → is_bare (name_of c) ≡ true
bare_code code.SystemError = refl
bare_code code.ConnectionLoss = refl
bare_code code.BadArguments = refl
bare_code code.NoNode = refl
bare_code code.BadVersion = refl
bare_code code.NoChildrenForEphemerals = refl
bare_code code.NodeExists = refl
bare_code code.NotEmpty = refl
bare_code code.SessionExpired = refl

pub code_back : (c : Code) → code_of (name_of c) ≡ Some c
unfolding code_of
code_back code.SystemError = refl
code_back code.ConnectionLoss = refl
code_back code.BadArguments = refl
code_back code.NoNode = refl
code_back code.BadVersion = refl
code_back code.NoChildrenForEphemerals = refl
code_back code.NodeExists = refl
code_back code.NotEmpty = refl
code_back code.SessionExpired = refl

-- paths

barred_bare : (c : ℕ) (n : Text) → has_barred (c ∷ n) ≡ false → (nat_le 33 c ≡ true) × (has_barred n ≡ false)
barred_bare c n h = (grind (arith, nat_tests), grind (arith, nat_tests))

unbarred_bare : (n : Text) → has_barred n ≡ false → is_bare n ≡ true
unbarred_bare [] h = refl
unbarred_bare (c ∷ n) h = let s = barred_bare c n h in rw (s.0, unbarred_bare n s.1) refl

pub bare_name : (n : Name) → is_name n ≡ true → is_bare n ≡ true
bare_name n e = unbarred_bare n (name_clean n e)

pub bare_append : (a b : Text) → is_bare a ≡ true → is_bare b ≡ true → is_bare (a ++ b) ≡ true
bare_append [] b e f = f
bare_append (c ∷ a) b e f = and_both (nat_le 33 c) (is_bare (a ++ b)) (and_left (nat_le 33 c) (is_bare a) e) (bare_append a b (and_right (nat_le 33 c) (is_bare a) e) f)

bare_names : (ns : List Name) → are_names ns ≡ true → is_bare (names_text ns) ≡ true
bare_names [] e = refl
bare_names (n ∷ ns) e = bare_append n (names_text ns) (bare_name n (and_left (is_name n) (are_names ns) e)) (bare_names ns (and_right (is_name n) (are_names ns) e))

pub bare_path : (p : PathNames) → IsPath p → is_bare (path_text p) ≡ true
bare_path [] f = refl
bare_path (n ∷ ns) f = bare_names (n ∷ ns) f.0

pub path_back : (p : PathNames) → IsPath p → path_of_word (path_text p) ≡ Some p
unfolding path_of_word
path_back p f = rw (f.1) (text_reads_back p f.0)

pub take_path : (p : PathNames) → IsPath p → (rest : List Text) → take path_of_word (words_in (path_text p) ++ rest) ≡ Some (p, rest)
take_path p f rest = take_back path_of_word (path_text p) p rest (bare_path p f) (path_back p f)

pub take_code : (c : Code) (rest : List Text) → take code_of (words_in (name_of c) ++ rest) ≡ Some (c, rest)
take_code c rest = take_back code_of (name_of c) c rest (bare_code c) (code_back c)

pub words_in_decimal : (n : ℕ) → IsNumber n → words_in (decimal n) ≡ decimal n ∷ []
words_in_decimal n l = words_in_bare (decimal n) (bare_decimal n (omega arith))

-- Words that don't break a line: no byte of theirs is below the space.
use Rattle.std.proofs.Common.{◌≡◌, ℕ, Bool, true, false, cond, List, [], ◌∷◌, ◌++◌, map, refl, arith}
use Rattle.std.specs.Prelude.{◌&&◌, ◌==◌, nat_le}
use Rattle.std.specs.List.{AllByRecursion, list_all}
use Rattle.std.specs.Fmt.{decimal}
use Rattle.std.proofs.lemmas.Bool.Decides.{nat_tests}
use Rattle.fk_base.specs.Path.{Name, PathNames, path_text}
use Rattle.fk_base.specs.Code.{name_of}
use Rattle.fk_base.specs.declared.code.Code.{Code}
use Rattle.fk_print.specs.ClientNames.{are_client_names}
use Rattle.fk_print.specs.Words.{Text, at, client, place_words}
use Rattle.fk_print.specs.OpText.{word_text}
use Rattle.fk_print.specs.WellFormed.{IsClient, IsShownName}
use Rattle.fk_base.specs.Limits.{IsNumber, IsPath, IsSmall}
use Rattle.fk_print.specs.declared.op.Word.{Word}
use Rattle.fk_read.proofs.WordsBack.{bare_at, bare_code, bare_decimal, bare_name, bare_path, is_bare}
use Rattle.fk_read.proofs.ClientsBack.{bare_client}
use Rattle.fk_read.proofs.SpotsBack.{bare_word}
use Rattle.fk_base.proofs.Logic.{and_both}

abbrev pub is_shown : Text → Bool
is_shown = list_all (λ b. nat_le 32 b)

abbrev pub AreShown : List Text → Type 0
AreShown = AllByRecursion (λ w. is_shown w ≡ true)

shown_byte : (b : ℕ) (rest : Bool) → (nat_le 33 b && rest) ≡ true → (nat_le 32 b ≡ true) × (rest ≡ true)
shown_byte b rest e = (grind (arith, nat_tests), grind (arith, nat_tests))

pub bare_shown : (w : Text) → is_bare w ≡ true → is_shown w ≡ true
bare_shown [] e = refl
bare_shown (b ∷ w) e = let s = shown_byte b (is_bare w) e in and_both (nat_le 32 b) (is_shown w) s.0 (bare_shown w s.1)

pub wide : (n : ℕ) → IsSmall n → IsNumber n
wide n l = omega arith

pub shown_decimal : (n : ℕ) → IsNumber n → is_shown (decimal n) ≡ true
shown_decimal n l = bare_shown (decimal n) (bare_decimal n (omega arith))

pub shown_client : (names : List Name) (c : ℕ) → are_client_names names ≡ true → IsClient names c → is_shown (client names c) ≡ true
shown_client names c w f = bare_shown (client names c) (bare_client names c w f)

pub shown_path : (p : PathNames) → IsPath p → is_shown (path_text p) ≡ true
shown_path p f = bare_shown (path_text p) (bare_path p f)

pub shown_code : (c : Code) → is_shown (name_of c) ≡ true
shown_code c = bare_shown (name_of c) (bare_code c)

pub shown_word : (w : Word) → is_shown (word_text w) ≡ true
shown_word w = bare_shown (word_text w) (bare_word w)

pub shown_at : (n : ℕ) → IsNumber n → is_shown (at n) ≡ true
shown_at n l = bare_shown (at n) (bare_at n l)

pub shown_spot : (place m : ℕ) (rest : List Text) → IsSmall place → IsNumber m → AreShown rest → AreShown (place_words place ++ at m ∷ rest)
shown_spot place m rest small l r = step (place == 0)
  where
    step : (b : Bool) → AreShown (cond b [] (decimal place ∷ []) ++ at m ∷ rest)
    step true = (shown_at m l, r)
    step false = (shown_decimal place (wide place small), (shown_at m l, r))

pub shown_append : (a b : List Text) → AreShown a → AreShown b → AreShown (a ++ b)
shown_append [] b e f = f
shown_append (w ∷ a) b e f = (e.0, shown_append a b e.1 f)

pub shown_paths : (paths : List PathNames) → AllByRecursion IsPath paths → AreShown (map path_text paths)
shown_paths [] each = tt
shown_paths (p ∷ paths) each = (shown_path p each.0, shown_paths paths each.1)

pub shown_names : (names : List Name) → AllByRecursion IsShownName names → AreShown names
shown_names [] each = tt
shown_names (n ∷ names) each = (bare_shown n (bare_name n each.0.0), shown_names names each.1)

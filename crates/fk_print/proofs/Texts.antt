-- Names behind names, and plain bytes.
use Rattle.std.proofs.Common.{◌≡◌, ℕ, ◌<◌, Bool, true, false, ◌&&◌, sym, ◌∙◌, ap, List, [], ◌∷◌, ◌++◌, codes, append_assoc, arith}
use Rattle.std.proofs.lemmas.Bool.Decides.{nat_tests}
use Rattle.std.proofs.lemmas.Str.{IsUtf8-from_ascii}
use Rattle.std.proofs.lemmas.Str.Ascii.{IsAscii-nil, IsAscii-cons}
use Rattle.std.specs.Str.{IsAscii, IsUtf8}
use Rattle.std.specs.List.{list_all}
use Rattle.std.proofs.lemmas.List.{append-nil}
use Rattle.fk_base.specs.Path.{Name, names_text}
use Rattle.fk_print.specs.Words.{is_plain}
use Rattle.fk_base.proofs.Logic.{not_true}

-- a further name goes to the end
pub names_text_more : (names : List Name) (name : Name) → names_text (names ++ name ∷ []) ≡ names_text names ++ (codes "/" ++ name)
names_text_more [] name = append-nil (codes "/" ++ name)
names_text_more (n ∷ names) name = ap (λ r. (codes "/" ++ n) ++ r) (names_text_more names name) ∙ sym (append_assoc (codes "/" ++ n) (names_text names) (codes "/" ++ name))

-- what the test of a first byte says
plain_split : (b : ℕ) (rest : Bool) → (is_plain b && rest) ≡ true → (b < 128) × (rest ≡ true)
plain_split b rest h = (grind (arith, nat_tests), grind (arith, nat_tests))

-- plain bytes are ASCII
pub IsAscii-plain : (bytes : List ℕ) → list_all is_plain bytes ≡ true → IsAscii bytes
IsAscii-plain [] plain = IsAscii-nil
IsAscii-plain (b ∷ bytes) plain =
    let split = plain_split b (list_all is_plain bytes) plain in
    IsAscii-cons b bytes split.0 (IsAscii-plain bytes split.1)

-- so what is no UTF-8 is not plain
pub not_plain : (bytes : List ℕ) → ¬ IsUtf8 bytes → list_all is_plain bytes ≡ false
not_plain bytes no_text =
    not_true (list_all is_plain bytes) (λ plain. no_text (IsUtf8-from_ascii bytes (IsAscii-plain bytes plain)))

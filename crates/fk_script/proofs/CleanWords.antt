-- Words that a line can show: not empty, without spaces and line feeds, and UTF-8.
use Rattle.std.proofs.Common.{◌≡◌, ℕ, ◌<◌, Bool, true, false, List, [], ◌∷◌, ◌++◌, refl, arith}
use Rattle.std.specs.Prelude.{◌==◌, ◌&&◌, not}
use Rattle.std.specs.List.{list_all}
use Rattle.std.specs.Str.{IsUtf8}
use Rattle.std.proofs.lemmas.Bool.{and_parts, and_from}
use Rattle.std.proofs.lemmas.Bool.Decides.{nat_tests}
use Rattle.std.proofs.lemmas.Str.{IsUtf8-from_ascii}
use Rattle.fk_print.specs.Words.{is_plain}
use Rattle.fk_script.specs.Lines.{Word, is_empty}
use Rattle.fk_print.proofs.Texts.{IsAscii-plain}

-- neither a space nor a line feed
abbrev pub is_inner : ℕ → Bool
is_inner byte = not (byte == 32) && not (byte == 10)

pub record IsWord (w : Word) : Type 0 where
  pub full : is_empty w ≡ false
  pub inner : list_all is_inner w ≡ true
  pub text : IsUtf8 w

abbrev pub AreWords : List Word → Type 0
AreWords [] = Unit {0}
AreWords (w ∷ ws) = IsWord w × AreWords ws

pub AreWords-append : (vs ws : List Word) → AreWords vs → AreWords ws → AreWords (vs ++ ws)
AreWords-append [] ws a b = b
AreWords-append (v ∷ vs) ws a b = (a.0, AreWords-append vs ws a.1 b)

-- what plain bytes are
plain_inner : (b : ℕ) → is_plain b ≡ true → (is_inner b ≡ true) × (b < 128)
plain_inner b h = (grind (arith, nat_tests), grind (arith, nat_tests))

pub plain_are_inner : (bytes : List ℕ) → list_all is_plain bytes ≡ true → list_all is_inner bytes ≡ true
plain_are_inner [] h = refl
plain_are_inner (b ∷ bytes) h =
    let both = and_parts (is_plain b) (list_all is_plain bytes) h in
    and_from (is_inner b) (list_all is_inner bytes) (plain_inner b both.0).0 (plain_are_inner bytes both.1)

pub plain_word : (bytes : List ℕ) → is_empty bytes ≡ false → list_all is_plain bytes ≡ true → IsWord bytes
plain_word bytes full h = record { full = full; inner = plain_are_inner bytes h; text = IsUtf8-from_ascii bytes (IsAscii-plain bytes h) }

-- bytes of which each is plain where each passes another test
pub passing_are_plain : (p : ℕ → Bool) (over : (b : ℕ) → p b ≡ true → is_plain b ≡ true) (bytes : List ℕ) → list_all p bytes ≡ true → list_all is_plain bytes ≡ true
passing_are_plain p over [] h = refl
passing_are_plain p over (b ∷ bytes) h =
    let both = and_parts (p b) (list_all p bytes) h in
    and_from (is_plain b) (list_all is_plain bytes) (over b both.0) (passing_are_plain p over bytes both.1)

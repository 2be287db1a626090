-- What a word that is no text says, and a path's.
use Rattle.std.proofs.Common.{◌≡◌, ℕ, true, false, List, Some}
use Rattle.std.specs.Str.{is_utf8, IsUtf8}
use Rattle.std.proofs.lemmas.Str.{IsUtf8-from_is_utf8, is_utf8-from_IsUtf8}
use Rattle.fk_base.specs.Path.{PathNames, path_of}
use Rattle.fk_base.proofs.PathTexts.{reads_its_text}
use Rattle.fk_base.specs.Limits.{IsPath}
use Rattle.fk_read.specs.ReadWords.{path_of_word}
use Rattle.fk_base.proofs.Logic.{not_true}

pub not_utf8 : (bytes : List ℕ) → ¬ IsUtf8 bytes → is_utf8 bytes ≡ false
not_utf8 bytes no_text = not_true (is_utf8 bytes) (λ e. no_text (IsUtf8-from_is_utf8 bytes e))

pub path_is : (word text : List ℕ) (p : PathNames) → text ≡ word → IsUtf8 word → path_of text ≡ Some p → path_of_word word ≡ Some p
unfolding path_of_word
path_is word text p same utf8 is = rw (is_utf8-from_IsUtf8 word utf8, ← same) is

pub utf8_is : (word : List ℕ) → IsUtf8 word → is_utf8 word ≡ true
utf8_is word u = is_utf8-from_IsUtf8 word u

pub path_fits : (word text : List ℕ) (p : PathNames) → text ≡ word → IsUtf8 word → path_of text ≡ Some p → IsPath p
path_fits word text p same utf8 is =
    let read = reads_its_text text p is in
    (read.1, rw (read.0, same) (is_utf8-from_IsUtf8 word utf8))

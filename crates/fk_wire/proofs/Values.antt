-- What is written for a value of a message is fit, and reads back.
use Rattle.std.proofs.Common.{◌≡◌, ℕ, ◌<◌, ◌^◌, ℤ, pos, negsuc, List, [], ◌∷◌, ◌++◌, map, Some, Option, true, option_and_then, refl, sym, ap, ◌∙◌, arith, IsUtf8, append-nil, append_assoc}
use Rattle.std.specs.List.{AllByRecursion}
use Rattle.std.specs.Fmt.{decimal}
use Rattle.std.specs.Result.{result_ok}
use Rattle.std.proofs.lemmas.Str.{IsUtf8-from_ascii, IsUtf8-from_is_utf8, is_utf8-from_IsUtf8}
use Rattle.base64.specs.Engines.{standard}
use Rattle.base64.specs.GeneralPurpose.{decode_of, encode_of}
use Rattle.base64.proofs.EngineFacts.{IsAscii-encode_of, decode_of-encode_of}
use Rattle.json.specs.Json.{Json}
use Rattle.serde_json.specs.Data.{Data}
use Rattle.serde_json.specs.Find.{of_integer}
use Rattle.serde_json.specs.View.{items_of}
use Rattle.serde_json.specs.Written.{items_outline, number_text, outline}
use Rattle.fk_base.specs.Digits.{expected_of, number_below}
use Rattle.fk_base.specs.Path.{PathNames, are_names, path_of, path_text}
use Rattle.fk_base.proofs.Numerals.{below_back, expected_back}
use Rattle.fk_base.proofs.PathTexts.{reads_its_text, text_reads_back}
use Rattle.fk_wire.specs.Json.{bytes_data, items_onto, path_data, path_from, version_number, version_of}
use Rattle.fk_wire.specs.declared.version.Version.{Version}
use Rattle.fk_wire.specs.declared.version.Version.TheVariants as version
use Rattle.fk_base.specs.Limits.{IsData, IsExpected, IsNumber, IsPath, IsSmall}
use Rattle.fk_wire.proofs.Fit.{IsFit, IsFitNumber, AreFitItems}

-- ---- reading

-- what a text means is a path of this text
pub typed_path : (text : List ℕ) (p : PathNames) → IsUtf8 text → path_of text ≡ Some p → IsPath p
typed_path text p utf8 is =
    let back = reads_its_text text p is in
    (back.1, rw back.0 (is_utf8-from_IsUtf8 text utf8))

-- and so is what is written
pub typed_text : (text : List ℕ) (p : PathNames) → are_names p ≡ true → text ≡ path_text p → IsUtf8 text → IsPath p
typed_text text p names is utf8 = (names, rw is at (is_utf8-from_IsUtf8 text utf8))

pub path_back : (p : PathNames) → IsPath p → path_from (outline (path_data p)) ≡ Some p
path_back p h = text_reads_back p h.0

pub bytes_back : (bytes : List ℕ) → IsData bytes → result_ok (decode_of standard (encode_of standard bytes)) ≡ Some bytes
bytes_back bytes h = ap result_ok (decode_of-encode_of standard bytes refl h)

pub number_back : (n : ℕ) → IsNumber n → number_below (2 ^ 63) (decimal n) ≡ Some n
number_back n h = below_back (2 ^ 63) n h (omega arith)

pub small_back : (n : ℕ) → IsSmall n → number_below (2 ^ 32) (decimal n) ≡ Some n
small_back n h = below_back (2 ^ 32) n h (omega arith)

pub wanted_back : (v : ℤ) → IsExpected v → expected_of (number_text (of_integer v)) ≡ Some v
wanted_back (pos v) h = expected_back (pos v) h
wanted_back (negsuc v) h = expected_back (negsuc v) h

-- the items of a list, behind others
pub items_back : {A : Type 0} (read : Json → Option A) (value : A → Data) (P : A → Type 0) → ((x : A) → P x → read (outline (value x)) ≡ Some x)
    → (xs front : List A) → AllByRecursion P xs → items_onto read front (items_outline (items_of (map value xs))) ≡ Some (front ++ xs)
items_back read value P back [] front h = ap Some (sym (append-nil front))
items_back read value P back (x ∷ xs) front h =
    ap (option_and_then (λ y. items_onto read (front ++ y ∷ []) (items_outline (items_of (map value xs))))) (back x h.0)
    ∙ items_back read value P back xs (front ++ x ∷ []) h.1
    ∙ ap Some (append_assoc front (x ∷ []) xs)

-- ---- being fit

pub path_fit : (n : ℕ) (p : PathNames) → IsPath p → IsFit n (path_data p)
path_fit n p h = IsUtf8-from_is_utf8 _ h.1

pub bytes_fit : (n : ℕ) (bytes : List ℕ) → IsFit n (bytes_data bytes)
bytes_fit n bytes = IsUtf8-from_ascii _ (IsAscii-encode_of standard bytes)

pub expected_fit : (v : ℤ) → IsExpected v → IsFitNumber (of_integer v)
expected_fit (pos v) h = omega arith
expected_fit (negsuc v) h = omega arith

pub items_fit : {A : Type 0} (n : ℕ) (value : A → Data) (P : A → Type 0) → ((x : A) → P x → IsFit n (value x))
    → (xs : List A) → AllByRecursion P xs → AreFitItems n (items_of (map value xs))
items_fit n value P fit [] h = tt
items_fit n value P fit (x ∷ xs) h = (fit x h.0, items_fit n value P fit xs h.1)

pub number_fit : (n : ℕ) → n < 2 ^ 63 → n < 2 ^ 64
number_fit n h = omega arith

pub version_fit : (v : Version) → version_number v < 2 ^ 64
version_fit version.One = omega arith
version_fit version.Two = omega arith

-- the version of an object whose other fields are these
pub version_back : (v : Version) → option_and_then version_of (number_below (2 ^ 63) (decimal (version_number v))) ≡ Some v
version_back version.One = rw (number_back 1 (omega arith)) refl
version_back version.Two = rw (number_back 2 (omega arith)) refl

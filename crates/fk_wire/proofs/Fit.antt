-- Data of which the text is UTF-8 and reads back.
use Rattle.std.proofs.Common.{◌≡◌, ℕ, zero, suc, ◌≤◌, ◌<◌, ◌^◌, pos, negsuc, List, [], ◌∷◌, Some, Bool, true, false, option_and_then, refl, sym, ap, ◌∙◌, arith, IsUtf8, append-nil}
use Rattle.std.specs.Prelude.{⊤}
use Rattle.std.proofs.lemmas.Str.{IsUtf8-append, IsUtf8-from_ascii, IsUtf8-nil}
use Rattle.std.proofs.lemmas.Fmt.{IsAscii-decimal}
use Rattle.json.specs.Token.{Token}
use Rattle.json.specs.Lex.{tokens}
use Rattle.json.specs.Json as json
use Rattle.json.specs.Json.{document, max_depth}
use Rattle.json.specs.Print.{quoted, IsNumber}
use Rattle.json.specs.Tree as tree
use Rattle.json.proofs.Printed.Trees.{value-json_tokens, ArePrintable-json_tokens}
use Rattle.json.proofs.Printed.Tokens.{tokens-print}
use Rattle.json.proofs.Printed.Utf8.{IsUtf8-are_ascii, IsUtf8-quoted}
use Rattle.json.proofs.Printed.Decimals.{IsNumber-decimal, IsNumber-signed_decimal}
use Rattle.serde_json.specs.Data.{Data, Num, unsigned, negative, float, null, boolean, number, string, array, object, Items, no_items, item, Members, no_members, member}
use Rattle.serde_json.specs.Written.{compact_text, items_text, members_text, comma_if, number_text, outline, items_outline, members_outline, has_float, items_have_float, members_have_float}
use Rattle.serde_json.specs.Find.{is_float}
use Rattle.serde_json.proofs.Texts.{print-outline}

-- an integer of 64 bits
abbrev pub IsFitNumber : Num → Type 0
IsFitNumber (unsigned n) = n < 2 ^ 64
IsFitNumber (negative (pos n)) = ⊥
IsFitNumber (negative (negsuc n)) = n < 2 ^ 63
IsFitNumber (float x) = ⊥

-- Arrays and objects nest at most so deep, numbers are integers of 64 bits, keys and strings are UTF-8.
abbrev mutual
  pub IsFit : ℕ → Data → Type 0
  IsFit n null = ⊤
  IsFit n (boolean b) = ⊤
  IsFit n (number x) = IsFitNumber x
  IsFit n (string s) = IsUtf8 s
  IsFit zero (array ds) = ⊥
  IsFit (suc n) (array ds) = AreFitItems n ds
  IsFit zero (object ms) = ⊥
  IsFit (suc n) (object ms) = AreFitMembers n ms

  pub AreFitItems : ℕ → Items → Type 0
  AreFitItems n no_items = ⊤
  AreFitItems n (item d ds) = IsFit n d × AreFitItems n ds

  pub AreFitMembers : ℕ → Members → Type 0
  AreFitMembers n no_members = ⊤
  AreFitMembers n (member k d ms) = IsUtf8 k × IsFit n d × AreFitMembers n ms

-- ---- the numbers

number_is : (x : Num) → IsFitNumber x → IsNumber (number_text x)
number_is (unsigned n) h = IsNumber-decimal n h
number_is (negative (pos n)) h = absurd h
number_is (negative (negsuc n)) h = IsNumber-signed_decimal (negsuc n) h
number_is (float x) h = absurd h

mutual
  numbers_are : (n : ℕ) (d : Data) → IsFit n d → tree.HasNumbers (outline d)
  numbers_are n null h = tt
  numbers_are n (boolean b) h = tt
  numbers_are n (number x) h = number_is x h
  numbers_are n (string s) h = tt
  numbers_are zero (array ds) h = absurd h
  numbers_are (suc n) (array ds) h = item_numbers n ds h
  numbers_are zero (object ms) h = absurd h
  numbers_are (suc n) (object ms) h = member_numbers n ms h

  item_numbers : (n : ℕ) (ds : Items) → AreFitItems n ds → tree.ItemsHaveNumbers (items_outline ds)
  item_numbers n no_items h = tt
  item_numbers n (item d ds) h = (numbers_are n d h.0, item_numbers n ds h.1)

  member_numbers : (n : ℕ) (ms : Members) → AreFitMembers n ms → tree.MembersHaveNumbers (members_outline ms)
  member_numbers n no_members h = tt
  member_numbers n (member k d ms) h = (numbers_are n d h.1, member_numbers n ms h.2)

mutual
  is_shallow : (n : ℕ) (d : Data) → IsFit n d → tree.depth (outline d) ≤ n
  is_shallow n null h = omega arith
  is_shallow n (boolean b) h = omega arith
  is_shallow n (number x) h = omega arith
  is_shallow n (string s) h = omega arith
  is_shallow zero (array ds) h = absurd h
  is_shallow (suc n) (array ds) h = omega (arith, items_shallow n ds h)
  is_shallow zero (object ms) h = absurd h
  is_shallow (suc n) (object ms) h = omega (arith, members_shallow n ms h)

  items_shallow : (n : ℕ) (ds : Items) → AreFitItems n ds → tree.items_depth (items_outline ds) ≤ n
  items_shallow n no_items h = omega arith
  items_shallow n (item d ds) h = omega (arith, is_shallow n d h.0, items_shallow n ds h.1)

  members_shallow : (n : ℕ) (ms : Members) → AreFitMembers n ms → tree.members_depth (members_outline ms) ≤ n
  members_shallow n no_members h = omega arith
  members_shallow n (member k d ms) h = omega (arith, is_shallow n d h.1, members_shallow n ms h.2)

-- the text of a value is JSON of its outline
pub document_compact : (n : ℕ) (d : Data) → n ≤ 127 → IsFit n d → document (compact_text d) ≡ Some (outline d)
document_compact n d deep h =
    let ts : List Token = tree.json_tokens (outline d) in
    let lexed : tokens (compact_text d) ≡ ts = ap tokens (sym (print-outline d)) ∙ tokens-print ts (ArePrintable-json_tokens (outline d) (numbers_are n d h)) in
    let shallow : tree.depth (outline d) ≤ max_depth = omega (arith, is_shallow n d h) in
    ap (λ us. option_and_then (λ p. json.if_last p.0 p.1) (json.value max_depth us)) (lexed ∙ sym (append-nil ts))
    ∙ ap (option_and_then (λ p. json.if_last p.0 p.1)) (value-json_tokens (outline d) max_depth [] shallow)

-- ---- its text is UTF-8

ascii_then : (x : ℕ) (s : List ℕ) → IsUtf8 (x ∷ []) → IsUtf8 s → IsUtf8 (x ∷ s)
ascii_then x s h t = IsUtf8-append (x ∷ []) s h t

utf8_number : (x : Num) → IsFitNumber x → IsUtf8 (number_text x)
utf8_number (unsigned n) h = IsUtf8-from_ascii _ (IsAscii-decimal n h)
utf8_number (negative (pos n)) h = absurd h
utf8_number (negative (negsuc n)) h = ascii_then 45 _ (IsUtf8-are_ascii (45 ∷ []) refl) (IsUtf8-from_ascii _ (IsAscii-decimal (suc n) (omega arith)))
utf8_number (float x) h = absurd h

utf8_comma : (later : Bool) → IsUtf8 (comma_if later)
utf8_comma true = IsUtf8-are_ascii (44 ∷ []) refl
utf8_comma false = IsUtf8-nil

mutual
  pub utf8_compact : (n : ℕ) (d : Data) → IsFit n d → IsUtf8 (compact_text d)
  utf8_compact n null h = IsUtf8-are_ascii (compact_text null) refl
  utf8_compact n (boolean true) h = IsUtf8-are_ascii (compact_text (boolean true)) refl
  utf8_compact n (boolean false) h = IsUtf8-are_ascii (compact_text (boolean false)) refl
  utf8_compact n (number x) h = utf8_number x h
  utf8_compact n (string s) h = IsUtf8-quoted s h
  utf8_compact zero (array ds) h = absurd h
  utf8_compact (suc n) (array ds) h = ascii_then 91 _ (IsUtf8-are_ascii (91 ∷ []) refl) (utf8_items n false ds h)
  utf8_compact zero (object ms) h = absurd h
  utf8_compact (suc n) (object ms) h = ascii_then 123 _ (IsUtf8-are_ascii (123 ∷ []) refl) (utf8_members n false ms h)

  utf8_items : (n : ℕ) (later : Bool) (ds : Items) → AreFitItems n ds → IsUtf8 (items_text later ds)
  utf8_items n later no_items h = IsUtf8-are_ascii (93 ∷ []) refl
  utf8_items n later (item d ds) h = IsUtf8-append (comma_if later) _ (utf8_comma later) (IsUtf8-append (compact_text d) _ (utf8_compact n d h.0) (utf8_items n true ds h.1))

  utf8_members : (n : ℕ) (later : Bool) (ms : Members) → AreFitMembers n ms → IsUtf8 (members_text later ms)
  utf8_members n later no_members h = IsUtf8-are_ascii (125 ∷ []) refl
  utf8_members n later (member k d ms) h =
      IsUtf8-append (comma_if later) _ (utf8_comma later) (IsUtf8-append (quoted k) _ (IsUtf8-quoted k h.0)
      (ascii_then 58 _ (IsUtf8-are_ascii (58 ∷ []) refl) (IsUtf8-append (compact_text d) _ (utf8_compact n d h.1) (utf8_members n true ms h.2))))

-- ---- it has no float

number_whole : (x : Num) → IsFitNumber x → is_float x ≡ false
number_whole (unsigned n) h = refl
number_whole (negative (pos n)) h = absurd h
number_whole (negative (negsuc n)) h = refl
number_whole (float x) h = absurd h

mutual
  pub no_float : (n : ℕ) (d : Data) → IsFit n d → has_float d ≡ false
  no_float n null h = refl
  no_float n (boolean b) h = refl
  no_float n (number x) h = number_whole x h
  no_float n (string s) h = refl
  no_float zero (array ds) h = absurd h
  no_float (suc n) (array ds) h = no_item_float n ds h
  no_float zero (object ms) h = absurd h
  no_float (suc n) (object ms) h = no_member_float n ms h

  no_item_float : (n : ℕ) (ds : Items) → AreFitItems n ds → items_have_float ds ≡ false
  no_item_float n no_items h = refl
  no_item_float n (item d ds) h = rw (no_float n d h.0) (no_item_float n ds h.1)

  no_member_float : (n : ℕ) (ms : Members) → AreFitMembers n ms → members_have_float ms ≡ false
  no_member_float n no_members h = refl
  no_member_float n (member k d ms) h = rw (no_float n d h.1) (no_member_float n ms h.2)

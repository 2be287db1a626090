-- What base64 decodes to has bytes.
use Rattle.std.proofs.Common.{◌≡◌, ℕ, zero, suc, ◌+◌, ◌*◌, ◌<◌, ◌==◌, inl, inr, Bool, true, false, cond, List, [], ◌∷◌, ◌++◌, length, take, drop, slice_index, Option, Some, None, Result, Ok, Err, refl, subst, arith}
use Rattle.base64.specs.Decode.{IsDecodeTable, decode_group, decode_outcome, group_bytes, group_error, groups_before_last, groups_bytes, groups_error, leftover_bytes, lone_error, no_leftover, or_else, push_leftover, scan_bytes, scan_steps, suffix_bytes, symbol_error}
use Rattle.base64.specs.Engines.{standard}
use Rattle.base64.specs.GeneralPurpose.{IsBytes, decode_of, encode_of}
use Rattle.base64.specs.declared.decode.DecodeError.{DecodeError}
use Rattle.base64.specs.declared.decode.DecodeError.TheVariants.{InvalidByte}
use Rattle.base64.proofs.Decoding.{IsLeftover, IsLeftover_next}
use Rattle.base64.proofs.EngineFacts.{IsAscii-encode_of}
use Rattle.base64.proofs.Tables.{IsDecodeTable_from}
use Rattle.std.specs.Result.{result_ok}
use Rattle.std.proofs.lemmas.Str.{IsUtf8-from_ascii}
use Rattle.fk_script.proofs.Sound.{IsData}
use Rattle.fk_script.proofs.TextWords.{utf8_bytes}

-- ---- lists of bytes

no_bytes : IsBytes []
no_bytes i = omega arith

bytes_append : (a b : List ℕ) → IsBytes a → IsBytes b → IsBytes (a ++ b)
bytes_append [] b h g i = g i
bytes_append (x ∷ a) b h g zero = h 0
bytes_append (x ∷ a) b h g (suc i) = bytes_append a b (λ k. h (suc k)) g i

bytes_take : (n : ℕ) (a : List ℕ) → IsBytes a → IsBytes (take n a)
bytes_take zero a h i = no_bytes i
bytes_take (suc n) [] h i = no_bytes i
bytes_take (suc n) (x ∷ a) h zero = h 0
bytes_take (suc n) (x ∷ a) h (suc i) = bytes_take n a (λ k. h (suc k)) i

bytes_drop : (n : ℕ) (a : List ℕ) → IsBytes a → IsBytes (drop n a)
bytes_drop zero a h = h
bytes_drop (suc n) [] h = no_bytes
bytes_drop (suc n) (x ∷ a) h = bytes_drop n a (λ k. h (suc k))

-- ---- groups

group_small : (a b c d : ℕ) → a < 64 → b < 64 → c < 64 → d < 64 → IsBytes (decode_group a b c d)
group_small a b c d h i j k zero = omega (arith, h, i)
group_small a b c d h i j k (suc zero) = omega (arith, i, j)
group_small a b c d h i j k (suc (suc zero)) = omega (arith, j, k)
group_small a b c d h i j k (suc (suc (suc n))) = omega arith

first_none : (x y : Option DecodeError) → or_else x y ≡ None → (x ≡ None) × (y ≡ None)
first_none None y h = (refl, h)
first_none (Some e) y h = cc h

symbol_small : (dec s : List ℕ) (i : ℕ) → IsDecodeTable dec → IsBytes s → symbol_error dec s i ≡ None → slice_index dec (slice_index s i) < 64
symbol_small dec s i t b e = elim (t (slice_index s i) (b i)) [ inl f ↦ by_test (slice_index dec (slice_index s i) == 255) (is f) e | inr l ↦ l ]
  where
    is : slice_index dec (slice_index s i) ≡ 255 → (slice_index dec (slice_index s i) == 255) ≡ true
    is f = rw f refl

    by_test : (c : Bool) → c ≡ true → cond c (Some (InvalidByte i (slice_index s i))) None ≡ None → slice_index dec (slice_index s i) < 64
    by_test true f h = cc h
    by_test false f h = cc f

group_is_bytes : (dec s : List ℕ) (i : ℕ) → IsDecodeTable dec → IsBytes s → group_error dec s i ≡ None → IsBytes (group_bytes dec s i)
group_is_bytes dec s i t b e =
    let x = first_none (symbol_error dec s i) _ e in
    let y = first_none (symbol_error dec s (i + 1)) _ x.1 in
    let z = first_none (symbol_error dec s (i + 2)) (symbol_error dec s (i + 3)) y.1 in
    group_small _ _ _ _ (symbol_small dec s i t b x.0) (symbol_small dec s (i + 1) t b y.0) (symbol_small dec s (i + 2) t b z.0) (symbol_small dec s (i + 3) t b z.1)

groups_are_bytes : (dec s : List ℕ) (q : ℕ) → IsDecodeTable dec → IsBytes s → groups_error dec s q ≡ None → IsBytes (groups_bytes dec s q)
unfolding groups_error groups_bytes
groups_are_bytes dec s zero t b e = no_bytes
groups_are_bytes dec s (suc q) t b e =
    let x = first_none (groups_error dec s q) (group_error dec s (4 * q)) e in
    bytes_append (groups_bytes dec s q) (group_bytes dec s (4 * q)) (groups_are_bytes dec s q t b x.0) (group_is_bytes dec s (4 * q) t b x.1)

-- ---- the last group

leftover_is_bytes : (st : _) (i : ℕ) → IsLeftover st i → IsBytes (leftover_bytes st)
leftover_is_bytes st i h = bytes_take _ _ (group_small _ _ _ _ (h.3 0) (h.3 1) (h.3 2) (h.3 3))

scan_is_bytes : (dec : List ℕ) (pad at : ℕ) (st : _) (i : ℕ) (bs : List ℕ) → IsDecodeTable dec → IsLeftover st i → IsBytes bs → IsBytes (scan_bytes (scan_steps dec pad at (Ok st) i bs))
unfolding scan_steps
scan_is_bytes dec pad at st i [] t h b = leftover_is_bytes st i h
scan_is_bytes dec pad at st i (x ∷ bs) t h b = by_push (λ next k. scan_is_bytes dec pad at next (i + 1) bs t k (λ j. b (suc j))) (push_leftover dec pad at st i x) refl
  where
    by_push : ((next : _) → IsLeftover next (i + 1) → IsBytes (scan_bytes (scan_steps dec pad at (Ok next) (i + 1) bs))) → (r : Result _ DecodeError) → push_leftover dec pad at st i x ≡ r → IsBytes (scan_bytes (scan_steps dec pad at r (i + 1) bs))
    by_push go (Err e) f = no_bytes
    by_push go (Ok next) f = go next (IsLeftover_next dec pad at st i x next t h (b 0) f)

none_left : IsLeftover no_leftover 0
none_left = (omega arith, omega arith, omega arith, small)
  where
    small : (k : ℕ) → slice_index (0 ∷ 0 ∷ 0 ∷ 0 ∷ []) k < 64
    small zero = omega arith
    small (suc zero) = omega arith
    small (suc (suc zero)) = omega arith
    small (suc (suc (suc zero))) = omega arith
    small (suc (suc (suc (suc k)))) = omega arith

suffix_is_bytes : (dec s : List ℕ) (pad at : ℕ) → IsDecodeTable dec → IsBytes s → IsBytes (suffix_bytes dec pad at s)
suffix_is_bytes dec s pad at t b = scan_is_bytes dec pad at no_leftover 0 (drop at s) t none_left (bytes_drop at s b)

-- ---- all

table : IsDecodeTable standard.decode_table
table = IsDecodeTable_from standard.encode_table standard.decode_table refl

outcome : (e : Option DecodeError) (bytes b : List ℕ) → decode_outcome e bytes ≡ Ok b → (e ≡ None) × (bytes ≡ b)
outcome None bytes b h = (refl, cc)
outcome (Some e) bytes b h = cc h

pub decoded_is_bytes : (s b : List ℕ) → IsBytes s → decode_of standard s ≡ Ok b → IsBytes b
decoded_is_bytes s b h e =
    let x = outcome _ _ b e in
    let y = first_none (lone_error standard.decode_table standard.padding.value s) _ x.0 in
    let z = first_none (groups_error standard.decode_table s (groups_before_last (length s))) _ y.1 in
    subst IsBytes x.1
    (bytes_append (groups_bytes standard.decode_table s (groups_before_last (length s))) _ (groups_are_bytes standard.decode_table s (groups_before_last (length s)) table h z.0) (suffix_is_bytes standard.decode_table s standard.padding.value (4 * groups_before_last (length s)) table h))

-- so data that is read back from its base64 has bytes
some_ok : (r : Result (List ℕ) DecodeError) (bytes : List ℕ) → result_ok r ≡ Some bytes → r ≡ Ok bytes
some_ok (Ok x) bytes h = cc h
some_ok (Err e) bytes h = cc h

pub data_is_bytes : (bytes : List ℕ) → IsData bytes → IsBytes bytes
data_is_bytes bytes h = decoded_is_bytes (encode_of standard bytes) bytes (utf8_bytes (encode_of standard bytes) (IsUtf8-from_ascii (encode_of standard bytes) (IsAscii-encode_of standard bytes))) (some_ok (decode_of standard (encode_of standard bytes)) bytes h)

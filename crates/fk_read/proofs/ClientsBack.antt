-- What the name of a client reads back to.
use Rattle.std.proofs.Common.{◌≡◌, ℕ, ◌<◌, ◌+◌, ◌-◌, ◌^◌, Bool, true, false, List, [], ◌∷◌, ◌++◌, codes, length, get_or, Some, None, refl, sym, ◌∙◌, ap, arith, nat_lt, subst}
use Prim.Native.Nat.{suc, zero}
use Rattle.std.specs.Prelude.{◌&&◌, ◌||◌, ◌==◌, nat_le, not}
use Rattle.std.specs.List.{list_all}
use Rattle.std.specs.Str.{bytes_eq}
use Rattle.std.specs.Char.{is_ascii_digit}
use Rattle.std.proofs.lemmas.Bool.{false≢true}
use Rattle.std.proofs.lemmas.Bool.Decides.{nat_tests}
use Rattle.std.proofs.lemmas.Slice.Eq.{bytes_eq-Decides}
use Rattle.std.specs.Cmp.Lexicographic.{texts_ties}
use Rattle.fk_base.specs.Digits.{number_below}
use Rattle.fk_base.specs.Path.{Name, same_name}
use Rattle.fk_tree.specs.Sorted.{has_name}
use Rattle.fk_print.specs.ClientNames.{are_client_names, are_distinct, is_client_name, is_letter, is_letter_or_digit, is_reserved, starts_with_letter}
use Rattle.fk_print.specs.Words.{Text, client}
use Rattle.fk_print.specs.WellFormed.{IsClient}
use Rattle.fk_read.specs.Cut.{words_in}
use Rattle.fk_read.specs.Reads.{take}
use Rattle.fk_read.specs.ReadWords.{client_of, number_of, place_from}
use Rattle.fk_read.proofs.WordsBack.{is_bare, take_back, words_in_bare}
use Rattle.fk_base.proofs.Logic.{and_both, and_left, and_right}

three : (a b c : Bool) → (a && b && c) ≡ true → (a ≡ true) × (b ≡ true) × (c ≡ true)
three true true true e = (refl, refl, refl)
three true true false e = absurd (false≢true e)
three true false c e = absurd (false≢true e)
three false b c e = absurd (false≢true e)

four : (a b c d : Bool) → (a && b && c && d) ≡ true → (a ≡ true) × (b ≡ true) × (c ≡ true) × (d ≡ true)
four true true true true e = (refl, refl, refl, refl)
four true true true false e = absurd (false≢true e)
four true true false d e = absurd (false≢true e)
four true false c d e = absurd (false≢true e)
four false b c d e = absurd (false≢true e)

names_are : (names : List Name) → are_client_names names ≡ true → (list_all is_client_name names ≡ true) × (are_distinct names ≡ true) × (nat_le (length names) 64 ≡ true)
names_are names w = three (list_all is_client_name names) (are_distinct names) (nat_le (length names) 64) w

name_is : (w : Name) → is_client_name w ≡ true → (starts_with_letter w ≡ true) × (list_all is_letter_or_digit w ≡ true) × (not (is_reserved w) ≡ true)
name_is w e = let t = four (starts_with_letter w) (list_all is_letter_or_digit w) (nat_le (length w) 32) (not (is_reserved w)) e in (t.0, t.1, t.3)

not_true : (b : Bool) → not b ≡ true → b ≡ false
not_true true e = sym e
not_true false e = refl

-- what holds of each name
at_place : (p : Name → Bool) (names : List Name) (i : ℕ) → list_all p names ≡ true → i < length names → p (get_or names i []) ≡ true
at_place p [] i e l = absurd (omega (arith, l))
at_place p (n ∷ names) zero e l = and_left (p n) (list_all p names) e
at_place p (n ∷ names) (suc i) e l = at_place p names i (and_right (p n) (list_all p names) e) (omega (arith, l))

same_bytes : (a : Name) → bytes_eq a a ≡ true
same_bytes a = (bytes_eq-Decides a a).1 refl

-- either way round
bytes_swap : (a b : Name) → bytes_eq b a ≡ false → bytes_eq a b ≡ false
bytes_swap a b e = step (bytes_eq a b) refl
  where
    step : (t : Bool) → bytes_eq a b ≡ t → t ≡ false
    step true s = let same : a ≡ b = (bytes_eq-Decides a b).0 s in sym (sym e ∙ (bytes_eq-Decides b a).1 (sym same))
    step false s = refl

or_left : (a b : Bool) → (a || b) ≡ false → a ≡ false
or_left true b e = e
or_left false b e = refl

or_right : (a b : Bool) → (a || b) ≡ false → b ≡ false
or_right true b e = absurd (false≢true (sym e))
or_right false b e = e

-- a name that isn't among them is none of them
other_bytes : (n : Name) (names : List Name) (i : ℕ) → has_name n names ≡ false → i < length names → bytes_eq (get_or names i []) n ≡ false
other_bytes n [] i e l = absurd (omega (arith, l))
other_bytes n (m ∷ names) zero e l = bytes_swap m n (texts_ties n m ∙ or_left (same_name n m) (has_name n names) e)
other_bytes n (m ∷ names) (suc i) e l = other_bytes n names i (or_right (same_name n m) (has_name n names) e) (omega (arith, l))

place_back : (k : ℕ) (names : List Name) (i : ℕ) → are_distinct names ≡ true → i < length names → place_from k names (get_or names i []) ≡ Some (k + i)
place_back k [] i d l = absurd (omega (arith, l))
place_back k (n ∷ names) zero d l = rw (same_bytes n) (ap Some (omega arith))
place_back k (n ∷ names) (suc i) d l =
    let other = other_bytes n names i (not_true (has_name n names) (and_left (not (has_name n names)) (are_distinct names) d)) (omega (arith, l)) in
    let sum : (k + 1) + i ≡ k + suc i = omega arith in
    rw other (place_back (k + 1) names i (and_right (not (has_name n names)) (are_distinct names) d) (omega (arith, l)) ∙ ap Some sum)

client_is : (names : List Name) (c : ℕ) → (c == 0) ≡ false → client names c ≡ get_or names (c - 1) []
client_is names c e = rw e refl

-- the name of a client is a name
named : (names : List Name) (c : ℕ) → are_client_names names ≡ true → IsClient names c → is_client_name (client names c) ≡ true
named names c w f =
    let some : (c == 0) ≡ false = grind (arith, nat_tests, f.0) in
    let there : is_client_name (get_or names (c - 1) []) ≡ true = at_place is_client_name names (c - 1) (names_are names w).0 (omega (arith, f.0, f.1)) in
    subst (λ (w : Name). is_client_name w ≡ true) (sym (client_is names c some)) there

few : (names : List Name) (c : ℕ) → nat_le (length names) 64 ≡ true → IsClient names c → nat_lt c (2 ^ 32) ≡ true
few names c e f = grind (arith, nat_tests)

pub client_back : (names : List Name) (c : ℕ) → are_client_names names ≡ true → IsClient names c → client_of names (client names c) ≡ Some c
unfolding client_of
client_back names c w f =
    let some : (c == 0) ≡ false = grind (arith, nat_tests, f.0) in
    let sum : 1 + (c - 1) ≡ c = omega (arith, f.0) in
    let found : place_from 1 names (get_or names (c - 1) []) ≡ Some c = place_back 1 names (c - 1) (names_are names w).1 (omega (arith, f.0, f.1)) ∙ ap Some sum in
    let small : nat_lt c (2 ^ 32) ≡ true = few names c (names_are names w).2 f in
    rw (some, found, small) refl

letter_bare : (b : ℕ) → is_letter_or_digit b ≡ true → nat_le 33 b ≡ true
letter_bare b e = grind (arith, nat_tests)

letters_bare : (w : Text) → list_all is_letter_or_digit w ≡ true → is_bare w ≡ true
letters_bare [] e = refl
letters_bare (b ∷ w) e = and_both (nat_le 33 b) (is_bare w) (letter_bare b (and_left (is_letter_or_digit b) (list_all is_letter_or_digit w) e)) (letters_bare w (and_right (is_letter_or_digit b) (list_all is_letter_or_digit w) e))

pub bare_client : (names : List Name) (c : ℕ) → are_client_names names ≡ true → IsClient names c → is_bare (client names c) ≡ true
bare_client names c w f =
    letters_bare (client names c) (name_is (client names c) (named names c w f)).1

pub take_client : (names : List Name) (c : ℕ) → are_client_names names ≡ true → IsClient names c → (rest : List Text)
    → take (client_of names) (words_in (client names c) ++ rest) ≡ Some (c, rest)
take_client names c w f rest = take_back (client_of names) (client names c) c rest (bare_client names c w f) (client_back names c w f)

letter_no_digit : (b : ℕ) → is_letter b ≡ true → ((b == 43) ≡ false) × (is_ascii_digit b ≡ false)
letter_no_digit b e = (grind (arith, nat_tests), grind (arith, nat_tests))

letter_no_number : (w : Text) → starts_with_letter w ≡ true → number_of w ≡ None
unfolding number_of number_below
letter_no_number [] e = absurd (false≢true e)
letter_no_number (b ∷ w) e = let s = letter_no_digit b e in rw (s.0, s.1) refl

-- so it is no number
pub client_no_number : (names : List Name) (c : ℕ) → are_client_names names ≡ true → IsClient names c → number_of (client names c) ≡ None
client_no_number names c w f = letter_no_number (client names c) (name_is (client names c) (named names c w f)).0

pub client_not_reserved : (names : List Name) (c : ℕ) → are_client_names names ≡ true → IsClient names c → is_reserved (client names c) ≡ false
client_not_reserved names c w f =
    not_true (is_reserved (client names c)) (name_is (client names c) (named names c w f)).2

pub words_in_client : (names : List Name) (c : ℕ) → are_client_names names ≡ true → IsClient names c → words_in (client names c) ≡ client names c ∷ []
words_in_client names c w f = words_in_bare (client names c) (bare_client names c w f)

not_leader : (a b c : Bool) → (a || b || c) ≡ false → (a ≡ false) × (b ≡ false)
not_leader false false c e = (refl, refl)
not_leader false true c e = absurd (false≢true (sym e))
not_leader true b c e = absurd (false≢true (sym e))

client_is_no_word : (names : List Name) (c : ℕ) → are_client_names names ≡ true → IsClient names c
    → (bytes_eq (client names c) (codes "leader") ≡ false) × (bytes_eq (client names c) (codes "watch") ≡ false)
client_is_no_word names c w f =
    not_leader (bytes_eq (client names c) (codes "leader")) (bytes_eq (client names c) (codes "watch")) (bytes_eq (client names c) (codes "client")) (client_not_reserved names c w f)

pub client_not_leader : (names : List Name) (c : ℕ) → are_client_names names ≡ true → IsClient names c → bytes_eq (client names c) (codes "leader") ≡ false
client_not_leader names c w f = (client_is_no_word names c w f).0

pub client_not_watch : (names : List Name) (c : ℕ) → are_client_names names ≡ true → IsClient names c → bytes_eq (client names c) (codes "watch") ≡ false
client_not_watch names c w f = (client_is_no_word names c w f).1

-- A path and its text: the pieces between slashes, put behind slashes again, and back.
use Rattle.std.proofs.Common.{◌≡◌, ◌≢◌, ℕ, ◌+◌, ◌<◌, length, get_or, take, append_assoc, Bool, true, false, cond, List, [], ◌∷◌, ◌++◌, Some, None, refl, sym, ◌∙◌, ap, arith}
use Rattle.std.specs.Prelude.{◌||◌, not, All}
use Rattle.std.specs.List.{onto_first}
use Rattle.std.proofs.lemmas.List.{append-nil, take_more}
use Rattle.std.proofs.lemmas.List.Concat.{flat_map-append}
use Rattle.std.proofs.lemmas.List.Elements.{All-nil, All-cons}
use Rattle.std.proofs.lemmas.List.Splits.{slice_split_none, slice_split_at}
use Rattle.std.proofs.lemmas.Bool.Decides.{nat_tests}
use Rattle.fk_base.specs.Path.{Name, PathNames, is_slash, is_barred_byte, is_barred_pair, has_barred, is_dots, is_name, are_names, pieces, if_names, path_behind, path_of, names_text, path_text}
use Rattle.fk_base.proofs.Logic.{and_left, and_right}

-- a byte before the first piece stands behind the first slash
names_text-onto_first : (c : ℕ) (cs : List ℕ) (ns : List Name) → names_text ns ≡ 47 ∷ cs → names_text (onto_first c ns) ≡ 47 ∷ c ∷ cs
names_text-onto_first c cs [] e = cc
names_text-onto_first c cs (n ∷ ns) e = let t : n ++ names_text ns ≡ cs = cc in ap (λ xs. 47 ∷ c ∷ xs) t

slash_is : (c : ℕ) → is_slash c ≡ true → c ≡ 47
slash_is c e = grind (arith, nat_tests)

-- the pieces, each behind a slash, are the text behind a slash
names_text-pieces : (cs : List ℕ) → names_text (pieces cs) ≡ 47 ∷ cs
names_text-pieces [] = refl
names_text-pieces (c ∷ cs) = step (names_text-pieces cs) (is_slash c) refl
  where
    step : names_text (pieces cs) ≡ 47 ∷ cs → (b : Bool) → is_slash c ≡ b → names_text (cond b ([] ∷ pieces cs) (onto_first c (pieces cs))) ≡ 47 ∷ c ∷ cs
    step i true e = rw (slash_is c e) (ap (λ xs. 47 ∷ xs) i)
    step i false e = names_text-onto_first c cs (pieces cs) i

-- there is a piece at least
path_text-pieces : (ns : List Name) (cs : List ℕ) → names_text ns ≡ 47 ∷ cs → path_text ns ≡ 47 ∷ cs
path_text-pieces [] cs e = cc
path_text-pieces (n ∷ ns) cs e = e

if_names_some : (ns : List Name) (p : PathNames) → if_names ns ≡ Some p → (ns ≡ p) × (are_names ns ≡ true)
if_names_some ns p = step (are_names ns)
  where
    step : (b : Bool) → cond b (Some ns) None ≡ Some p → (ns ≡ p) × (b ≡ true)
    step true e = (cc, refl)
    step false e = cc

pub reads_its_text : (text : List ℕ) (p : PathNames) → path_of text ≡ Some p → (path_text p ≡ text) × (are_names p ≡ true)
reads_its_text [] p e = cc
reads_its_text (c ∷ cs) p e = step cs (is_slash c) refl e
  where
    step : (ds : List ℕ) (b : Bool) → is_slash c ≡ b → cond b (path_behind ds) None ≡ Some p → (path_text p ≡ c ∷ ds) × (are_names p ≡ true)
    step [] true s e = let q : [] ≡ p = cc in rw (slash_is c s, ← q) (refl, refl)
    step (d ∷ ds) true s e = let q = if_names_some (pieces (d ∷ ds)) p e in rw (slash_is c s, ← q.0) (path_text-pieces (pieces (d ∷ ds)) (d ∷ ds) (names_text-pieces (d ∷ ds)), q.1)
    step ds false s e = cc

-- a text without a barred character has no slash
no_slash : (n : List ℕ) → has_barred n ≡ false → All (λ c. is_slash c ≡ false) n
no_slash [] h = All-nil (λ c. is_slash c ≡ false)
no_slash (c ∷ n) h = All-cons (λ d. is_slash d ≡ false) c n (not_barred c n h) (no_slash n (or_right (is_barred_byte c || is_barred_pair c n) (has_barred n) h))
  where
    or_right : (a b : Bool) → (a || b) ≡ false → b ≡ false
    or_right true b e = cc
    or_right false b e = e

    not_barred : (c : ℕ) (n : List ℕ) → has_barred (c ∷ n) ≡ false → is_slash c ≡ false
    not_barred c n e = grind (arith, nat_tests)

pub name_clean : (n : Name) → is_name n ≡ true → has_barred n ≡ false
name_clean n e = not_true (has_barred n) (and_right (not (is_dots n)) (not (has_barred n)) e)
  where
    not_true : (b : Bool) → not b ≡ true → b ≡ false
    not_true true e = sym e
    not_true false e = refl

-- names behind slashes, but for the first slash, fall apart into the names
pieces-names : (n : Name) (ns : List Name) → are_names (n ∷ ns) ≡ true → pieces (n ++ names_text ns) ≡ n ∷ ns
pieces-names n [] h = rw append-nil (slice_split_none is_slash n (no_slash n (name_clean n (and_left (is_name n) true h))))
pieces-names n (m ∷ ms) h =
    slice_split_at is_slash n 47 (m ++ names_text ms) (no_slash n (name_clean n (and_left (is_name n) (are_names (m ∷ ms)) h))) refl
    ∙ ap (λ xs. n ∷ xs) (pieces-names m ms (and_right (is_name n) (are_names (m ∷ ms)) h))

pub text_reads_back : (p : PathNames) → are_names p ≡ true → path_of (path_text p) ≡ Some p
text_reads_back [] h = refl
text_reads_back ([] ∷ ns) h = cc
text_reads_back ((c ∷ n) ∷ ns) h = rw (pieces-names (c ∷ n) ns h, h) refl

-- one name more behind a slash
pub names_text_more : (ns : List Name) (i : ℕ) (n : Name) → i < length ns → n ≡ get_or ns i n → names_text (take (i + 1) ns) ≡ (names_text (take i ns) ++ 47 ∷ []) ++ n
names_text_more ns i n l e = rw (take_more ns i n l, ← e, flat_map-append) (rw (append-nil, append_assoc) refl)

-- what doesn't begin with a slash is no path
pub no_first_slash : (text : List ℕ) → ((rest : List ℕ) → text ≢ 47 ∷ rest) → path_of text ≡ None
no_first_slash [] h = refl
no_first_slash (c ∷ cs) h = step (is_slash c) refl
  where
    step : (b : Bool) → is_slash c ≡ b → cond b (path_behind cs) None ≡ None
    step true e = absurd (h cs (ap (λ x. x ∷ cs) (slash_is c e)))
    step false e = refl

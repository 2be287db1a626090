-- Lists of items read back, one by one.
use Rattle.std.proofs.Common.{◌≡◌, List, [], ◌∷◌, ◌++◌, length, map, Option, Some, refl, ◌∙◌, ap, append_assoc}
use Rattle.std.specs.List.{AllByRecursion, flat_map}
use Rattle.std.proofs.lemmas.List.{append-nil}
use Rattle.fk_base.specs.Path.{Name, PathNames, path_text}
use Rattle.fk_print.specs.WellFormed.{IsShownName}
use Rattle.fk_base.specs.Limits.{IsPath}
use Rattle.fk_print.specs.Words.{Text}
use Rattle.fk_read.specs.Cut.{words_in}
use Rattle.fk_read.specs.Reads.{take}
use Rattle.fk_read.specs.ReadAct.{take_onto}
use Rattle.fk_read.specs.ReadWords.{name_of_word, path_of_word}
use Rattle.fk_read.proofs.WordsBack.{bare_name, take_back, take_path}

-- what each item's words give is taken from all their words
pub onto_back : {A : Type 0} (f : List Text → Option (A × List Text)) (words : A → List Text) (P : A → Type 0)
    → ((x : A) → P x → (rest : List Text) → f (words x ++ rest) ≡ Some (x, rest))
    → (xs items : List A) → AllByRecursion P xs → take_onto f (length xs) items (flat_map words xs) ≡ Some (items ++ xs, [])
onto_back f words P one [] items each = rw append-nil refl
onto_back f words P one (x ∷ xs) items each =
    rw (one x each.0 (flat_map words xs)) (onto_back f words P one xs (items ++ x ∷ []) each.1 ∙ ap (λ r. Some (r, [])) (append_assoc items (x ∷ []) xs))

pub flat_map-map : {A : Type 0} (word : A → Text) (xs : List A) → flat_map words_in (map word xs) ≡ flat_map (λ x. words_in (word x)) xs
flat_map-map word [] = refl
flat_map-map word (x ∷ xs) = ap (λ r. words_in (word x) ++ r) (flat_map-map word xs)

pub paths_back : (paths items : List PathNames) → AllByRecursion IsPath paths → take_onto (take path_of_word) (length paths) items (flat_map words_in (map path_text paths)) ≡ Some (items ++ paths, [])
paths_back paths items each = rw (flat_map-map path_text paths) (onto_back (take path_of_word) (λ p. words_in (path_text p)) IsPath take_path paths items each)

pub name_back : (n : Name) → IsShownName n → name_of_word n ≡ Some n
unfolding name_of_word
name_back n fits = rw (fits.1, fits.0) refl

take_name : (n : Name) → IsShownName n → (rest : List Text) → take name_of_word (words_in n ++ rest) ≡ Some (n, rest)
take_name n fits rest = take_back name_of_word n n rest (bare_name n fits.0) (name_back n fits)

pub names_back : (names items : List Name) → AllByRecursion IsShownName names → take_onto (take name_of_word) (length names) items (flat_map words_in names) ≡ Some (items ++ names, [])
names_back names items each = onto_back (take name_of_word) words_in IsShownName take_name names items each

-- What a transaction did reads back from its words.
use Rattle.std.proofs.Common.{◌≡◌, ℕ, ◌≤◌, true, false, List, [], ◌∷◌, ◌++◌, length, Some, refl, ◌∙◌, ap, arith, append_assoc}
use Rattle.std.specs.Prelude.{◌&&◌, nat_le}
use Rattle.std.specs.List.{AllByRecursion, flat_map}
use Rattle.std.proofs.lemmas.Bool.Decides.{nat_tests}
use Rattle.std.proofs.lemmas.List.Concat.{flat_map-append}
use Rattle.fk_tree.specs.declared.request.Part.{Part}
use Rattle.fk_tree.specs.declared.request.Part.TheVariants as part
use Rattle.fk_print.specs.LineText.{act_words, part_words}
use Rattle.fk_print.specs.WellFormed.{IsAct, IsPart}
use Rattle.fk_print.specs.Words.{Text}
use Rattle.fk_print.specs.declared.line.Act.{Act}
use Rattle.fk_print.specs.declared.line.Act.TheVariants as act
use Rattle.fk_read.specs.Cut.{words_in}
use Rattle.fk_read.specs.ReadAct.{act_of, take_onto, take_part}
use Rattle.fk_read.proofs.WordsBack.{take_number, take_path}
use Rattle.fk_read.proofs.DataBack.{shown_data, take_data}
use Rattle.fk_read.proofs.Lists.{onto_back, paths_back}
use Rattle.fk_read.proofs.Expected.{shown_expected, take_expected}
use Rattle.fk_read.proofs.Shown.{AreShown, shown_append, shown_decimal, shown_path, shown_paths}

part_back : (p : Part) → IsPart p → (rest : List Text) → take_part (flat_map words_in (part_words p) ++ rest) ≡ Some (p, rest)
part_back (part.Create path bytes false) fits rest = rw (append_assoc, take_path path fits.0, append_assoc, take_data bytes fits.1) refl
part_back (part.Create path bytes true) fits rest = rw (append_assoc, take_path path fits.0, append_assoc, take_data bytes fits.1) refl
part_back (part.Set path bytes v) fits rest = rw (append_assoc, take_expected v fits.0, append_assoc, take_path path fits.1, append_assoc, take_data bytes fits.2) refl
part_back (part.Delete path v) fits rest = rw (append_assoc, take_expected v fits.0, append_assoc, take_path path fits.1) refl

parts_words : (parts : List Part) (rest : List Text) → flat_map words_in (flat_map part_words parts) ≡ flat_map (λ p. flat_map words_in (part_words p)) parts
parts_words [] rest = refl
parts_words (p ∷ parts) rest = flat_map-append words_in (part_words p) (flat_map part_words parts) ∙ ap (λ r. flat_map words_in (part_words p) ++ r) (parts_words parts rest)

few_parts : (n : ℕ) → 1 ≤ n → n ≤ 16 → (nat_le 1 n && nat_le n 16) ≡ true
few_parts n low high = grind (arith, nat_tests)

-- parts are taken one by one
parts_back : (parts items : List Part) → AllByRecursion IsPart parts → take_onto take_part (length parts) items (flat_map words_in (flat_map part_words parts)) ≡ Some (items ++ parts, [])
parts_back parts items each = rw (parts_words parts []) (onto_back take_part (λ p. flat_map words_in (part_words p)) IsPart part_back parts items each)

pub act_back : (a : Act) → IsAct a → act_of (flat_map words_in (act_words a)) ≡ Some a
act_back (act.Create path bytes false false) fits = rw (take_path path fits.0, take_data bytes fits.1) refl
act_back (act.Create path bytes true false) fits = rw (take_path path fits.0, take_data bytes fits.1) refl
act_back (act.Create path bytes false true) fits = rw (take_path path fits.0, take_data bytes fits.1) refl
act_back (act.Create path bytes true true) fits = rw (take_path path fits.0, take_data bytes fits.1) refl
act_back (act.Set path bytes v) fits = rw (take_expected v fits.0, take_path path fits.1, take_data bytes fits.2) refl
act_back (act.Delete path v) fits = rw (take_expected v fits.0, take_path path fits.1) refl
act_back (act.Close false gone) fits = rw (take_number (length gone) fits.0, paths_back gone [] fits.1) refl
act_back (act.Close true gone) fits = rw (take_number (length gone) fits.0, paths_back gone [] fits.1) refl
act_back (act.Multi parts) fits = rw (take_number (length parts) (omega (arith, fits.1)), few_parts (length parts) fits.0 fits.1, parts_back parts [] fits.2) refl

part_shown : (p : Part) → IsPart p → AreShown (part_words p)
part_shown (part.Create path bytes false) fits = (refl, (refl, (shown_path path fits.0, (shown_data bytes fits.1, tt))))
part_shown (part.Create path bytes true) fits = (refl, (refl, (shown_path path fits.0, (shown_data bytes fits.1, tt))))
part_shown (part.Set path bytes v) fits = (refl, (shown_expected v fits.0, (shown_path path fits.1, (shown_data bytes fits.2, tt))))
part_shown (part.Delete path v) fits = (refl, (shown_expected v fits.0, (shown_path path fits.1, tt)))

parts_shown : (parts : List Part) → AllByRecursion IsPart parts → AreShown (flat_map part_words parts)
parts_shown [] each = tt
parts_shown (p ∷ parts) each = shown_append (part_words p) (flat_map part_words parts) (part_shown p each.0) (parts_shown parts each.1)

pub act_shown : (a : Act) → IsAct a → AreShown (act_words a)
act_shown (act.Create path bytes false false) fits = (refl, (refl, (shown_path path fits.0, (shown_data bytes fits.1, tt))))
act_shown (act.Create path bytes true false) fits = (refl, (refl, (shown_path path fits.0, (shown_data bytes fits.1, tt))))
act_shown (act.Create path bytes false true) fits = (refl, (refl, (shown_path path fits.0, (shown_data bytes fits.1, tt))))
act_shown (act.Create path bytes true true) fits = (refl, (refl, (shown_path path fits.0, (shown_data bytes fits.1, tt))))
act_shown (act.Set path bytes v) fits = (refl, (shown_expected v fits.0, (shown_path path fits.1, (shown_data bytes fits.2, tt))))
act_shown (act.Delete path v) fits = (refl, (shown_expected v fits.0, (shown_path path fits.1, tt)))
act_shown (act.Close false gone) fits = (refl, (shown_decimal (length gone) fits.0, shown_paths gone fits.1))
act_shown (act.Close true gone) fits = (refl, (shown_decimal (length gone) fits.0, shown_paths gone fits.1))
act_shown (act.Multi parts) fits = (refl, (shown_decimal (length parts) (omega (arith, fits.1)), parts_shown parts fits.2))

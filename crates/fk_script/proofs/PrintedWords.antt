-- The words of printed commands are words.
use Rattle.std.proofs.Common.{◌≡◌, ℕ, ℤ, pos, negsuc, ◌<◌, ◌^◌, Bool, true, false, List, [], ◌∷◌, ◌++◌, refl, codes, arith}
use Rattle.std.specs.Prelude.{not}
use Rattle.std.specs.List.{list_all, flat_map, AllByRecursion}
use Rattle.std.specs.Str.{bytes_eq}
use Rattle.std.proofs.lemmas.Bool.{and_parts, and_from, or_parts, not-false}
use Rattle.base64.specs.Engines.{standard}
use Rattle.base64.specs.GeneralPurpose.{encode_of}
use Rattle.fk_print.specs.Words.{is_plain}
use Rattle.fk_script.specs.Lines.{Word, is}
use Rattle.fk_script.specs.Printed.{word_if, version_words, data_words, create_words, set_words, delete_words, read_words, is_coded, is_coded_in_part, part_words, parts_words, and_words, command_words}
use Rattle.fk_script.specs.declared.command.Command.{Command}
use Rattle.fk_script.specs.declared.command.Command.TheVariants as command
use Rattle.fk_script.specs.declared.command.PartCommand.{PartCommand}
use Rattle.fk_script.specs.declared.command.PartCommand.TheVariants as part
use Rattle.fk_script.proofs.CleanWords.{IsWord, AreWords, AreWords-append, plain_word}
use Rattle.fk_script.proofs.CodedData.{coded_word, empty_cons, encoded_symbols, no_semicolon}
use Rattle.fk_script.proofs.Numerals.{number_word, number_apart}
use Rattle.fk_script.proofs.Sound.{IsVersion, IsPart, IsCommand}

word_if_clean : (b : Bool) (w : Word) → IsWord w → AreWords (word_if b w)
word_if_clean true w h = (h, tt)
word_if_clean false w h = tt

version_clean : (v : ℤ) → IsVersion v → AreWords (version_words v)
version_clean (pos n) h = let small : n < 2 ^ 64 = omega arith in (plain_word (codes "-v") refl refl, (number_word n small, tt))
version_clean (negsuc n) h = tt

data_clean : (coded : Bool) (bytes : List ℕ) → (coded ≡ false → list_all is_plain bytes ≡ true) → AreWords (data_words coded bytes)
data_clean true [] h = tt
data_clean true (b ∷ bs) h = (coded_word b bs, tt)
data_clean false [] h = tt
data_clean false (b ∷ bs) h = (plain_word (b ∷ bs) (empty_cons b bs) (h refl), tt)

plain_uncoded : (bytes : List ℕ) → is_coded bytes ≡ false → list_all is_plain bytes ≡ true
plain_uncoded bytes h = not-false (list_all is_plain bytes) h

plain_in_part : (bytes : List ℕ) → is_coded_in_part bytes ≡ false → list_all is_plain bytes ≡ true
plain_in_part bytes h = plain_uncoded bytes (or_parts (is_coded bytes) (bytes_eq bytes (codes ";")) h).0

create_clean : (seq eph coded : Bool) (path : Word) (bytes : List ℕ) → IsWord path → (coded ≡ false → list_all is_plain bytes ≡ true)
    → AreWords (create_words seq eph coded path bytes)
create_clean seq eph coded path bytes p d = (
  plain_word (codes "create") refl refl,
  AreWords-append (word_if seq (codes "-s") ++ word_if eph (codes "-e") ++ word_if coded (codes "-b")) (path ∷ data_words coded bytes)
      (AreWords-append (word_if seq (codes "-s") ++ word_if eph (codes "-e")) (word_if coded (codes "-b"))
      (AreWords-append (word_if seq (codes "-s")) (word_if eph (codes "-e")) (word_if_clean seq (codes "-s") (plain_word (codes "-s") refl refl)) (word_if_clean eph (codes "-e") (plain_word (codes "-e") refl refl)))
      (word_if_clean coded (codes "-b") (plain_word (codes "-b") refl refl)))
      (p, data_clean coded bytes d),
)

set_clean : (v : ℤ) (coded : Bool) (path : Word) (bytes : List ℕ) → IsVersion v → IsWord path → (coded ≡ false → list_all is_plain bytes ≡ true)
    → AreWords (set_words v coded path bytes)
set_clean v coded path bytes n p d = (
  plain_word (codes "set") refl refl,
  AreWords-append (version_words v ++ word_if coded (codes "-b")) (path ∷ data_words coded bytes)
      (AreWords-append (version_words v) (word_if coded (codes "-b")) (version_clean v n) (word_if_clean coded (codes "-b") (plain_word (codes "-b") refl refl)))
      (p, data_clean coded bytes d),
)

delete_clean : (v : ℤ) (path : Word) → IsVersion v → IsWord path → AreWords (delete_words v path)
delete_clean v path n p = (plain_word (codes "delete") refl refl, AreWords-append (version_words v) (path ∷ []) (version_clean v n) (p, tt))

read_clean : (verb : Word) (watch : Bool) (path : Word) → IsWord verb → IsWord path → AreWords (read_words verb watch path)
read_clean verb watch path v p = (v, AreWords-append (word_if watch (codes "-w")) (path ∷ []) (word_if_clean watch (codes "-w") (plain_word (codes "-w") refl refl)) (p, tt))

part_clean : (p : PartCommand) → IsPart p → AreWords (part_words p)
part_clean (part.Create path bytes eph) h = create_clean false eph (is_coded_in_part bytes) path bytes h.0.path.word (plain_in_part bytes)
part_clean (part.Set path bytes version) h = set_clean version (is_coded_in_part bytes) path bytes h.2 h.0.path.word (plain_in_part bytes)
part_clean (part.Delete path version) h = delete_clean version path h.1 h.0.path.word

others_clean : (ps : List PartCommand) → AllByRecursion IsPart ps → AreWords (flat_map (λ q. codes ";" ∷ part_words q) ps)
others_clean [] h = tt
others_clean (p ∷ ps) h =
    (plain_word (codes ";") refl refl, AreWords-append (part_words p) (flat_map (λ q. codes ";" ∷ part_words q) ps) (part_clean p h.0) (others_clean ps h.1))

parts_clean : (ps : List PartCommand) → AllByRecursion IsPart ps → AreWords (parts_words ps)
parts_clean [] h = tt
parts_clean (p ∷ ps) h = AreWords-append (part_words p) (flat_map (λ q. codes ";" ∷ part_words q) ps) (part_clean p h.0) (others_clean ps h.1)

behind_and : (wait : Bool) (ws : List Word) → AreWords ws → AreWords (and_words wait ++ ws)
behind_and true ws h = h
behind_and false ws h = (plain_word (codes "&") refl refl, h)

pub command_clean : (c : Command) → IsCommand c → AreWords (command_words c)
command_clean (command.Create path bytes seq eph wait) h = behind_and wait (create_words seq eph (is_coded bytes) path bytes) (create_clean seq eph (is_coded bytes) path bytes h.0.word (plain_uncoded bytes))
command_clean (command.Set path bytes version wait) h = behind_and wait (set_words version (is_coded bytes) path bytes) (set_clean version (is_coded bytes) path bytes h.2 h.0.word (plain_uncoded bytes))
command_clean (command.Delete path version wait) h = behind_and wait (delete_words version path) (delete_clean version path h.1 h.0.word)
command_clean (command.Get path watch) h = read_clean (codes "get") watch path (plain_word (codes "get") refl refl) h.word
command_clean (command.Stat path watch) h = read_clean (codes "stat") watch path (plain_word (codes "stat") refl refl) h.word
command_clean (command.Ls path watch) h = read_clean (codes "ls") watch path (plain_word (codes "ls") refl refl) h.word
command_clean command.Close h = (plain_word (codes "close") refl refl, tt)
command_clean (command.Multi parts wait) h = behind_and wait (codes "multi" ∷ parts_words parts) (plain_word (codes "multi") refl refl, parts_clean parts h.each)

-- no word of a part is `;`
abbrev pub is_apart : Word → Bool
is_apart w = not (is w (codes ";"))

abbrev are_apart : List Word → Bool
are_apart ws = list_all is_apart ws

apart_append : (vs ws : List Word) → are_apart vs ≡ true → are_apart ws ≡ true → are_apart (vs ++ ws) ≡ true
apart_append [] ws g h = h
apart_append (v ∷ vs) ws g h =
    let both = and_parts (is_apart v) (are_apart vs) g in
    and_from (is_apart v) (are_apart (vs ++ ws)) both.0 (apart_append vs ws both.1 h)

apart_if : (b : Bool) (w : Word) → is_apart w ≡ true → are_apart (word_if b w) ≡ true
apart_if true w h = rw h refl
apart_if false w h = refl

apart_version : (v : ℤ) → IsVersion v → are_apart (version_words v) ≡ true
apart_version (pos n) h = let small : n < 2 ^ 64 = omega arith in rw (number_apart n small) refl
apart_version (negsuc n) h = refl

apart_data : (coded : Bool) (bytes : List ℕ) → (coded ≡ false → is bytes (codes ";") ≡ false) → are_apart (data_words coded bytes) ≡ true
apart_data true [] h = refl
apart_data true (b ∷ bs) h = rw (no_semicolon (encode_of standard (b ∷ bs)) (encoded_symbols (b ∷ bs))) refl
apart_data false [] h = refl
apart_data false (b ∷ bs) h = rw (h refl) refl

apart_in_part : (bytes : List ℕ) → is_coded_in_part bytes ≡ false → is bytes (codes ";") ≡ false
apart_in_part bytes h = (or_parts (is_coded bytes) (bytes_eq bytes (codes ";")) h).1

with_path : (path : Word) (ws : List Word) → is path (codes ";") ≡ false → are_apart ws ≡ true → are_apart (path ∷ ws) ≡ true
with_path path ws g h = rw (g, h) refl

pub part_apart : (p : PartCommand) → IsPart p → are_apart (part_words p) ≡ true
part_apart (part.Create path bytes eph) h =
    apart_append (word_if false (codes "-s") ++ word_if eph (codes "-e") ++ word_if (is_coded_in_part bytes) (codes "-b")) (path ∷ data_words (is_coded_in_part bytes) bytes)
    (apart_append (word_if eph (codes "-e")) (word_if (is_coded_in_part bytes) (codes "-b")) (apart_if eph (codes "-e") refl) (apart_if (is_coded_in_part bytes) (codes "-b") refl))
    (with_path path (data_words (is_coded_in_part bytes) bytes) h.0.apart (apart_data (is_coded_in_part bytes) bytes (apart_in_part bytes)))
part_apart (part.Set path bytes version) h =
    apart_append (version_words version ++ word_if (is_coded_in_part bytes) (codes "-b")) (path ∷ data_words (is_coded_in_part bytes) bytes)
    (apart_append (version_words version) (word_if (is_coded_in_part bytes) (codes "-b")) (apart_version version h.2) (apart_if (is_coded_in_part bytes) (codes "-b") refl))
    (with_path path (data_words (is_coded_in_part bytes) bytes) h.0.apart (apart_data (is_coded_in_part bytes) bytes (apart_in_part bytes)))
part_apart (part.Delete path version) h =
    apart_append (version_words version) (path ∷ []) (apart_version version h.1) (with_path path [] h.0.apart refl)

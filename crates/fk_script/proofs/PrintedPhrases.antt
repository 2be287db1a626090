-- The words of a printed command, read as a phrase.
use Rattle.std.proofs.Common.{◌≡◌, ℕ, ℤ, pos, negsuc, Bool, true, false, List, [], ◌∷◌, ◌++◌, Option, Some, None, refl, sym, ◌∙◌, ap, codes}
use Rattle.std.specs.Prelude.{◌&&◌}
use Rattle.std.specs.Fmt.{decimal}
use Rattle.fk_script.specs.Lines.{Word, is_one_of, starts_with}
use Rattle.fk_script.specs.Phrases.{Phrase, phrase, has_bad_option, fits, is_bad_version, has_bad_base64, is_bad_data, data_bytes, data_word, bytes, expected, command_of, part_of}
use Rattle.fk_script.specs.Printed.{word_if, version_words, data_words, create_words, set_words, delete_words, read_words}
use Rattle.fk_script.specs.declared.command.Command.TheVariants as command
use Rattle.fk_script.specs.declared.command.PartCommand.TheVariants as part
use Rattle.fk_script.proofs.Numerals.{version_back}
use Rattle.fk_script.proofs.Sound.{IsData, IsVersion}

-- a phrase that offends against nothing
pub record IsFitting (in_multi : Bool) (p : Phrase) : Type 0 where
  pub options : has_bad_option in_multi p ≡ false
  pub words : fits p ≡ true
  pub version : is_bad_version p.version ≡ false
  pub base64 : has_bad_base64 p ≡ false

data_good : (coded : Bool) (path : Word) (bytes : List ℕ) → IsData bytes → (coded && is_bad_data (data_word (path ∷ data_words coded bytes))) ≡ false
data_good false path bytes d = refl
data_good true path [] d = refl
data_good true path (b ∷ bs) d = rw d refl

data_back : (coded : Bool) (path : Word) (bytes : List ℕ) → IsData bytes → data_bytes coded (data_word (path ∷ data_words coded bytes)) ≡ bytes
data_back false path [] d = refl
data_back false path (b ∷ bs) d = refl
data_back true path [] d = refl
data_back true path (b ∷ bs) d = rw d refl

abbrev create_options : Bool → Bool → Bool → List Word
create_options seq eph coded = word_if seq (codes "-s") ++ word_if eph (codes "-e") ++ word_if coded (codes "-b")

abbrev create_phrase : Bool → Bool → Bool → Word → List Word → Phrase
create_phrase seq eph coded path rest = record { name = codes "create"; options = create_options seq eph coded; version = None; rest = path ∷ rest }

create_is : (seq eph coded : Bool) (path : Word) (rest : List Word) → starts_with 45 path ≡ false
    → phrase (codes "create" ∷ (create_options seq eph coded ++ path ∷ rest)) ≡ create_phrase seq eph coded path rest
create_is true true true path rest h = rw h refl
create_is true true false path rest h = rw h refl
create_is true false true path rest h = rw h refl
create_is true false false path rest h = rw h refl
create_is false true true path rest h = rw h refl
create_is false true false path rest h = rw h refl
create_is false false true path rest h = rw h refl
create_is false false false path rest h = rw h refl

create_has : (seq eph coded : Bool) → (is_one_of (create_options seq eph coded) (codes "-s") ≡ seq) × (is_one_of (create_options seq eph coded) (codes "-e") ≡ eph) × (is_one_of (create_options seq eph coded) (codes "-b") ≡ coded)
create_has true true true = (refl, refl, refl)
create_has true true false = (refl, refl, refl)
create_has true false true = (refl, refl, refl)
create_has true false false = (refl, refl, refl)
create_has false true true = (refl, refl, refl)
create_has false true false = (refl, refl, refl)
create_has false false true = (refl, refl, refl)
create_has false false false = (refl, refl, refl)

create_allowed : (in_multi seq eph coded : Bool) (path : Word) (rest : List Word) → (in_multi && seq) ≡ false → has_bad_option in_multi (create_phrase seq eph coded path rest) ≡ false
create_allowed true true eph coded path rest h = cc
create_allowed true false true true path rest h = refl
create_allowed true false true false path rest h = refl
create_allowed true false false true path rest h = refl
create_allowed true false false false path rest h = refl
create_allowed false true true true path rest h = refl
create_allowed false true true false path rest h = refl
create_allowed false true false true path rest h = refl
create_allowed false true false false path rest h = refl
create_allowed false false true true path rest h = refl
create_allowed false false true false path rest h = refl
create_allowed false false false true path rest h = refl
create_allowed false false false false path rest h = refl

create_fits : (seq eph coded : Bool) (path : Word) (bytes : List ℕ) → fits (create_phrase seq eph coded path (data_words coded bytes)) ≡ true
create_fits seq eph coded path [] = refl
create_fits seq eph coded path (b ∷ bs) = refl

create_base64 : (seq eph coded : Bool) (path : Word) (bytes : List ℕ) → IsData bytes → has_bad_base64 (create_phrase seq eph coded path (data_words coded bytes)) ≡ false
create_base64 seq eph coded path bytes d = ap (λ b. b && is_bad_data (data_word (path ∷ data_words coded bytes))) (create_has seq eph coded).2 ∙ data_good coded path bytes d

pub create_fitting : (in_multi seq eph coded : Bool) (path : Word) (bytes : List ℕ) → (in_multi && seq) ≡ false → starts_with 45 path ≡ false → IsData bytes
    → IsFitting in_multi (phrase (create_words seq eph coded path bytes))
create_fitting in_multi seq eph coded path bytes m h d = rw (create_is seq eph coded path (data_words coded bytes) h) (record {
  options = create_allowed in_multi seq eph coded path (data_words coded bytes) m;
  words = create_fits seq eph coded path bytes;
  version = refl;
  base64 = create_base64 seq eph coded path bytes d;
})

pub create_meant : (wait seq eph coded : Bool) (path : Word) (bytes : List ℕ) → starts_with 45 path ≡ false → IsData bytes
    → command_of wait (phrase (create_words seq eph coded path bytes)) ≡ command.Create path bytes seq eph wait
create_meant wait seq eph coded path bytes h d =
    let has = create_has seq eph coded in
    ap (command_of wait) (create_is seq eph coded path (data_words coded bytes) h)
    ∙ rw (has.0, has.1, has.2, data_back coded path bytes d) refl

pub create_part_meant : (eph coded : Bool) (path : Word) (bytes : List ℕ) → starts_with 45 path ≡ false → IsData bytes
    → part_of (phrase (create_words false eph coded path bytes)) ≡ part.Create path bytes eph
create_part_meant eph coded path bytes h d =
    let has = create_has false eph coded in
    ap part_of (create_is false eph coded path (data_words coded bytes) h)
    ∙ rw (has.1, has.2, data_back coded path bytes d) refl

-- the version of a set or a delete
abbrev version_options : ℤ → List Word
version_options (pos n) = codes "-v" ∷ []
version_options (negsuc n) = []

abbrev said_version : ℤ → Option Word
said_version (pos n) = Some (decimal n)
said_version (negsuc n) = None

version_good : (v : ℤ) → IsVersion v → is_bad_version (said_version v) ≡ false
version_good (pos n) h = rw (version_back n h) refl
version_good (negsuc n) h = refl

version_expected : (v : ℤ) → IsVersion v → expected (said_version v) ≡ v
version_expected (pos n) h = rw (version_back n h) refl
version_expected (negsuc n) h = ap negsuc (sym h)

abbrev set_phrase : ℤ → Bool → Word → List Word → Phrase
set_phrase v coded path rest = record { name = codes "set"; options = version_options v ++ word_if coded (codes "-b"); version = said_version v; rest = path ∷ rest }

set_is : (v : ℤ) (coded : Bool) (path : Word) (rest : List Word) → starts_with 45 path ≡ false
    → phrase (codes "set" ∷ (version_words v ++ word_if coded (codes "-b") ++ path ∷ rest)) ≡ set_phrase v coded path rest
set_is (pos n) true path rest h = rw h refl
set_is (pos n) false path rest h = rw h refl
set_is (negsuc n) true path rest h = rw h refl
set_is (negsuc n) false path rest h = rw h refl

set_has : (v : ℤ) (coded : Bool) → is_one_of (version_options v ++ word_if coded (codes "-b")) (codes "-b") ≡ coded
set_has (pos n) true = refl
set_has (pos n) false = refl
set_has (negsuc n) true = refl
set_has (negsuc n) false = refl

set_allowed : (in_multi : Bool) (v : ℤ) (coded : Bool) (path : Word) (rest : List Word) → has_bad_option in_multi (set_phrase v coded path rest) ≡ false
set_allowed true (pos n) true path rest = refl
set_allowed true (pos n) false path rest = refl
set_allowed true (negsuc n) true path rest = refl
set_allowed true (negsuc n) false path rest = refl
set_allowed false (pos n) true path rest = refl
set_allowed false (pos n) false path rest = refl
set_allowed false (negsuc n) true path rest = refl
set_allowed false (negsuc n) false path rest = refl

set_fits : (v : ℤ) (coded : Bool) (path : Word) (bytes : List ℕ) → fits (set_phrase v coded path (data_words coded bytes)) ≡ true
set_fits v coded path [] = refl
set_fits v coded path (b ∷ bs) = refl

pub set_fitting : (in_multi : Bool) (v : ℤ) (coded : Bool) (path : Word) (bytes : List ℕ) → starts_with 45 path ≡ false → IsData bytes → IsVersion v
    → IsFitting in_multi (phrase (set_words v coded path bytes))
set_fitting in_multi v coded path bytes h d n = rw (set_is v coded path (data_words coded bytes) h) (record {
  options = set_allowed in_multi v coded path (data_words coded bytes);
  words = set_fits v coded path bytes;
  version = version_good v n;
  base64 = ap (λ b. b && is_bad_data (data_word (path ∷ data_words coded bytes))) (set_has v coded) ∙ data_good coded path bytes d;
})

pub set_meant : (wait : Bool) (v : ℤ) (coded : Bool) (path : Word) (bytes : List ℕ) → starts_with 45 path ≡ false → IsData bytes → IsVersion v
    → command_of wait (phrase (set_words v coded path bytes)) ≡ command.Set path bytes v wait
set_meant wait v coded path bytes h d n =
    ap (command_of wait) (set_is v coded path (data_words coded bytes) h)
    ∙ rw (set_has v coded, data_back coded path bytes d, version_expected v n) refl

pub set_part_meant : (v : ℤ) (coded : Bool) (path : Word) (bytes : List ℕ) → starts_with 45 path ≡ false → IsData bytes → IsVersion v
    → part_of (phrase (set_words v coded path bytes)) ≡ part.Set path bytes v
set_part_meant v coded path bytes h d n =
    ap part_of (set_is v coded path (data_words coded bytes) h)
    ∙ rw (set_has v coded, data_back coded path bytes d, version_expected v n) refl

abbrev delete_phrase : ℤ → Word → Phrase
delete_phrase v path = record { name = codes "delete"; options = version_options v; version = said_version v; rest = path ∷ [] }

delete_is : (v : ℤ) (path : Word) → starts_with 45 path ≡ false → phrase (delete_words v path) ≡ delete_phrase v path
delete_is (pos n) path h = rw h refl
delete_is (negsuc n) path h = rw h refl

delete_allowed : (in_multi : Bool) (v : ℤ) (path : Word) → (has_bad_option in_multi (delete_phrase v path) ≡ false) × (has_bad_base64 (delete_phrase v path) ≡ false)
delete_allowed true (pos n) path = (refl, refl)
delete_allowed true (negsuc n) path = (refl, refl)
delete_allowed false (pos n) path = (refl, refl)
delete_allowed false (negsuc n) path = (refl, refl)

pub delete_fitting : (in_multi : Bool) (v : ℤ) (path : Word) → starts_with 45 path ≡ false → IsVersion v → IsFitting in_multi (phrase (delete_words v path))
delete_fitting in_multi v path h n = rw (delete_is v path h) (record {
  options = (delete_allowed in_multi v path).0;
  words = refl;
  version = version_good v n;
  base64 = (delete_allowed in_multi v path).1;
})

pub delete_meant : (wait : Bool) (v : ℤ) (path : Word) → starts_with 45 path ≡ false → IsVersion v
    → command_of wait (phrase (delete_words v path)) ≡ command.Delete path v wait
delete_meant wait v path h n = ap (command_of wait) (delete_is v path h) ∙ rw (version_expected v n) refl

pub delete_part_meant : (v : ℤ) (path : Word) → starts_with 45 path ≡ false → IsVersion v → part_of (phrase (delete_words v path)) ≡ part.Delete path v
delete_part_meant v path h n = ap part_of (delete_is v path h) ∙ rw (version_expected v n) refl

-- the commands that read
read_is : (verb : Word) (watch : Bool) (path : Word) → starts_with 45 path ≡ false
    → phrase (read_words verb watch path) ≡ record { name = verb; options = word_if watch (codes "-w"); version = None; rest = path ∷ [] }
read_is verb true path h = rw h refl
read_is verb false path h = rw h refl

pub get_fitting : (watch : Bool) (path : Word) → starts_with 45 path ≡ false → IsFitting false (phrase (read_words (codes "get") watch path))
get_fitting true path h = rw (read_is (codes "get") true path h) (record { options = refl; words = refl; version = refl; base64 = refl })
get_fitting false path h = rw (read_is (codes "get") false path h) (record { options = refl; words = refl; version = refl; base64 = refl })

pub stat_fitting : (watch : Bool) (path : Word) → starts_with 45 path ≡ false → IsFitting false (phrase (read_words (codes "stat") watch path))
stat_fitting true path h = rw (read_is (codes "stat") true path h) (record { options = refl; words = refl; version = refl; base64 = refl })
stat_fitting false path h = rw (read_is (codes "stat") false path h) (record { options = refl; words = refl; version = refl; base64 = refl })

pub ls_fitting : (watch : Bool) (path : Word) → starts_with 45 path ≡ false → IsFitting false (phrase (read_words (codes "ls") watch path))
ls_fitting true path h = rw (read_is (codes "ls") true path h) (record { options = refl; words = refl; version = refl; base64 = refl })
ls_fitting false path h = rw (read_is (codes "ls") false path h) (record { options = refl; words = refl; version = refl; base64 = refl })

pub get_meant : (watch : Bool) (path : Word) → starts_with 45 path ≡ false → command_of true (phrase (read_words (codes "get") watch path)) ≡ command.Get path watch
get_meant true path h = ap (command_of true) (read_is (codes "get") true path h)
get_meant false path h = ap (command_of true) (read_is (codes "get") false path h)

pub stat_meant : (watch : Bool) (path : Word) → starts_with 45 path ≡ false → command_of true (phrase (read_words (codes "stat") watch path)) ≡ command.Stat path watch
stat_meant true path h = ap (command_of true) (read_is (codes "stat") true path h)
stat_meant false path h = ap (command_of true) (read_is (codes "stat") false path h)

pub ls_meant : (watch : Bool) (path : Word) → starts_with 45 path ≡ false → command_of true (phrase (read_words (codes "ls") watch path)) ≡ command.Ls path watch
ls_meant true path h = ap (command_of true) (read_is (codes "ls") true path h)
ls_meant false path h = ap (command_of true) (read_is (codes "ls") false path h)

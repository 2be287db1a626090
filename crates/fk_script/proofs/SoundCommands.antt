-- The command that a line says is sound where the line doesn't offend.
use Rattle.std.proofs.Common.{◌≡◌, ℕ, pos, negsuc, ◌≤◌, ◌+◌, Bool, true, false, cond, List, [], ◌∷◌, Option, Some, None, Result, Ok, Err, length, map, refl, sym, ◌∙◌, ap, subst, codes, arith, lit<}
use Rattle.std.specs.Prelude.{◌&&◌, ◌||◌, not, nat_le, unwrap_or, IfSome}
use Rattle.std.specs.List.{list_any, slice_split, onto_first, AllByRecursion}
use Rattle.std.specs.Option.{option_map}
use Rattle.std.specs.Result.{result_ok}
use Rattle.std.specs.Str.Parse.{digits_value}
use Rattle.std.proofs.lemmas.List.{length-map}
use Rattle.std.proofs.lemmas.List.Splits.{length-slice_split}
use Rattle.std.proofs.lemmas.Slice.Eq.{bytes_eq-Decides}
use Rattle.std.proofs.lemmas.Bool.{or_parts, leb-true, not-false}
use Rattle.base64.specs.Engines.{standard}
use Rattle.base64.specs.GeneralPurpose.{IsBytes, decode_of, encode_of}
use Rattle.base64.specs.declared.decode.DecodeError.{DecodeError}
use Rattle.base64.proofs.EngineFacts.{decode_of_strict}
use Rattle.fk_script.specs.CommandLines.{CommandLine, command_line, is_unknown, has_wrong_words, weight, meant_command, spoken, waits, phrases}
use Rattle.fk_script.specs.Lines.{Word, is, is_one_of, starts_with, first}
use Rattle.fk_script.specs.Phrases.{Phrase, phrase, is_option, from_path, fits, is_unknown_part, data_word, data_bytes, bytes, expected, command_of, part_of, has_option}
use Rattle.fk_script.specs.Values.{decoded, is_decimal, most_version}
use Rattle.fk_script.specs.declared.command.Command.{Command}
use Rattle.fk_script.specs.declared.command.PartCommand.{PartCommand}
use Rattle.fk_script.proofs.CleanWords.{IsWord, AreWords}
use Rattle.fk_script.proofs.CodedData.{decoded_back}
use Rattle.fk_script.proofs.TextWords.{utf8_bytes}
use Rattle.fk_script.proofs.Sound.{IsPath, IsPartPath, IsData, IsVersion, IsPart, IsCommand, command_weight}
use Rattle.fk_script.proofs.PrintedCommands.{is_semicolon}

-- the words from the path on, which doesn't start with `-`
abbrev IsRestOf : (Word → Type 0) → List Word → Type 0
IsRestOf P [] = Unit {0}
IsRestOf P (p ∷ rest) = P p × (starts_with 45 p ≡ false) × AllByRecursion P rest

step_rest : (P : Word → Type 0) (t : Bool) (w : Word) (ws later : List Word) → starts_with 45 w ≡ t → P w → AllByRecursion P ws → IsRestOf P later → IsRestOf P (cond t later (w ∷ ws))
step_rest P true w ws later e h hs l = l
step_rest P false w ws later e h hs l = (h, e, hs)

rest_is : (P : Word → Type 0) (behind_v : Bool) (ws : List Word) → AllByRecursion P ws → IsRestOf P (from_path behind_v ws)
rest_is P true [] h = tt
rest_is P false [] h = tt
rest_is P true (w ∷ ws) h = rest_is P false ws h.1
rest_is P false (w ∷ ws) h = step_rest P (is_option w) w ws (from_path (is w (codes "-v")) ws) refl h.0 h.1 (rest_is P (is w (codes "-v")) ws h.1)

phrase_rest : (P : Word → Type 0) (ws : List Word) → AllByRecursion P ws → IsRestOf P (phrase ws).rest
phrase_rest P [] h = tt
phrase_rest P (w ∷ ws) h = rest_is P false ws h.1

-- the data
from_decode : (w : Word) (r : Result (List ℕ) DecodeError) → IsBytes w → decode_of standard w ≡ r → IsData (unwrap_or (result_ok r) [])
from_decode w (Ok b) bytes e =
    let written : w ≡ encode_of standard b = decode_of_strict standard w b (refl, refl) bytes e in
    ap decoded (sym written) ∙ ap result_ok e
from_decode w (Err f) bytes e = decoded_back [] (λ i. lit< tt)

data_is : (coded : Bool) (o : Option Word) → IfSome o IsWord → IsData (data_bytes coded o)
data_is true None h = decoded_back [] (λ i. lit< tt)
data_is false None h = decoded_back [] (λ i. lit< tt)
data_is true (Some w) h = from_decode w (decode_of standard w) (utf8_bytes w h.text) refl
data_is false (Some w) h = decoded_back w (utf8_bytes w h.text)

-- the version
step_version : (a s t : Bool) (v : ℕ) → nat_le v most_version ≡ t → IsVersion (unwrap_or (cond a (Some (negsuc 0)) (option_map pos (cond (s && t) (Some v) None))) (negsuc 0))
step_version true s t v h = refl
step_version false true true v h = leb-true v most_version h
step_version false true false v h = refl
step_version false false t v h = refl

version_is : (o : Option Word) → IsVersion (expected o)
version_is None = refl
version_is (Some w) = step_version (is w (codes "-1")) (is_decimal w) (nat_le (digits_value 10 w) most_version) (digits_value 10 w) refl

-- a phrase without a path is a `close`
only_close : (a b c : Bool) → ((a && false) || (b && false) || (c && true)) ≡ true → c ≡ true
only_close a b true h = refl
only_close true true false h = cc
only_close true false false h = cc
only_close false true false h = cc
only_close false false false h = cc

close_name : (name : Word) (options : List Word) (version : Option Word) → fits (record { name = name; options = options; version = version; rest = [] }) ≡ true → name ≡ codes "close"
close_name name options version h =
    (bytes_eq-Decides name (codes "close")).0
    (only_close (is_one_of (codes "create" ∷ codes "set" ∷ []) name) (is_one_of (codes "delete" ∷ codes "get" ∷ codes "stat" ∷ codes "ls" ∷ []) name) (is name (codes "close")) h)

-- a command that is no multi
abbrev pub IsLone : Command → Type 0
IsLone c = IsCommand c × (command_weight c ≡ 1)

pub choose : (b : Bool) (x y : Command) → IsLone x → IsLone y → IsLone (cond b x y)
choose true x y h i = h
choose false x y h i = i

data_of : (P : Word → Type 0) (over : (w : Word) → P w → IsWord w) (path : Word) (rest : List Word) → AllByRecursion P rest → IfSome (data_word (path ∷ rest)) IsWord
data_of P over path [] h = tt
data_of P over path (w ∷ ws) h = over w h.0

lone_is : (wait : Bool) (name : Word) (options : List Word) (version : Option Word) (rest : List Word) → IsRestOf IsWord rest
    → fits (record { name = name; options = options; version = version; rest = rest }) ≡ true
    → IsLone (command_of wait (record { name = name; options = options; version = version; rest = rest }))
lone_is wait name options version [] r f =
    subst (λ n. IsLone (command_of wait (record { name = n; options = options; version = version; rest = [] }))) (sym (close_name name options version f)) (tt, refl)
lone_is wait name options version (path ∷ rest) r f =
    let ph : Phrase = record { name = name; options = options; version = version; rest = path ∷ rest } in
    let p : IsPath path = record { word = r.0; undashed = r.1 } in
    let d : IsData (bytes ph) = data_is (has_option (codes "-b") ph) (data_word (path ∷ rest)) (data_of IsWord (λ w h. h) path rest r.2) in
    let v : IsVersion (expected version) = version_is version in
    choose (is name (codes "create")) _ _ ((p, d), refl)
    (choose (is name (codes "set")) _ _ ((p, d, v), refl)
    (choose (is name (codes "delete")) _ _ ((p, v), refl)
    (choose (is name (codes "get")) _ _ (p, refl)
    (choose (is name (codes "stat")) _ _ (p, refl)
    (choose (is name (codes "ls")) _ _ (p, refl) (tt, refl))))))

-- the parts of a multi
record IsPartWord (w : Word) : Type 0 where
  word : IsWord w
  apart : is w (codes ";") ≡ false

choose_part : (b : Bool) (x y : PartCommand) → IsPart x → IsPart y → IsPart (cond b x y)
choose_part true x y h i = h
choose_part false x y h i = i

part_is : (name : Word) (options : List Word) (version : Option Word) (rest : List Word) → IsRestOf IsPartWord rest
    → fits (record { name = name; options = options; version = version; rest = rest }) ≡ true
    → is_unknown_part (record { name = name; options = options; version = version; rest = rest }) ≡ false
    → IsPart (part_of (record { name = name; options = options; version = version; rest = rest }))
part_is name options version [] r f u =
    let known = subst (λ n. is_unknown_part (record { name = n; options = options; version = version; rest = [] }) ≡ false) (close_name name options version f) u in
    cc known
part_is name options version (path ∷ rest) r f u =
    let ph : Phrase = record { name = name; options = options; version = version; rest = path ∷ rest } in
    let p : IsPartPath path = record { path = record { word = r.0.word; undashed = r.1 }; apart = r.0.apart } in
    let d : IsData (bytes ph) = data_is (has_option (codes "-b") ph) (data_word (path ∷ rest)) (data_of IsPartWord (λ w h. h.word) path rest r.2) in
    let v : IsVersion (expected version) = version_is version in
    choose_part (is name (codes "create")) _ _ (p, d) (choose_part (is name (codes "set")) _ _ (p, d, v) (p, v))

onto_part : (w : Word) (pieces : List (List Word)) → IsPartWord w → AllByRecursion (AllByRecursion IsPartWord) pieces → AllByRecursion (AllByRecursion IsPartWord) (onto_first w pieces)
onto_part w [] h hs = ((h, tt), tt)
onto_part w (p ∷ ps) h hs = ((h, hs.0), hs.1)

step_pieces : (t : Bool) (w : Word) (pieces : List (List Word)) → is w (codes ";") ≡ t → IsWord w → AllByRecursion (AllByRecursion IsPartWord) pieces
    → AllByRecursion (AllByRecursion IsPartWord) (cond t ([] ∷ pieces) (onto_first w pieces))
step_pieces true w pieces e h hs = (tt, hs)
step_pieces false w pieces e h hs = onto_part w pieces (record { word = h; apart = e }) hs

pieces_are : (ws : List Word) → AreWords ws → AllByRecursion (AllByRecursion IsPartWord) (slice_split is_semicolon ws)
pieces_are [] h = (tt, tt)
pieces_are (w ∷ ws) h = step_pieces (is w (codes ";")) w (slice_split is_semicolon ws) refl h.0 (pieces_are ws h.1)

each_part : (pieces : List (List Word)) → AllByRecursion (AllByRecursion IsPartWord) pieces
    → list_any is_unknown_part (map phrase pieces) ≡ false → list_any (λ p. not (fits p)) (map phrase pieces) ≡ false
    → AllByRecursion IsPart (map part_of (map phrase pieces))
each_part [] h u f = tt
each_part (ws ∷ pieces) h u f =
    let known = or_parts (is_unknown_part (phrase ws)) (list_any is_unknown_part (map phrase pieces)) u in
    let fitting = or_parts (not (fits (phrase ws))) (list_any (λ p. not (fits p)) (map phrase pieces)) f in (
      part_is (phrase ws).name (phrase ws).options (phrase ws).version (phrase ws).rest (phrase_rest IsPartWord ws h.0) (not-false (fits (phrase ws)) fitting.0) known.0,
      each_part pieces h.1 known.1 fitting.1,
    )

-- what is so of the command of a line
abbrev IsSaid : CommandLine → Type 0
IsSaid l = IsCommand (meant_command l) × (command_weight (meant_command l) ≡ weight l)

length-parts : (pieces : List (List Word)) → length (map part_of (map phrase pieces)) ≡ length (map phrase pieces)
length-parts pieces = length-map (map phrase pieces) part_of

multi_is : (wait : Bool) (ws : List Word) → AreWords ws
    → is_unknown (record { wait = wait; name = codes "multi"; phrases = map phrase (slice_split is_semicolon ws) }) ≡ false
    → has_wrong_words (record { wait = wait; name = codes "multi"; phrases = map phrase (slice_split is_semicolon ws) }) ≡ false
    → IsSaid (record { wait = wait; name = codes "multi"; phrases = map phrase (slice_split is_semicolon ws) })
multi_is wait ws h u f =
    let pieces = slice_split is_semicolon ws in
    let both = or_parts (not (nat_le (length (map phrase pieces)) 16)) (list_any (λ p. not (fits p)) (map phrase pieces)) f in
    let few : length (map phrase pieces) ≤ 16 = leb-true (length (map phrase pieces)) 16 (not-false (nat_le (length (map phrase pieces)) 16) both.0) in (
      record {
        each = each_part pieces (pieces_are ws h) u both.1;
        some = omega (arith, length-parts pieces, length-map pieces phrase, length-slice_split is_semicolon ws);
        few = omega (arith, length-parts pieces);
      },
      ap (λ n. n + 1) (length-parts pieces),
    )

step_line : (t : Bool) (wait : Bool) (w : Word) (ws : List Word) → is w (codes "multi") ≡ t → AreWords (w ∷ ws)
    → is_unknown (record { wait = wait; name = w; phrases = cond t (map phrase (slice_split is_semicolon ws)) (phrase (w ∷ ws) ∷ []) }) ≡ false
    → has_wrong_words (record { wait = wait; name = w; phrases = cond t (map phrase (slice_split is_semicolon ws)) (phrase (w ∷ ws) ∷ []) }) ≡ false
    → IsSaid (record { wait = wait; name = w; phrases = cond t (map phrase (slice_split is_semicolon ws)) (phrase (w ∷ ws) ∷ []) })
step_line true wait w ws e h u f =
    let name : w ≡ codes "multi" = (bytes_eq-Decides w (codes "multi")).0 e in
    subst (λ n. IsSaid (record { wait = wait; name = n; phrases = map phrase (slice_split is_semicolon ws) })) (sym name)
    (multi_is wait ws h.1
    (subst (λ n. is_unknown (record { wait = wait; name = n; phrases = map phrase (slice_split is_semicolon ws) }) ≡ false) name u)
    (subst (λ n. has_wrong_words (record { wait = wait; name = n; phrases = map phrase (slice_split is_semicolon ws) }) ≡ false) name f))
step_line false wait w ws e h u f =
    let ph = phrase (w ∷ ws) in
    let fitting : (not (fits ph) || false) ≡ false = rw e at f in
    let l = lone_is wait w ph.options ph.version ph.rest (phrase_rest IsWord (w ∷ ws) h) (not-false (fits ph) (or_parts (not (fits ph)) false fitting).0) in
    rw e l

spoken_line : (wait : Bool) (ws : List Word) → AreWords ws
    → is_unknown (record { wait = wait; name = first ws; phrases = phrases ws }) ≡ false
    → has_wrong_words (record { wait = wait; name = first ws; phrases = phrases ws }) ≡ false
    → IsSaid (record { wait = wait; name = first ws; phrases = phrases ws })
spoken_line wait [] h u f = cc f
spoken_line wait (w ∷ ws) h u f = step_line (is w (codes "multi")) wait w ws refl h u f

step_spoken : (t : Bool) (w : Word) (ws : List Word) → AreWords (w ∷ ws) → AreWords (cond t ws (w ∷ ws))
step_spoken true w ws h = h.1
step_spoken false w ws h = h

spoken_are : (ws : List Word) → AreWords ws → AreWords (spoken ws)
spoken_are [] h = tt
spoken_are (w ∷ ws) h = step_spoken (is w (codes "&")) w ws h

-- a line that doesn't offend says a sound command
pub command_read : (ws : List Word) → AreWords ws → is_unknown (command_line ws) ≡ false → has_wrong_words (command_line ws) ≡ false
    → IsCommand (meant_command (command_line ws)) × (command_weight (meant_command (command_line ws)) ≡ weight (command_line ws))
command_read ws h u f = spoken_line (waits ws) (spoken ws) (spoken_are ws h) u f

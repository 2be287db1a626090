-- The line of a printed command says the command.
use Rattle.std.proofs.Common.{◌≡◌, ◌+◌, Bool, true, false, cond, List, [], ◌∷◌, ◌++◌, length, map, refl, ◌∙◌, ap, codes, arith}
use Rattle.std.specs.Prelude.{◌&&◌, ◌||◌, not}
use Rattle.std.specs.List.{list_all, list_any, flat_map, slice_split, onto_first, AllByRecursion}
use Rattle.std.proofs.lemmas.List.{append-nil, length-map}
use Rattle.std.proofs.lemmas.Bool.{le-leb}
use Rattle.fk_script.specs.CommandLines.{command_line, is_unknown, has_wrong_option, has_wrong_words, has_wrong_version, has_wrong_base64, weight, meant_command}
use Rattle.fk_script.specs.Lines.{Word, is, starts_with}
use Rattle.fk_script.specs.Phrases.{Phrase, phrase, is_command_name, is_always_waited_for, is_unknown_part, has_bad_option, fits, is_bad_version, has_bad_base64, command_of, part_of}
use Rattle.fk_script.specs.Printed.{and_words, command_words, is_coded, is_coded_in_part, part_words, parts_words}
use Rattle.fk_script.specs.SoFar.{kind_of}
use Rattle.fk_script.specs.declared.place.Kind.TheVariants as kind
use Rattle.fk_script.specs.declared.place.Place.TheVariants as place
use Rattle.fk_script.specs.declared.command.Command.{Command}
use Rattle.fk_script.specs.declared.command.Command.TheVariants as command
use Rattle.fk_script.specs.declared.command.PartCommand.{PartCommand}
use Rattle.fk_script.specs.declared.command.PartCommand.TheVariants as part
use Rattle.fk_script.proofs.PrintedPhrases.{IsFitting, create_fitting, create_meant, create_part_meant, set_fitting, set_meant, set_part_meant, delete_fitting, delete_meant, delete_part_meant, get_fitting, stat_fitting, ls_fitting, get_meant, stat_meant, ls_meant}
use Rattle.fk_script.proofs.PrintedWords.{is_apart, part_apart}
use Rattle.fk_script.proofs.Sound.{IsPart, AreParts, IsCommand, command_weight}

-- a line that says this command
pub record IsCommandLine (ws : List Word) (c : Command) : Type 0 where
  pub kind : kind_of place.Client ws ≡ kind.Command
  pub unknown : is_unknown (command_line ws) ≡ false
  pub option : has_wrong_option (command_line ws) ≡ false
  pub words : has_wrong_words (command_line ws) ≡ false
  pub version : has_wrong_version (command_line ws) ≡ false
  pub base64 : has_wrong_base64 (command_line ws) ≡ false
  pub weight : weight (command_line ws) ≡ command_weight c
  pub meant : meant_command (command_line ws) ≡ c

-- the name of a command that has no parts
record IsVerb (verb : Word) : Type 0 where
  plain : is verb (codes "&") ≡ false
  lone : is verb (codes "multi") ≡ false
  named : is_command_name verb ≡ true
  full : is verb [] ≡ false
  comment : starts_with 35 verb ≡ false
  client : is verb (codes "client") ≡ false
  schedule : is verb (codes "schedule") ≡ false

line_is : (wait : Bool) (verb : Word) (ws : List Word) → IsVerb verb
    → command_line (and_words wait ++ verb ∷ ws) ≡ record { wait = wait; name = verb; phrases = phrase (verb ∷ ws) ∷ [] }
line_is true verb ws v = rw (v.plain, v.lone) refl
line_is false verb ws v = rw v.lone refl

kind_is : (wait : Bool) (verb : Word) (ws : List Word) → IsVerb verb → kind_of place.Client (and_words wait ++ verb ∷ ws) ≡ kind.Command
kind_is true verb ws v = rw (v.comment, v.client, v.schedule) refl
kind_is false verb ws v = refl

lone : (wait : Bool) (verb : Word) (ws : List Word) (c : Command) → IsVerb verb → (not wait && is_always_waited_for verb) ≡ false
    → IsFitting false (phrase (verb ∷ ws)) → command_of wait (phrase (verb ∷ ws)) ≡ c → command_weight c ≡ 1
    → IsCommandLine (and_words wait ++ verb ∷ ws) c
lone wait verb ws c v w f m one = record {
  kind = kind_is wait verb ws v;
  unknown = ap is_unknown (line_is wait verb ws v) ∙ rw (v.full, v.named, v.lone) refl;
  option = ap has_wrong_option (line_is wait verb ws v) ∙ rw (w, v.lone, f.options) refl;
  words = ap has_wrong_words (line_is wait verb ws v) ∙ rw (v.lone, f.words) refl;
  version = ap has_wrong_version (line_is wait verb ws v) ∙ rw f.version refl;
  base64 = ap has_wrong_base64 (line_is wait verb ws v) ∙ rw f.base64 refl;
  weight = ap weight (line_is wait verb ws v) ∙ rw (v.lone, one) refl;
  meant = ap meant_command (line_is wait verb ws v) ∙ rw (v.lone, m) refl;
}

-- the parts of a multi, cut at `;`
abbrev pub is_semicolon : Word → Bool
is_semicolon word = is word (codes ";")

step_cut : (t : Bool) (w : Word) (ws rest : List Word) → (not t && list_all is_apart ws) ≡ true
    → (list_all is_apart ws ≡ true → slice_split is_semicolon (ws ++ codes ";" ∷ rest) ≡ ws ∷ slice_split is_semicolon rest)
    → cond t ([] ∷ slice_split is_semicolon (ws ++ codes ";" ∷ rest)) (onto_first w (slice_split is_semicolon (ws ++ codes ";" ∷ rest))) ≡ (w ∷ ws) ∷ slice_split is_semicolon rest
step_cut true w ws rest h i = cc
step_cut false w ws rest h i = ap (onto_first w) (i h)

cut_part : (ws rest : List Word) → list_all is_apart ws ≡ true → slice_split is_semicolon (ws ++ codes ";" ∷ rest) ≡ ws ∷ slice_split is_semicolon rest
cut_part [] rest h = refl
cut_part (w ∷ ws) rest h = step_cut (is w (codes ";")) w ws rest h (cut_part ws rest)

step_uncut : (t : Bool) (w : Word) (ws : List Word) → (not t && list_all is_apart ws) ≡ true
    → (list_all is_apart ws ≡ true → slice_split is_semicolon ws ≡ ws ∷ [])
    → cond t ([] ∷ slice_split is_semicolon ws) (onto_first w (slice_split is_semicolon ws)) ≡ (w ∷ ws) ∷ []
step_uncut true w ws h i = cc
step_uncut false w ws h i = ap (onto_first w) (i h)

uncut_part : (ws : List Word) → list_all is_apart ws ≡ true → slice_split is_semicolon ws ≡ ws ∷ []
uncut_part [] h = refl
uncut_part (w ∷ ws) h = step_uncut (is w (codes ";")) w ws h (uncut_part ws)

cut_parts : (p : PartCommand) (ps : List PartCommand) → IsPart p → AllByRecursion IsPart ps
    → slice_split is_semicolon (part_words p ++ flat_map (λ q. codes ";" ∷ part_words q) ps) ≡ part_words p ∷ map part_words ps
cut_parts p [] h hs = ap (slice_split is_semicolon) (append-nil (part_words p)) ∙ uncut_part (part_words p) (part_apart p h)
cut_parts p (q ∷ qs) h hs =
    cut_part (part_words p) (part_words q ++ flat_map (λ r. codes ";" ∷ part_words r) qs) (part_apart p h)
    ∙ ap (λ rest. part_words p ∷ rest) (cut_parts q qs hs.0 hs.1)

parts_cut : (parts : List PartCommand) → AreParts parts → slice_split is_semicolon (parts_words parts) ≡ map part_words parts
parts_cut [] h = absurd (omega (arith, h.some))
parts_cut (p ∷ ps) h = cut_parts p ps h.each.0 h.each.1

abbrev parts_phrases : List PartCommand → List Phrase
parts_phrases parts = map phrase (map part_words parts)

multi_is : (wait : Bool) (parts : List PartCommand) → AreParts parts
    → command_line (and_words wait ++ codes "multi" ∷ parts_words parts) ≡ record { wait = wait; name = codes "multi"; phrases = parts_phrases parts }
multi_is true parts h = rw (parts_cut parts h) refl
multi_is false parts h = rw (parts_cut parts h) refl

-- a part offends against nothing, and says what it is
record IsPartPhrase (p : PartCommand) : Type 0 where
  known : is_unknown_part (phrase (part_words p)) ≡ false
  fitting : IsFitting true (phrase (part_words p))
  meant : part_of (phrase (part_words p)) ≡ p

part_is : (p : PartCommand) → IsPart p → IsPartPhrase p
part_is (part.Create path bytes eph) h = record {
  known = refl;
  fitting = create_fitting true false eph (is_coded_in_part bytes) path bytes refl h.0.path.undashed h.1;
  meant = create_part_meant eph (is_coded_in_part bytes) path bytes h.0.path.undashed h.1;
}
part_is (part.Set path bytes version) h = record {
  known = refl;
  fitting = set_fitting true version (is_coded_in_part bytes) path bytes h.0.path.undashed h.1 h.2;
  meant = set_part_meant version (is_coded_in_part bytes) path bytes h.0.path.undashed h.1 h.2;
}
part_is (part.Delete path version) h = record {
  known = refl;
  fitting = delete_fitting true version path h.0.path.undashed h.1;
  meant = delete_part_meant version path h.0.path.undashed h.1;
}

none_of : (test : Phrase → Bool) (good : (p : PartCommand) → IsPartPhrase p → test (phrase (part_words p)) ≡ false)
    (parts : List PartCommand) → AllByRecursion IsPart parts → list_any test (parts_phrases parts) ≡ false
none_of test good [] h = refl
none_of test good (p ∷ ps) h = rw (good p (part_is p h.0), none_of test good ps h.1) refl

parts_meant : (parts : List PartCommand) → AllByRecursion IsPart parts → map part_of (parts_phrases parts) ≡ parts
parts_meant [] h = refl
parts_meant (p ∷ ps) h = rw ((part_is p h.0).meant, parts_meant ps h.1) refl

length-phrases : (parts : List PartCommand) → length (parts_phrases parts) ≡ length parts
length-phrases parts = length-map (map part_words parts) phrase ∙ length-map parts part_words

multi : (wait : Bool) (parts : List PartCommand) → AreParts parts → IsCommandLine (and_words wait ++ codes "multi" ∷ parts_words parts) (command.Multi parts wait)
multi wait parts h = record {
  kind = multi_kind wait (parts_words parts);
  unknown = ap is_unknown (multi_is wait parts h) ∙ none_of is_unknown_part (λ p f. f.known) parts h.each;
  option = ap has_wrong_option (multi_is wait parts h) ∙ waits wait (list_any (has_bad_option true) (parts_phrases parts)) (none_of (has_bad_option true) (λ p f. f.fitting.options) parts h.each);
  words = ap has_wrong_words (multi_is wait parts h) ∙ rw (length-phrases parts, le-leb (length parts) 16 h.few) (none_of (λ p. not (fits p)) (λ p f. ap not f.fitting.words) parts h.each);
  version = ap has_wrong_version (multi_is wait parts h) ∙ none_of (λ p. is_bad_version p.version) (λ p f. f.fitting.version) parts h.each;
  base64 = ap has_wrong_base64 (multi_is wait parts h) ∙ none_of has_bad_base64 (λ p f. f.fitting.base64) parts h.each;
  weight = ap weight (multi_is wait parts h) ∙ ap (λ n. n + 1) (length-phrases parts);
  meant = ap meant_command (multi_is wait parts h) ∙ ap (λ ps. command.Multi ps wait) (parts_meant parts h.each);
}
  where
    multi_kind : (wait : Bool) (ws : List Word) → kind_of place.Client (and_words wait ++ codes "multi" ∷ ws) ≡ kind.Command
    multi_kind true ws = refl
    multi_kind false ws = refl

    waits : (wait r : Bool) → r ≡ false → ((not wait && false) || r) ≡ false
    waits true r e = e
    waits false r e = e

create_verb : IsVerb (codes "create")
create_verb = record { plain = refl; lone = refl; named = refl; full = refl; comment = refl; client = refl; schedule = refl }

set_verb : IsVerb (codes "set")
set_verb = record { plain = refl; lone = refl; named = refl; full = refl; comment = refl; client = refl; schedule = refl }

delete_verb : IsVerb (codes "delete")
delete_verb = record { plain = refl; lone = refl; named = refl; full = refl; comment = refl; client = refl; schedule = refl }

unwaited : (wait : Bool) → (not wait && false) ≡ false
unwaited true = refl
unwaited false = refl

-- the printed line of a command says the command
pub command_reads : (c : Command) → IsCommand c → IsCommandLine (command_words c) c
command_reads (command.Create path bytes seq eph wait) h =
    lone wait (codes "create") _ (command.Create path bytes seq eph wait) create_verb (unwaited wait)
    (create_fitting false seq eph (is_coded bytes) path bytes refl h.0.undashed h.1) (create_meant wait seq eph (is_coded bytes) path bytes h.0.undashed h.1) refl
command_reads (command.Set path bytes version wait) h =
    lone wait (codes "set") _ (command.Set path bytes version wait) set_verb (unwaited wait)
    (set_fitting false version (is_coded bytes) path bytes h.0.undashed h.1 h.2) (set_meant wait version (is_coded bytes) path bytes h.0.undashed h.1 h.2) refl
command_reads (command.Delete path version wait) h =
    lone wait (codes "delete") _ (command.Delete path version wait) delete_verb (unwaited wait)
    (delete_fitting false version path h.0.undashed h.1) (delete_meant wait version path h.0.undashed h.1) refl
command_reads (command.Get path watch) h =
    lone true (codes "get") _ (command.Get path watch) (record { plain = refl; lone = refl; named = refl; full = refl; comment = refl; client = refl; schedule = refl }) refl
    (get_fitting watch path h.undashed) (get_meant watch path h.undashed) refl
command_reads (command.Stat path watch) h =
    lone true (codes "stat") _ (command.Stat path watch) (record { plain = refl; lone = refl; named = refl; full = refl; comment = refl; client = refl; schedule = refl }) refl
    (stat_fitting watch path h.undashed) (stat_meant watch path h.undashed) refl
command_reads (command.Ls path watch) h =
    lone true (codes "ls") _ (command.Ls path watch) (record { plain = refl; lone = refl; named = refl; full = refl; comment = refl; client = refl; schedule = refl }) refl
    (ls_fitting watch path h.undashed) (ls_meant watch path h.undashed) refl
command_reads command.Close h = record { kind = refl; unknown = refl; option = refl; words = refl; version = refl; base64 = refl; weight = refl; meant = refl }
command_reads (command.Multi parts wait) h = multi wait parts h

-- A public line reads back from its words.
use Rattle.std.proofs.Common.{◌≡◌, true, List, [], ◌∷◌, ◌++◌, codes, Some, refl}
use Rattle.std.specs.List.{flat_map}
use Rattle.std.specs.Fmt.{decimal}
use Rattle.fk_base.specs.Path.{Name, path_text}
use Rattle.fk_tree.specs.declared.change.Change.{Change}
use Rattle.fk_tree.specs.declared.change.Change.TheVariants as change
use Rattle.fk_tree.specs.declared.change.Kind.{Kind}
use Rattle.fk_tree.specs.declared.change.Kind.TheVariants as kind
use Rattle.fk_print.specs.ClientNames.{are_client_names}
use Rattle.fk_print.specs.LineText.{act_words, change_word, kind_word, shown_words, verb_word}
use Rattle.fk_print.specs.WellFormed.{IsLine}
use Rattle.fk_print.specs.Words.{Text, at, client}
use Rattle.fk_print.specs.declared.line.Line.{Line}
use Rattle.fk_print.specs.declared.line.Line.TheVariants as line
use Rattle.fk_print.specs.declared.line.Verb.{Verb}
use Rattle.fk_print.specs.declared.line.Verb.TheVariants as verb
use Rattle.fk_read.specs.Cut.{words_in}
use Rattle.fk_read.specs.Reads.{take}
use Rattle.fk_read.specs.ReadLine.{change_of, kind_of, line_of, verb_of}
use Rattle.fk_read.proofs.WordsBack.{take_number, take_path, take_small}
use Rattle.fk_read.proofs.ClientsBack.{take_client}
use Rattle.fk_read.proofs.SpotsBack.{take_at}
use Rattle.fk_read.proofs.ActsBack.{act_back, act_shown}
use Rattle.fk_read.proofs.RepliesBack.{shown_back, shown_shown}
use Rattle.fk_read.proofs.Shown.{AreShown, is_shown, shown_at, shown_client, shown_decimal, shown_path, wide}

take_verb : (v : Verb) (rest : List Text) → take verb_of (words_in (verb_word v) ++ rest) ≡ Some (v, rest)
unfolding take verb_of
take_verb verb.Create rest = refl
take_verb verb.Set rest = refl
take_verb verb.Delete rest = refl
take_verb verb.Get rest = refl
take_verb verb.Stat rest = refl
take_verb verb.Ls rest = refl
take_verb verb.Close rest = refl
take_verb verb.Multi rest = refl

verb_shown : (v : Verb) → is_shown (verb_word v) ≡ true
verb_shown verb.Create = refl
verb_shown verb.Set = refl
verb_shown verb.Delete = refl
verb_shown verb.Get = refl
verb_shown verb.Stat = refl
verb_shown verb.Ls = refl
verb_shown verb.Close = refl
verb_shown verb.Multi = refl

take_kind : (k : Kind) (rest : List Text) → take kind_of (words_in (kind_word k) ++ rest) ≡ Some (k, rest)
unfolding take kind_of
take_kind kind.Data rest = refl
take_kind kind.Child rest = refl

kind_shown : (k : Kind) → is_shown (kind_word k) ≡ true
kind_shown kind.Data = refl
kind_shown kind.Child = refl

take_change : (c : Change) (rest : List Text) → take change_of (words_in (change_word c) ++ rest) ≡ Some (c, rest)
unfolding take change_of
take_change change.Created rest = refl
take_change change.Changed rest = refl
take_change change.Deleted rest = refl
take_change change.Child rest = refl

change_shown : (c : Change) → is_shown (change_word c) ≡ true
change_shown change.Created = refl
change_shown change.Changed = refl
change_shown change.Deleted = refl
change_shown change.Child = refl

-- the words of each kind of line
abbrev pub mark_of : Line → Text
mark_of (line.Tx p) = codes "+"
mark_of (line.Reply c i v s) = codes "<"
mark_of (line.Notice c t k h path) = codes "!"
mark_of (line.Expired c t) = codes "x"

abbrev pub line_words : List Name → Line → List Text
line_words names (line.Tx p) = decimal p.tx ∷ decimal p.moment ∷ client names p.session ∷ decimal p.k ∷ act_words p.act
line_words names (line.Reply c i v s) = client names c ∷ decimal i ∷ verb_word v ∷ shown_words s
line_words names (line.Notice c t k h path) = client names c ∷ at t ∷ kind_word k ∷ change_word h ∷ path_text path ∷ []
line_words names (line.Expired c t) = client names c ∷ at t ∷ []

pub line_back : (names : List Name) (l : Line) → are_client_names names ≡ true → IsLine names l
    → line_of names (mark_of l) (flat_map words_in (line_words names l)) ≡ Some l
line_back names (line.Tx p) known f = rw (take_number p.tx f.0, take_number p.moment f.1, take_client names p.session known f.2, take_number p.k f.3, act_back p.act f.4) refl
line_back names (line.Reply c i v s) known f = rw (take_client names c known f.0, take_small i f.1, take_verb v, shown_back v s f.2) refl
line_back names (line.Notice c t k h path) known f = rw (take_client names c known f.0, take_at t f.1, take_kind k, take_change h, take_path path f.2) refl
line_back names (line.Expired c t) known f = rw (take_client names c known f.0, take_at t f.1) refl

pub line_shown : (names : List Name) (l : Line) → are_client_names names ≡ true → IsLine names l → AreShown (line_words names l)
line_shown names (line.Tx p) known f = (shown_decimal p.tx f.0, (shown_decimal p.moment f.1, (shown_client names p.session known f.2, (shown_decimal p.k f.3, act_shown p.act f.4))))
line_shown names (line.Reply c i v s) known f = (shown_client names c known f.0, (shown_decimal i (wide i f.1), (verb_shown v, shown_shown v s f.2)))
line_shown names (line.Notice c t k h path) known f = (shown_client names c known f.0, (shown_at t f.1, (kind_shown k, (change_shown h, (shown_path path f.2, tt)))))
line_shown names (line.Expired c t) known f = (shown_client names c known f.0, (shown_at t f.1, tt))

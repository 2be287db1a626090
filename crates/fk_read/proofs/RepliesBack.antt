-- What a command is answered reads back from its words.
use Rattle.std.proofs.Common.{◌≡◌, ℕ, Bool, true, false, cond, List, [], ◌∷◌, ◌++◌, codes, length, map, Some, None, refl, arith, lit<}
use Rattle.std.specs.Prelude.{◌||◌, ◌==◌}
use Rattle.std.specs.List.{AllByRecursion, flat_map}
use Rattle.std.specs.Fmt.{decimal, signed_decimal, digits}
use Rattle.std.specs.Str.{bytes_eq}
use Rattle.std.proofs.lemmas.Bool.Decides.{nat_tests}
use Rattle.fk_base.specs.Digits.{number_below}
use Rattle.fk_base.specs.Code.{number_of as code_number}
use Rattle.fk_base.specs.Path.{PathNames, path_text}
use Rattle.fk_base.specs.declared.code.Code.{Code}
use Rattle.fk_base.specs.declared.code.Code.TheVariants as code
use Rattle.fk_tree.specs.declared.node.Stat.{Stat}
use Rattle.fk_tree.specs.declared.reply.PartReply.{PartReply}
use Rattle.fk_tree.specs.declared.reply.PartReply.TheVariants as reply
use Rattle.fk_print.specs.LineText.{part_reply_word, shown_words, stat_words}
use Rattle.fk_print.specs.WellFormed.{IsPartReply, IsPlace, IsShown, IsStat, is_of_tree}
use Rattle.fk_base.specs.Limits.{IsNumber, IsSmall}
use Rattle.fk_print.specs.Words.{Text, at, place_words}
use Rattle.fk_print.specs.declared.line.Shown.{Shown}
use Rattle.fk_print.specs.declared.line.Shown.TheVariants as shown
use Rattle.fk_print.specs.declared.line.Verb.{Verb}
use Rattle.fk_print.specs.declared.line.Verb.TheVariants as verb
use Rattle.fk_read.specs.Cut.{words_in}
use Rattle.fk_read.specs.ReadAct.{take_onto}
use Rattle.fk_read.specs.ReadReply.{coded, refused_by, shown_of, stat_of, take_reply, has_places}
use Rattle.fk_read.specs.ReadWords.{small_of}
use Rattle.fk_base.proofs.Numerals.{decimal_digits}
use Rattle.fk_read.proofs.WordsBack.{at_back, bare_at, bare_decimal, bare_path, path_back, small_back, take_code, take_number, take_path, take_small, words_in_bare}
use Rattle.fk_read.proofs.DataBack.{shown_data, take_data}
use Rattle.fk_read.proofs.Lists.{flat_map-map, names_back, onto_back}
use Rattle.fk_read.proofs.Shown.{AreShown, is_shown, shown_at, shown_code, shown_decimal, shown_names, shown_path, shown_spot, wide}
use Rattle.fk_read.proofs.SpotsBack.{digits_no_at, take_at}

-- the word of a path is no number
path_no_small : (p : PathNames) → small_of (path_text p) ≡ None
unfolding small_of number_below
path_no_small [] = refl
path_no_small (n ∷ ns) = refl

path_no_dash : (p : PathNames) → bytes_eq (path_text p) (codes "-") ≡ false
path_no_dash [] = refl
path_no_dash (n ∷ ns) = refl

dash_no_small : small_of (codes "-") ≡ None
unfolding small_of number_below
dash_no_small = refl

part_reply_back : (r : PartReply) → IsPartReply r → (rest : List Text) → take_reply (words_in (part_reply_word r) ++ rest) ≡ Some (r, rest)
part_reply_back (reply.Created path) fits rest = rw (words_in_bare (path_text path) (bare_path path fits), path_no_small path, path_no_dash path, path_back path fits) refl
part_reply_back (reply.Version v) fits rest = rw (words_in_bare (decimal v) (bare_decimal v (omega arith)), small_back v fits) refl
part_reply_back reply.Deleted fits rest = rw dash_no_small refl

replies_back : (replies items : List PartReply) → AllByRecursion IsPartReply replies → take_onto take_reply (length replies) items (flat_map words_in (map part_reply_word replies)) ≡ Some (items ++ replies, [])
replies_back replies items each = rw (flat_map-map part_reply_word replies) (onto_back take_reply (λ r. words_in (part_reply_word r)) IsPartReply part_reply_back replies items each)

stat_back : (s : Stat) → IsStat s → stat_of (flat_map words_in (stat_words s)) ≡ Some s
stat_back s f =
    rw (
      take_number s.czxid f.0,
      take_number s.mzxid f.1,
      take_number s.pzxid f.2,
      take_number s.ctime f.3,
      take_number s.mtime f.4,
      take_small s.version f.5,
      take_small s.cversion f.6,
      take_small s.aversion f.7,
      take_small s.owner f.8,
      take_small s.length f.9,
      take_small s.children f.10,
    ) refl

-- the number of a code is one word
code_number_words : (c : Code) (rest : List Text) → words_in (signed_decimal (code_number c)) ++ rest ≡ signed_decimal (code_number c) ∷ rest
unfolding digits
code_number_words code.SystemError rest = refl
code_number_words code.ConnectionLoss rest = refl
code_number_words code.BadArguments rest = refl
code_number_words code.NoNode rest = refl
code_number_words code.BadVersion rest = refl
code_number_words code.NoChildrenForEphemerals rest = refl
code_number_words code.NodeExists rest = refl
code_number_words code.NotEmpty rest = refl
code_number_words code.SessionExpired rest = refl

code_number_other : (c : Code) → bytes_eq (signed_decimal (code_number c)) (codes "LOCKLOST") ≡ false
unfolding digits
code_number_other code.SystemError = refl
code_number_other code.ConnectionLoss = refl
code_number_other code.BadArguments = refl
code_number_other code.NoNode = refl
code_number_other code.BadVersion = refl
code_number_other code.NoChildrenForEphemerals = refl
code_number_other code.NodeExists = refl
code_number_other code.NotEmpty = refl
code_number_other code.SessionExpired = refl

code_number_shown : (c : Code) → is_shown (signed_decimal (code_number c)) ≡ true
unfolding digits
code_number_shown code.SystemError = refl
code_number_shown code.ConnectionLoss = refl
code_number_shown code.BadArguments = refl
code_number_shown code.NoNode = refl
code_number_shown code.BadVersion = refl
code_number_shown code.NoChildrenForEphemerals = refl
code_number_shown code.NodeExists = refl
code_number_shown code.NotEmpty = refl
code_number_shown code.SessionExpired = refl

-- the words of a place and a number aren't none, and are taken whole
coded_back : (verb : Verb) (c : Code) (place m : ℕ) → IsSmall place → IsNumber m
    → coded verb c (flat_map words_in (place_words place ++ at m ∷ [])) ≡ refused_by verb c (place, m)
coded_back verb c place m small l = step (place == 0) refl
  where
    step : (b : Bool) → (place == 0) ≡ b → coded verb c (flat_map words_in (cond b [] (decimal place ∷ []) ++ at m ∷ [])) ≡ refused_by verb c (place, m)
    step true e = let zero_is : place ≡ 0 = grind (arith, nat_tests) in rw (words_in_bare (at m) (bare_at m l), at_back m l, zero_is) refl
    step false e = rw (words_in_bare (decimal place) (bare_decimal place (omega arith)), digits_no_at (decimal place) (decimal_digits place (omega arith)), small_back place small, take_at m l) refl

place_small : (verb : Verb) (place : ℕ) → IsPlace verb place → IsSmall place × ((has_places verb || (place == 0)) ≡ true)
place_small verb.Multi place fits = (fits, refl)
place_small verb.Create place fits = rw fits (lit< tt, refl)
place_small verb.Set place fits = rw fits (lit< tt, refl)
place_small verb.Delete place fits = rw fits (lit< tt, refl)
place_small verb.Get place fits = rw fits (lit< tt, refl)
place_small verb.Stat place fits = rw fits (lit< tt, refl)
place_small verb.Ls place fits = rw fits (lit< tt, refl)
place_small verb.Close place fits = rw fits (lit< tt, refl)

refused_back : (verb : Verb) (c : Code) (place m : ℕ) → is_of_tree c ≡ true → IsPlace verb place → refused_by verb c (place, m) ≡ Some (shown.Refused c m place)
refused_back verb c place m tree fits = rw (tree, (place_small verb place fits).1) refl

pub shown_back : (verb : Verb) (s : Shown) → IsShown verb s → shown_of verb (flat_map words_in (shown_words s)) ≡ Some s
shown_back verb (shown.Refused c m place) f =
    let small : IsSmall place = (place_small verb place f.2).0 in
    rw (code_number_words c, code_number_other c, take_code c, coded_back verb c place m small f.1) (refused_back verb c place m f.0 f.2)
shown_back verb (shown.Plain c) f = rw (code_number_words c, code_number_other c, take_code c, f) refl
shown_back verb (shown.Lost path own h m) f = rw (take_path path f.0, take_number own f.1, take_number h f.2, take_number m f.3) refl
shown_back verb.Create (shown.Created t path) f = rw (take_at t f.0, take_path path f.1) refl
shown_back verb.Set (shown.Version t v) f = rw (take_at t f.0, take_small v f.1) refl
shown_back verb.Delete (shown.Done t) f = rw (take_at t f) refl
shown_back verb.Close (shown.Done t) f = rw (take_at t f) refl
shown_back verb.Multi (shown.Multi t replies) f = rw (take_at t f.0, take_number (length replies) f.1, replies_back replies [] f.2) refl
shown_back verb.Get (shown.Got m bytes stat) f = rw (take_at m f.0, take_data bytes f.1, stat_back stat f.2) refl
shown_back verb.Stat (shown.Stated m stat) f = rw (take_at m f.0, stat_back stat f.1) refl
shown_back verb.Ls (shown.Listed m children) f = rw (take_at m f.0, take_number (length children) f.1, names_back children [] f.2) refl
shown_back verb.Set (shown.Created t path) f = absurd f
shown_back verb.Delete (shown.Created t path) f = absurd f
shown_back verb.Get (shown.Created t path) f = absurd f
shown_back verb.Stat (shown.Created t path) f = absurd f
shown_back verb.Ls (shown.Created t path) f = absurd f
shown_back verb.Close (shown.Created t path) f = absurd f
shown_back verb.Multi (shown.Created t path) f = absurd f
shown_back verb.Create (shown.Version t v) f = absurd f
shown_back verb.Delete (shown.Version t v) f = absurd f
shown_back verb.Get (shown.Version t v) f = absurd f
shown_back verb.Stat (shown.Version t v) f = absurd f
shown_back verb.Ls (shown.Version t v) f = absurd f
shown_back verb.Close (shown.Version t v) f = absurd f
shown_back verb.Multi (shown.Version t v) f = absurd f
shown_back verb.Create (shown.Done t) f = absurd f
shown_back verb.Set (shown.Done t) f = absurd f
shown_back verb.Get (shown.Done t) f = absurd f
shown_back verb.Stat (shown.Done t) f = absurd f
shown_back verb.Ls (shown.Done t) f = absurd f
shown_back verb.Multi (shown.Done t) f = absurd f
shown_back verb.Create (shown.Multi t replies) f = absurd f
shown_back verb.Set (shown.Multi t replies) f = absurd f
shown_back verb.Delete (shown.Multi t replies) f = absurd f
shown_back verb.Get (shown.Multi t replies) f = absurd f
shown_back verb.Stat (shown.Multi t replies) f = absurd f
shown_back verb.Ls (shown.Multi t replies) f = absurd f
shown_back verb.Close (shown.Multi t replies) f = absurd f
shown_back verb.Create (shown.Got m bytes stat) f = absurd f
shown_back verb.Set (shown.Got m bytes stat) f = absurd f
shown_back verb.Delete (shown.Got m bytes stat) f = absurd f
shown_back verb.Stat (shown.Got m bytes stat) f = absurd f
shown_back verb.Ls (shown.Got m bytes stat) f = absurd f
shown_back verb.Close (shown.Got m bytes stat) f = absurd f
shown_back verb.Multi (shown.Got m bytes stat) f = absurd f
shown_back verb.Create (shown.Stated m stat) f = absurd f
shown_back verb.Set (shown.Stated m stat) f = absurd f
shown_back verb.Delete (shown.Stated m stat) f = absurd f
shown_back verb.Get (shown.Stated m stat) f = absurd f
shown_back verb.Ls (shown.Stated m stat) f = absurd f
shown_back verb.Close (shown.Stated m stat) f = absurd f
shown_back verb.Multi (shown.Stated m stat) f = absurd f
shown_back verb.Create (shown.Listed m children) f = absurd f
shown_back verb.Set (shown.Listed m children) f = absurd f
shown_back verb.Delete (shown.Listed m children) f = absurd f
shown_back verb.Get (shown.Listed m children) f = absurd f
shown_back verb.Stat (shown.Listed m children) f = absurd f
shown_back verb.Close (shown.Listed m children) f = absurd f
shown_back verb.Multi (shown.Listed m children) f = absurd f

stat_shown : (s : Stat) → IsStat s → AreShown (stat_words s)
stat_shown s f = (shown_decimal s.czxid f.0, (shown_decimal s.mzxid f.1, (shown_decimal s.pzxid f.2, (shown_decimal s.ctime f.3, (shown_decimal s.mtime f.4, (shown_decimal s.version (wide s.version f.5), (shown_decimal s.cversion (wide s.cversion f.6), (shown_decimal s.aversion (wide s.aversion f.7), (shown_decimal s.owner (wide s.owner f.8), (shown_decimal s.length (wide s.length f.9), (shown_decimal s.children (wide s.children f.10), tt)))))))))))

part_reply_shown : (r : PartReply) → IsPartReply r → is_shown (part_reply_word r) ≡ true
part_reply_shown (reply.Created path) f = shown_path path f
part_reply_shown (reply.Version v) f = shown_decimal v (wide v f)
part_reply_shown reply.Deleted f = refl

replies_shown : (rs : List PartReply) → AllByRecursion IsPartReply rs → AreShown (map part_reply_word rs)
replies_shown [] each = tt
replies_shown (r ∷ rs) each = (part_reply_shown r each.0, replies_shown rs each.1)

pub shown_shown : (verb : Verb) (s : Shown) → IsShown verb s → AreShown (shown_words s)
shown_shown verb (shown.Refused c m place) f = (refl, (code_number_shown c, (shown_code c, shown_spot place m [] (place_small verb place f.2).0 f.1 tt)))
shown_shown verb (shown.Plain c) f = (refl, (code_number_shown c, (shown_code c, tt)))
shown_shown verb (shown.Lost path own h m) f = (refl, (shown_path path f.0, (shown_decimal own f.1, (shown_decimal h f.2, (shown_decimal m f.3, tt)))))
shown_shown verb.Create (shown.Created t path) f = (refl, (shown_at t f.0, (shown_path path f.1, tt)))
shown_shown verb.Set (shown.Version t v) f = (refl, (shown_at t f.0, (shown_decimal v (wide v f.1), tt)))
shown_shown verb.Delete (shown.Done t) f = (refl, (shown_at t f, tt))
shown_shown verb.Close (shown.Done t) f = (refl, (shown_at t f, tt))
shown_shown verb.Multi (shown.Multi t replies) f = (refl, (shown_at t f.0, (shown_decimal (length replies) f.1, replies_shown replies f.2)))
shown_shown verb.Get (shown.Got m bytes stat) f = (refl, (shown_at m f.0, (shown_data bytes f.1, stat_shown stat f.2)))
shown_shown verb.Stat (shown.Stated m stat) f = (refl, (shown_at m f.0, stat_shown stat f.1))
shown_shown verb.Ls (shown.Listed m children) f = (refl, (shown_at m f.0, (shown_decimal (length children) f.1, shown_names children f.2)))
shown_shown verb.Set (shown.Created t path) f = absurd f
shown_shown verb.Delete (shown.Created t path) f = absurd f
shown_shown verb.Get (shown.Created t path) f = absurd f
shown_shown verb.Stat (shown.Created t path) f = absurd f
shown_shown verb.Ls (shown.Created t path) f = absurd f
shown_shown verb.Close (shown.Created t path) f = absurd f
shown_shown verb.Multi (shown.Created t path) f = absurd f
shown_shown verb.Create (shown.Version t v) f = absurd f
shown_shown verb.Delete (shown.Version t v) f = absurd f
shown_shown verb.Get (shown.Version t v) f = absurd f
shown_shown verb.Stat (shown.Version t v) f = absurd f
shown_shown verb.Ls (shown.Version t v) f = absurd f
shown_shown verb.Close (shown.Version t v) f = absurd f
shown_shown verb.Multi (shown.Version t v) f = absurd f
shown_shown verb.Create (shown.Done t) f = absurd f
shown_shown verb.Set (shown.Done t) f = absurd f
shown_shown verb.Get (shown.Done t) f = absurd f
shown_shown verb.Stat (shown.Done t) f = absurd f
shown_shown verb.Ls (shown.Done t) f = absurd f
shown_shown verb.Multi (shown.Done t) f = absurd f
shown_shown verb.Create (shown.Multi t replies) f = absurd f
shown_shown verb.Set (shown.Multi t replies) f = absurd f
shown_shown verb.Delete (shown.Multi t replies) f = absurd f
shown_shown verb.Get (shown.Multi t replies) f = absurd f
shown_shown verb.Stat (shown.Multi t replies) f = absurd f
shown_shown verb.Ls (shown.Multi t replies) f = absurd f
shown_shown verb.Close (shown.Multi t replies) f = absurd f
shown_shown verb.Create (shown.Got m bytes stat) f = absurd f
shown_shown verb.Set (shown.Got m bytes stat) f = absurd f
shown_shown verb.Delete (shown.Got m bytes stat) f = absurd f
shown_shown verb.Stat (shown.Got m bytes stat) f = absurd f
shown_shown verb.Ls (shown.Got m bytes stat) f = absurd f
shown_shown verb.Close (shown.Got m bytes stat) f = absurd f
shown_shown verb.Multi (shown.Got m bytes stat) f = absurd f
shown_shown verb.Create (shown.Stated m stat) f = absurd f
shown_shown verb.Set (shown.Stated m stat) f = absurd f
shown_shown verb.Delete (shown.Stated m stat) f = absurd f
shown_shown verb.Get (shown.Stated m stat) f = absurd f
shown_shown verb.Ls (shown.Stated m stat) f = absurd f
shown_shown verb.Close (shown.Stated m stat) f = absurd f
shown_shown verb.Multi (shown.Stated m stat) f = absurd f
shown_shown verb.Create (shown.Listed m children) f = absurd f
shown_shown verb.Set (shown.Listed m children) f = absurd f
shown_shown verb.Delete (shown.Listed m children) f = absurd f
shown_shown verb.Get (shown.Listed m children) f = absurd f
shown_shown verb.Stat (shown.Listed m children) f = absurd f
shown_shown verb.Close (shown.Listed m children) f = absurd f
shown_shown verb.Multi (shown.Listed m children) f = absurd f

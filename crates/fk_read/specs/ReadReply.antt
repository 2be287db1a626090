-- What the words of a reply say.
use Rattle.std.specs.Prelude.{ℕ, ◌==◌, Bool, true, false, if◌then◌else◌, ◌&&◌, ◌||◌, List, [], ◌∷◌, codes, Option, Some, None}
use Rattle.std.specs.Option.{option_map}
use Rattle.std.specs.Str.{bytes_eq}
use Rattle.fk_base.specs.declared.code.Code.{Code}
use Rattle.fk_tree.specs.declared.node.Stat.{Stat}
use Rattle.fk_tree.specs.declared.reply.PartReply.{PartReply}
use Rattle.fk_tree.specs.declared.reply.PartReply.TheVariants as reply
use Rattle.fk_print.specs.WellFormed.{is_of_tree}
use Rattle.fk_print.specs.Words.{Text}
use Rattle.fk_print.specs.declared.line.Shown.{Shown}
use Rattle.fk_print.specs.declared.line.Shown.TheVariants as shown
use Rattle.fk_print.specs.declared.line.Verb.{Verb}
use Rattle.fk_print.specs.declared.line.Verb.TheVariants as verb
use Rattle.fk_read.specs.Reads.{option_or_else, take, then_read, then_word}
use Rattle.fk_read.specs.ReadAct.{take_onto}
use Rattle.fk_read.specs.ReadEnding.{spot_by}
use Rattle.fk_read.specs.ReadWords.{at_of, code_of, data_of, name_of_word, number_of, path_of_word, small_of}

-- what a part of a multi is answered
abbrev pub take_reply : List Text → Option (PartReply × List Text)
take_reply words = then_word words λ word rest.
    option_or_else (small_of word) (λ v. Some (reply.Version v, rest))
    (if bytes_eq word (codes "-") then Some (reply.Deleted, rest) else option_map (λ path. (reply.Created path, rest)) (path_of_word word))

-- the eleven numbers of a stat
abbrev pub stat_of : List Text → Option Stat
stat_of words =
    then_read (take number_of words) λ czxid rest. then_read (take number_of rest) λ mzxid rest. then_read (take number_of rest) λ pzxid rest.
    then_read (take number_of rest) λ ctime rest. then_read (take number_of rest) λ mtime rest. then_read (take small_of rest) λ version rest.
    then_read (take small_of rest) λ cversion rest. then_read (take small_of rest) λ aversion rest. then_read (take small_of rest) λ owner rest.
    then_read (take small_of rest) λ length rest. then_read (take small_of rest) λ children rest.
    Some (record { czxid = czxid; mzxid = mzxid; pzxid = pzxid; ctime = ctime; mtime = mtime; version = version; cversion = cversion; aversion = aversion; owner = owner; length = length; children = children })

-- behind `ok` and its number
abbrev pub ok_by : Verb → ℕ → List Text → Option Shown
ok_by verb.Create t words = then_read (take path_of_word words) λ path rest. Some (shown.Created t path)
ok_by verb.Set t words = then_read (take small_of words) λ v rest. Some (shown.Version t v)
ok_by verb.Delete t words = Some (shown.Done t)
ok_by verb.Get t words = then_read (take data_of words) λ bytes rest. option_map (λ stat. shown.Got t bytes stat) (stat_of rest)
ok_by verb.Stat t words = option_map (λ stat. shown.Stated t stat) (stat_of words)
ok_by verb.Ls t words = then_read (take number_of words) λ count rest. then_read (take_onto (take name_of_word) count [] rest) λ names rest. Some (shown.Listed t names)
ok_by verb.Close t words = Some (shown.Done t)
ok_by verb.Multi t words = then_read (take number_of words) λ count rest. then_read (take_onto take_reply count [] rest) λ replies rest. Some (shown.Multi t replies)

-- only a multi has places
abbrev pub has_places : Verb → Bool
has_places verb.Multi = true
has_places other = false

-- a code at a place and a number
abbrev pub refused_by : Verb → Code → ℕ × ℕ → Option Shown
refused_by verb code spot = if is_of_tree code && (has_places verb || (spot.0 == 0)) then Some (shown.Refused code spot.1 spot.0) else None

-- behind a code
abbrev pub coded : Verb → Code → List Text → Option Shown
coded verb code [] = if is_of_tree code then None else Some (shown.Plain code)
coded verb code (word ∷ words) = then_read (spot_by word words) λ spot rest. refused_by verb code spot

-- behind `err`
abbrev pub err_of : Verb → List Text → Option Shown
err_of verb words = then_word words λ word rest.
    if bytes_eq word (codes "LOCKLOST") then (then_read (take path_of_word rest) λ path rest. then_read (take number_of rest) λ own rest. then_read (take number_of rest) λ h rest. then_read (take number_of rest) λ m rest. Some (shown.Lost path own h m))
    else (then_read (take code_of rest) λ code rest. coded verb code rest)

-- what a command of this verb is answered
abbrev pub shown_of : Verb → List Text → Option Shown
shown_of verb words = then_word words λ word rest.
    if bytes_eq word (codes "ok") then (then_read (take at_of rest) λ t rest. ok_by verb t rest) else err_of verb rest

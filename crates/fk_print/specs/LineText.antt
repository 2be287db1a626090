-- The public lines of an entry: what a transaction did, what a client is told.
use Rattle.std.specs.Prelude.{ℕ, Bool, true, false, List, [], ◌∷◌, ◌++◌, length, map, codes}
use Rattle.std.specs.List.{flat_map}
use Rattle.std.specs.Fmt.{decimal, signed_decimal}
use Rattle.fk_base.specs.Code.{number_of, name_of}
use Rattle.fk_base.specs.Path.{Name, path_text}
use Rattle.fk_tree.specs.declared.change.Change.{Change}
use Rattle.fk_tree.specs.declared.change.Change.TheVariants as change
use Rattle.fk_tree.specs.declared.change.Kind.{Kind}
use Rattle.fk_tree.specs.declared.change.Kind.TheVariants as kind
use Rattle.fk_tree.specs.declared.node.Stat.{Stat}
use Rattle.fk_tree.specs.declared.reply.PartReply.{PartReply}
use Rattle.fk_tree.specs.declared.reply.PartReply.TheVariants as reply
use Rattle.fk_tree.specs.declared.request.Part.{Part}
use Rattle.fk_tree.specs.declared.request.Part.TheVariants as part
use Rattle.fk_print.specs.Words.{Text, marked, client, at, place_words, data_word}
use Rattle.fk_print.specs.declared.line.Verb.{Verb}
use Rattle.fk_print.specs.declared.line.Verb.TheVariants as verb
use Rattle.fk_print.specs.declared.line.Act.{Act}
use Rattle.fk_print.specs.declared.line.Act.TheVariants as act
use Rattle.fk_print.specs.declared.line.Shown.{Shown}
use Rattle.fk_print.specs.declared.line.Shown.TheVariants as shown
use Rattle.fk_print.specs.declared.line.Printed.{Printed}
use Rattle.fk_print.specs.declared.line.Line.{Line}
use Rattle.fk_print.specs.declared.line.Line.TheVariants as line

-- what kind of node a create makes: `s` for sequential, `e` for ephemeral
abbrev pub flag_word : Bool → Bool → Text
flag_word false false = codes "-"
flag_word true false = codes "s"
flag_word false true = codes "e"
flag_word true true = codes "se"

-- a session ends by its own close, or a heartbeat evicts it
abbrev pub close_word : Bool → Text
close_word false = codes "close"
close_word true = codes "evict"

-- a part of a multi
abbrev pub part_words : Part → List Text
part_words (part.Create path bytes eph) = codes "create" ∷ flag_word false eph ∷ path_text path ∷ data_word bytes ∷ []
part_words (part.Set path bytes v) = codes "set" ∷ signed_decimal v ∷ path_text path ∷ data_word bytes ∷ []
part_words (part.Delete path v) = codes "delete" ∷ signed_decimal v ∷ path_text path ∷ []

-- what a transaction did
abbrev pub act_words : Act → List Text
act_words (act.Create path bytes seq eph) = codes "create" ∷ flag_word seq eph ∷ path_text path ∷ data_word bytes ∷ []
act_words (act.Set path bytes v) = codes "set" ∷ signed_decimal v ∷ path_text path ∷ data_word bytes ∷ []
act_words (act.Delete path v) = codes "delete" ∷ signed_decimal v ∷ path_text path ∷ []
act_words (act.Close evict gone) = close_word evict ∷ decimal (length gone) ∷ map path_text gone
act_words (act.Multi parts) = codes "multi" ∷ decimal (length parts) ∷ flat_map part_words parts

-- what a client can ask for
abbrev pub verb_word : Verb → Text
verb_word verb.Create = codes "create"
verb_word verb.Set = codes "set"
verb_word verb.Delete = codes "delete"
verb_word verb.Get = codes "get"
verb_word verb.Stat = codes "stat"
verb_word verb.Ls = codes "ls"
verb_word verb.Close = codes "close"
verb_word verb.Multi = codes "multi"

-- a stat: its eleven numbers in order
abbrev pub stat_words : Stat → List Text
stat_words s = decimal s.czxid ∷ decimal s.mzxid ∷ decimal s.pzxid ∷ decimal s.ctime ∷ decimal s.mtime ∷ decimal s.version ∷ decimal s.cversion ∷ decimal s.aversion ∷ decimal s.owner ∷ decimal s.length ∷ decimal s.children ∷ []

-- what a part of a multi is answered: a create's path, a set's version, a delete's `-`
abbrev pub part_reply_word : PartReply → Text
part_reply_word (reply.Created path) = path_text path
part_reply_word (reply.Version v) = decimal v
part_reply_word reply.Deleted = codes "-"

-- what a command is answered
abbrev pub shown_words : Shown → List Text
shown_words (shown.Created t path) = codes "ok" ∷ at t ∷ path_text path ∷ []
shown_words (shown.Version t v) = codes "ok" ∷ at t ∷ decimal v ∷ []
shown_words (shown.Done t) = codes "ok" ∷ at t ∷ []
shown_words (shown.Multi t replies) = codes "ok" ∷ at t ∷ decimal (length replies) ∷ map part_reply_word replies
shown_words (shown.Got m bytes stat) = codes "ok" ∷ at m ∷ data_word bytes ∷ stat_words stat
shown_words (shown.Stated m stat) = codes "ok" ∷ at m ∷ stat_words stat
shown_words (shown.Listed m children) = codes "ok" ∷ at m ∷ decimal (length children) ∷ children
shown_words (shown.Refused code m place) = codes "err" ∷ signed_decimal (number_of code) ∷ name_of code ∷ place_words place ++ at m ∷ []
shown_words (shown.Plain code) = codes "err" ∷ signed_decimal (number_of code) ∷ name_of code ∷ []
shown_words (shown.Lost path own h m) = codes "err LOCKLOST" ∷ path_text path ∷ decimal own ∷ decimal h ∷ decimal m ∷ []

-- what a watch waited for
abbrev pub kind_word : Kind → Text
kind_word kind.Data = codes "data"
kind_word kind.Child = codes "child"

-- how its path changed
abbrev pub change_word : Change → Text
change_word change.Created = codes "NodeCreated"
change_word change.Changed = codes "NodeDataChanged"
change_word change.Deleted = codes "NodeDeleted"
change_word change.Child = codes "NodeChildrenChanged"

-- the line of a transaction, in the entry that published it
abbrev pub tx_text : List Name → Printed → Text
tx_text names p = marked (codes "+") (decimal p.tx ∷ decimal p.moment ∷ client names p.session ∷ decimal p.k ∷ act_words p.act)

-- the line of a reply to command i of client c
abbrev pub reply_text : List Name → ℕ → ℕ → Verb → Shown → Text
reply_text names c i verb shown = marked (codes "<") (client names c ∷ decimal i ∷ verb_word verb ∷ shown_words shown)

-- a public line
abbrev pub line_text : List Name → Line → Text
line_text names (line.Tx printed) = tx_text names printed
line_text names (line.Reply c i verb shown) = reply_text names c i verb shown
line_text names (line.Notice c t kind change path) = marked (codes "!") (client names c ∷ at t ∷ kind_word kind ∷ change_word change ∷ path_text path ∷ [])
line_text names (line.Expired c t) = marked (codes "x") (client names c ∷ at t ∷ [])

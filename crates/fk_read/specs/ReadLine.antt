-- What the words of a public line say.
use Rattle.std.specs.Prelude.{if◌then◌else◌, List, codes, Option, Some, None}
use Rattle.std.specs.Option.{option_map}
use Rattle.std.specs.Str.{bytes_eq}
use Rattle.fk_base.specs.Path.{Name}
use Rattle.fk_tree.specs.declared.change.Change.{Change}
use Rattle.fk_tree.specs.declared.change.Change.TheVariants as change
use Rattle.fk_tree.specs.declared.change.Kind.{Kind}
use Rattle.fk_tree.specs.declared.change.Kind.TheVariants as kind
use Rattle.fk_print.specs.Words.{Text}
use Rattle.fk_print.specs.declared.line.Line.{Line}
use Rattle.fk_print.specs.declared.line.Line.TheVariants as line
use Rattle.fk_print.specs.declared.line.Verb.{Verb}
use Rattle.fk_print.specs.declared.line.Verb.TheVariants as verb
use Rattle.fk_read.specs.Reads.{take, then_read}
use Rattle.fk_read.specs.ReadAct.{act_of}
use Rattle.fk_read.specs.ReadReply.{shown_of}
use Rattle.fk_read.specs.ReadWords.{at_of, client_of, number_of, path_of_word, small_of}

unfoldable pub verb_of : Text → Option Verb
verb_of word =
    if bytes_eq word (codes "create") then Some verb.Create
    else if bytes_eq word (codes "set") then Some verb.Set
    else if bytes_eq word (codes "delete") then Some verb.Delete
    else if bytes_eq word (codes "get") then Some verb.Get
    else if bytes_eq word (codes "stat") then Some verb.Stat
    else if bytes_eq word (codes "ls") then Some verb.Ls
    else if bytes_eq word (codes "close") then Some verb.Close
    else if bytes_eq word (codes "multi") then Some verb.Multi
    else None

unfoldable pub kind_of : Text → Option Kind
kind_of word = if bytes_eq word (codes "data") then Some kind.Data else Some kind.Child

unfoldable pub change_of : Text → Option Change
change_of word =
    if bytes_eq word (codes "NodeCreated") then Some change.Created
    else if bytes_eq word (codes "NodeDataChanged") then Some change.Changed
    else if bytes_eq word (codes "NodeDeleted") then Some change.Deleted
    else Some change.Child

abbrev pub tx_of : List Name → List Text → Option Line
tx_of names words =
    then_read (take number_of words) λ tx rest. then_read (take number_of rest) λ moment rest. then_read (take (client_of names) rest) λ c rest. then_read (take number_of rest) λ k rest.
    option_map (λ act. line.Tx (record { tx = tx; moment = moment; session = c; k = k; act = act })) (act_of rest)

abbrev pub reply_of : List Name → List Text → Option Line
reply_of names words =
    then_read (take (client_of names) words) λ c rest. then_read (take small_of rest) λ i rest. then_read (take verb_of rest) λ verb rest.
    option_map (λ shown. line.Reply c i verb shown) (shown_of verb rest)

abbrev pub notice_of : List Name → List Text → Option Line
notice_of names words =
    then_read (take (client_of names) words) λ c rest. then_read (take at_of rest) λ t rest. then_read (take kind_of rest) λ kind rest. then_read (take change_of rest) λ change rest. then_read (take path_of_word rest) λ path rest.
    Some (line.Notice c t kind change path)

abbrev pub expired_of : List Name → List Text → Option Line
expired_of names words = then_read (take (client_of names) words) λ c rest. then_read (take at_of rest) λ t rest. Some (line.Expired c t)

-- a public line, behind its mark
abbrev pub line_of : List Name → Text → List Text → Option Line
line_of names mark words =
    if bytes_eq mark (codes "+") then tx_of names words
    else if bytes_eq mark (codes "<") then reply_of names words
    else if bytes_eq mark (codes "!") then notice_of names words
    else expired_of names words

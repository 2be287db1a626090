-- A command, or a part of a multi, by its words. What is said of a command is said of a part too.
use Rattle.std.specs.Prelude.{ℕ, ℤ, negsuc, ◌==◌, Bool, true, false, if◌then◌else◌, ◌&&◌, ◌||◌, not, List, [], ◌∷◌, codes, length, Option, Some, None, unwrap_or, is_none}
use Rattle.std.specs.List.{list_all}
use Rattle.fk_script.specs.declared.command.Command.{Command}
use Rattle.fk_script.specs.declared.command.Command.TheVariants as command
use Rattle.fk_script.specs.declared.command.PartCommand.{PartCommand}
use Rattle.fk_script.specs.declared.command.PartCommand.TheVariants as part
use Rattle.fk_script.specs.Lines.{Word, is, is_one_of, has_repeated, starts_with, first}
use Rattle.fk_script.specs.Values.{version, decoded}

-- An option starts with `-` and stands before the path.
abbrev pub is_option : Word → Bool
is_option word = starts_with 45 word

-- the options, in their order; at true the first word is the one after `-v`, which is no option
abbrev pub options : Bool → List Word → List Word
options behind_v [] = []
options true (w ∷ ws) = options false ws
options false (w ∷ ws) = if is_option w then w ∷ options (is w (codes "-v")) ws else []

-- the word after `-v`
abbrev pub version_word : Bool → List Word → Option Word
version_word behind_v [] = None
version_word true (w ∷ ws) = Some w
version_word false (w ∷ ws) = if is_option w then version_word (is w (codes "-v")) ws else None

-- the words from the path on
abbrev pub from_path : Bool → List Word → List Word
from_path behind_v [] = []
from_path true (w ∷ ws) = from_path false ws
from_path false (w ∷ ws) = if is_option w then from_path (is w (codes "-v")) ws else w ∷ ws

-- a command or a part: its name, its options, and its words from the path on
pub record Phrase : Type 0 where
  pub name : Word
  pub options : List Word
  pub version : Option Word
  pub rest : List Word

-- an empty part has no name: the empty word stands for it
abbrev pub phrase : List Word → Phrase
phrase [] = record { name = []; options = []; version = None; rest = [] }
phrase (w ∷ ws) = record { name = w; options = options false ws; version = version_word false ws; rest = from_path false ws }

abbrev pub is_command_name : Word → Bool
is_command_name name = is_one_of (codes "create" ∷ codes "set" ∷ codes "delete" ∷ codes "multi" ∷ codes "get" ∷ codes "stat" ∷ codes "ls" ∷ codes "close" ∷ []) name

abbrev pub is_part_name : Word → Bool
is_part_name name = is_one_of (codes "create" ∷ codes "set" ∷ codes "delete" ∷ []) name

-- a read, or a close: its client waits for it in any case
abbrev pub is_always_waited_for : Word → Bool
is_always_waited_for name = is_one_of (codes "get" ∷ codes "stat" ∷ codes "ls" ∷ codes "close" ∷ []) name

-- Which options which commands have; in a multi a create has no `-s`.
abbrev pub is_option_of : Bool → Word → Word → Bool
is_option_of in_multi name option = (is option (codes "-s") && is name (codes "create") && not in_multi)
    || (is option (codes "-e") && is name (codes "create"))
    || (is option (codes "-v") && is_one_of (codes "set" ∷ codes "delete" ∷ []) name)
    || (is option (codes "-b") && is_one_of (codes "create" ∷ codes "set" ∷ []) name)
    || (is option (codes "-w") && is_one_of (codes "get" ∷ codes "stat" ∷ codes "ls" ∷ []) name)

-- an option that the command hasn't, or that is repeated
abbrev pub has_bad_option : Bool → Phrase → Bool
has_bad_option in_multi p = not (list_all (is_option_of in_multi p.name) p.options) || has_repeated p.options

-- A create and a set have a path, and may have data; a delete and the reads have a path alone; a close has nothing.
abbrev pub fits : Phrase → Bool
fits p = (is_one_of (codes "create" ∷ codes "set" ∷ []) p.name && ((length p.rest == 1) || (length p.rest == 2)))
    || (is_one_of (codes "delete" ∷ codes "get" ∷ codes "stat" ∷ codes "ls" ∷ []) p.name && (length p.rest == 1))
    || (is p.name (codes "close") && (length p.rest == 0))

-- a part whose first word is no part's name; an empty part has no first word
abbrev pub is_unknown_part : Phrase → Bool
is_unknown_part p = not (is p.name []) && not (is_part_name p.name)

abbrev pub is_bad_version : Option Word → Bool
is_bad_version None = false
is_bad_version (Some word) = is_none (version word)

abbrev pub has_option : Word → Phrase → Bool
has_option option p = is_one_of p.options option

-- the word of the data
abbrev pub data_word : List Word → Option Word
data_word [] = None
data_word (path ∷ []) = None
data_word (path ∷ word ∷ ws) = Some word

abbrev pub is_bad_data : Option Word → Bool
is_bad_data None = false
is_bad_data (Some word) = is_none (decoded word)

-- `-b`, and data that is the base64 of no bytes
abbrev pub has_bad_base64 : Phrase → Bool
has_bad_base64 p = has_option (codes "-b") p && is_bad_data (data_word p.rest)

-- the bytes that a word of data stands for, with `-b` or without
abbrev pub data_bytes : Bool → Option Word → List ℕ
data_bytes in_base64 None = []
data_bytes true (Some word) = unwrap_or (decoded word) []
data_bytes false (Some word) = word

abbrev pub bytes : Phrase → List ℕ
bytes p = data_bytes (has_option (codes "-b") p) (data_word p.rest)

-- the version that is expected; -1 fits any
abbrev pub expected : Option Word → ℤ
expected None = negsuc 0
expected (Some word) = unwrap_or (version word) (negsuc 0)

-- a read, or a close
abbrev pub read_of : Word → Phrase → Command
read_of path p = if is p.name (codes "get") then command.Get path (has_option (codes "-w") p)
    else if is p.name (codes "stat") then command.Stat path (has_option (codes "-w") p)
    else if is p.name (codes "ls") then command.Ls path (has_option (codes "-w") p)
    else command.Close

-- the command
abbrev pub command_of : Bool → Phrase → Command
command_of wait p = if is p.name (codes "create") then command.Create (first p.rest) (bytes p) (has_option (codes "-s") p) (has_option (codes "-e") p) wait
    else if is p.name (codes "set") then command.Set (first p.rest) (bytes p) (expected p.version) wait
    else if is p.name (codes "delete") then command.Delete (first p.rest) (expected p.version) wait
    else read_of (first p.rest) p

-- the part of a multi
abbrev pub part_of : Phrase → PartCommand
part_of p = if is p.name (codes "create") then part.Create (first p.rest) (bytes p) (has_option (codes "-e") p)
    else if is p.name (codes "set") then part.Set (first p.rest) (bytes p) (expected p.version)
    else part.Delete (first p.rest) (expected p.version)

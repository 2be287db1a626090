-- The printed form of a deployment: its lines, and the words of each.
use Rattle.std.specs.Prelude.{ℕ, ℤ, pos, negsuc, Bool, false, if◌then◌else◌, ◌||◌, not, List, [], ◌∷◌, ◌++◌, codes, map}
use Rattle.std.specs.List.{flat_map, list_all}
use Rattle.std.specs.Str.{bytes_eq}
use Rattle.std.specs.Fmt.{decimal}
use Rattle.base64.specs.Engines.{standard}
use Rattle.base64.specs.GeneralPurpose.{encode_of}
use Rattle.fk_base.specs.Path.{Name}
use Rattle.fk_print.specs.EventText.{event_words}
use Rattle.fk_print.specs.Words.{Text, is_plain, marked}
use Rattle.fk_script.specs.declared.command.Command.{Command}
use Rattle.fk_script.specs.declared.command.Command.TheVariants as command
use Rattle.fk_script.specs.declared.command.PartCommand.{PartCommand}
use Rattle.fk_script.specs.declared.command.PartCommand.TheVariants as part
use Rattle.fk_script.specs.declared.deployment.Block.{Block}
use Rattle.fk_script.specs.declared.deployment.Deployment.{Deployment}
use Rattle.fk_script.specs.declared.deployment.Turn.{Turn}
use Rattle.fk_script.specs.declared.deployment.Turn.TheVariants as turn

-- A line has single spaces between its words, and a line feed at its end.
abbrev pub line_text : List Text → Text
line_text [] = codes "\n"
line_text (word ∷ words) = marked word words

-- a word that stands there where this holds
abbrev pub word_if : Bool → Text → List Text
word_if b word = if b then word ∷ [] else []

-- the expected version; -1 is left out
abbrev pub version_words : ℤ → List Text
version_words (pos n) = codes "-v" ∷ decimal n ∷ []
version_words (negsuc n) = []

-- Data that has a byte which is no plain one is written in base64.
abbrev pub is_coded : List ℕ → Bool
is_coded bytes = not (list_all is_plain bytes)

-- A part's data is so also where it is `;`, which would end the part.
abbrev pub is_coded_in_part : List ℕ → Bool
is_coded_in_part bytes = is_coded bytes || bytes_eq bytes (codes ";")

-- the data's word, which is left out where the data is empty
abbrev pub data_words : Bool → List ℕ → List Text
data_words coded [] = []
data_words coded (b ∷ bs) = (if coded then encode_of standard (b ∷ bs) else b ∷ bs) ∷ []

abbrev pub create_words : Bool → Bool → Bool → Text → List ℕ → List Text
create_words seq eph coded path bytes =
    codes "create" ∷ (word_if seq (codes "-s") ++ word_if eph (codes "-e") ++ word_if coded (codes "-b") ++ path ∷ data_words coded bytes)

abbrev pub set_words : ℤ → Bool → Text → List ℕ → List Text
set_words version coded path bytes = codes "set" ∷ (version_words version ++ word_if coded (codes "-b") ++ path ∷ data_words coded bytes)

abbrev pub delete_words : ℤ → Text → List Text
delete_words version path = codes "delete" ∷ (version_words version ++ path ∷ [])

abbrev pub read_words : Text → Bool → Text → List Text
read_words verb watch path = verb ∷ (word_if watch (codes "-w") ++ path ∷ [])

abbrev pub part_words : PartCommand → List Text
part_words (part.Create path bytes eph) = create_words false eph (is_coded_in_part bytes) path bytes
part_words (part.Set path bytes version) = set_words version (is_coded_in_part bytes) path bytes
part_words (part.Delete path version) = delete_words version path

-- the parts, with `;` between each two
abbrev pub parts_words : List PartCommand → List Text
parts_words [] = []
parts_words (p ∷ ps) = part_words p ++ flat_map (λ q. codes ";" ∷ part_words q) ps

-- A command that isn't waited for begins with `&`.
abbrev pub and_words : Bool → List Text
and_words wait = word_if (not wait) (codes "&")

-- what such a line begins with
abbrev pub beginning : Bool → Text
beginning wait = if wait then [] else codes "& "

abbrev pub command_words : Command → List Text
command_words (command.Create path bytes seq eph wait) = and_words wait ++ create_words seq eph (is_coded bytes) path bytes
command_words (command.Set path bytes version wait) = and_words wait ++ set_words version (is_coded bytes) path bytes
command_words (command.Delete path version wait) = and_words wait ++ delete_words version path
command_words (command.Get path watch) = read_words (codes "get") watch path
command_words (command.Stat path watch) = read_words (codes "stat") watch path
command_words (command.Ls path watch) = read_words (codes "ls") watch path
command_words command.Close = codes "close" ∷ []
command_words (command.Multi parts wait) = and_words wait ++ codes "multi" ∷ parts_words parts

abbrev pub turn_words : List Name → Turn → List Text
turn_words names (turn.One event) = event_words names event
turn_words names turn.Drain = codes "drain" ∷ []

-- a client's line, and one for each of its commands
abbrev pub block_text : Block → Text
block_text b = line_text (codes "client" ∷ b.name ∷ []) ++ flat_map (λ c. line_text (command_words c)) b.commands

-- the schedule's line, and one for each of its turns
abbrev pub schedule_text : List Name → Bool → List Turn → Text
schedule_text names scheduled turns =
    if scheduled then line_text (codes "schedule" ∷ []) ++ flat_map (λ t. line_text (turn_words names t)) turns else []

-- the names of the clients, in the order of the file
abbrev pub block_names : List Block → List Name
block_names blocks = map (λ (b : Block). b.name) blocks

abbrev pub deployment_text : Deployment → Text
deployment_text d =
    line_text (codes "lock" ∷ decimal d.config.lock ∷ [])
    ++ line_text (codes "beat" ∷ decimal d.config.beat ∷ [])
    ++ flat_map block_text d.clients
    ++ schedule_text (block_names d.clients) d.scheduled d.turns

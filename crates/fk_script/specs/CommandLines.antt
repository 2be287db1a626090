-- The line of a command.
use Rattle.std.specs.Prelude.{ℕ, ◌+◌, nat_le, Bool, true, if◌then◌else◌, ◌&&◌, ◌||◌, not, List, [], ◌∷◌, codes, length, map}
use Rattle.std.specs.List.{list_any, slice_split}
use Rattle.fk_script.specs.declared.command.Command.{Command}
use Rattle.fk_script.specs.declared.command.Command.TheVariants as command
use Rattle.fk_script.specs.Lines.{Word, is, first}
use Rattle.fk_script.specs.Phrases.{Phrase, phrase, is_command_name, is_always_waited_for, is_unknown_part, has_bad_option, fits, is_bad_version, has_bad_base64, command_of, part_of}

-- whether the client waits for the command; `&` as the first word says that it doesn't
abbrev pub waits : List Word → Bool
waits [] = true
waits (w ∷ ws) = not (is w (codes "&"))

-- the words behind the `&`
abbrev pub spoken : List Word → List Word
spoken [] = []
spoken (w ∷ ws) = if is w (codes "&") then ws else w ∷ ws

-- `;` always separates the parts of a multi
abbrev pub phrases : List Word → List Phrase
phrases [] = phrase [] ∷ []
phrases (w ∷ ws) = if is w (codes "multi") then map phrase (slice_split (λ word. is word (codes ";")) ws) else phrase (w ∷ ws) ∷ []

-- the line of a command: its name, and its parts or the command alone; after `&` alone no name stands
pub record CommandLine : Type 0 where
  pub wait : Bool
  pub name : Word
  pub phrases : List Phrase

abbrev pub command_line : List Word → CommandLine
command_line ws = record { wait = waits ws; name = first (spoken ws); phrases = phrases (spoken ws) }

abbrev pub is_multi : CommandLine → Bool
is_multi l = is l.name (codes "multi")

-- The name is no command's, but `&` may stand alone; or it is a multi with a part of another name.
abbrev pub is_unknown : CommandLine → Bool
is_unknown l = not (is l.name []) && (not (is_command_name l.name) || (is_multi l && list_any is_unknown_part l.phrases))

-- an option that isn't the command's or is repeated, or `&` before a command that is always waited for
abbrev pub has_wrong_option : CommandLine → Bool
has_wrong_option l = (not l.wait && is_always_waited_for l.name) || list_any (has_bad_option (is_multi l)) l.phrases

-- Too few or too many words for the form, `&` alone, a multi with an empty part or more than 16 parts.
abbrev pub has_wrong_words : CommandLine → Bool
has_wrong_words l = (is_multi l && not (nat_le (length l.phrases) 16)) || list_any (λ p. not (fits p)) l.phrases

abbrev pub has_wrong_version : CommandLine → Bool
has_wrong_version l = list_any (λ p. is_bad_version p.version) l.phrases

abbrev pub has_wrong_base64 : CommandLine → Bool
has_wrong_base64 l = list_any has_bad_base64 l.phrases

-- A multi counts as one command and one more for each part.
abbrev pub weight : CommandLine → ℕ
weight l = if is_multi l then length l.phrases + 1 else 1

abbrev pub lone_command : Bool → List Phrase → Command
lone_command wait [] = command.Close
lone_command wait (p ∷ ps) = command_of wait p

abbrev pub meant_command : CommandLine → Command
meant_command l = if is_multi l then command.Multi (map part_of l.phrases) l.wait else lone_command l.wait l.phrases

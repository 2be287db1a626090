-- Why a line offends: each reason by itself, and then their order.
use Rattle.std.specs.Prelude.{ℕ, ◌+◌, ◌==◌, nat_le, nat_lt, Bool, true, false, if◌then◌else◌, ◌||◌, not, List, codes, length, Option, Some, None, is_some, is_none}
use Rattle.std.specs.Str.{is_utf8}
use Rattle.fk_print.specs.ClientNames.{is_client_name}
use Rattle.fk_script.specs.declared.place.Kind.{Kind}
use Rattle.fk_script.specs.declared.place.Kind.TheVariants as kind
use Rattle.fk_script.specs.declared.why.Why.{Why}
use Rattle.fk_script.specs.declared.why.Why.TheVariants as why
use Rattle.fk_script.specs.Lines.{Word, Line, words, is_one_of, first, second}
use Rattle.fk_script.specs.Values.{most_clients, most_commands, most_time, most_turns, number}
use Rattle.fk_script.specs.CommandLines.{command_line, is_unknown, has_wrong_option, has_wrong_words, has_wrong_version, has_wrong_base64, weight}
use Rattle.fk_script.specs.EventLines.{is_event_name, event_fits, number_word, client_word, is_bad_number, is_no_client}
use Rattle.fk_script.specs.SoFar.{SoFar, kind_of}

-- before any client and the schedule, a first word that isn't `lock`, `beat`, `client` or `schedule`
abbrev pub is_unknown_line : Kind → Bool
is_unknown_line kind.Unknown = true
is_unknown_line k = false

-- in a client, a name that no command has; or a part of a multi with a name that no part has
abbrev pub is_unknown_command : Kind → List Word → Bool
is_unknown_command kind.Command ws = is_unknown (command_line ws)
is_unknown_command k ws = false

-- in the schedule, a first word that no turn has
abbrev pub is_unknown_event : Kind → List Word → Bool
is_unknown_event kind.Event ws = not (is_event_name (first ws))
is_unknown_event k ws = false

-- an option that its command or part hasn't, or that is repeated there; or a `&` where none may stand
abbrev pub is_bad_option : Kind → List Word → Bool
is_bad_option kind.Command ws = has_wrong_option (command_line ws)
is_bad_option k ws = false

-- too few or too many words, or a `lock` or a `beat` that stood before
abbrev pub is_bad_words : SoFar → Kind → List Word → Bool
is_bad_words s kind.Lock ws = not (length ws == 2) || is_some s.lock
is_bad_words s kind.Beat ws = not (length ws == 2) || is_some s.beat
is_bad_words s kind.Client ws = not (length ws == 2)
is_bad_words s kind.Schedule ws = not (length ws == 1)
is_bad_words s kind.Command ws = has_wrong_words (command_line ws)
is_bad_words s kind.Event ws = not (event_fits ws)
is_bad_words s k ws = false

-- a number that isn't decimal, has a leading zero or is beyond its limits; a version may be `-1`
abbrev pub is_bad_count : Kind → List Word → Bool
is_bad_count kind.Lock ws = is_none (number most_time (second ws))
is_bad_count kind.Beat ws = is_none (number most_time (second ws))
is_bad_count kind.Command ws = has_wrong_version (command_line ws)
is_bad_count kind.Event ws = is_bad_number (number_word ws)
is_bad_count k ws = false

-- a client's name that isn't of the form of names
abbrev pub is_bad_name : Kind → List Word → Bool
is_bad_name kind.Client ws = not (is_client_name (second ws))
is_bad_name k ws = false

-- a client's name that stood before
abbrev pub is_repeated_name : SoFar → Kind → List Word → Bool
is_repeated_name s kind.Client ws = is_one_of s.names (second ws)
is_repeated_name s k ws = false

-- an event of a client that the file hasn't
abbrev pub is_unknown_client : SoFar → Kind → List Word → Bool
is_unknown_client s kind.Event ws = is_no_client s.names (client_word ws)
is_unknown_client s k ws = false

-- data that is said to be base64 and isn't the base64 of any bytes
abbrev pub is_bad_base64 : Kind → List Word → Bool
is_bad_base64 kind.Command ws = has_wrong_base64 (command_line ws)
is_bad_base64 k ws = false

-- the 65th client, the first command with which more than 2,048 count, or the 65,537th turn
abbrev pub is_too_many : SoFar → Kind → List Word → Bool
is_too_many s kind.Client ws = nat_le most_clients (length s.names)
is_too_many s kind.Command ws = nat_lt most_commands (s.commands + weight (command_line ws))
is_too_many s kind.Event ws = nat_le most_turns (length s.turns)
is_too_many s k ws = false

-- the first reason that a line of this kind gives by its words, in this order
abbrev pub reason : SoFar → Kind → List Word → Option Why
reason s k ws = if is_unknown_line k then Some why.UnknownLine
    else if is_unknown_command k ws then Some why.UnknownCommand
    else if is_unknown_event k ws then Some why.UnknownEvent
    else if is_bad_option k ws then Some why.BadOption
    else if is_bad_words s k ws then Some why.BadWords
    else if is_bad_count k ws then Some why.BadNumber
    else if is_bad_name k ws then Some why.BadName
    else if is_repeated_name s k ws then Some why.RepeatedName
    else if is_unknown_client s k ws then Some why.UnknownClient
    else if is_bad_base64 k ws then Some why.BadBase64
    else if is_too_many s k ws then Some why.TooMany
    else None

-- The first reason of a line; every line, also one that is skipped, has to be UTF-8 and to have its line feed.
abbrev pub offence : SoFar → Line → Option Why
offence s l = if not (is_utf8 l.text) then Some why.NotUtf8
    else if not l.ended then Some why.Unended
    else reason s (kind_of s.place (words l.text)) (words l.text)

-- a reason's name
abbrev pub why_text : Why → List ℕ
why_text why.NotUtf8 = codes "NotUtf8"
why_text why.Unended = codes "Unended"
why_text why.UnknownLine = codes "UnknownLine"
why_text why.UnknownCommand = codes "UnknownCommand"
why_text why.UnknownEvent = codes "UnknownEvent"
why_text why.BadOption = codes "BadOption"
why_text why.BadWords = codes "BadWords"
why_text why.BadNumber = codes "BadNumber"
why_text why.BadName = codes "BadName"
why_text why.RepeatedName = codes "RepeatedName"
why_text why.UnknownClient = codes "UnknownClient"
why_text why.BadBase64 = codes "BadBase64"
why_text why.TooMany = codes "TooMany"
why_text why.Schedule = codes "Schedule"

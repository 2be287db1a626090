-- What a word says.
use Rattle.std.specs.Prelude.{ℕ, ◌==◌, ◌+◌, ◌^◌, nat_lt, if◌then◌else◌, ◌&&◌, List, [], ◌∷◌, codes, Option, Some, None}
use Rattle.std.specs.Option.{option_and_then}
use Rattle.std.specs.Result.{result_ok}
use Rattle.std.specs.List.{list_all}
use Rattle.std.specs.Str.{bytes_eq, is_utf8}
use Rattle.base64.specs.Engines.{standard}
use Rattle.base64.specs.GeneralPurpose.{decode_of}
use Rattle.fk_base.specs.Digits.{number_below}
use Rattle.fk_base.specs.Path.{Name, PathNames, is_name, path_of}
use Rattle.fk_base.specs.declared.code.Code.{Code}
use Rattle.fk_base.specs.declared.code.Code.TheVariants as code
use Rattle.fk_print.specs.Words.{Text, is_plain}

-- a number
unfoldable pub number_of : Text → Option ℕ
number_of word = number_below (2 ^ 63) word

-- a number of 32 bits
unfoldable pub small_of : Text → Option ℕ
small_of word = number_below (2 ^ 32) word

-- a number behind `@`
unfoldable pub at_of : Text → Option ℕ
at_of [] = None
at_of (c ∷ word) = if c == 64 then number_of word else None

-- a client: the place of its name, where the first has this place
abbrev pub place_from : ℕ → List Name → Text → Option ℕ
place_from place [] word = None
place_from place (name ∷ names) word = if bytes_eq word name then Some place else place_from (place + 1) names word

unfoldable pub client_of : List Name → Text → Option ℕ
client_of names word = option_and_then (λ place. if nat_lt place (2 ^ 32) then Some place else None) (place_from 1 names word)

-- a path
unfoldable pub path_of_word : Text → Option PathNames
path_of_word word = if is_utf8 word then path_of word else None

-- a name of a listing
unfoldable pub name_of_word : Text → Option Name
name_of_word word = if is_utf8 word && is_name word then Some word else None

-- what base64 gives
abbrev pub base64_of : Text → Option (List ℕ)
base64_of word = result_ok (decode_of standard word)

-- data
unfoldable pub data_of : Text → Option (List ℕ)
data_of [] = None
data_of (c ∷ word) = if c == 61 then (if list_all is_plain word then Some word else None) else base64_of word

-- a code, by its name
unfoldable pub code_of : Text → Option Code
code_of word =
    if bytes_eq word (codes "SYSTEMERROR") then Some code.SystemError
    else if bytes_eq word (codes "CONNECTIONLOSS") then Some code.ConnectionLoss
    else if bytes_eq word (codes "BADARGUMENTS") then Some code.BadArguments
    else if bytes_eq word (codes "NONODE") then Some code.NoNode
    else if bytes_eq word (codes "BADVERSION") then Some code.BadVersion
    else if bytes_eq word (codes "NOCHILDRENFOREPHEMERALS") then Some code.NoChildrenForEphemerals
    else if bytes_eq word (codes "NODEEXISTS") then Some code.NodeExists
    else if bytes_eq word (codes "NOTEMPTY") then Some code.NotEmpty
    else if bytes_eq word (codes "SESSIONEXPIRED") then Some code.SessionExpired
    else None

-- The text of a tell. Its key `t` tells its kind.
use Rattle.std.specs.Prelude.{◌≡◌, ℕ, ◌^◌, ⊤, if◌then◌else◌, List, codes, Option, Some, None, option_and_then, option_map}
use Rattle.std.specs.Str.{bytes_eq}
use Rattle.json.specs.Json.{Json}
use Rattle.serde_json.specs.Data.{Data, object, number, string, Members, member, no_members}
use Rattle.serde_json.specs.Find.{of_integer}
use Rattle.serde_json.specs.Written.{compact_text}
use Rattle.fk_base.specs.Code.{number_of}
use Rattle.fk_base.specs.declared.code.Code.{Code}
use Rattle.fk_base.specs.declared.code.Code.TheVariants as code
use Rattle.fk_tree.specs.declared.applied.Made.{Made}
use Rattle.fk_wire.specs.declared.message.Tell.{Tell}
use Rattle.fk_wire.specs.declared.message.Tell.TheVariants as tell
use Rattle.fk_wire.specs.declared.version.Version.{Version}
use Rattle.fk_wire.specs.declared.version.Version.TheVariants as version
use Rattle.fk_wire.specs.Fired.{IsLimitedFired, IsTypedFired, change_word, fired_from, kind_word}
use Rattle.fk_wire.specs.Json.{IsTextOf, digits_at, number_at, number_data, path_at, path_data, text_at, version_data}
use Rattle.fk_base.specs.Limits.{IsNumber, IsPath, IsSmall}
use Rattle.fk_wire.specs.Mades.{AreTypedMades, CanSayMades, made_in, mades_data}

-- a code is its number
abbrev pub code_data : Code → Data
code_data c = number (of_integer (number_of c))

-- the key `made`, which version 1 doesn't have
abbrev pub with_made : Version → List Made → Members → Members
with_made version.One made ms = ms
with_made version.Two made ms = member (codes "made") (mades_data made) ms

-- the key `place`, which version 1 doesn't have
abbrev pub with_place : Version → ℕ → Members → Members
with_place version.One place ms = ms
with_place version.Two place ms = member (codes "place") (number_data place) ms

-- the value in this version
abbrev pub tell_data : Version → Tell → Data
tell_data v (tell.Done k tx name node made) =
    object (member (codes "k") (number_data k)
    (with_made v made
    (member (codes "name") (path_data name)
    (member (codes "t") (string (codes "done"))
    (member (codes "tx") (number_data tx)
    (member (codes "v") (version_data v)
    (member (codes "version") (number_data node) no_members)))))))
tell_data v (tell.Evicted k tx) =
    object (member (codes "k") (number_data k)
    (member (codes "t") (string (codes "evicted"))
    (member (codes "tx") (number_data tx)
    (member (codes "v") (version_data v) no_members))))
tell_data v (tell.Refused k c at place) =
    object (member (codes "at") (number_data at)
    (member (codes "code") (code_data c)
    (member (codes "k") (number_data k)
    (with_place v place
    (member (codes "t") (string (codes "refused"))
    (member (codes "v") (version_data v) no_members))))))
tell_data v (tell.Lost k path own found moment) =
    object (member (codes "found") (number_data found)
    (member (codes "k") (number_data k)
    (member (codes "moment") (number_data moment)
    (member (codes "own") (number_data own)
    (member (codes "path") (path_data path)
    (member (codes "t") (string (codes "lost"))
    (member (codes "v") (version_data v) no_members)))))))
tell_data v (tell.Watch tx f) =
    object (member (codes "client") (number_data f.session)
    (member (codes "id") (number_data f.id)
    (member (codes "kind") (string (kind_word f.kind))
    (member (codes "path") (path_data f.path)
    (member (codes "t") (string (codes "watch"))
    (member (codes "tx") (number_data tx)
    (member (codes "type") (string (change_word f.change))
    (member (codes "v") (version_data v) no_members))))))))
tell_data v (tell.Ping n) =
    object (member (codes "n") (number_data n)
    (member (codes "t") (string (codes "ping"))
    (member (codes "v") (version_data v) no_members)))

-- the text in this version
abbrev pub tell_text : Version → Tell → List ℕ
tell_text v m = compact_text (tell_data v m)

-- the limits of a tell
abbrev pub IsLimitedTell : Tell → Type 0
IsLimitedTell (tell.Done k tx name node made) = IsNumber k × IsNumber tx
IsLimitedTell (tell.Evicted k tx) = IsNumber k × IsNumber tx
IsLimitedTell (tell.Refused k c at place) = IsNumber k × IsNumber at
IsLimitedTell (tell.Lost k path own found moment) = IsNumber k × IsNumber own × IsNumber found × IsNumber moment
IsLimitedTell (tell.Watch tx f) = IsNumber tx × IsLimitedFired f
IsLimitedTell (tell.Ping n) = IsNumber n

-- what its types promise of a tell
abbrev pub IsTypedTell : Tell → Type 0
IsTypedTell (tell.Done k tx name node made) = IsPath name × IsSmall node × AreTypedMades made
IsTypedTell (tell.Evicted k tx) = ⊤
IsTypedTell (tell.Refused k c at place) = IsSmall place
IsTypedTell (tell.Lost k path own found moment) = IsPath path
IsTypedTell (tell.Watch tx f) = IsTypedFired f
IsTypedTell (tell.Ping n) = ⊤

-- a tell that can be written
abbrev pub IsTell : Tell → Type 0
IsTell m = IsLimitedTell m × IsTypedTell m

-- which tells a version can say: the first knows no multi
abbrev pub CanSayTell : Version → Tell → Type 0
CanSayTell version.One (tell.Done k tx name node made) = CanSayMades version.One made
CanSayTell version.One (tell.Evicted k tx) = ⊤
CanSayTell version.One (tell.Refused k c at place) = place ≡ 0
CanSayTell version.One (tell.Lost k path own found moment) = ⊤
CanSayTell version.One (tell.Watch tx f) = ⊤
CanSayTell version.One (tell.Ping n) = ⊤
CanSayTell version.Two m = ⊤

-- The bytes are a text of the tell: in the second version, or in the first where that can say it.
abbrev pub IsTellText : List ℕ → Tell → Type 0
IsTellText = IsTextOf IsTell CanSayTell tell_data

-- the code of which this is the number
abbrev pub code_of : List ℕ → Option Code
code_of digits =
    if bytes_eq digits (codes "-1") then Some code.SystemError
    else if bytes_eq digits (codes "-4") then Some code.ConnectionLoss
    else if bytes_eq digits (codes "-8") then Some code.BadArguments
    else if bytes_eq digits (codes "-101") then Some code.NoNode
    else if bytes_eq digits (codes "-103") then Some code.BadVersion
    else if bytes_eq digits (codes "-108") then Some code.NoChildrenForEphemerals
    else if bytes_eq digits (codes "-110") then Some code.NodeExists
    else if bytes_eq digits (codes "-111") then Some code.NotEmpty
    else if bytes_eq digits (codes "-112") then Some code.SessionExpired
    else None

-- the code at a key
abbrev pub code_at : List ℕ → Json → Option Code
code_at key j = option_and_then code_of (digits_at key j)

-- the place, in a text of this version
abbrev pub place_in : Version → Json → Option ℕ
place_in version.One d = Some 0
place_in version.Two d = number_at (2 ^ 32) (codes "place") d

-- a commit
abbrev pub done_from : Version → Json → Option Tell
done_from v d =
    option_and_then (λ k. option_and_then (λ tx. option_and_then (λ name. option_and_then (λ node.
    option_map (tell.Done k tx name node) (made_in v d)) (number_at (2 ^ 32) (codes "version") d))
    (path_at (codes "name") d)) (number_at (2 ^ 63) (codes "tx") d)) (number_at (2 ^ 63) (codes "k") d)

-- a heartbeat's close
abbrev pub evicted_from : Json → Option Tell
evicted_from d =
    option_and_then (λ k. option_map (tell.Evicted k) (number_at (2 ^ 63) (codes "tx") d)) (number_at (2 ^ 63) (codes "k") d)

-- a refusal
abbrev pub refused_from : Version → Json → Option Tell
refused_from v d =
    option_and_then (λ k. option_and_then (λ c. option_and_then (λ at. option_map (tell.Refused k c at) (place_in v d))
    (number_at (2 ^ 63) (codes "at") d)) (code_at (codes "code") d)) (number_at (2 ^ 63) (codes "k") d)

-- a loss
abbrev pub lost_from : Json → Option Tell
lost_from d =
    option_and_then (λ k. option_and_then (λ path. option_and_then (λ own. option_and_then (λ found.
    option_map (tell.Lost k path own found) (number_at (2 ^ 63) (codes "moment") d))
    (number_at (2 ^ 63) (codes "found") d)) (number_at (2 ^ 63) (codes "own") d))
    (path_at (codes "path") d)) (number_at (2 ^ 63) (codes "k") d)

-- a watch
abbrev pub watch_from : Json → Option Tell
watch_from d = option_and_then (λ tx. option_map (tell.Watch tx) (fired_from d)) (number_at (2 ^ 63) (codes "tx") d)

-- a ping
abbrev pub ping_from : Json → Option Tell
ping_from d = option_map tell.Ping (number_at (2 ^ 63) (codes "n") d)

-- the tell of the kind that a word says
abbrev pub kind_from : Version → List ℕ → Json → Option Tell
kind_from v t d =
    if bytes_eq t (codes "done") then done_from v d
    else if bytes_eq t (codes "evicted") then evicted_from d
    else if bytes_eq t (codes "refused") then refused_from v d
    else if bytes_eq t (codes "lost") then lost_from d
    else if bytes_eq t (codes "watch") then watch_from d
    else if bytes_eq t (codes "ping") then ping_from d
    else None

-- the tell of which a value has the fields
abbrev pub tell_from : Version → Json → Option Tell
tell_from v d = option_and_then (λ t. kind_from v t d) (text_at (codes "t") d)

-- A law: bytes are the text of one tell.
abbrev pub OneTell : Type 0
OneTell = (bytes : List ℕ) (m n : Tell) → IsTellText bytes m → IsTellText bytes n → m ≡ n

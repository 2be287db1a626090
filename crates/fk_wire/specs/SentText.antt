-- The texts of a request on its way to its follower.
use Rattle.std.specs.Prelude.{◌≡◌, ℕ, ◌^◌, List, codes, Option, option_and_then, option_map}
use Rattle.json.specs.Json.{Json}
use Rattle.serde_json.specs.Data.{Data, member, no_members, object}
use Rattle.serde_json.specs.Written.{compact_text}
use Rattle.fk_wire.specs.Json.{IsTextOf, number_at, number_data, version_data}
use Rattle.fk_wire.specs.Limits.{IsLimitedRequest, IsTypedRequest}
use Rattle.fk_base.specs.Limits.{IsNumber}
use Rattle.fk_wire.specs.Ops.{CanSayRequest, op_at, request_data}
use Rattle.fk_wire.specs.declared.message.Sent.{Sent}
use Rattle.fk_wire.specs.declared.version.Version.{Version}

-- the value in this version
abbrev pub sent_data : Version → Sent → Data
sent_data v m = object (member (codes "op") (request_data m.request) (member (codes "seen") (number_data m.seen) (member (codes "v") (version_data v) no_members)))

-- its text
abbrev pub sent_text : Version → Sent → List ℕ
sent_text v m = compact_text (sent_data v m)

-- the limits of the message
abbrev pub IsLimitedSent : Sent → Type 0
IsLimitedSent m = IsLimitedRequest m.request × IsNumber m.seen

-- what its types promise of the message
abbrev pub IsTypedSent : Sent → Type 0
IsTypedSent m = IsTypedRequest m.request

-- a message that can be written
abbrev pub IsSent : Sent → Type 0
IsSent m = IsLimitedSent m × IsTypedSent m

-- which messages a version can say
abbrev pub CanSaySent : Version → Sent → Type 0
CanSaySent v m = CanSayRequest v m.request

-- The bytes are a text of the message: in the second version, or in the first where that can say it.
abbrev pub IsSentText : List ℕ → Sent → Type 0
IsSentText = IsTextOf IsSent CanSaySent sent_data

-- the message of which a value has the fields
abbrev pub sent_from : Version → Json → Option Sent
sent_from v d = option_and_then (λ request. option_map (λ seen. record { request = request; seen = seen }) (number_at (2 ^ 63) (codes "seen") d)) (op_at v d)

-- A law: bytes are the text of one message.
abbrev pub OneSent : Type 0
OneSent = (bytes : List ℕ) (m n : Sent) → IsSentText bytes m → IsSentText bytes n → m ≡ n

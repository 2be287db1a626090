-- The texts of a request on its way to the leader.
use Rattle.std.specs.Prelude.{◌≡◌, ℕ, ◌^◌, List, codes, Option, option_and_then, option_map}
use Rattle.std.specs.List.{AllByRecursion}
use Rattle.json.specs.Json.{Json}
use Rattle.serde_json.specs.Data.{Data, Members, member, no_members, object, put}
use Rattle.serde_json.specs.Written.{compact_text}
use Rattle.fk_tree.specs.declared.applied.Made.{Made}
use Rattle.fk_wire.specs.Json.{IsTextOf, list_at, list_data, number_at, number_data, path_at, path_data, path_from, version_data}
use Rattle.fk_wire.specs.Limits.{IsLimitedRequest, IsTypedRequest}
use Rattle.fk_base.specs.Limits.{IsNumber, IsPath, IsSmall}
use Rattle.fk_wire.specs.Mades.{AreTypedMades, CanSayMades, made_in, mades_data}
use Rattle.fk_wire.specs.Ops.{CanSayRequest, op_at, request_data}
use Rattle.fk_wire.specs.declared.message.Pushed.{Pushed}
use Rattle.fk_wire.specs.declared.pushed.Heading.{Heading}
use Rattle.fk_wire.specs.declared.version.Version.{Version}
use Rattle.fk_wire.specs.declared.version.Version.TheVariants as version

-- the value in this version; the first doesn't have the key `made`
abbrev pub pushed_data : Version → Pushed → Data
pushed_data version.One m =
    object (member (codes "client") (number_data m.session)
    (member (codes "gone") (list_data path_data m.gone)
    (member (codes "inv") (number_data m.inv)
    (member (codes "k") (number_data m.k)
    (member (codes "moment") (number_data m.moment)
    (member (codes "name") (path_data m.name)
    (member (codes "op") (request_data m.request)
    (member (codes "paths") (list_data path_data m.paths)
    (member (codes "v") (version_data version.One)
    (member (codes "version") (number_data m.version) no_members))))))))))
pushed_data version.Two m =
    object (member (codes "client") (number_data m.session)
    (member (codes "gone") (list_data path_data m.gone)
    (member (codes "inv") (number_data m.inv)
    (member (codes "k") (number_data m.k)
    (member (codes "made") (mades_data m.made)
    (member (codes "moment") (number_data m.moment)
    (member (codes "name") (path_data m.name)
    (member (codes "op") (request_data m.request)
    (member (codes "paths") (list_data path_data m.paths)
    (member (codes "v") (version_data version.Two)
    (member (codes "version") (number_data m.version) no_members)))))))))))

-- its text
abbrev pub pushed_text : Version → Pushed → List ℕ
pushed_text v m = compact_text (pushed_data v m)

-- the limits of the message
abbrev pub IsLimitedPushed : Pushed → Type 0
IsLimitedPushed m = IsNumber m.k × IsNumber m.inv × IsNumber m.moment × IsLimitedRequest m.request

-- what its types promise of the message
abbrev pub IsTypedPushed : Pushed → Type 0
IsTypedPushed m = IsSmall m.session × IsTypedRequest m.request × IsPath m.name × IsSmall m.version × AllByRecursion IsPath m.gone × AreTypedMades m.made × AllByRecursion IsPath m.paths

-- a message that can be written
abbrev pub IsPushed : Pushed → Type 0
IsPushed m = IsLimitedPushed m × IsTypedPushed m

-- which messages a version can say
abbrev pub CanSayPushed : Version → Pushed → Type 0
CanSayPushed v m = CanSayRequest v m.request × CanSayMades v m.made

-- The bytes are a text of the message: in the second version, or in the first where that can say it.
abbrev pub IsPushedText : List ℕ → Pushed → Type 0
IsPushedText = IsTextOf IsPushed CanSayPushed pushed_data

-- ---- writing, some members at a time

-- the members that hold numbers
abbrev pub heading_members : Version → Pushed → Members
heading_members v m =
    member (codes "client") (number_data m.session)
    (member (codes "inv") (number_data m.inv)
    (member (codes "k") (number_data m.k)
    (member (codes "moment") (number_data m.moment)
    (member (codes "v") (version_data v)
    (member (codes "version") (number_data m.version) no_members)))))

-- these members and those that hold paths
abbrev pub with_paths : Pushed → Members → Members
with_paths m ms = put (codes "paths") (list_data path_data m.paths) (put (codes "name") (path_data m.name) (put (codes "gone") (list_data path_data m.gone) ms))

-- these members and what the parts came to, in the second version
abbrev pub with_made : Version → List Made → Members → Members
with_made version.One made ms = ms
with_made version.Two made ms = put (codes "made") (mades_data made) ms

-- ---- reading

-- the numbers of a value
abbrev pub heading_from : Json → Option Heading
heading_from d =
    option_and_then (λ session. option_and_then (λ k. option_and_then (λ inv. option_and_then (λ moment. option_map (λ version.
    record { session = session; k = k; inv = inv; moment = moment; version = version })
    (number_at (2 ^ 32) (codes "version") d)) (number_at (2 ^ 63) (codes "moment") d)) (number_at (2 ^ 63) (codes "inv") d)) (number_at (2 ^ 63) (codes "k") d)) (number_at (2 ^ 32) (codes "client") d)

-- the message of which a value has the fields
abbrev pub pushed_from : Version → Json → Option Pushed
pushed_from v d =
    option_and_then (λ h. option_and_then (λ request. option_and_then (λ name. option_and_then (λ gone. option_and_then (λ made. option_map (λ paths.
    record { session = h.session; k = h.k; inv = h.inv; moment = h.moment; request = request; name = name; version = h.version; gone = gone; made = made; paths = paths })
    (list_at path_from (codes "paths") d)) (made_in v d)) (list_at path_from (codes "gone") d)) (path_at (codes "name") d)) (op_at v d)) (heading_from d)

-- A law: bytes are the text of one message.
abbrev pub OnePushed : Type 0
OnePushed = (bytes : List ℕ) (m n : Pushed) → IsPushedText bytes m → IsPushedText bytes n → m ≡ n

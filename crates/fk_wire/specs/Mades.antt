-- What the parts of a multi came to, as JSON.
use Rattle.std.specs.Prelude.{◌≡◌, ℕ, ◌^◌, ⊤, List, [], codes, Option, Some, option_and_then, option_map}
use Rattle.std.specs.List.{AllByRecursion}
use Rattle.json.specs.Json.{Json}
use Rattle.serde_json.specs.Data.{Data, object, member, no_members}
use Rattle.fk_tree.specs.declared.applied.Made.{Made}
use Rattle.fk_wire.specs.Json.{list_at, list_data, number_at, number_data, path_at, path_data}
use Rattle.fk_base.specs.Limits.{IsPath, IsSmall}
use Rattle.fk_wire.specs.declared.version.Version.{Version}
use Rattle.fk_wire.specs.declared.version.Version.TheVariants as version

-- one entry
abbrev pub made_data : Made → Data
made_data m =
    object (member (codes "name") (path_data m.name)
    (member (codes "version") (number_data m.version) no_members))

-- the entries, in order
abbrev pub mades_data : List Made → Data
mades_data = list_data made_data

-- what its types promise of an entry
abbrev pub IsTypedMade : Made → Type 0
IsTypedMade m = IsPath m.name × IsSmall m.version

-- and of entries
abbrev pub AreTypedMades : List Made → Type 0
AreTypedMades = AllByRecursion IsTypedMade

-- the entry of which a value has the fields
abbrev pub made_from : Json → Option Made
made_from d =
    option_and_then (λ name. option_map (λ version. record { name = name; version = version })
    (number_at (2 ^ 32) (codes "version") d)) (path_at (codes "name") d)

-- the entries at a key
abbrev pub mades_at : List ℕ → Json → Option (List Made)
mades_at = list_at made_from

-- Which entries a version can say: the first knows no multi.
abbrev pub CanSayMades : Version → List Made → Type 0
CanSayMades version.One made = made ≡ []
CanSayMades version.Two made = ⊤

-- the entries of a value in this version
abbrev pub made_in : Version → Json → Option (List Made)
made_in version.One d = Some []
made_in version.Two d = mades_at (codes "made") d

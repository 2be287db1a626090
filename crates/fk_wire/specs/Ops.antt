-- The value of a request in a message.
use Rattle.std.specs.Prelude.{ℕ, ◌&&◌, nat_lt, if◌then◌else◌, ℤ, Bool, false, ⊤, List, codes, length, Option, Some, None, option_and_then, option_map}
use Rattle.std.specs.Str.{bytes_eq}
use Rattle.json.specs.Find.{get}
use Rattle.json.specs.Json.{Json}
use Rattle.serde_json.specs.Data.{Data, boolean, member, no_members, object, string}
use Rattle.fk_base.specs.Path.{PathNames}
use Rattle.fk_tree.specs.declared.request.Part.{Part}
use Rattle.fk_tree.specs.declared.request.Part.TheVariants as part
use Rattle.fk_tree.specs.declared.request.Request.{Request}
use Rattle.fk_tree.specs.declared.request.Request.TheVariants as request
use Rattle.fk_wire.specs.Json.{bytes_at, bytes_data, expected_at, expected_data, flag_at, list_at, list_data, path_at, path_data, text_at}
use Rattle.fk_wire.specs.declared.version.Version.{Version}
use Rattle.fk_wire.specs.declared.version.Version.TheVariants as version

-- the value of a create
abbrev pub create_data : PathNames → List ℕ → Bool → Bool → Data
create_data path bytes seq eph = object (member (codes "data") (bytes_data bytes) (member (codes "e") (boolean eph) (member (codes "path") (path_data path) (member (codes "s") (boolean seq) (member (codes "t") (string (codes "create")) no_members)))))

-- the value of a set
abbrev pub set_data : PathNames → List ℕ → ℤ → Data
set_data path bytes v = object (member (codes "data") (bytes_data bytes) (member (codes "path") (path_data path) (member (codes "t") (string (codes "set")) (member (codes "version") (expected_data v) no_members))))

-- the value of a delete
abbrev pub delete_data : PathNames → ℤ → Data
delete_data path v = object (member (codes "path") (path_data path) (member (codes "t") (string (codes "delete")) (member (codes "version") (expected_data v) no_members)))

-- the value of a part; its create isn't sequential
abbrev pub part_data : Part → Data
part_data (part.Create path bytes eph) = create_data path bytes false eph
part_data (part.Set path bytes v) = set_data path bytes v
part_data (part.Delete path v) = delete_data path v

-- the value of a request
abbrev pub request_data : Request → Data
request_data (request.Create path bytes seq eph) = create_data path bytes seq eph
request_data (request.Set path bytes v) = set_data path bytes v
request_data (request.Delete path v) = delete_data path v
request_data (request.Close evict) = object (member (codes "evict") (boolean evict) (member (codes "t") (string (codes "close")) no_members))
request_data (request.Multi parts) = object (member (codes "parts") (list_data part_data parts) (member (codes "t") (string (codes "multi")) no_members))

-- which requests a version can say: the first has no multi
abbrev pub CanSayRequest : Version → Request → Type 0
CanSayRequest version.Two r = ⊤
CanSayRequest version.One (request.Create path bytes seq eph) = ⊤
CanSayRequest version.One (request.Set path bytes v) = ⊤
CanSayRequest version.One (request.Delete path v) = ⊤
CanSayRequest version.One (request.Close evict) = ⊤
CanSayRequest version.One (request.Multi parts) = ⊥

-- ---- reading

-- the create of which a value has the fields
abbrev pub create_from : Json → Option Part
create_from d = option_and_then (λ path. option_and_then (λ bytes. option_map (λ eph. part.Create path bytes eph) (flag_at (codes "e") d)) (bytes_at (codes "data") d)) (path_at (codes "path") d)

-- the set of which a value has the fields
abbrev pub set_from : Json → Option Part
set_from d = option_and_then (λ path. option_and_then (λ bytes. option_map (λ v. part.Set path bytes v) (expected_at (codes "version") d)) (bytes_at (codes "data") d)) (path_at (codes "path") d)

-- the delete of which a value has the fields
abbrev pub delete_from : Json → Option Part
delete_from d = option_and_then (λ path. option_map (λ v. part.Delete path v) (expected_at (codes "version") d)) (path_at (codes "path") d)

-- the part of this kind of which a value has the fields
abbrev pub part_by : Json → List ℕ → Option Part
part_by d t = if bytes_eq t (codes "create") then create_from d else if bytes_eq t (codes "set") then set_from d else if bytes_eq t (codes "delete") then delete_from d else None

-- the part of which a value has the fields
abbrev pub part_from : Json → Option Part
part_from d = option_and_then (part_by d) (text_at (codes "t") d)

-- a part as a request, where a create tells whether it is sequential
abbrev pub request_of : Option Bool → Part → Option Request
request_of seq (part.Create path bytes eph) = option_map (λ s. request.Create path bytes s eph) seq
request_of seq (part.Set path bytes v) = Some (request.Set path bytes v)
request_of seq (part.Delete path v) = Some (request.Delete path v)

-- a multi of 1 to 16 parts
abbrev pub multi_of : List Part → Option Request
multi_of parts = if nat_lt 0 (length parts) && nat_lt (length parts) 17 then Some (request.Multi parts) else None

-- the multi of which a value has the parts
abbrev pub multi_from : Version → Json → Option Request
multi_from version.One d = None
multi_from version.Two d = option_and_then multi_of (list_at part_from (codes "parts") d)

-- the request of this kind of which a value has the fields
abbrev pub request_by : Version → Json → List ℕ → Option Request
request_by v d t = if bytes_eq t (codes "close") then option_map request.Close (flag_at (codes "evict") d) else if bytes_eq t (codes "multi") then multi_from v d else option_and_then (request_of (flag_at (codes "s") d)) (part_by d t)

-- the request of which a value has the fields
abbrev pub request_from : Version → Json → Option Request
request_from v d = option_and_then (request_by v d) (text_at (codes "t") d)

-- the request at the key `op`
abbrev pub op_at : Version → Json → Option Request
op_at v d = option_and_then (request_from v) (get (codes "op") d)

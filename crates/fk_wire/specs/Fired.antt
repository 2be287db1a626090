-- Watches that fired, as JSON.
use Rattle.std.specs.Prelude.{ℕ, ◌^◌, if◌then◌else◌, List, codes, Option, Some, None, option_and_then, option_map}
use Rattle.std.specs.List.{AllByRecursion}
use Rattle.std.specs.Str.{bytes_eq}
use Rattle.json.specs.Json.{Json}
use Rattle.serde_json.specs.Data.{Data, object, member, no_members, string}
use Rattle.fk_tree.specs.declared.change.Change.{Change}
use Rattle.fk_tree.specs.declared.change.Change.TheVariants as change
use Rattle.fk_tree.specs.declared.change.Kind.{Kind}
use Rattle.fk_tree.specs.declared.change.Kind.TheVariants as kind
use Rattle.fk_wire.specs.declared.fired.Fired.{Fired}
use Rattle.fk_wire.specs.Json.{list_at, list_data, number_at, number_data, path_at, path_data, text_at}
use Rattle.fk_base.specs.Limits.{IsNumber, IsPath, IsSmall}

-- the word for what a watch waits for
abbrev pub kind_word : Kind → List ℕ
kind_word kind.Data = codes "data"
kind_word kind.Child = codes "child"

-- the word for what happened, the type of an event in ZooKeeper's client interface
abbrev pub change_word : Change → List ℕ
change_word change.Created = codes "NodeCreated"
change_word change.Changed = codes "NodeDataChanged"
change_word change.Deleted = codes "NodeDeleted"
change_word change.Child = codes "NodeChildrenChanged"

-- one watch
abbrev pub fired_data : Fired → Data
fired_data f =
    object (member (codes "client") (number_data f.session)
    (member (codes "id") (number_data f.id)
    (member (codes "kind") (string (kind_word f.kind))
    (member (codes "path") (path_data f.path)
    (member (codes "type") (string (change_word f.change)) no_members)))))

-- the watches, in order
abbrev pub fired_list_data : List Fired → Data
fired_list_data = list_data fired_data

-- the limits of a watch
abbrev pub IsLimitedFired : Fired → Type 0
IsLimitedFired f = IsNumber f.id

-- the limits of watches
abbrev pub AreLimitedFired : List Fired → Type 0
AreLimitedFired = AllByRecursion IsLimitedFired

-- what its types promise of a watch
abbrev pub IsTypedFired : Fired → Type 0
IsTypedFired f = IsSmall f.session × IsPath f.path

-- and of watches
abbrev pub AreTypedFired : List Fired → Type 0
AreTypedFired = AllByRecursion IsTypedFired

-- what the word says that a watch waits for
abbrev pub kind_of : List ℕ → Option Kind
kind_of word =
    if bytes_eq word (codes "data") then Some kind.Data
    else if bytes_eq word (codes "child") then Some kind.Child
    else None

-- what the word says that happened
abbrev pub change_of : List ℕ → Option Change
change_of word =
    if bytes_eq word (codes "NodeCreated") then Some change.Created
    else if bytes_eq word (codes "NodeDataChanged") then Some change.Changed
    else if bytes_eq word (codes "NodeDeleted") then Some change.Deleted
    else if bytes_eq word (codes "NodeChildrenChanged") then Some change.Child
    else None

-- what a watch waits for, at a key
abbrev pub kind_at : List ℕ → Json → Option Kind
kind_at key d = option_and_then kind_of (text_at key d)

-- what happened, at a key
abbrev pub change_at : List ℕ → Json → Option Change
change_at key d = option_and_then change_of (text_at key d)

-- the watch of which a value has the fields
abbrev pub fired_from : Json → Option Fired
fired_from d =
    option_and_then (λ session. option_and_then (λ id. option_and_then (λ kind. option_and_then (λ path.
    option_map (λ change. record { id = id; session = session; path = path; kind = kind; change = change })
    (change_at (codes "type") d)) (path_at (codes "path") d)) (kind_at (codes "kind") d))
    (number_at (2 ^ 63) (codes "id") d)) (number_at (2 ^ 32) (codes "client") d)

-- the watches at a key
abbrev pub fired_list_at : List ℕ → Json → Option (List Fired)
fired_list_at = list_at fired_from

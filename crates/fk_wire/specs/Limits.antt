-- Which requests a message has. Some of it the types of the values promise by themselves; the rest
-- are the limits of messages.
use Rattle.std.specs.Prelude.{◌≤◌, ⊤, length}
use Rattle.std.specs.List.{AllByRecursion}
use Rattle.fk_base.specs.Limits.{IsData, IsExpected, IsPath}
use Rattle.fk_tree.specs.declared.request.Part.{Part}
use Rattle.fk_tree.specs.declared.request.Part.TheVariants as part
use Rattle.fk_tree.specs.declared.request.Request.{Request}
use Rattle.fk_tree.specs.declared.request.Request.TheVariants as request

-- the limits of a part
abbrev pub IsLimitedPart : Part → Type 0
IsLimitedPart (part.Create path bytes eph) = ⊤
IsLimitedPart (part.Set path bytes v) = IsExpected v
IsLimitedPart (part.Delete path v) = IsExpected v

-- the limits of a request; a multi has 1 to 16 parts
abbrev pub IsLimitedRequest : Request → Type 0
IsLimitedRequest (request.Create path bytes seq eph) = ⊤
IsLimitedRequest (request.Set path bytes v) = IsExpected v
IsLimitedRequest (request.Delete path v) = IsExpected v
IsLimitedRequest (request.Close evict) = ⊤
IsLimitedRequest (request.Multi parts) = (1 ≤ length parts) × (length parts ≤ 16) × AllByRecursion IsLimitedPart parts

-- what its types promise of a part
abbrev pub IsTypedPart : Part → Type 0
IsTypedPart (part.Create path bytes eph) = IsPath path × IsData bytes
IsTypedPart (part.Set path bytes v) = IsPath path × IsData bytes
IsTypedPart (part.Delete path v) = IsPath path

-- what its types promise of a request
abbrev pub IsTypedRequest : Request → Type 0
IsTypedRequest (request.Create path bytes seq eph) = IsPath path × IsData bytes
IsTypedRequest (request.Set path bytes v) = IsPath path × IsData bytes
IsTypedRequest (request.Delete path v) = IsPath path
IsTypedRequest (request.Close evict) = ⊤
IsTypedRequest (request.Multi parts) = AllByRecursion IsTypedPart parts

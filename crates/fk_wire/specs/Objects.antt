-- An object that is built member by member.
use Rattle.serde_json.specs.Data.{Members}
use Rattle.serde_json.specs.View.{members_view}
use Rattle.fk_wire.specs.declared.object.Object.{Object}

-- its members, in the order of their keys
abbrev pub members : Object → Members
members o = members_view o.map.entries

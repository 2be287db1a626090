-- What a follower keeps of the nodes that it locks: what its request's check and its push read of them.
use Rattle.std.specs.Prelude.{List, [], take, map, Option}
use Rattle.fk_tree.specs.Tree.{map_some}
use Rattle.fk_tree.specs.declared.node.Node.{Node}
use Rattle.fk_tree.specs.declared.request.Request.{Request}
use Rattle.fk_tree.specs.declared.request.Request.TheVariants as request
use Rattle.fk_spec.specs.Follower.{Follower, Granted}

-- a node without its data, and with one child name at most
abbrev pub sketch : Node → Node
sketch n = record n { bytes = []; names = take 1 n.names }

-- the parts of a multi change nodes; another request reads of a node whether it has children alone
abbrev pub node_for : Request → Node → Node
node_for (request.Create p bytes seq eph) n = sketch n
node_for (request.Set p bytes version) n = sketch n
node_for (request.Delete p version) n = sketch n
node_for (request.Close evict) n = sketch n
node_for (request.Multi ps) n = n

-- a granted record with what a request reads of its node
abbrev pub grant_for : Request → Granted → Granted
grant_for r g = record { path = g.path; node = map_some (node_for r) g.node; last = g.last }

-- A follower that keeps of each granted record what its request reads.
abbrev pub follower_for : Request → Follower → Follower
follower_for r f = record f { granted = map (grant_for r) f.granted }

use Rattle.std.proofs.Common.{◌≡◌}
use Rattle.std.specs.BTreeMap.{btree_map_len}
use Rattle.fk_base.specs.Path.{PathNames}
use Rattle.fk_index.specs.Drafts.{node_over, IsReady}
use Rattle.fk_index.specs.Owners.{AreOwned}
use Rattle.fk_index.specs.Parts.{with_node}
use Rattle.fk_index.specs.Slots.{record_at}
use Rattle.fk_index.proofs.installing.install.Given as goal

abbrev pub invariant-putting : goal.invariant-putting
invariant-putting l =
    ((p : PathNames) → with_node (node_over l.drafts l.slots p) (record_at l.slots p) ≡ with_node (node_over l.initial.drafts l.initial.slots p) (record_at l.initial.slots p))
    × IsReady l.drafts l.slots l.owners
    × AreOwned l.slots l.owners

abbrev pub decreases-putting : goal.decreases-putting
decreases-putting l = btree_map_len l.drafts

use Rattle.std.proofs.Common.{◌≡◌, true, drop}
use Rattle.fk_base.specs.Path.{name_cmp}
use Rattle.fk_tree.specs.Edit.{edited}
use Rattle.fk_tree.specs.Rows.{names_of}
use Rattle.fk_tree.specs.Sorted.{rises}
use Rattle.fk_user.proofs.record_map.record_after.Given as goal

abbrev pub invariant-editing : goal.invariant-editing
invariant-editing l =
    (edited l.tx l.moment l.path l.edits l.initial.node ≡ edited l.tx l.moment l.path (drop l.change-index l.edits) l.node)
    × (rises name_cmp (names_of l.node) ≡ true)

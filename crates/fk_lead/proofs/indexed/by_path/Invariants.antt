use Rattle.std.proofs.Common.{◌≡◌, ◌++◌, drop}
use Rattle.fk_base.specs.Path.{PathNames}
use Rattle.fk_tree.specs.Touch.{edits_at}
use Rattle.fk_lead.specs.Indexed.{kept_at}
use Rattle.fk_lead.proofs.indexed.by_path.Given as goal

abbrev pub invariant-keeping : goal.invariant-keeping
invariant-keeping l = (p : PathNames) → kept_at l.own p ++ edits_at p (drop l.change-index l.edits) ≡ edits_at p l.edits

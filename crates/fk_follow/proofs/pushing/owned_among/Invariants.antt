use Rattle.std.proofs.Common.{◌≡◌, ◌++◌, drop}
use Rattle.fk_tree.specs.Shown.{rows_view}
use Rattle.fk_spec.specs.Stored.{owned_among}
use Rattle.fk_follow.proofs.pushing.owned_among.Given as goal

abbrev pub invariant-choosing : goal.invariant-choosing
invariant-choosing l = l.owned ++ owned_among l.session (rows_view l.rows) (drop l.path-index l.paths) ≡ owned_among l.session (rows_view l.rows) l.paths

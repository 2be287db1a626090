-- What rows show after a node was put there.
use Rattle.std.proofs.Common.{◌≡◌, ℕ, Bool, cond, List, Option, refl, ◌∙◌}
use Rattle.fk_base.specs.Path.{PathNames, same_path}
use Rattle.fk_tree.specs.Rows.{Row, row_node, shown}
use Rattle.fk_tree.specs.Shown.{with_node}
use Rattle.fk_tree.specs.declared.node.Node.{Node}
use Rattle.fk_tree.proofs.Looking.{same_flip}

pub put_shown : (rows others : List Row) (k : PathNames) (o : Option Node) (closed : ℕ → Bool) → ((p : PathNames) → row_node p others ≡ cond (same_path p k) o (row_node p rows)) → shown others closed ≡ with_node k o (shown rows closed)
put_shown rows others k o closed e = λ i. record { node = λ p. (at p) i; closed = closed }
  where
    at : (p : PathNames) → row_node p others ≡ cond (same_path k p) o (row_node p rows)
    at p = e p ∙ rw (same_flip p k) refl

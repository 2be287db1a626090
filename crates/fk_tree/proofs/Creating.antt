-- A create in rows: the new node, its name in the parent, and what is undone where the name finds no memory.
use Rattle.std.proofs.Common.{◌≡◌, ℕ, Bool, true, false, cond, List, [], ◌∷◌, Some, None, refl, sym, ◌∙◌}
use Rattle.std.proofs.lemmas.Bool.{false≢true}
use Rattle.fk_base.specs.Path.{PathNames, name_cmp, same_path, parent, last_name, is_root}
use Rattle.fk_tree.specs.declared.node.Node.{Node}
use Rattle.fk_tree.specs.Sorted.{rises}
use Rattle.fk_tree.specs.Tree.{map_some, with_names, fresh}
use Rattle.fk_tree.specs.Edit.{create_edits, edited, with_child}
use Rattle.fk_tree.specs.Rows.{Row, row_node, names_of, AreRising}
use Rattle.fk_tree.proofs.Order.{same_path_is}
use Rattle.fk_base.proofs.Logic.{by_test}

-- one path has this node, and the others keep theirs
abbrev pub IsPut : PathNames → Node → List Row → List Row → Type 0
IsPut p n rows others = (r : PathNames) → row_node r others ≡ cond (same_path r p) (Some n) (row_node r rows)

pub made_rows : (tx moment owner : ℕ) (p q : PathNames) (bytes : List ℕ) (n : Node) (rows between after : List Row)
    → n ≡ with_names [] (fresh bytes owner tx moment)
    → IsPut p n rows between
    → ((r : PathNames) → row_node r after ≡ row_node r between)
    → is_root p ≡ true → row_node q after ≡ edited tx moment q (create_edits p bytes owner) (row_node q rows)
made_rows tx moment owner [] q bytes n rows between after m u v r = v q ∙ u q ∙ rw m refl
made_rows tx moment owner (x ∷ p) q bytes n rows between after m u v r = absurd (false≢true r)

pub child_rows : (tx moment owner : ℕ) (p q : PathNames) (bytes : List ℕ) (n : Node) (rows between after : List Row)
    → n ≡ with_names [] (fresh bytes owner tx moment)
    → IsPut p n rows between
    → ((r : PathNames) → row_node r after ≡ cond (same_path r (parent p)) (map_some (with_child (last_name p) tx) (row_node r between)) (row_node r between))
    → is_root p ≡ false → row_node q after ≡ edited tx moment q (create_edits p bytes owner) (row_node q rows)
child_rows tx moment owner [] q bytes n rows between after m u v r = absurd (false≢true (sym r))
child_rows tx moment owner (x ∷ p) q bytes n rows between after m u v r = v q ∙ rw (u q, m) refl

-- the child names rise where a node without any came
pub rising_with : (p : PathNames) (n : Node) (rows others : List Row) → n.names ≡ [] → IsPut p n rows others → AreRising rows → AreRising others
rising_with p n rows others e u h q = rw (u q) (step (same_path q p))
  where
    step : (b : Bool) → rises name_cmp (names_of (cond b (Some n) (row_node q rows))) ≡ true
    step true = rw e refl
    step false = h q

-- a node that came to a free path and is taken out again
pub undone : (p : PathNames) (n : Node) (rows between same others : List Row) → row_node p rows ≡ None → IsPut p n rows between
    → ((q : PathNames) → row_node q same ≡ row_node q between)
    → ((q : PathNames) → row_node q others ≡ cond (same_path q p) None (row_node q same))
    → (q : PathNames) → row_node q others ≡ row_node q rows
undone p n rows between same others e u k v q =
    v q
    ∙ rw (k q, u q)
    (by_test (same_path q p) (λ b. cond b None (cond b (Some n) (row_node q rows)) ≡ row_node q rows) (λ s. rw (same_path_is q p s) (sym e)) (λ _. refl))

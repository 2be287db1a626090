-- The checks of a create.
use Rattle.std.proofs.Common.{◌≡◌, ◌∷◌, [], ◌++◌, ℕ, Bool, true, false, cond, Option, Some, None, refl, sym, ◌∙◌, ap}
use Rattle.std.specs.Prelude.{is_some}
use Rattle.std.specs.FinMap.{get}
use Rattle.fk_base.specs.Path.{Name, PathNames, name_cmp, parent, last_name, is_root}
use Rattle.fk_base.specs.declared.code.Code.TheVariants as code
use Rattle.fk_tree.specs.declared.node.Node.{Node}
use Rattle.fk_tree.specs.Sorted.{has_name, rises}
use Rattle.fk_tree.specs.Tree.{Bare, Tree, Nodes, children, map_some, node_view, with_names}
use Rattle.fk_tree.specs.View.{View, look}
use Rattle.fk_tree.specs.Fill.{digits, final_path}
use Rattle.fk_tree.specs.Check.{check_create}
use Rattle.fk_tree.specs.Rows.{code_under, names_of}
use Rattle.fk_tree.proofs.Order.{child_parts}
use Rattle.fk_tree.proofs.Passing.{some_view}
use Rattle.fk_tree.proofs.Views.{has_children, rising_children}
use Rattle.std.proofs.lemmas.Bool.{false≢true}

pub create_code_is : (v : View) (p : PathNames) (seq : Bool) (d : Node) (q : PathNames) → is_root p ≡ false → v.node (parent p) ≡ Some d → q ≡ final_path p seq d.made → check_create v p seq ≡ code_under (is_some (v.node q)) (Some d)
create_code_is v p seq d q r e f = rw (r, e, f) refl

pub root_is_there : (v : View) (p : PathNames) (seq : Bool) → is_root p ≡ true → check_create v p seq ≡ Some code.NodeExists
root_is_there v p seq r = rw r refl

pub parent_is_missing : (v : View) (p q : PathNames) (seq : Bool) → is_root p ≡ false → q ≡ parent p → v.node q ≡ None → check_create v p seq ≡ Some code.NoNode
parent_is_missing v p q seq r s e = rw (r, ← s, e) refl

-- a path is its last name under its parent
named_under : (p : PathNames) (seq : Bool) (made : ℕ) → is_root p ≡ false → final_path p seq made ≡ parent p ++ cond seq (last_name p ++ digits made) (last_name p) ∷ []
named_under [] seq made r = absurd (false≢true (sym r))
named_under (x ∷ p) true made r = refl
named_under (x ∷ p) false made r = child_parts x p

-- THE NODES OF A TREE
pub names_are : (t : Nodes) (p : PathNames) (d : Node) → node_view t p ≡ Some d → d.names ≡ children t p
names_are t p d e = sym (ap names_of e) ∙ step (get t p) e
  where
    step : (o : Option Bare) → map_some (with_names (children t p)) o ≡ Some d → names_of (map_some (with_names (children t p)) o) ≡ children t p
    step None e = absurd (cc)
    step (Some b) e = refl

pub children_rise : (t : Tree) (p : PathNames) (d : Node) → (look t).node p ≡ Some d → rises name_cmp d.names ≡ true
children_rise t p d e = rw (names_are t.nodes p d e) (rising_children t.nodes p)

-- a create is refused by the parent and whether it has a child of the final path's name
pub child_is_there : (t : Tree) (p q : PathNames) (seq : Bool) (d : Node) (n m : Name) → is_root p ≡ false → q ≡ parent p → n ≡ last_name p → (look t).node q ≡ Some d → m ≡ cond seq (n ++ digits d.made) n
    → check_create (look t) p seq ≡ code_under (has_name m d.names) (Some d)
child_is_there t p q seq d n m r s l e f =
    create_code_is (look t) p seq d (final_path p seq d.made) r (sym (ap (node_view t.nodes) s) ∙ e) refl
    ∙ ap (λ b. code_under b (Some d)) (some_view t.nodes (final_path p seq d.made) ∙ ap (λ x. is_some (get t.nodes x)) (named_under p seq d.made r ∙ ap (λ x. parent p ++ x ∷ []) (sym (f ∙ rw l refl))) ∙ sym (rw (names_are t.nodes q d e, s) (has_children t.nodes (parent p) m)))

-- What a check that passes says of the nodes.
use Rattle.std.proofs.Common.{◌≡◌, ℕ, ℤ, Bool, true, false, cond, eqb, ◌||◌, List, [], ◌∷◌, ◌++◌, Option, Some, None, refl, sym, ◌∙◌, ap}
use Rattle.std.specs.Prelude.{is_some}
use Rattle.std.specs.FinMap.{get}
use Rattle.std.proofs.lemmas.Bool.{false≢true}
use Rattle.fk_base.specs.Path.{Name, PathNames, parent, last_name, is_root}
use Rattle.fk_base.specs.declared.code.Code.{Code}
use Rattle.fk_base.specs.declared.code.Code.TheVariants as code
use Rattle.fk_tree.specs.declared.node.Node.{Node}
use Rattle.fk_tree.specs.declared.request.Request.{Request}
use Rattle.fk_tree.specs.Sorted.{has_name}
use Rattle.fk_tree.specs.Tree.{Bare, Nodes, children, with_names, map_some, node_view}
use Rattle.fk_tree.specs.View.{View}
use Rattle.fk_tree.specs.Fill.{final_path, made_of, digits}
use Rattle.fk_tree.specs.Check.{Refusal, check, check_create, check_under, check_delete, check_open, has_names, at_place, is_version, or_else}
use Rattle.fk_tree.specs.Rows.{is_free, names_of}
use Rattle.fk_tree.proofs.Alike.{owner_in}
use Rattle.fk_tree.proofs.Views.{has_children}

pub some_view : (t : Nodes) (p : PathNames) → is_some (node_view t p) ≡ is_some (get t p)
some_view t p = step (children t p) (get t p)
  where
    step : (ns : List Name) (o : Option Bare) → is_some (map_some (with_names ns) o) ≡ is_some o
    step ns None = refl
    step ns (Some b) = refl

pub free_view : (t : Nodes) (p : PathNames) → eqb (owner_in (node_view t p)) 0 ≡ is_free (get t p)
free_view t p = step (children t p) (get t p)
  where
    step : (ns : List Name) (o : Option Bare) → eqb (owner_in (map_some (with_names ns) o)) 0 ≡ is_free o
    step ns None = refl
    step ns (Some b) = refl

-- what passes for a session passes the checks behind that of the session
pub passed_open : (v : View) (s : ℕ) (r : Request) → check v s r ≡ None → check_open v s r ≡ None
passed_open v s r e = step (v.closed s) (record { code = code.SessionExpired; place = 0 }) e
  where
    step : (b : Bool) (x : Refusal) → cond b (Some x) (check_open v s r) ≡ None → check_open v s r ≡ None
    step true x e = absurd (cc)
    step false x e = e

pub placed_none : (place : ℕ) (o : Option Code) → at_place place o ≡ None → o ≡ None
placed_none place None e = refl
placed_none place (Some c) e = absurd (cc)

pub first_none : (o x : Option Refusal) → or_else o x ≡ None → o ≡ None
first_none None x e = refl
first_none (Some r) x e = absurd (cc)

pub second_none : (o x : Option Refusal) → or_else o x ≡ None → x ≡ None
second_none None x e = e
second_none (Some r) x e = absurd (cc)

-- a create that passes: its parent is there without owner, and its final path is free
pub record Passes (v : View) (p q : PathNames) : Type 0 where
  pub child : is_root p ≡ false
  pub open_parent : eqb (owner_in (v.node (parent p))) 0 ≡ true
  pub free : is_some (v.node q) ≡ false

passed_under : (v : View) (p : PathNames) (seq : Bool) (o : Option Node) → check_under v p seq o ≡ None → (eqb (owner_in o) 0 ≡ true) × (is_some (v.node (final_path p seq (made_of o))) ≡ false)
passed_under v p seq None e = absurd (cc)
passed_under v p seq (Some d) e = step (is_some (v.node (final_path p seq d.made))) (eqb d.owner 0) code.NodeExists code.NoChildrenForEphemerals e
  where
    step : (b c : Bool) (x y : Code) → cond b (Some x) (cond c None (Some y)) ≡ None → (c ≡ true) × (b ≡ false)
    step true c x y e = absurd (cc)
    step false true x y e = (refl, refl)
    step false false x y e = absurd (cc)

pub passed_create : (v : View) (p : PathNames) (seq : Bool) → check_create v p seq ≡ None → Passes v p (final_path p seq (made_of (v.node (parent p))))
passed_create v [] seq e = absurd (cc)
passed_create v (n ∷ p) seq e = let under : (eqb (owner_in (v.node (parent (n ∷ p)))) 0 ≡ true) × (is_some (v.node (final_path (n ∷ p) seq (made_of (v.node (parent (n ∷ p)))))) ≡ false) = passed_under v (n ∷ p) seq (v.node (parent (n ∷ p))) e in record { child = refl; open_parent = under.0; free = under.1 }

-- a node whose delete passes has no child
passed_names : (p : PathNames) (expected : ℤ) (o : Option Node) → check_delete p expected o ≡ None → names_of o ≡ []
passed_names p expected None e = refl
passed_names p expected (Some m) e = none m.names (step (is_version expected m.version) (has_names m.names) e)
  where
    none : (ns : List Name) → has_names ns ≡ false → ns ≡ []
    none [] h = refl
    none (n ∷ ns) h = absurd (false≢true (sym h))

    step : (b c : Bool) → cond b (cond (c || is_root p) (Some code.NotEmpty) None) (Some code.BadVersion) ≡ None → c ≡ false
    step true true e = absurd (cc)
    step true false e = refl
    step false c e = absurd (cc)

passed_there : (p : PathNames) (expected : ℤ) (o : Option Node) → check_delete p expected o ≡ None → is_some o ≡ true
passed_there p expected None e = absurd (cc)
passed_there p expected (Some n) e = refl

no_child_there : (t : Nodes) (p : PathNames) → is_some (node_view t p) ≡ true → names_of (node_view t p) ≡ [] → (n : Name) → is_some (get t (p ++ n ∷ [])) ≡ false
no_child_there t p s e n = sym (has_children t p n) ∙ ap (has_name n) (children_none (get t p) s e)
  where
    children_none : (o : Option Bare) → is_some (map_some (with_names (children t p)) o) ≡ true → names_of (map_some (with_names (children t p)) o) ≡ [] → children t p ≡ []
    children_none None s e = absurd (false≢true s)
    children_none (Some b) s e = e

pub passed_delete : (t : Nodes) (p : PathNames) (expected : ℤ) → check_delete p expected (node_view t p) ≡ None → (n : Name) → is_some (get t (p ++ n ∷ [])) ≡ false
passed_delete t p expected e = no_child_there t p (passed_there p expected (node_view t p) e) (passed_names p expected (node_view t p) e)

-- the final path of a create under a node is a child of the same parent
pub parent_child : (p : PathNames) (n : Name) → parent (p ++ n ∷ []) ≡ p
parent_child [] n = refl
parent_child (m ∷ []) n = refl
parent_child (m ∷ k ∷ p) n = ap (λ q. m ∷ q) (parent_child (k ∷ p) n)

pub final_parent : (p : PathNames) (seq : Bool) (made : ℕ) → parent (final_path p seq made) ≡ parent p
final_parent p true made = parent_child (parent p) (last_name p ++ digits made)
final_parent p false made = refl

pub child_root : (p : PathNames) (n : Name) → is_root (p ++ n ∷ []) ≡ false
child_root [] n = refl
child_root (m ∷ p) n = refl

pub final_child : (p : PathNames) (seq : Bool) (made : ℕ) → is_root p ≡ false → is_root (final_path p seq made) ≡ false
final_child p true made r = child_root (parent p) (last_name p ++ digits made)
final_child p false made r = r

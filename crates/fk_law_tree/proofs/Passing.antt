-- What holds where a request passes.
use Rattle.std.proofs.Common.{◌≡◌, ℕ, suc, ℤ, Bool, true, false, cond, eqb, ◌||◌, List, [], ◌∷◌, Option, Some, None, refl}
use Rattle.std.specs.Prelude.{is_some}
use Rattle.fk_base.specs.Path.{PathNames, parent, is_root}
use Rattle.fk_base.specs.declared.code.Code.{Code}
use Rattle.fk_base.specs.declared.code.Code.TheVariants as code
use Rattle.fk_tree.specs.View.{View}
use Rattle.fk_tree.specs.Fill.{final_path, after_part}
use Rattle.fk_tree.specs.Check.{check_create, check_under, check_delete, check_part, check_parts, at_place, is_version, has_names}
use Rattle.fk_tree.specs.declared.node.Node.{Node}
use Rattle.fk_tree.specs.declared.request.Part.{Part}
use Rattle.fk_tree.proofs.Passing.{first_none, placed_none, second_none}

-- where parts pass, the first does, and the others do after it
pub first_passes : (v : View) (session place : ℕ) (x : Part) (xs : List Part) → check_parts v session place (x ∷ xs) ≡ None → check_part v x ≡ None
first_passes v session place x xs e = placed_none place (check_part v x) (first_none (at_place place (check_part v x)) (check_parts (after_part v session x) session (suc place) xs) e)

pub others_pass : (v : View) (session place : ℕ) (x : Part) (xs : List Part) → check_parts v session place (x ∷ xs) ≡ None → check_parts (after_part v session x) session (suc place) xs ≡ None
others_pass v session place x xs e = second_none (at_place place (check_part v x)) (check_parts (after_part v session x) session (suc place) xs) e

-- a create that passes: below the root, under a node without an owner, at a free path
pub record CreatePasses (v : View) (p : PathNames) (seq : Bool) : Type 0 where
  pub below_root : is_root p ≡ false
  pub above : Node
  pub there : v.node (parent p) ≡ Some above
  pub free : is_some (v.node (final_path p seq above.made)) ≡ false
  pub unowned : eqb above.owner 0 ≡ true

pub passed_create : (v : View) (p : PathNames) (seq : Bool) → check_create v p seq ≡ None → CreatePasses v p seq
passed_create v [] seq e = absurd (cc)
passed_create v (n ∷ p) seq e = under (v.node (parent (n ∷ p))) refl e
  where
    first : (b c : Bool) → cond {A = Option Code} b (Some code.NodeExists) (cond c None (Some code.NoChildrenForEphemerals)) ≡ None → b ≡ false
    first true c e = absurd (cc)
    first false c e = refl

    second : (b c : Bool) → cond {A = Option Code} b (Some code.NodeExists) (cond c None (Some code.NoChildrenForEphemerals)) ≡ None → c ≡ true
    second true c e = absurd (cc)
    second false true e = refl
    second false false e = absurd (cc)

    under : (o : Option Node) → v.node (parent (n ∷ p)) ≡ o → check_under v (n ∷ p) seq o ≡ None → CreatePasses v (n ∷ p) seq
    under None s e = absurd (cc)
    under (Some d) s e = record { below_root = refl; above = d; there = s; free = first (is_some (v.node (final_path (n ∷ p) seq d.made))) (eqb d.owner 0) e; unowned = second (is_some (v.node (final_path (n ∷ p) seq d.made))) (eqb d.owner 0) e }

-- a delete that passes: below the root, of a node without children
pub record DeletePasses (v : View) (p : PathNames) : Type 0 where
  pub below_root : is_root p ≡ false
  pub gone : Node
  pub there : v.node p ≡ Some gone
  pub childless : has_names gone.names ≡ false

pub passed_delete : (v : View) (p : PathNames) (expected : ℤ) → check_delete p expected (v.node p) ≡ None → DeletePasses v p
passed_delete v p expected e = under (v.node p) refl e
  where
    second : (b c r : Bool) → cond {A = Option Code} b (cond (c || r) (Some code.NotEmpty) None) (Some code.BadVersion) ≡ None → r ≡ false
    second true true r e = absurd (cc)
    second true false true e = absurd (cc)
    second true false false e = refl
    second false c r e = absurd (cc)

    first : (b c r : Bool) → cond {A = Option Code} b (cond (c || r) (Some code.NotEmpty) None) (Some code.BadVersion) ≡ None → c ≡ false
    first true true r e = absurd (cc)
    first true false r e = refl
    first false c r e = absurd (cc)

    under : (o : Option Node) → v.node p ≡ o → check_delete p expected o ≡ None → DeletePasses v p
    under None s e = absurd (cc)
    under (Some n) s e = record { below_root = second (is_version expected n.version) (has_names n.names) (is_root p) e; gone = n; there = s; childless = first (is_version expected n.version) (has_names n.names) (is_root p) e }

-- What an applied request leaves at each path, and that the nodes stay whole.
use Rattle.std.proofs.Common.{◌≡◌, ◌<◌, ℕ, suc, Bool, true, false, List, [], ◌∷◌, ◌++◌, Option, Some, None, refl, sym, ◌∙◌, ap, subst}
use Rattle.std.specs.Prelude.{is_some, not}
use Rattle.std.specs.FinMap.{get}
use Rattle.std.proofs.lemmas.Bool.{false≢true}
use Rattle.fk_base.specs.Path.{Name, PathNames, parent, is_root}
use Rattle.fk_tree.specs.Sorted.{has_name}
use Rattle.fk_tree.specs.Tree.{Bare, Nodes, children, with_names, map_some, node_view}
use Rattle.fk_tree.specs.View.{View}
use Rattle.fk_tree.specs.Edit.{edited, owner_for, create_edits, set_edits, delete_edits, part_edits, parts_edits, effects_of}
use Rattle.fk_tree.specs.Fill.{final_path, made_of, fill_name, fill_made, fill_gone, fill_part, fill_parts, after_part}
use Rattle.fk_tree.specs.Check.{check_part, check_parts, check_open, has_names}
use Rattle.fk_tree.specs.Apply.{create_node, set_node, delete_node, apply_part, apply_parts, apply_nodes}
use Rattle.fk_tree.specs.declared.applied.Applied.{Applied}
use Rattle.fk_tree.specs.declared.edit.Edit.{Edit}
use Rattle.fk_tree.specs.declared.node.Node.{Node}
use Rattle.fk_tree.specs.declared.request.Part.{Part}
use Rattle.fk_tree.specs.declared.request.Part.TheVariants as part
use Rattle.fk_tree.specs.declared.request.Request.{Request}
use Rattle.fk_tree.specs.declared.request.Request.TheVariants as request
use Rattle.fk_tree.proofs.Views.{has_children, set_view, create_view}
use Rattle.fk_tree.proofs.Deletes.{delete_view}
use Rattle.fk_tree.proofs.Alike.{plain, plain_edited}
use Rattle.fk_tree.proofs.Keeping.{edited_both}
use Rattle.fk_tree.proofs.Passing.{final_child, final_parent, placed_none, some_view}
use Rattle.fk_tree.proofs.Standing.{deletes_view}
use Rattle.fk_law_tree.specs.WellFormed.{is_unowned}
use Rattle.fk_law_tree.proofs.Passing.{first_passes, others_pass, CreatePasses, passed_create, DeletePasses, passed_delete}
use Rattle.fk_law_tree.proofs.Whole.{is_free, IsWhole, has_parents, set_keeps, create_keeps, IsLeaf, AllLeaves, delete_keeps, deletes_keep, owned_leaves}

-- A NODE WITHOUT ITS TIMES

-- the nodes of a view are those of a tree but for their times
abbrev IsLike : View → Nodes → Type 0
IsLike v t = (p : PathNames) → map_some plain (v.node p) ≡ map_some plain (node_view t p)

like_after : (v : View) (t u : Nodes) (session tx moment : ℕ) (x : Part) → IsLike v t → ((p : PathNames) → node_view u p ≡ edited tx moment p (part_edits session x (fill_part v x)) (node_view t p)) → IsLike (after_part v session x) u
like_after v t u session tx moment x l h p =
    plain_edited 0 0 p (part_edits session x (fill_part v x)) (v.node p)
    ∙ ap (edited 0 0 p (part_edits session x (fill_part v x))) (l p)
    ∙ sym (plain_edited tx moment p (part_edits session x (fill_part v x)) (node_view t p))
    ∙ sym (ap (map_some plain) (h p))

-- WHAT IS ALIKE
like_some : (o x : Option Node) → map_some plain o ≡ map_some plain x → is_some x ≡ is_some o
like_some o x e = same x ∙ sym (ap is_some e) ∙ sym (same o)
  where
    same : (o : Option Node) → is_some o ≡ is_some (map_some plain o)
    same None = refl
    same (Some n) = refl

like_unowned : (o x : Option Node) → map_some plain o ≡ map_some plain x → is_unowned x ≡ is_unowned o
like_unowned o x e = same x ∙ sym (ap is_unowned e) ∙ sym (same o)
  where
    same : (o : Option Node) → is_unowned o ≡ is_unowned (map_some plain o)
    same None = refl
    same (Some n) = refl

-- a node is there without child names
abbrev is_childless : Option Node → Bool
is_childless None = false
is_childless (Some n) = not (has_names n.names)

like_childless : (o x : Option Node) → map_some plain o ≡ map_some plain x → is_childless x ≡ is_childless o
like_childless o x e = same x ∙ sym (ap is_childless e) ∙ sym (same o)
  where
    same : (o : Option Node) → is_childless o ≡ is_childless (map_some plain o)
    same None = refl
    same (Some n) = refl

pub free_view : (t : Nodes) (p : PathNames) → is_unowned (node_view t p) ≡ is_free (get t p)
free_view t p = step (children t p) (get t p)
  where
    step : (ns : List Name) (o : Option Bare) → is_unowned (map_some (with_names ns) o) ≡ is_free o
    step ns None = refl
    step ns (Some b) = refl

childless_view : (t : Nodes) (p : PathNames) → is_childless (node_view t p) ≡ true → (n : Name) → is_some (get t (p ++ n ∷ [])) ≡ false
childless_view t p e n = sym (has_children t p n) ∙ none (children t p) (step (children t p) (get t p) e)
  where
    step : (ns : List Name) (o : Option Bare) → is_childless (map_some (with_names ns) o) ≡ true → not (has_names ns) ≡ true
    step ns None e = absurd (false≢true e)
    step ns (Some b) e = e

    none : (ns : List Name) → not (has_names ns) ≡ true → has_name n ns ≡ false
    none [] e = refl
    none (m ∷ ms) e = absurd (false≢true e)

-- CREATE AND DELETE
-- the final path of a create is free, under a node without an owner
record IsFree (t : Nodes) (p : PathNames) : Type 0 where
  below_root : is_root p ≡ false
  above : is_free (get t (parent p)) ≡ true
  free : is_some (get t p) ≡ false

create_free : (v : View) (t : Nodes) (p : PathNames) (seq : Bool) → IsLike v t → (c : CreatePasses v p seq) → IsFree t (final_path p seq c.above.made)
create_free v t p seq l c = record {
  below_root = final_child p seq c.above.made c.below_root;
  above = ap (λ q. is_free (get t q)) (final_parent p seq c.above.made) ∙ sym (free_view t (parent p)) ∙ like_unowned (v.node (parent p)) (node_view t (parent p)) (l (parent p)) ∙ rw c.there c.unowned;
  free = sym (some_view t (final_path p seq c.above.made)) ∙ like_some (v.node (final_path p seq c.above.made)) (node_view t (final_path p seq c.above.made)) (l (final_path p seq c.above.made)) ∙ c.free;
}

delete_leaf : (v : View) (t : Nodes) (p : PathNames) → IsLike v t → DeletePasses v p → IsLeaf t p
delete_leaf v t p l d = record {
  below_root = d.below_root;
  childless = childless_view t p (like_childless (v.node p) (node_view t p) (l p) ∙ rw (d.there, d.childless) refl);
}

-- what is left at each path is what the edits leave, and the nodes are whole
pub record IsApplied (t u : Nodes) (tx moment : ℕ) (es : List Edit) : Type 0 where
  pub node : (q : PathNames) → node_view u q ≡ edited tx moment q es (node_view t q)
  pub whole : IsWhole u

create_applied : (t : Nodes) (p : PathNames) (bytes : List ℕ) (owner tx moment : ℕ) → IsWhole t → IsFree t p → IsApplied t (create_node p bytes owner tx moment t) tx moment (create_edits p bytes owner)
create_applied t p bytes owner tx moment w f = record {
  node = λ q. create_view t p q bytes owner tx moment (has_parents t w) f.below_root f.free;
  whole = create_keeps t p bytes owner tx moment w f.below_root f.above f.free;
}

set_applied : (t : Nodes) (p : PathNames) (bytes : List ℕ) (tx moment : ℕ) → IsWhole t → IsApplied t (set_node p bytes tx moment t) tx moment (set_edits p bytes)
set_applied t p bytes tx moment w = record { node = λ q. set_view t p q bytes tx moment; whole = set_keeps t p bytes tx moment w }

delete_applied : (t : Nodes) (p : PathNames) (tx moment : ℕ) → IsWhole t → IsLeaf t p → IsApplied t (delete_node p tx t) tx moment (delete_edits p)
delete_applied t p tx moment w l = record { node = λ q. delete_view t p q tx moment; whole = delete_keeps t p tx w l }

-- CLOSE

-- PARTS
part_applied : (v : View) (t : Nodes) (a : Applied) (x : Part) → IsLike v t → IsWhole t → check_part v x ≡ None → IsApplied t (apply_part a x (fill_part v x) t) a.tx a.moment (part_edits a.session x (fill_part v x))
part_applied v t a (part.Create p bytes eph) l w e = create_applied t p bytes (owner_for a.session eph) a.tx a.moment w (create_free v t p false l (passed_create v p false e))
part_applied v t a (part.Set p bytes version) l w e = set_applied t p bytes a.tx a.moment w
part_applied v t a (part.Delete p version) l w e = delete_applied t p a.tx a.moment w (delete_leaf v t p l (passed_delete v p version e))

parts_applied : (v : View) (t : Nodes) (a : Applied) (place : ℕ) (xs : List Part) → IsLike v t → IsWhole t → check_parts v a.session place xs ≡ None
    → IsApplied t (apply_parts a xs (fill_parts v a.session xs) t) a.tx a.moment (parts_edits a.session xs (fill_parts v a.session xs))
parts_applied v t a place [] l w e = record { node = λ q. refl; whole = w }
parts_applied v t a place (x ∷ xs) l w e =
    let first : IsApplied t (apply_part a x (fill_part v x) t) a.tx a.moment (part_edits a.session x (fill_part v x)) = part_applied v t a x l w (first_passes v a.session place x xs e) in
    let rest : IsApplied (apply_part a x (fill_part v x) t) (apply_parts a xs (fill_parts (after_part v a.session x) a.session xs) (apply_part a x (fill_part v x) t)) a.tx a.moment (parts_edits a.session xs (fill_parts (after_part v a.session x) a.session xs)) =
    parts_applied (after_part v a.session x) (apply_part a x (fill_part v x) t) a (suc place) xs (like_after v t (apply_part a x (fill_part v x) t) a.session a.tx a.moment x l first.node) first.whole (others_pass v a.session place x xs e) in
    record {
      node = λ q. rest.node q ∙ ap (edited a.tx a.moment q (parts_edits a.session xs (fill_parts (after_part v a.session x) a.session xs))) (first.node q)
          ∙ sym (edited_both a.tx a.moment q (part_edits a.session x (fill_part v x)) (parts_edits a.session xs (fill_parts (after_part v a.session x) a.session xs)) (node_view t q));
      whole = rest.whole;
    }

-- REQUESTS
create_named : (v : View) (p : PathNames) (seq : Bool) (name : PathNames) (c : CreatePasses v p seq) → name ≡ final_path p seq (made_of (v.node (parent p))) → name ≡ final_path p seq c.above.made
create_named v p seq name c n = n ∙ rw c.there refl

pub request_applied : (t : Nodes) (c : ℕ → Bool) (a : Applied) (r : Request) → IsWhole t → 0 < a.session → check_open (record { node = node_view t; closed = c }) a.session r ≡ None
    → a.name ≡ fill_name (record { node = node_view t; closed = c }) r → a.made ≡ fill_made (record { node = node_view t; closed = c }) a.session r → a.gone ≡ fill_gone t a.session r
    → IsApplied t (apply_nodes a r t) a.tx a.moment (effects_of a r)
request_applied t c a (request.Create p bytes seq eph) w z e n m g =
    let v : View = record { node = node_view t; closed = c } in
    let passed : CreatePasses v p seq = passed_create v p seq (placed_none 0 _ e) in
    create_applied t a.name bytes (owner_for a.session eph) a.tx a.moment w (subst (IsFree t) (sym (create_named v p seq a.name passed n)) (create_free v t p seq (λ q. refl) passed))
request_applied t c a (request.Set p bytes version) w z e n m g = set_applied t p bytes a.tx a.moment w
request_applied t c a (request.Delete p version) w z e n m g =
    let v : View = record { node = node_view t; closed = c } in
    delete_applied t p a.tx a.moment w (delete_leaf v t p (λ q. refl) (passed_delete v p version (placed_none 0 _ e)))
request_applied t c a (request.Close evict) w z e n m g = record {
  node = λ q. deletes_view t a.gone q a.tx a.moment;
  whole = deletes_keep t a.gone a.tx w (subst (AllLeaves t) (sym g) (owned_leaves t a.session w z));
}
request_applied t c a (request.Multi xs) w z e n m g =
    let v : View = record { node = node_view t; closed = c } in
    subst (λ ms. IsApplied t (apply_parts a xs ms t) a.tx a.moment (parts_edits a.session xs ms)) (sym m) (parts_applied v t a 1 xs (λ q. refl) w e)

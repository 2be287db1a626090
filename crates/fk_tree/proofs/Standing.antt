-- A tree after a request: what it shows, and that it stays whole.
use Rattle.std.proofs.Common.{◌≡◌, ◌<◌, ℕ, suc, true, false, eqb, List, [], ◌∷◌, Option, None, refl, sym, ◌∙◌, ap, subst}
use Rattle.std.specs.Prelude.{is_some}
use Rattle.std.specs.FinMap.{get}
use Rattle.fk_base.specs.Path.{PathNames, parent, is_root}
use Rattle.fk_tree.specs.declared.node.Node.{Node}
use Rattle.fk_tree.specs.declared.applied.Applied.{Applied}
use Rattle.fk_tree.specs.declared.applied.Made.{Made}
use Rattle.fk_tree.specs.declared.request.Part.{Part}
use Rattle.fk_tree.specs.declared.request.Part.TheVariants as part
use Rattle.fk_tree.specs.declared.request.Request.{Request}
use Rattle.fk_tree.specs.declared.request.Request.TheVariants as request
use Rattle.fk_tree.specs.Sorted.{has_path}
use Rattle.fk_tree.specs.Tree.{Nodes, Tree, node_view}
use Rattle.fk_tree.specs.View.{View, look}
use Rattle.fk_tree.specs.Edit.{edited, effects_of, create_edits, deletes_edits, delete_edits, part_edits, parts_edits, owner_for}
use Rattle.fk_tree.specs.Fill.{fill, fill_part, fill_parts, after_part, final_path, made_of, owned}
use Rattle.fk_tree.specs.Check.{check_create, check_part, check_parts, check_open, at_place}
use Rattle.fk_tree.specs.Apply.{apply_nodes, apply_part, apply_parts, create_node, delete_node, delete_nodes}
use Rattle.fk_tree.specs.Rows.{HasParents}
use Rattle.fk_tree.proofs.Alike.{AreAlike, edited_alike, some_alike, owner_alike, delete_alike, owner_in}
use Rattle.fk_tree.proofs.Keeping.{edited_both}
use Rattle.fk_tree.proofs.Passing.{Passes, some_view, free_view, placed_none, first_none, second_none, passed_create, passed_delete, final_parent, final_child}
use Rattle.fk_tree.proofs.Views.{set_view, create_view}
use Rattle.fk_tree.proofs.Deletes.{delete_view}
use Rattle.fk_tree.proofs.Parents.{set_keeps, create_keeps, delete_keeps, deletes_keep}
use Rattle.fk_tree.proofs.Owning.{owned_unfree}

-- nodes that show what the edits leave, each with its parent
abbrev pub IsEdited : ℕ → ℕ → Nodes → Nodes → (PathNames → Option Node → Option Node) → Type 0
IsEdited tx moment t u f = ((q : PathNames) → node_view u q ≡ f q (node_view t q)) × HasParents u

-- a create at a free path under an open parent
created : (t : Nodes) (p : PathNames) (bytes : List ℕ) (owner tx moment : ℕ) → HasParents t → is_root p ≡ false → eqb (owner_in (node_view t (parent p))) 0 ≡ true → is_some (node_view t p) ≡ false
    → IsEdited tx moment t (create_node p bytes owner tx moment t) (λ q. edited tx moment q (create_edits p bytes owner))
created t p bytes owner tx moment h r o f =
    let taken : is_some (get t p) ≡ false = sym (some_view t p) ∙ f in
    (λ q. create_view t p q bytes owner tx moment h r taken, create_keeps t p bytes owner tx moment h r (sym (free_view t (parent p)) ∙ o) taken)

-- deletes, one after another
pub deletes_view : (t : Nodes) (ps : List PathNames) (q : PathNames) (tx moment : ℕ) → node_view (delete_nodes ps tx t) q ≡ edited tx moment q (deletes_edits ps) (node_view t q)
deletes_view t [] q tx moment = refl
deletes_view t (p ∷ ps) q tx moment = deletes_view (delete_node p tx t) ps q tx moment ∙ ap (edited tx moment q (deletes_edits ps)) (delete_view t p q tx moment) ∙ sym (edited_both tx moment q (delete_edits p) (deletes_edits ps) (node_view t q))

-- A MULTI
abbrev AllAlike : Nodes → View → Type 0
AllAlike t v = (q : PathNames) → AreAlike (node_view t q) (v.node q)

part_stands : (a : Applied) (p : Part) (m : Made) (t : Nodes) (v : View) → HasParents t → AllAlike t v → check_part v p ≡ None → m ≡ fill_part v p
    → IsEdited a.tx a.moment t (apply_part a p m t) (λ q. edited a.tx a.moment q (part_edits a.session p m))
part_stands a (part.Create p bytes eph) m t v h l c e =
    let passed : Passes v p p = passed_create v p false c in
    let name : m.name ≡ p = ap (λ n. n.name) e in
    subst (λ x. IsEdited a.tx a.moment t (create_node x bytes (owner_for a.session eph) a.tx a.moment t) (λ q. edited a.tx a.moment q (create_edits x bytes (owner_for a.session eph)))) (sym name)
    (created t p bytes (owner_for a.session eph) a.tx a.moment h passed.child (ap (λ n. eqb n 0) (owner_alike (node_view t (parent p)) (v.node (parent p)) (l (parent p))) ∙ passed.open_parent) (some_alike (node_view t p) (v.node p) (l p) ∙ passed.free))
part_stands a (part.Set p bytes version) m t v h l c e = (λ q. set_view t p q bytes a.tx a.moment, set_keeps t p bytes a.tx a.moment h)
part_stands a (part.Delete p version) m t v h l c e = (λ q. delete_view t p q a.tx a.moment, delete_keeps t p a.tx h (passed_delete t p version (delete_alike p version (node_view t p) (v.node p) (l p) ∙ c)))

parts_stand : (a : Applied) (ps : List Part) (ms : List Made) (t : Nodes) (v : View) (place : ℕ) → HasParents t → AllAlike t v → check_parts v a.session place ps ≡ None → ms ≡ fill_parts v a.session ps
    → IsEdited a.tx a.moment t (apply_parts a ps ms t) (λ q. edited a.tx a.moment q (parts_edits a.session ps ms))
parts_stand a [] ms t v place h l c e = (λ q. refl, h)
parts_stand a (p ∷ ps) [] t v place h l c e = absurd (cc)
parts_stand a (p ∷ ps) (m ∷ ms) t v place h l c e =
    let first : m ≡ fill_part v p = cc in
    let rest : ms ≡ fill_parts (after_part v a.session p) a.session ps = cc in
    let passed : check_part v p ≡ None = placed_none place (check_part v p) (first_none (at_place place (check_part v p)) (check_parts (after_part v a.session p) a.session (suc place) ps) c) in
    let one : IsEdited a.tx a.moment t (apply_part a p m t) (λ q. edited a.tx a.moment q (part_edits a.session p m)) = part_stands a p m t v h l passed first in
    let alike : AllAlike (apply_part a p m t) (after_part v a.session p) = (λ q. subst (λ o. AreAlike o ((after_part v a.session p).node q)) (sym (one.0 q)) (subst (λ n. AreAlike (edited a.tx a.moment q (part_edits a.session p m) (node_view t q)) (edited 0 0 q (part_edits a.session p n) (v.node q))) first (edited_alike a.tx a.moment q (part_edits a.session p m) (node_view t q) (v.node q) (l q)))) in
    let others : IsEdited a.tx a.moment (apply_part a p m t) (apply_parts a ps ms (apply_part a p m t)) (λ q. edited a.tx a.moment q (parts_edits a.session ps ms)) = parts_stand a ps ms (apply_part a p m t) (after_part v a.session p) (suc place) one.1 alike (second_none (at_place place (check_part v p)) (check_parts (after_part v a.session p) a.session (suc place) ps) c) rest in
    (λ q. others.0 q ∙ ap (edited a.tx a.moment q (parts_edits a.session ps ms)) (one.0 q) ∙ sym (edited_both a.tx a.moment q (part_edits a.session p m) (parts_edits a.session ps ms) (node_view t q)), others.1)

-- ANY REQUEST
-- a request that passes and is filled
pub stands : (t : Tree) (a : Applied) (r : Request) → HasParents t.nodes → 0 < a.session → check_open (look t) a.session r ≡ None → a ≡ fill t a.tx a.moment a.session a.k r
    → IsEdited a.tx a.moment t.nodes (apply_nodes a r t.nodes) (λ q. edited a.tx a.moment q (effects_of a r))
stands t a (request.Create p bytes seq eph) h s c e =
    let final : PathNames = final_path p seq (made_of (node_view t.nodes (parent p))) in
    let passed : Passes (look t) p final = passed_create (look t) p seq (placed_none 0 (check_create (look t) p seq) c) in
    let name : a.name ≡ final = ap (λ b. b.name) e in
    subst (λ x. IsEdited a.tx a.moment t.nodes (create_node x bytes (owner_for a.session eph) a.tx a.moment t.nodes) (λ q. edited a.tx a.moment q (create_edits x bytes (owner_for a.session eph)))) (sym name)
    (created t.nodes final bytes (owner_for a.session eph) a.tx a.moment h (final_child p seq (made_of (node_view t.nodes (parent p))) passed.child) (ap (λ d. eqb (owner_in (node_view t.nodes d)) 0) (final_parent p seq (made_of (node_view t.nodes (parent p)))) ∙ passed.open_parent) passed.free)
stands t a (request.Set p bytes version) h s c e = (λ q. set_view t.nodes p q bytes a.tx a.moment, set_keeps t.nodes p bytes a.tx a.moment h)
stands t a (request.Delete p version) h s c e = (λ q. delete_view t.nodes p q a.tx a.moment, delete_keeps t.nodes p a.tx h (passed_delete t.nodes p version (placed_none 0 _ c)))
stands t a (request.Close evict) h s c e =
    let gone : a.gone ≡ owned t.nodes a.session = ap (λ b. b.gone) e in
    (λ q. deletes_view t.nodes a.gone q a.tx a.moment, deletes_keep t.nodes a.gone a.tx h (λ p m. owned_unfree t.nodes a.session p s (subst (λ ps. has_path p ps ≡ true) gone m)))
stands t a (request.Multi ps) h s c e = parts_stand a ps a.made t.nodes (look t) 1 h (λ q. refl) c (ap (λ b. b.made) e)

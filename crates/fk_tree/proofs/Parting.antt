-- The parts of a multi, one after another.
use Rattle.std.proofs.Common.{◌≡◌, ℕ, suc, ◌+◌, ◌<◌, List, [], ◌∷◌, ◌++◌, Some, None, length, drop, get_or, refl, sym, ◌∙◌, ap, append_assoc, drop-cons, arith}
use Rattle.fk_base.specs.declared.code.Code.{Code}
use Rattle.fk_tree.specs.declared.applied.Made.{Made}
use Rattle.fk_tree.specs.declared.edit.Edit.{Edit}
use Rattle.fk_tree.specs.declared.request.Part.{Part}
use Rattle.fk_tree.specs.View.{View}
use Rattle.fk_tree.specs.Edit.{after_edits, part_edits}
use Rattle.fk_tree.specs.Fill.{after_part, fill_part, fill_parts}
use Rattle.fk_tree.specs.Check.{at_place, check_part, check_parts, or_else}
use Rattle.fk_tree.proofs.Keeping.{edited_both}

-- a view after some edits, and then after a part
after_both : (v : View) (s : ℕ) (es : List Edit) (p : Part) (fs : List Edit) → fs ≡ es ++ part_edits s p (fill_part (after_edits v 0 0 es) p) → after_part (after_edits v 0 0 es) s p ≡ after_edits v 0 0 fs
after_both v s es p fs e = (λ i. record { node = λ q. (sym (edited_both 0 0 q es (part_edits s p (fill_part (after_edits v 0 0 es) p)) (v.node q))) i; closed = v.closed }) ∙ ap (after_edits v 0 0) (sym e)

check_next : (v : View) (s place : ℕ) (ps : List Part) (i : ℕ) (d : Part) → i < length ps → check_parts v s place (drop i ps) ≡ or_else (at_place place (check_part v (get_or ps i d))) (check_parts (after_part v s (get_or ps i d)) s (suc place) (drop (suc i) ps))
check_next v s place ps i d l = rw (drop-cons ps i d l) refl

-- a part that is refused
pub check_stops : (v : View) (s place : ℕ) (ps : List Part) (es : List Edit) (i : ℕ) (d p : Part) (c : Code) → i < length ps → p ≡ get_or ps i d → Some c ≡ check_part (after_edits v 0 0 es) p → check_parts (after_edits v 0 0 es) s place (drop i ps) ≡ Some (record { code = c; place = place })
check_stops v s place ps es i d p c l g e = check_next (after_edits v 0 0 es) s place ps i d l ∙ rw (← g, ← e) refl

-- a part that passes
pub check_goes : (v : View) (s place : ℕ) (ps : List Part) (es fs : List Edit) (i : ℕ) (d p : Part) → i < length ps → p ≡ get_or ps i d → None ≡ check_part (after_edits v 0 0 es) p → fs ≡ es ++ part_edits s p (fill_part (after_edits v 0 0 es) p) → check_parts (after_edits v 0 0 es) s place (drop i ps) ≡ check_parts (after_edits v 0 0 fs) s (place + 1) (drop (i + 1) ps)
check_goes v s place ps es fs i d p l g e f =
    let next : suc place ≡ place + 1 = omega arith in
    let rest : suc i ≡ i + 1 = omega arith in
    check_next (after_edits v 0 0 es) s place ps i d l ∙ rw (← g, ← e, ← next, ← rest, after_both v s es p fs f) refl

pub fill_goes : (v : View) (s : ℕ) (ps : List Part) (es fs : List Edit) (ms : List Made) (m : Made) (i : ℕ) (d p : Part) → i < length ps → p ≡ get_or ps i d → m ≡ fill_part (after_edits v 0 0 es) p → fs ≡ es ++ part_edits s p (fill_part (after_edits v 0 0 es) p) → (ms ++ m ∷ []) ++ fill_parts (after_edits v 0 0 fs) s (drop (i + 1) ps) ≡ ms ++ fill_parts (after_edits v 0 0 es) s (drop i ps)
fill_goes v s ps es fs ms m i d p l g e f =
    let rest : suc i ≡ i + 1 = omega arith in
    append_assoc ms (m ∷ []) (fill_parts (after_edits v 0 0 fs) s (drop (i + 1) ps)) ∙ rw (drop-cons ps i d l, ← g, ← rest, e, after_both v s es p fs f) refl

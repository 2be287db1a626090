-- The edits of lists, item by item.
use Rattle.std.proofs.Common.{◌≡◌, ℕ, suc, ◌-◌, ◌<◌, List, [], ◌∷◌, ◌++◌, length, drop, get_or, refl, ◌∙◌, append_assoc, drop-cons, arith}
use Rattle.fk_base.specs.Path.{Name, PathNames, last_name}
use Rattle.fk_tree.specs.declared.edit.Edit.{Edit}
use Rattle.fk_tree.specs.declared.applied.Made.{Made}
use Rattle.fk_tree.specs.declared.request.Part.{Part}
use Rattle.fk_tree.specs.declared.reply.PartReply.{PartReply}
use Rattle.fk_tree.specs.Apply.{part_reply_of, part_replies}
use Rattle.fk_tree.specs.Edit.{delete_edits, deletes_edits, part_edits, parts_edits}

last_at : (n : Name) (p : PathNames) (d : Name) → get_or (n ∷ p) (length p) d ≡ last_name (n ∷ p)
last_at n [] d = refl
last_at n (m ∷ p) d = last_at m p d

-- the last name is the one at the end
pub last_is : (p : PathNames) (d : Name) → 0 < length p → get_or p (length p - 1) d ≡ last_name p
last_is [] d l = let none : ⊥ = omega arith in absurd none
last_is (n ∷ p) d l = let end : suc (length p) - 1 ≡ length p = omega arith in rw end (last_at n p d)

pub deletes_step : (es : List Edit) (ps : List PathNames) (i : ℕ) (d : PathNames) → i < length ps → (es ++ delete_edits (get_or ps i d)) ++ deletes_edits (drop (suc i) ps) ≡ es ++ deletes_edits (drop i ps)
deletes_step es ps i d l = append_assoc es (delete_edits (get_or ps i d)) (deletes_edits (drop (suc i) ps)) ∙ rw (drop-cons ps i d l) refl

pub parts_step : (es : List Edit) (session : ℕ) (ps : List Part) (ms : List Made) (i : ℕ) (p : Part) (m : Made) → i < length ps → i < length ms → (es ++ part_edits session (get_or ps i p) (get_or ms i m)) ++ parts_edits session (drop (suc i) ps) (drop (suc i) ms) ≡ es ++ parts_edits session (drop i ps) (drop i ms)
parts_step es session ps ms i p m l k = append_assoc es (part_edits session (get_or ps i p) (get_or ms i m)) (parts_edits session (drop (suc i) ps) (drop (suc i) ms)) ∙ rw (drop-cons ps i p l, drop-cons ms i m k) refl

pub no_parts_left : (session : ℕ) (ps : List Part) → parts_edits session ps [] ≡ []
no_parts_left session [] = refl
no_parts_left session (p ∷ ps) = refl

pub replies_step : (rs : List PartReply) (ps : List Part) (ms : List Made) (i : ℕ) (p : Part) (m : Made) → i < length ps → i < length ms → (rs ++ part_reply_of (get_or ps i p) (get_or ms i m) ∷ []) ++ part_replies (drop (suc i) ps) (drop (suc i) ms) ≡ rs ++ part_replies (drop i ps) (drop i ms)
replies_step rs ps ms i p m l k = append_assoc rs (part_reply_of (get_or ps i p) (get_or ms i m) ∷ []) (part_replies (drop (suc i) ps) (drop (suc i) ms)) ∙ rw (drop-cons ps i p l, drop-cons ms i m k) refl

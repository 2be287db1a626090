-- The post at its start, where a line leaves it, and after a message or its removal.
use Rattle.std.proofs.Common.{◌≡◌, ℕ, Bool, true, false, cond, List, [], ◌∷◌, length, refl, sym, ◌∙◌, ap, None}
use Rattle.fk_print.specs.declared.entry.Entry.{Entry}
use Rattle.fk_queue.specs.declared.lane.Lane.{Lane}
use Rattle.fk_queue.specs.Lanes.{is_lane, same_lane}
use Rattle.fk_queue.specs.Letters.{LaneState, empty_lane, with_letter, without_head}
use Rattle.fk_queue.specs.Meaning.{with_lane}
use Rattle.fk_queue.proofs.Standing.{same_lane_is}
use Rattle.fk_stand.specs.Posts.{lane_after, lane_step, post_after, removes}
use Rattle.fk_spec.specs.Plan.{Plan}
use Rattle.fk_agree.specs.Letters.{HeadIsPopped, LeavesLane, LetterIsPushed, NewPostStands, PostStays}
use Rattle.fk_base.proofs.Logic.{by_test}

new_lane : (p : Plan) (l : Lane) → empty_lane ≡ (post_after p [] 0).lanes l
new_lane p l = by_test (is_lane (length p.asks) l) (λ b. empty_lane ≡ cond b empty_lane empty_lane) (λ _. refl) (λ _. refl)

pub new_post_stands : NewPostStands
new_post_stands p = λ i. record { sessions = length p.asks; lanes = λ l. (new_lane p l) i; armed = false; faults = 0 }

-- A lane that a line leaves.
left_lane : (p : Plan) (l : Lane) (e : Entry) (h : List Entry) → LeavesLane p l h e.op → lane_after p l (e ∷ h) ≡ lane_after p l h
left_lane p l e h i = ap (λ o. lane_step o (removes l h e.op) (lane_after p l h)) i.none ∙ ap (λ b. lane_step None b (lane_after p l h)) i.kept

pub post_stays : PostStays
post_stays p faults e h i = λ j. record { sessions = length p.asks; lanes = λ l. cond (is_lane (length p.asks) l) ((left_lane p l e h (i l)) j) empty_lane; armed = false; faults = faults }

-- One lane changes.
one_lane : (p : Plan) (faults : ℕ) (l : Lane) (s : LaneState) (e : Entry) (h : List Entry) → is_lane (length p.asks) l ≡ true → s ≡ lane_after p l (e ∷ h) → ((q : Lane) → same_lane q l ≡ false → LeavesLane p q h e.op) → (q : Lane) → with_lane l s (post_after p h faults).lanes q ≡ (post_after p (e ∷ h) faults).lanes q
one_lane p faults l s e h i w o q = by_lane (same_lane q l) refl
  where
    by_lane : (b : Bool) → same_lane q l ≡ b → with_lane l s (post_after p h faults).lanes q ≡ (post_after p (e ∷ h) faults).lanes q
    by_lane true f =
        let g : q ≡ l = same_lane_is q l f in
        ap (λ b. cond b s ((post_after p h faults).lanes q)) f
        ∙ (w ∙ (sym (ap (λ b. cond b (lane_after p l (e ∷ h)) empty_lane) i) ∙ ap (λ x. cond (is_lane (length p.asks) x) (lane_after p x (e ∷ h)) empty_lane) (sym g)))
    by_lane false f = ap (λ b. cond b s ((post_after p h faults).lanes q)) f ∙ ap (λ x. cond (is_lane (length p.asks) q) x empty_lane) (sym (left_lane p q e h (o q f)))

pub letter_is_pushed : LetterIsPushed
letter_is_pushed p faults l bytes e h i w o = λ j. record {
  sessions = length p.asks;
  lanes = λ q. (one_lane p faults l (with_letter bytes ((post_after p h faults).lanes l)) e h i pushes o q) j;
  armed = false;
  faults = faults;
}
  where
    pushes : with_letter bytes ((post_after p h faults).lanes l) ≡ lane_after p l (e ∷ h)
    pushes = ap (λ b. with_letter bytes (cond b (lane_after p l h) empty_lane)) i ∙ sym (ap (λ x. lane_step x (removes l h e.op) (lane_after p l h)) w)

pub head_is_popped : HeadIsPopped
head_is_popped p faults l e h i w r o = λ j. record {
  sessions = length p.asks;
  lanes = λ q. (one_lane p faults l (without_head ((post_after p h faults).lanes l)) e h i pops o q) j;
  armed = false;
  faults = faults;
}
  where
    pops : without_head ((post_after p h faults).lanes l) ≡ lane_after p l (e ∷ h)
    pops = ap (λ b. without_head (cond b (lane_after p l h) empty_lane)) i ∙ sym (ap (λ x. lane_step x (removes l h e.op) (lane_after p l h)) w ∙ ap (λ b. lane_step None b (lane_after p l h)) r)

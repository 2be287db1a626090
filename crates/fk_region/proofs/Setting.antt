-- Blocks of which one was changed.
use Rattle.std.proofs.Common.{◌≡◌, ℕ, ◌==◌, ◌<◌, cond, List, length, get_or, set, refl, sym, ap, ◌∙◌, arith}
use Rattle.std.proofs.lemmas.Bool.{eqb-true, eqb-false}
use Rattle.std.proofs.lemmas.List.{get_or-set_same, get_or-set_other, length-set}
use Rattle.fk_region.specs.declared.block.Block.{Block}
use Rattle.fk_region.specs.Blocks.{held_in, no_block}
use Rattle.fk_region.specs.Changes.{AreKept, AreWritten, changed}
use Rattle.fk_base.proofs.Logic.{by_test}

-- functions that agree everywhere are equal
pub equal : {A B : Type 0} (f g : A → B) → ((a : A) → f a ≡ g a) → f ≡ g
equal f g h = λ i a. (h a) i

pub field_set : {A : Type 0} (p : Block → A) (bs : List Block) (i : ℕ) (x : Block) (c : ℕ) → i < length bs → p (get_or (set bs i x) c no_block) ≡ cond (c == i) (p x) (p (get_or bs c no_block))
field_set p bs i x c l = by_test (c == i) (λ t. p (get_or (set bs i x) c no_block) ≡ cond t (p x) (p (get_or bs c no_block)))
    (λ e. ap p (ap (λ j. get_or (set bs i x) j no_block) (eqb-true c i e) ∙ get_or-set_same bs i x no_block l))
    (λ e. ap p (get_or-set_other bs i c x no_block (eqb-false c i e)))

-- a field that stays
pub same_field : {A : Type 0} (p : Block → A) (bs : List Block) (i : ℕ) (x : Block) (c : ℕ) → i < length bs → p x ≡ p (get_or bs i no_block) → p (get_or (set bs i x) c no_block) ≡ p (get_or bs c no_block)
same_field p bs i x c l e = field_set p bs i x c l ∙ by_test (c == i) (λ t. cond t (p x) (p (get_or bs c no_block)) ≡ p (get_or bs c no_block)) (λ s. e ∙ ap (λ j. p (get_or bs j no_block)) (sym (eqb-true c i s))) (λ _. refl)

-- what was written is kept
pub are_kept : (bs cs : List Block) (b : ℕ) (xs : List ℕ) → AreWritten bs b xs cs → b < length bs → AreKept bs b xs (set cs b (record (get_or cs b no_block) { held = length xs }))
are_kept bs cs b xs w l = record {
  len = length-set cs b x ∙ w.len;
  next = equal _ _ (λ c. same_field (λ z. z.next) cs b x c within refl) ∙ w.next;
  held = equal _ (changed b (length xs) (held_in cs)) (λ c. field_set (λ z. z.held) cs b x c within) ∙ ap (changed b (length xs)) w.held;
  bytes = equal _ _ (λ c. same_field (λ z. z.bytes) cs b x c within refl) ∙ w.bytes;
}
  where
    x : Block
    x = record (get_or cs b no_block) { held = length xs }

    within : b < length cs
    within = omega (arith, w.len)

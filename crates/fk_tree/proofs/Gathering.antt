-- Touches put one after another are those of the list, each pair once.
use Rattle.std.proofs.Common.{◌≡◌, ℕ, suc, ◌<◌, Bool, true, false, cond, ◌||◌, List, [], ◌∷◌, ◌++◌, length, drop, get_or, refl, sym, ◌∙◌, ap, subst, append_assoc, drop-cons}
use Rattle.std.proofs.lemmas.Bool.{false≢true}
use Rattle.std.proofs.lemmas.List.{append-nil}
use Rattle.fk_base.specs.Path.{PathNames, same_path}
use Rattle.fk_tree.specs.declared.applied.Made.{Made}
use Rattle.fk_tree.specs.declared.change.Change.{Change}
use Rattle.fk_tree.specs.declared.change.Change.TheVariants as change
use Rattle.fk_tree.specs.declared.change.Touch.{Touch}
use Rattle.fk_tree.specs.declared.request.Part.{Part}
use Rattle.fk_tree.specs.Touch.{same_change, same_touch, others, once, with_parent_touched, deletes_touches, part_touches, parts_touches}
use Rattle.fk_tree.specs.Touching.{is_there, put_one, all_put}
use Rattle.fk_tree.proofs.Order.{same_path_is, same_path_self}
use Rattle.fk_base.proofs.Logic.{and_left, and_right, by_test}

same_change_is : (a b : Change) → same_change a b ≡ true → a ≡ b
same_change_is change.Created change.Created e = refl
same_change_is change.Created change.Changed e = absurd (false≢true e)
same_change_is change.Created change.Deleted e = absurd (false≢true e)
same_change_is change.Created change.Child e = absurd (false≢true e)
same_change_is change.Changed change.Created e = absurd (false≢true e)
same_change_is change.Changed change.Changed e = refl
same_change_is change.Changed change.Deleted e = absurd (false≢true e)
same_change_is change.Changed change.Child e = absurd (false≢true e)
same_change_is change.Deleted change.Created e = absurd (false≢true e)
same_change_is change.Deleted change.Changed e = absurd (false≢true e)
same_change_is change.Deleted change.Deleted e = refl
same_change_is change.Deleted change.Child e = absurd (false≢true e)
same_change_is change.Child change.Created e = absurd (false≢true e)
same_change_is change.Child change.Changed e = absurd (false≢true e)
same_change_is change.Child change.Deleted e = absurd (false≢true e)
same_change_is change.Child change.Child e = refl

same_change_self : (a : Change) → same_change a a ≡ true
same_change_self change.Created = refl
same_change_self change.Changed = refl
same_change_self change.Deleted = refl
same_change_self change.Child = refl

pub same_touch_is : (a b : Touch) → same_touch a b ≡ true → a ≡ b
same_touch_is a b e = λ i. record { path = (same_path_is a.path b.path (and_left (same_path a.path b.path) (same_change a.change b.change) e)) i; change = (same_change_is a.change b.change (and_right (same_path a.path b.path) (same_change a.change b.change) e)) i }

same_touch_self : (a : Touch) → same_touch a a ≡ true
same_touch_self a = rw (same_path_self a.path, same_change_self a.change) refl

same_touch_flip : (a b : Touch) → same_touch a b ≡ same_touch b a
same_touch_flip a b = by_test (same_touch a b) (λ c. c ≡ same_touch b a) (λ e. rw (same_touch_is a b e) (sym (same_touch_self b))) (λ e. by_test (same_touch b a) (λ c. false ≡ c) (λ f. sym e ∙ rw (same_touch_is b a f) (same_touch_self a)) (λ _. refl))

others_both : (a : Touch) (us ws : List Touch) → others a (us ++ ws) ≡ others a us ++ others a ws
others_both a [] ws = refl
others_both a (u ∷ us) ws = step (same_touch a u) (others_both a us ws)
  where
    step : (b : Bool) → others a (us ++ ws) ≡ others a us ++ others a ws → cond b (others a (us ++ ws)) (u ∷ others a (us ++ ws)) ≡ cond b (others a us) (u ∷ others a us) ++ others a ws
    step true e = e
    step false e = ap (λ xs. u ∷ xs) e

-- another touch is among the others where it was there
others_have : (a t : Touch) (us : List Touch) → same_touch a t ≡ false → is_there t (others a us) ≡ is_there t us
others_have a t [] h = refl
others_have a t (u ∷ us) h = step (same_touch a u) refl (others_have a t us h)
  where
    step : (b : Bool) → same_touch a u ≡ b → is_there t (others a us) ≡ is_there t us → is_there t (cond b (others a us) (u ∷ others a us)) ≡ (same_touch t u || is_there t us)
    step true e i = let f : same_touch t u ≡ false = same_touch_flip t u ∙ subst (λ x. same_touch x t ≡ false) (same_touch_is a u e) h in i ∙ rw f refl
    step false e i = ap (λ c. same_touch t u || c) i

-- one touch more at the end
once_more : (ts : List Touch) (t : Touch) → once (ts ++ t ∷ []) ≡ put_one t (once ts)
once_more [] t = refl
once_more (a ∷ ts) t = rw (once_more ts t) (by_test (same_touch a t) (λ b. a ∷ others a (put_one t (once ts)) ≡ put_one t (a ∷ others a (once ts))) same apart)
  where
    same : same_touch a t ≡ true → a ∷ others a (put_one t (once ts)) ≡ put_one t (a ∷ others a (once ts))
    same e = rw (same_touch_flip t a, e) (ap (λ xs. a ∷ xs) (by_test (is_there t (once ts)) (λ b. others a (cond b (once ts) (once ts ++ t ∷ [])) ≡ others a (once ts)) (λ _. refl) (λ _. others_both a (once ts) (t ∷ []) ∙ rw e (append-nil (others a (once ts))))))

    apart : same_touch a t ≡ false → a ∷ others a (put_one t (once ts)) ≡ put_one t (a ∷ others a (once ts))
    apart e = rw (same_touch_flip t a, e, others_have a t (once ts) e) (step (is_there t (once ts)))
      where
        step : (b : Bool) → a ∷ others a (cond b (once ts) (once ts ++ t ∷ [])) ≡ cond b (a ∷ others a (once ts)) (a ∷ others a (once ts) ++ t ∷ [])
        step true = refl
        step false = ap (λ xs. a ∷ xs) (others_both a (once ts) (t ∷ []) ∙ rw e refl)

all_more : (ts us : List Touch) → all_put us (once ts) ≡ once (ts ++ us)
all_more ts [] = ap once (sym (append-nil ts))
all_more ts (u ∷ us) = ap (all_put us) (sym (once_more ts u)) ∙ all_more (ts ++ u ∷ []) us ∙ ap once (append_assoc ts (u ∷ []) us)

pub all_once : (ts : List Touch) → all_put ts [] ≡ once ts
all_once ts = all_more [] ts

pub all_both : (ts us ws : List Touch) → all_put (ts ++ us) ws ≡ all_put us (all_put ts ws)
all_both [] us ws = refl
all_both (t ∷ ts) us ws = all_both ts us (put_one t ws)

pub deletes_step : (ws : List Touch) (ps : List PathNames) (i : ℕ) (d : PathNames) → i < length ps → all_put (deletes_touches (drop (suc i) ps)) (all_put (with_parent_touched (get_or ps i d) change.Deleted) ws) ≡ all_put (deletes_touches (drop i ps)) ws
deletes_step ws ps i d l = rw (drop-cons ps i d l) (sym (all_both (with_parent_touched (get_or ps i d) change.Deleted) (deletes_touches (drop (suc i) ps)) ws))

pub parts_step : (ws : List Touch) (ps : List Part) (ms : List Made) (i : ℕ) (p : Part) (m : Made) → i < length ps → i < length ms → all_put (parts_touches (drop (suc i) ps) (drop (suc i) ms)) (all_put (part_touches (get_or ps i p) (get_or ms i m)) ws) ≡ all_put (parts_touches (drop i ps) (drop i ms)) ws
parts_step ws ps ms i p m l k = rw (drop-cons ps i p l, drop-cons ms i m k) (sym (all_both (part_touches (get_or ps i p) (get_or ms i m)) (parts_touches (drop (suc i) ps) (drop (suc i) ms)) ws))

pub no_parts_left : (ps : List Part) → parts_touches ps [] ≡ []
no_parts_left [] = refl
no_parts_left (p ∷ ps) = refl

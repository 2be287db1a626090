-- Edits kept by their paths.
use Rattle.std.proofs.Common.{◌≡◌, ℕ, Bool, true, false, cond, List, [], ◌∷◌, ◌++◌, Option, Some, refl, sym, ◌∙◌, ap, subst}
use Rattle.std.specs.Prelude.{Result, Ok, Err, IfOk}
use Rattle.std.proofs.lemmas.List.{append-nil}
use Rattle.std.specs.BTreeMap.{BTreeMap, get, is_at}
use Rattle.fk_base.specs.Path.{PathNames, path_cmp, same_path}
use Rattle.fk_base.specs.declared.memory.NoMemory.{NoMemory}
use Rattle.fk_tree.specs.Edit.{effects, effects_of}
use Rattle.fk_tree.specs.declared.edit.Edit.{Edit}
use Rattle.fk_tree.specs.declared.request.Request.{Request}
use Rattle.fk_tree.specs.declared.request.Request.TheVariants as request
use Rattle.fk_tree.proofs.Order.{same_path_is}
use Rattle.fk_tree.specs.Touch.{edits_at}
use Rattle.fk_user.specs.Own.{are_own}
use Rattle.fk_user.proofs.Owning.{own_are_own}
use Rattle.fk_tree.proofs.Looking.{same_flip}
use Rattle.fk_wire.specs.declared.message.Pushed.{Pushed}
use Rattle.fk_settle.specs.Transaction.{applied_as}
use Rattle.fk_lead.specs.Indexed.{AreByPath, IsIndexOf, kept_at, or_no_edits}
use Rattle.fk_base.proofs.Logic.{by_test}

abbrev pub EditMap : Type 0
EditMap = BTreeMap PathNames (List Edit)

-- ---- one path is given what is to be kept there, and the others keep theirs

pub kept_updated : (m n : EditMap) (k : PathNames) (w : Option (List Edit))
    → ((q : PathNames) → get path_cmp n q ≡ cond (is_at (path_cmp k) q) w (get path_cmp m q))
    → (p : PathNames) → kept_at n p ≡ cond (same_path p k) (or_no_edits w) (kept_at m p)
kept_updated m n k w u p = ap or_no_edits (u p) ∙ rw (same_flip k p) (step (same_path p k) (get path_cmp m p))
  where
    step : (b : Bool) (o : Option (List Edit)) → or_no_edits (cond b w o) ≡ cond b (or_no_edits w) (or_no_edits o)
    step true o = refl
    step false o = refl

-- what was taken out is put back with an edit behind it
pub kept_more : (m l n : EditMap) (e : Edit) (es : List Edit) → es ≡ kept_at m e.path ++ e ∷ []
    → ((p : PathNames) → kept_at l p ≡ cond (same_path p e.path) [] (kept_at m p))
    → ((p : PathNames) → kept_at n p ≡ cond (same_path p e.path) es (kept_at l p))
    → (p : PathNames) → kept_at n p ≡ kept_at m p ++ edits_at p (e ∷ [])
kept_more m l n e es a b c p =
    c p ∙ ap (cond (same_path p e.path) es) (b p)
    ∙ by_test (same_path p e.path) (λ x. cond x es (cond x [] (kept_at m p)) ≡ kept_at m p ++ cond x (e ∷ []) [])
    (λ t. a ∙ ap (λ q. kept_at m q ++ e ∷ []) (sym (same_path_is p e.path t)))
    (λ _. sym (append-nil (kept_at m p)))

-- ---- the edits of a push don't depend on its number

same_of : (tx : ℕ) (x : Pushed) (r : Request) → effects_of (applied_as tx x) r ≡ effects_of (applied_as 0 x) r
same_of tx x (request.Create p bytes seq eph) = refl
same_of tx x (request.Set p bytes version) = refl
same_of tx x (request.Delete p version) = refl
same_of tx x (request.Close evict) = refl
same_of tx x (request.Multi ps) = refl

pub own_at_any : (tx : ℕ) (x : Pushed) (m : EditMap) (p : PathNames) → AreByPath m (effects (applied_as 0 x)) → kept_at m p ≡ edits_at p (effects (applied_as tx x))
own_at_any tx x m p a = a p ∙ ap (edits_at p) (sym (same_of tx x x.request))

pub index_says : (o : Option EditMap) (m : EditMap) (tx : ℕ) (x y : Pushed) (p : PathNames) → IsIndexOf o x → o ≡ Some m → x ≡ y → kept_at m p ≡ edits_at p (effects (applied_as tx y))
index_says o m tx x y p i e f = own_at_any tx x m p (subst (λ z. IsIndexOf z x) e i) ∙ ap (λ z. edits_at p (effects (applied_as tx z))) f

-- they are edits of that path's node
pub own_ok : (r : Result (List Edit) NoMemory) (p : PathNames) (es : List Edit) → IfOk r (λ own. own ≡ edits_at p es) → IfOk r (λ own. are_own p own ≡ true)
own_ok (Ok own) p es e = rw e (own_are_own p es)
own_ok (Err x) p es e = tt

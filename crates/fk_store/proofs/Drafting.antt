-- What writes make of a draft of rows.
use Rattle.std.proofs.Common.{Bool, List, None, Option, Some, [], ap, append-nil, arith, cond, drop, drop-cons, false, get_or, length, refl, set, subst, suc, sym, true, ℕ, ◌++◌, ◌+◌, ◌<◌, ◌∙◌, ◌∷◌, ◌≡◌}
use Rattle.fk_base.specs.Path.{PathNames, same_path}
use Rattle.fk_tree.proofs.Order.{same_path_is, same_path_self}
use Rattle.fk_store.specs.declared.node_record.NodeRecord.{NodeRecord}
use Rattle.fk_store.specs.declared.rows.Row.{Row}
use Rattle.fk_store.specs.declared.write.Write.{Write}
use Rattle.fk_store.specs.declared.write.Write.TheVariants as write
use Rattle.fk_store.specs.Rows.{row_record, row_from}
use Rattle.fk_store.specs.Writes.{grant_record, is_of_path, record_by, record_after, records_written}
use Rattle.fk_store.proofs.Keeping.{put_over, placed_later}
use Rattle.fk_base.proofs.Logic.{by_test}

-- STAGING
-- a new row of a path that had none stands at the end
pub placed_last : (p : PathNames) (rs : List Row) (o : Option NodeRecord) → row_from 0 p rs ≡ None → row_from 0 p (rs ++ record { path = p; kept = o } ∷ []) ≡ Some (length rs)
placed_last p rs o e = go 0 rs e ∙ ap Some (omega arith)
  where
    go : (i : ℕ) (rs : List Row) → row_from i p rs ≡ None → row_from i p (rs ++ record { path = p; kept = o } ∷ []) ≡ Some (i + length rs)
    go i [] e = rw (same_path_self p) (ap Some (omega arith))
    go i (r ∷ rs) e = step (same_path p r.path) e (go (suc i) rs)
      where
        step : (b : Bool) → cond b (Some i) (row_from (suc i) p rs) ≡ None → (row_from (suc i) p rs ≡ None → row_from (suc i) p (rs ++ record { path = p; kept = o } ∷ []) ≡ Some (suc i + length rs)) → cond b (Some i) (row_from (suc i) p (rs ++ record { path = p; kept = o } ∷ [])) ≡ Some (i + suc (length rs))
        step true e f = absurd (cc)
        step false e f = f e ∙ ap Some (omega arith)

-- a copy of a path's row below keeps what is there
pub copy_keeps : (p q : PathNames) (ds rs : List Row) → row_record p ((ds ++ record { path = q; kept = row_record q rs } ∷ []) ++ rs) ≡ row_record p (ds ++ rs)
copy_keeps p q [] rs = by_test (same_path p q) (λ b. cond b (row_record q rs) (row_record p rs) ≡ row_record p rs) (λ e. ap (λ x. row_record x rs) (sym (same_path_is p q e))) (λ _. refl)
copy_keeps p q (d ∷ ds) rs = ap (cond (same_path p d.path) d.kept) (copy_keeps p q ds rs)

-- WRITING
-- the row at the place of a path has its path and its record
placed_path : (p : PathNames) (rs : List Row) (k : ℕ) (d : Row) → row_from 0 p rs ≡ Some k → p ≡ (get_or rs k d).path
placed_path p [] k d e = absurd (cc)
placed_path p (r ∷ rs) k d e = step (same_path p r.path) refl e (placed_path p rs)
  where
    step : (b : Bool) → same_path p r.path ≡ b → cond b (Some 0) (row_from 1 p rs) ≡ Some k → ((j : ℕ) (d : Row) → row_from 0 p rs ≡ Some j → p ≡ (get_or rs j d).path) → p ≡ (get_or (r ∷ rs) k d).path
    step true b e f = let first : k ≡ 0 = cc in rw first (same_path_is p r.path b)
    step false b e f = let later : (j : ℕ) × (k ≡ suc j) × (row_from 0 p rs ≡ Some j) = placed_later p rs 0 k e in rw later.1 (f later.0 d later.2)

placed_kept : (p : PathNames) (rs base : List Row) (k : ℕ) (d : Row) → row_from 0 p rs ≡ Some k → row_record p (rs ++ base) ≡ (get_or rs k d).kept
placed_kept p [] base k d e = absurd (cc)
placed_kept p (r ∷ rs) base k d e = step (same_path p r.path) e (placed_kept p rs base)
  where
    step : (b : Bool) → cond b (Some 0) (row_from 1 p rs) ≡ Some k → ((j : ℕ) (d : Row) → row_from 0 p rs ≡ Some j → row_record p (rs ++ base) ≡ (get_or rs j d).kept) → cond b r.kept (row_record p (rs ++ base)) ≡ (get_or (r ∷ rs) k d).kept
    step true e f = let first : k ≡ 0 = cc in rw first refl
    step false e f = let later : (j : ℕ) × (k ≡ suc j) × (row_from 0 p rs ≡ Some j) = placed_later p rs 0 k e in rw later.1 (f later.0 d later.2)

-- a write in the row of its path
pub drafted : (p q : PathNames) (w : Write) (ds rs : List Row) (k : ℕ) (d : Row) (o : Option NodeRecord) → ((x : PathNames) → is_of_path x w ≡ same_path x q) → row_from 0 q ds ≡ Some k → o ≡ record_by w (get_or ds k d).kept
    → row_record p (set ds k (record { path = (get_or ds k d).path; kept = o }) ++ rs) ≡ record_after w p (row_record p (ds ++ rs))
drafted p q w ds rs k d o f e h =
    put_over p ds rs (record { path = (get_or ds k d).path; kept = o }) k (subst (λ x. row_from 0 x ds ≡ Some k) (placed_path q ds k d e) e)
    ∙ rw (← placed_path q ds k d e, f p, h, ← placed_kept q ds rs k d e)
    (by_test (same_path p q) (λ b. cond b (record_by w (row_record q (ds ++ rs))) (row_record p (ds ++ rs)) ≡ cond b (record_by w (row_record p (ds ++ rs))) (row_record p (ds ++ rs)))
    (λ s. ap (λ x. record_by w (row_record x (ds ++ rs))) (sym (same_path_is p q s))) (λ _. refl))

-- a grant in the row of its path
pub granted : (p q : PathNames) (inv moment : ℕ) (rs : List Row) (k : ℕ) (d : Row) (o : Option NodeRecord) → row_from 0 q rs ≡ Some k → o ≡ grant_record inv moment (get_or rs k d).kept
    → row_record p (set rs k (record { path = (get_or rs k d).path; kept = o })) ≡ cond (same_path p q) (grant_record inv moment (row_record p rs)) (row_record p rs)
granted p q inv moment rs k d o e h =
    ap (row_record p) (sym (append-nil (set rs k (record { path = (get_or rs k d).path; kept = o }))))
    ∙ drafted p q (write.Grant q inv moment) rs [] k d o (λ _. refl) e h
    ∙ ap (λ xs. cond (same_path p q) (grant_record inv moment (row_record p xs)) (row_record p xs)) (append-nil rs)

pub records_step : (p : PathNames) (ws : List Write) (i : ℕ) (w : Write) (o : Option NodeRecord) → i < length ws → w ≡ get_or ws i w → records_written p (drop i ws) o ≡ records_written p (drop (i + 1) ws) (record_after w p o)
records_step p ws i w o l s = step (i + 1) (omega arith)
  where
    step : (j : ℕ) → j ≡ suc i → records_written p (drop i ws) o ≡ records_written p (drop j ws) (record_after w p o)
    step j e = rw (e, drop-cons ws i w l, ← s) refl

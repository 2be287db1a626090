-- What is put in place of a record.
use Rattle.std.proofs.Common.{◌≡◌, ℕ, zero, suc, ◌+◌, ◌<◌, Bool, true, false, cond, List, [], ◌∷◌, Option, Some, length, drop, get_or, refl, sym, ◌∙◌, ap, arith, drop-cons}
use Rattle.std.specs.BTreeMap.{BTreeMap, get, is_at}
use Rattle.fk_base.specs.Path.{PathNames, path_cmp, same_path}
use Rattle.fk_tree.specs.Edit.{edit, edited}
use Rattle.fk_tree.specs.declared.edit.Edit.{Edit}
use Rattle.fk_tree.specs.declared.node.Node.{Node}
use Rattle.fk_tree.proofs.Order.{same_path_is}
use Rattle.fk_tree.proofs.Looking.{same_flip}
use Rattle.fk_user.specs.declared.record.UserRecord.{UserRecord}
use Rattle.fk_user.specs.declared.user_store.UserStore.{UserStore}
use Rattle.fk_user.specs.Meaning.{Meaning, put_record, with_put}
use Rattle.fk_user.specs.Own.{are_own}
use Rattle.fk_user.specs.Records.{or_no_record, record_in, IsEdited, KeepsRecords}
use Rattle.fk_user.specs.Stored.{store_of}
use Rattle.fk_base.proofs.Logic.{and_left, and_right, by_test}

abbrev pub RecordMap : Type 0
RecordMap = BTreeMap PathNames UserRecord

-- one path has this record, and the others keep theirs
pub updated_record : (m n : RecordMap) (k : PathNames) (r : UserRecord) → ((q : PathNames) → get path_cmp n q ≡ cond (is_at (path_cmp k) q) (Some r) (get path_cmp m q))
    → (q : PathNames) → record_in n.entries q ≡ cond (same_path q k) r (record_in m.entries q)
updated_record m n k r u q = ap or_no_record (u q) ∙ rw (same_flip k q) (step (same_path q k) (get path_cmp m q))
  where
    step : (b : Bool) (o : Option UserRecord) → or_no_record (cond b (Some r) o) ≡ cond b r (or_no_record o)
    step true o = refl
    step false o = refl

-- each edit of a path's own is made
on_at : (p : PathNames) (es : List Edit) (i : ℕ) (e : Edit) → are_own p es ≡ true → i < length es → same_path p (get_or es i e).path ≡ true
on_at p [] i e h l = absurd (omega arith)
on_at p (x ∷ es) zero e h l = and_left _ _ h
on_at p (x ∷ es) (suc i) e h l = on_at p es i e (and_right _ _ h) (omega arith)

pub edits_step : (tx moment : ℕ) (p : PathNames) (es : List Edit) (i : ℕ) (e : Edit) (o : Option Node) → are_own p es ≡ true → i < length es → e ≡ get_or es i e
    → edited tx moment p (drop i es) o ≡ edited tx moment p (drop (i + 1) es) (edit tx moment e.what o)
edits_step tx moment p es i e o h l s = step (i + 1) (omega arith)
  where
    step : (j : ℕ) → j ≡ suc i → edited tx moment p (drop i es) o ≡ edited tx moment p (drop j es) (edit tx moment e.what o)
    step j t = let own : same_path p e.path ≡ true = rw s (on_at p es i e h l) in rw (t, drop-cons es i e l, ← s) (ap (λ b. edited tx moment p (drop (suc i) es) (cond b (edit tx moment e.what o) o)) own)

-- the record after the edits is put
pub put_after : (m n : RecordMap) (k : PathNames) (tx moment : ℕ) (es : List Edit) (r : UserRecord) → r ≡ put_record k tx moment es (record_in m.entries k)
    → ((q : PathNames) → record_in n.entries q ≡ cond (same_path q k) r (record_in m.entries q))
    → IsEdited m.entries n.entries k tx moment es
put_after m n k tx moment es r a b q =
    b q ∙ by_test (same_path q k) (λ t. cond t r (record_in m.entries q) ≡ cond t (put_record k tx moment es (record_in m.entries q)) (record_in m.entries q))
    (λ s. a ∙ ap (λ x. put_record k tx moment es (record_in m.entries x)) (sym (same_path_is q k s)))
    (λ _. refl)

-- WRITTEN WHERE IT STANDS
-- the record of a path that was lent and written
abbrev pub IsUpdated : RecordMap → RecordMap → PathNames → UserRecord → Type 0
IsUpdated m n k w = (q : PathNames) → get path_cmp n q ≡ cond (is_at (path_cmp k) q) (Some w) (get path_cmp m q)

-- one edit of a path's own leaves what a put of it does
own_edit : (p : PathNames) (tx moment : ℕ) (e : Edit) (r : UserRecord) → are_own p (e ∷ []) ≡ true
    → record { node = edit tx moment e.what r.node; stamp = tx } ≡ put_record p tx moment (e ∷ []) r
own_edit p tx moment e r h = rw (and_left (same_path p e.path) true h) refl

-- one record changes, by what was lent of it
pub edited_there : (m n : RecordMap) (k : PathNames) (tx moment : ℕ) (e : Edit) (old new : UserRecord) → are_own k (e ∷ []) ≡ true
    → Some old ≡ get path_cmp m k → IsUpdated m n k new → new ≡ record { node = edit tx moment e.what old.node; stamp = tx }
    → IsEdited m.entries n.entries k tx moment (e ∷ [])
edited_there m n k tx moment e old new h a u c q =
    updated_record m n k new u q
    ∙ by_test (same_path q k) (λ b. cond b new (record_in m.entries q) ≡ cond b (put_record k tx moment (e ∷ []) (record_in m.entries q)) (record_in m.entries q))
    (λ t. c ∙ own_edit k tx moment e old h ∙ ap (put_record k tx moment (e ∷ [])) (ap or_no_record a ∙ ap (record_in m.entries) (sym (same_path_is q k t))))
    (λ _. refl)

-- it is put back as it was lent
pub put_back : (m n : RecordMap) (k : PathNames) (old new : UserRecord) → Some old ≡ get path_cmp m k → IsUpdated m n k new → new ≡ old → KeepsRecords m.entries n.entries
put_back m n k old new a u c q =
    updated_record m n k new u q
    ∙ by_test (same_path q k) (λ b. cond b new (record_in m.entries q) ≡ record_in m.entries q)
    (λ t. c ∙ ap or_no_record a ∙ ap (record_in m.entries) (sym (same_path_is q k t)))
    (λ _. refl)

-- stores that have the same records, mark, epoch and counts mean the same
same_meaning : (m n : Meaning) → ((p : PathNames) → m.records p ≡ n.records p) → m.mark ≡ n.mark → m.epoch ≡ n.epoch → m.armed ≡ n.armed → m.faults ≡ n.faults → m ≡ n
same_meaning m n a b c d e = λ i. record { records = λ p. (a p) i; mark = b i; epoch = c i; armed = d i; faults = e i }

-- a record was put after the edits of its path
pub put_store : (p : PathNames) (tx moment : ℕ) (es : List Edit) (old new : UserStore)
    → IsEdited old.records new.records p tx moment es
    → new.mark ≡ old.mark → new.epoch ≡ old.epoch → new.armed ≡ old.armed → new.faults ≡ old.faults
    → store_of new ≡ with_put (store_of old) p tx moment es
put_store p tx moment es old new b c d e f = same_meaning (store_of new) (with_put (store_of old) p tx moment es) b c d e f

-- no record changed
pub same_store : (old new : UserStore) → KeepsRecords old.records new.records
    → new.mark ≡ old.mark → new.epoch ≡ old.epoch → new.armed ≡ old.armed → new.faults ≡ old.faults
    → store_of new ≡ store_of old
same_store old new b c d e f = same_meaning (store_of new) (store_of old) b c d e f

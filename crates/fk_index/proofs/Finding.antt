-- Ordered maps by path: what is found, put and changed there, path by path.
use Rattle.std.proofs.Common.{◌≡◌, Bool, true, false, cond, Option, Some, None, refl, sym, ◌∙◌, ap}
use Rattle.std.specs.Prelude.{is_some, Result, Ok, Err, OnErr}
use Rattle.std.specs.BTreeMap as tree
use Rattle.std.specs.BTreeMap.{BTreeMap, is_at, WritesThrough}
use Rattle.fk_base.specs.Path.{PathNames, path_cmp, same_path}
use Rattle.fk_tree.proofs.Order.{same_path_is}
use Rattle.fk_tree.proofs.Looking.{same_flip}
use Rattle.fk_store.specs.declared.node_record.NodeRecord.{NodeRecord}
use Rattle.fk_index.specs.Slots.{Slots, flat, has_slot, record_at}
use Rattle.fk_base.proofs.Logic.{by_test}

pub err_so : {T E : Type 0} {A B : Type 0} (r : Result T E) → OnErr r A → (A → B) → OnErr r B
err_so (Ok x) a f = a
err_so (Err x) a f = f a

-- IN ANY MAP BY PATHS
-- one path has this, and the others keep theirs
abbrev pub IsUpdated : {X : Type 0} → BTreeMap PathNames X → BTreeMap PathNames X → PathNames → Option X → Type 0
IsUpdated m n k w = (q : PathNames) → tree.get path_cmp n q ≡ cond (is_at (path_cmp k) q) w (tree.get path_cmp m q)

pub put : {X : Type 0} (m n : BTreeMap PathNames X) (k : PathNames) (w : Option X) → IsUpdated m n k w → (q : PathNames) → tree.get path_cmp n q ≡ cond (same_path q k) w (tree.get path_cmp m q)
put m n k w u q = u q ∙ ap (λ b. cond b w (tree.get path_cmp m q)) (same_flip k q)

-- what a path has written through what a look-up lent
abbrev pub IsWritten : {X : Type 0} → BTreeMap PathNames X → PathNames → (X → BTreeMap PathNames X) → Type 0
IsWritten {X} m k l = (w : X) → WritesThrough path_cmp (path_cmp k) m w (l w)

pub written : {X : Type 0} (m : BTreeMap PathNames X) (k : PathNames) (l : X → BTreeMap PathNames X) (o v : X) → Some o ≡ tree.get path_cmp m k → IsWritten m k l → (q : PathNames) → tree.get path_cmp (l v) q ≡ cond (same_path q k) (Some v) (tree.get path_cmp m q)
written m k l o v e w = put m (l v) k (Some v) ((w v).3 (sym (ap is_some e))).0

-- IN THE MAP OF RECORDS
pub changed : (m : Slots) (k : PathNames) (l : Option NodeRecord → Slots) (f : Option NodeRecord → Option NodeRecord) (o v : Option NodeRecord) → Some o ≡ tree.get path_cmp m k → IsWritten m k l → v ≡ f o → (q : PathNames) → record_at (l v) q ≡ cond (same_path q k) (f (record_at m q)) (record_at m q)
changed m k l f o v e w s q =
    ap flat (written m k l o v e w q)
    ∙ by_test (same_path q k) (λ b. flat (cond b (Some v) (tree.get path_cmp m q)) ≡ cond b (f (record_at m q)) (record_at m q)) (λ t. rw (same_path_is q k t, ← e) s) (λ _. refl)

pub same_written : (m : Slots) (k : PathNames) (l : Option NodeRecord → Slots) (o v : Option NodeRecord) → Some o ≡ tree.get path_cmp m k → IsWritten m k l → v ≡ o → (q : PathNames) → record_at (l v) q ≡ record_at m q
same_written m k l o v e w s q =
    ap flat (written m k l o v e w q)
    ∙ by_test (same_path q k) (λ b. flat (cond b (Some v) (tree.get path_cmp m q)) ≡ record_at m q) (λ t. rw (same_path_is q k t, ← e) s) (λ _. refl)

pub slots_written : (m : Slots) (k : PathNames) (l : Option NodeRecord → Slots) (o v : Option NodeRecord) → Some o ≡ tree.get path_cmp m k → IsWritten m k l → (q : PathNames) → has_slot (l v) q ≡ has_slot m q
slots_written m k l o v e w q =
    ap is_some (written m k l o v e w q)
    ∙ by_test (same_path q k) (λ b. is_some (cond b (Some v) (tree.get path_cmp m q)) ≡ has_slot m q) (λ t. rw (same_path_is q k t, ← e) refl) (λ _. refl)

-- where there is no place, what makes nothing of nothing changes nothing
pub missing : (m n : Slots) (k : PathNames) (f : Option NodeRecord → Option NodeRecord) → None ≡ tree.get path_cmp m k → f None ≡ None → n ≡ m → (q : PathNames) → record_at n q ≡ cond (same_path q k) (f (record_at m q)) (record_at m q)
missing m n k f e z same q = rw same (by_test (same_path q k) (λ b. record_at m q ≡ cond b (f (record_at m q)) (record_at m q)) (λ t. rw (same_path_is q k t, ← e) (sym z)) (λ _. refl))

-- a place without a record where there was none
pub none_put : (m n : Slots) (k : PathNames) → is_some (tree.get path_cmp m k) ≡ false → IsUpdated m n k (Some None) → (q : PathNames) → record_at n q ≡ record_at m q
none_put m n k e u q = ap flat (put m n k (Some None) u q) ∙ by_test (same_path q k) (λ b. flat (cond b (Some None) (tree.get path_cmp m q)) ≡ record_at m q) (λ t. rw (same_path_is q k t) (empty (tree.get path_cmp m k) e)) (λ _. refl)
  where
    empty : (o : Option (Option NodeRecord)) → is_some o ≡ false → None ≡ flat o
    empty None e = refl
    empty (Some x) e = absurd (cc)

pub slots_put : (m n : Slots) (k : PathNames) (o : Option NodeRecord) → IsUpdated m n k (Some o) → (q : PathNames) → has_slot m q ≡ true → has_slot n q ≡ true
slots_put m n k o u q h = ap is_some (put m n k (Some o) u q) ∙ step (same_path q k)
  where
    step : (b : Bool) → is_some (cond b (Some o) (tree.get path_cmp m q)) ≡ true
    step true = refl
    step false = h

-- The nodes of a draft put in place of a table's.
use Rattle.std.proofs.Common.{◌≡◌, ◌<◌, ℕ, true, false, cond, eqb, List, Option, Some, None, refl, sym, ◌∙◌, ap, arith}
use Rattle.std.specs.BTreeMap as tree
use Rattle.std.proofs.lemmas.Bool.Decides.{nat_tests}
use Rattle.fk_base.specs.Path.{PathNames, name_cmp, path_cmp, same_path}
use Rattle.fk_tree.specs.Rows.{is_of, names_of}
use Rattle.fk_tree.specs.Sorted.{rises}
use Rattle.fk_tree.specs.declared.node.Node.{Node}
use Rattle.fk_tree.proofs.Order.{same_path_is, same_path_self}
use Rattle.fk_store.specs.Answers.{has_owner}
use Rattle.fk_store.specs.declared.node_record.NodeRecord.{NodeRecord}
use Rattle.fk_store.specs.declared.write.Write.{Write}
use Rattle.fk_index.specs.Slots.{Slots, node_of, record_at}
use Rattle.fk_index.specs.Owners.{Owners, has_place, is_marked, owner_of, AreOwned}
use Rattle.fk_index.specs.Parts.{rests_written, with_node}
use Rattle.fk_index.specs.Drafts.{Drafts, node_over, or_node, IsReady}
use Rattle.fk_index.proofs.Parts.{node_kept, own_node}
use Rattle.fk_index.proofs.Readiness.{owned_placed, owner_of_node}
use Rattle.fk_index.proofs.Finding.{put, IsUpdated}
use Rattle.fk_base.proofs.Logic.{by_test}

-- ONE PATH
pub owner_is : (s : ℕ) (o : Option Node) → 0 < s → is_of s o ≡ eqb (owner_of o) s
owner_is s None l = grind (arith, nat_tests)
owner_is s (Some n) l = refl

-- where there is no record, none is changed
pub nothing_put : (m : Slots) (k : PathNames) (x : Option Node) → record_at m k ≡ None → (p : PathNames) → record_at m p ≡ cond (same_path p k) (with_node x (record_at m p)) (record_at m p)
nothing_put m k x e p = by_test (same_path p k) (λ b. record_at m p ≡ cond b (with_node x (record_at m p)) (record_at m p)) (λ t. rw (same_path_is p k t, e) refl) (λ _. refl)

-- a node was put in a record, and its path given to its owner
pub put_owned : (m n : Slots) (o q : Owners) (k : PathNames) (x : Option Node) (r : NodeRecord) → AreOwned m o → record_at m k ≡ Some r
    → ((p : PathNames) → record_at n p ≡ cond (same_path p k) (with_node x (record_at m p)) (record_at m p))
    → ((s : ℕ) → 0 < s → is_marked q s k ≡ eqb (owner_of x) s)
    → ((s : ℕ) (p : PathNames) → same_path p k ≡ false → is_marked q s p ≡ is_marked o s p) → AreOwned n q
put_owned m n o q k x r a e u h g s p l =
    by_test (same_path p k) (λ b. is_marked q s p ≡ has_owner s (cond b (with_node x (record_at m p)) (record_at m p)))
    (λ t. rw (same_path_is p k t, e) (h s l ∙ sym (owner_is s x l)))
    (λ f. g s p f ∙ a s p l)
    ∙ sym (ap (has_owner s) (u p))

-- THE NEXT OF A DRAFT
popped_over : (d e : Drafts) (k : PathNames) (x : Option Node) (m n : Slots) → tree.get path_cmp d k ≡ Some x → IsUpdated d e k None
    → (p : PathNames) → same_path p k ≡ false → record_at n p ≡ record_at m p → node_over e n p ≡ node_over d m p
popped_over d e k x m n v u p f s = ap (λ y. or_node y (node_of (record_at n p))) (put d e k None u p ∙ ap (λ b. cond b None (tree.get path_cmp d p)) f) ∙ ap (λ r. or_node (tree.get path_cmp d p) (node_of r)) s

popped_here : (d e : Drafts) (k : PathNames) (n : Slots) → IsUpdated d e k None → node_over e n k ≡ node_of (record_at n k)
popped_here d e k n u = ap (λ y. or_node y (node_of (record_at n k))) (put d e k None u k ∙ ap (λ b. cond b None (tree.get path_cmp d k)) (same_path_self k))

put_here : (m n : Slots) (k : PathNames) (x : Option Node) → ((p : PathNames) → record_at n p ≡ cond (same_path p k) (with_node x (record_at m p)) (record_at m p)) → record_at n k ≡ with_node x (record_at m k)
put_here m n k x w = w k ∙ rw (same_path_self k) refl

put_other : (m n : Slots) (k p : PathNames) (x : Option Node) → ((p : PathNames) → record_at n p ≡ cond (same_path p k) (with_node x (record_at m p)) (record_at m p)) → same_path p k ≡ false → record_at n p ≡ record_at m p
put_other m n k p x w f = w p ∙ rw f refl

pub next_over : (d e : Drafts) (k : PathNames) (x : Option Node) (m n : Slots) → tree.get path_cmp d k ≡ Some x → IsUpdated d e k None
    → ((p : PathNames) → record_at n p ≡ cond (same_path p k) (with_node x (record_at m p)) (record_at m p))
    → (p : PathNames) → with_node (node_over e n p) (record_at n p) ≡ with_node (node_over d m p) (record_at m p)
next_over d e k x m n v u w p = by_test (same_path p k) (λ b. with_node (node_over e n p) (record_at n p) ≡ with_node (node_over d m p) (record_at m p)) (λ t. rw (same_path_is p k t) here) there
  where
    here : with_node (node_over e n k) (record_at n k) ≡ with_node (node_over d m k) (record_at m k)
    here =
        ap (λ y. with_node y (record_at n k)) (popped_here d e k n u)
        ∙ own_node (record_at n k) ∙ put_here m n k x w
        ∙ ap (λ y. with_node (or_node y (node_of (record_at m k))) (record_at m k)) (sym v)

    there : same_path p k ≡ false → with_node (node_over e n p) (record_at n p) ≡ with_node (node_over d m p) (record_at m p)
    there f = rw (popped_over d e k x m n v u p f (put_other m n k p x w f), put_other m n k p x w f) refl

pub next_ready : (d e : Drafts) (k : PathNames) (x : Option Node) (m n : Slots) (o q : Owners) → tree.get path_cmp d k ≡ Some x → IsUpdated d e k None → IsReady d m o → AreOwned n q
    → ((p : PathNames) → record_at n p ≡ cond (same_path p k) (with_node x (record_at m p)) (record_at m p))
    → ((s : ℕ) (p : PathNames) → same_path p k ≡ false → has_place q s p ≡ has_place o s p) → IsReady e n q
next_ready d e k x m n o q v u r a w g = record { places = places; rising = rising }
  where
    places : (s : ℕ) (p : PathNames) → 0 < s → is_of s (node_over e n p) ≡ true → has_place q s p ≡ true
    places s p l h = by_test (same_path p k) (λ b. has_place q s p ≡ true)
        (λ t. owned_placed n q s p a l (ap (is_of s) (own p t) ∙ h))
        (λ f. g s p f ∙ r.places s p l (ap (is_of s) (sym (popped_over d e k x m n v u p f (put_other m n k p x w f))) ∙ h))
      where
        own : (p : PathNames) → same_path p k ≡ true → node_of (record_at n p) ≡ node_over e n p
        own p t = rw (same_path_is p k t) (sym (popped_here d e k n u))

    put_rises : (y : Option NodeRecord) → rises name_cmp (names_of x) ≡ true → rises name_cmp (names_of (node_of (with_node x y))) ≡ true
    put_rises None h = refl
    put_rises (Some y) h = h

    rising : (p : PathNames) → rises name_cmp (names_of (node_over e n p)) ≡ true
    rising p = by_test (same_path p k) (λ b. rises name_cmp (names_of (node_over e n p)) ≡ true)
        (λ t. rw (same_path_is p k t) (
        ap (λ y. rises name_cmp (names_of y)) (popped_here d e k n u ∙ ap node_of (put_here m n k x w))
        ∙ put_rises (record_at m k) (ap (λ y. rises name_cmp (names_of (or_node y (node_of (record_at m k))))) (sym v) ∙ r.rising k)))
        (λ f. ap (λ y. rises name_cmp (names_of y)) (popped_over d e k x m n v u p f (put_other m n k p x w f)) ∙ r.rising p)

-- THE REST WRITTEN FIRST
touched_node : (ws : List Write) (m n : Slots) → ((p : PathNames) → record_at n p ≡ rests_written p ws (record_at m p)) → (p : PathNames) → node_of (record_at n p) ≡ node_of (record_at m p)
touched_node ws m n u p = ap node_of (u p) ∙ node_kept p ws (record_at m p)

touched_over : (d : Drafts) (ws : List Write) (m n : Slots) → ((p : PathNames) → record_at n p ≡ rests_written p ws (record_at m p)) → (p : PathNames) → node_over d n p ≡ node_over d m p
touched_over d ws m n u p = ap (or_node (tree.get path_cmp d p)) (touched_node ws m n u p)

pub touched_ready : (d : Drafts) (ws : List Write) (m n : Slots) (o : Owners) → ((p : PathNames) → record_at n p ≡ rests_written p ws (record_at m p)) → IsReady d m o → IsReady d n o
touched_ready d ws m n o u r = record {
  places = λ s p l h. r.places s p l (ap (is_of s) (sym (touched_over d ws m n u p)) ∙ h);
  rising = λ p. ap (λ y. rises name_cmp (names_of y)) (touched_over d ws m n u p) ∙ r.rising p;
}

pub touched_owned : (ws : List Write) (m n : Slots) (o : Owners) → ((p : PathNames) → record_at n p ≡ rests_written p ws (record_at m p)) → AreOwned m o → AreOwned n o
touched_owned ws m n o u a s p l = a s p l ∙ owner_of_node s (record_at m p) ∙ ap (is_of s) (sym (touched_node ws m n u p)) ∙ sym (owner_of_node s (record_at n p))

pub all_put : (d : Drafts) (ws : List Write) (m n x : Slots) → ((p : PathNames) → record_at n p ≡ rests_written p ws (record_at m p))
    → ((p : PathNames) → record_at x p ≡ with_node (node_over d n p) (record_at n p)) → (p : PathNames) → record_at x p ≡ with_node (node_over d m p) (rests_written p ws (record_at m p))
all_put d ws m n x u w p = w p ∙ ap (λ y. with_node y (record_at n p)) (touched_over d ws m n u p) ∙ ap (with_node (node_over d m p)) (u p)

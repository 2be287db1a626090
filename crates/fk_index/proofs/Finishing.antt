-- The edit that waited, made in place.
use Rattle.std.proofs.Common.{◌≡◌, ◌≤◌, ℕ, Bool, true, false, cond, List, Option, Some, None, length, refl, sym, ◌∙◌, ap}
use Rattle.std.specs.Prelude.{is_some}
use Rattle.std.specs.BTreeMap as tree
use Rattle.std.proofs.lemmas.Bool.{false≢true, not-true}
use Rattle.fk_base.specs.Path.{PathNames, name_cmp, path_cmp, same_path}
use Rattle.fk_tree.specs.Edit.{edit}
use Rattle.fk_tree.specs.Rows.{is_of, names_of}
use Rattle.fk_tree.specs.Sorted.{rises}
use Rattle.fk_tree.specs.declared.node.Node.{Node}
use Rattle.fk_tree.proofs.Editing.{edit_rises}
use Rattle.fk_tree.proofs.Order.{same_path_is}
use Rattle.fk_store.specs.declared.node_record.NodeRecord.{NodeRecord}
use Rattle.fk_store.specs.declared.write.Write.{Write}
use Rattle.fk_index.specs.declared.drafts.Step.{Step}
use Rattle.fk_index.specs.Slots.{Slots, node_of, record_at, SameSlots}
use Rattle.fk_index.specs.Owners.{Owners, AreOwned}
use Rattle.fk_index.specs.Parts.{rest_of, with_node}
use Rattle.fk_index.specs.Drafts.{Drafts, is_drafted, node_over, or_node, IsReady}
use Rattle.fk_index.specs.Waiting.{keeps_owner, may_wait, pended, IsPrepared}
use Rattle.fk_index.proofs.Meanings.{kept_owned}
use Rattle.fk_index.proofs.Parts.{all_nodes, all_slots, own_node, rest_kept, same_slots}
use Rattle.fk_index.proofs.Readiness.{none_kept, owner_kept, owner_of_node, ArePrepared}
use Rattle.fk_base.proofs.Logic.{and_left, and_right, by_test}

-- each record has its node as the edit that waited leaves it
abbrev pub IsFinished : Option Step → Slots → Slots → Type 0
IsFinished w n x = (p : PathNames) → record_at x p ≡ with_node (pended w p (node_of (record_at n p))) (record_at n p)

pub edited_here : (s : Step) (n x : Slots) → ((p : PathNames) → record_at x p ≡ cond (same_path p s.change.now.path) (with_node (edit s.tx s.moment s.change.now.what (node_of (record_at n p))) (record_at n p)) (record_at n p)) → IsFinished (Some s) n x
edited_here s n x u p = u p ∙ step (same_path p s.change.now.path)
  where
    step : (b : Bool) → cond b (with_node (edit s.tx s.moment s.change.now.what (node_of (record_at n p))) (record_at n p)) (record_at n p) ≡ with_node (cond b (edit s.tx s.moment s.change.now.what (node_of (record_at n p))) (node_of (record_at n p))) (record_at n p)
    step true = refl
    step false = sym (own_node (record_at n p))

-- a record's node after an edit that keeps the owner
node_edited : (tx moment : ℕ) (s : Step) (o : Option NodeRecord) → keeps_owner s.change.now.what ≡ true → node_of (with_node (edit tx moment s.change.now.what (node_of o)) o) ≡ edit tx moment s.change.now.what (node_of o)
node_edited tx moment s None k = sym (none_kept tx moment s.change.now.what k)
node_edited tx moment s (Some r) k = refl

finished_node : (w : Option Step) (d : Drafts) (n x : Slots) → may_wait d w ≡ true → IsFinished w n x → (p : PathNames) → node_of (record_at x p) ≡ pended w p (node_of (record_at n p))
finished_node None d n x k u p = ap node_of (u p ∙ own_node (record_at n p))
finished_node (Some s) d n x k u p = ap node_of (u p) ∙ by_test (same_path p s.change.now.path)
    (λ b. node_of (with_node (cond b (edit s.tx s.moment s.change.now.what (node_of (record_at n p))) (node_of (record_at n p))) (record_at n p)) ≡ cond b (edit s.tx s.moment s.change.now.what (node_of (record_at n p))) (node_of (record_at n p)))
    (λ _. node_edited s.tx s.moment s (record_at n p) (and_left _ _ k)) (λ _. ap node_of (own_node (record_at n p)))

-- the draft stands over it as if the edit had been made there
finished_over : (w : Option Step) (d : Drafts) (n x : Slots) → may_wait d w ≡ true → IsFinished w n x → (p : PathNames) → node_over d x p ≡ pended w p (node_over d n p)
finished_over None d n x k u p = ap (or_node (tree.get path_cmp d p)) (finished_node None d n x k u p)
finished_over (Some s) d n x k u p =
    ap (or_node (tree.get path_cmp d p)) (finished_node (Some s) d n x k u p)
    ∙ by_test (same_path p s.change.now.path)
    (λ b. or_node (tree.get path_cmp d p) (cond b (edit s.tx s.moment s.change.now.what (node_of (record_at n p))) (node_of (record_at n p))) ≡ cond b (edit s.tx s.moment s.change.now.what (node_over d n p)) (node_over d n p))
    (λ t. alone (tree.get path_cmp d p) (ap (is_drafted d) (same_path_is p s.change.now.path t) ∙ not-true (is_drafted d s.change.now.path) (and_right _ _ k))) (λ _. refl)
  where
    alone : (o : Option (Option Node)) → is_some o ≡ false → or_node o (edit s.tx s.moment s.change.now.what (node_of (record_at n p))) ≡ edit s.tx s.moment s.change.now.what (or_node o (node_of (record_at n p)))
    alone None h = refl
    alone (Some y) h = absurd (false≢true (sym h))

-- OWNERS AND NAMES
pended_owner : (w : Option Step) (d : Drafts) (t : ℕ) (p : PathNames) (o : Option Node) → may_wait d w ≡ true → is_of t (pended w p o) ≡ is_of t o
pended_owner None d t p o k = refl
pended_owner (Some s) d t p o k = step (same_path p s.change.now.path)
  where
    step : (b : Bool) → is_of t (cond b (edit s.tx s.moment s.change.now.what o) o) ≡ is_of t o
    step true = owner_kept t s.tx s.moment s.change.now.what o (and_left _ _ k)
    step false = refl

pended_rises : (w : Option Step) (p : PathNames) (o : Option Node) → rises name_cmp (names_of o) ≡ true → rises name_cmp (names_of (pended w p o)) ≡ true
pended_rises None p o h = h
pended_rises (Some s) p o h = step (same_path p s.change.now.path)
  where
    step : (b : Bool) → rises name_cmp (names_of (cond b (edit s.tx s.moment s.change.now.what o) o)) ≡ true
    step true = edit_rises s.tx s.moment s.change.now.what o h
    step false = h

finished_ready : (w : Option Step) (d : Drafts) (n x : Slots) (q : Owners) → IsReady d n q → may_wait d w ≡ true → IsFinished w n x → IsReady d x q
finished_ready w d n x q r k u = record {
  places = λ t p l h. r.places t p l (sym (pended_owner w d t p (node_over d n p) k) ∙ ap (is_of t) (sym (finished_over w d n x k u p)) ∙ h);
  rising = λ p. ap (λ y. rises name_cmp (names_of y)) (finished_over w d n x k u p) ∙ pended_rises w p (node_over d n p) (r.rising p);
}

finished_owned : (w : Option Step) (d : Drafts) (n x : Slots) (q : Owners) → AreOwned n q → may_wait d w ≡ true → IsFinished w n x → AreOwned x q
finished_owned w d n x q a k u t p l =
    a t p l ∙ owner_of_node t (record_at n p)
    ∙ sym (owner_of_node t (record_at x p) ∙ ap (is_of t) (finished_node w d n x k u p) ∙ pended_owner w d t p (node_of (record_at n p)) k)

-- ALL WRITES
pub all_prepared : (ws : List Write) (i : ℕ) (w : Option Step) (d : Drafts) (m n x : Slots) (o q : Owners) → length ws ≤ i → ArePrepared ws i m o w d n q → AreOwned m o → IsFinished w n x → SameSlots n x → IsPrepared ws m d x q
all_prepared ws i w d m n x o q l h a f s = record {
  slots = same_slots ws n x s (all_slots ws i n l h.slots);
  ready = finished_ready w d n x q h.ready h.lone f;
  owned = finished_owned w d n x q (kept_owned m n o q h.grows.records h.grows.marks a) h.lone f;
  nodes = λ p. finished_over w d n x h.lone f p ∙ sym (h.nodes p ∙ all_nodes p ws i (pended w p (node_over d n p)) l);
  rests = λ p. ap rest_of (f p) ∙ rest_kept (pended w p (node_of (record_at n p))) (record_at n p) ∙ ap rest_of (h.grows.records p);
}

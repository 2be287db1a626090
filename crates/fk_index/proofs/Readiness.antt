-- What a transaction's writes are prepared by.
use Rattle.std.proofs.Common.{◌≡◌, ◌<◌, ℕ, ◌+◌, Bool, true, false, cond, eqb, ◌||◌, List, Option, Some, None, length, take, drop, get_or, refl, sym, ◌∙◌, ap, subst, arith}
use Rattle.std.specs.Prelude.{is_some}
use Rattle.std.specs.BTreeMap as tree
use Rattle.std.proofs.lemmas.Bool.{false≢true}
use Rattle.std.proofs.lemmas.Bool.Decides.{nat_tests}
use Rattle.fk_base.specs.Path.{Name, PathNames, name_cmp, path_cmp, same_path}
use Rattle.fk_tree.specs.Edit.{edit, with_bytes, with_child, without_child}
use Rattle.fk_tree.specs.Rows.{is_of, names_of}
use Rattle.fk_tree.specs.Sorted.{add_name, drop_name, has_name, rises}
use Rattle.fk_tree.specs.Tree.{map_some, up}
use Rattle.fk_tree.specs.declared.edit.Edit.{Edit}
use Rattle.fk_tree.specs.declared.edit.What.{What}
use Rattle.fk_tree.specs.declared.edit.What.TheVariants as what
use Rattle.fk_tree.specs.declared.node.Node.{Node}
use Rattle.fk_tree.proofs.Editing.{edit_rises}
use Rattle.fk_tree.proofs.Order.{same_path_is}
use Rattle.fk_store.specs.Answers.{has_owner}
use Rattle.fk_store.specs.declared.node_record.NodeRecord.{NodeRecord}
use Rattle.fk_store.specs.declared.write.Write.{Write}
use Rattle.fk_store.specs.Writes.{is_of_path}
use Rattle.fk_index.specs.Slots.{Slots, node_of, record_at, KeepSame}
use Rattle.fk_index.specs.Owners.{Owners, has_place, has_place_for, is_set, mark_at, AreOwned, KeepsPlaces}
use Rattle.fk_index.specs.Parts.{has_slot_of, have_slots, node_after, node_by, nodes_written}
use Rattle.fk_index.specs.Drafts.{Drafts, node_over, or_node, Grows, IsReady}
use Rattle.fk_index.specs.Waiting.{is_lone, keeps_owner, may_wait, pended, step_after, Begins, Edits, EditsNone, Stands}
use Rattle.fk_index.specs.declared.drafts.Step.{Step}
use Rattle.fk_index.proofs.Parts.{nodes_step, slots_taken}
use Rattle.fk_base.proofs.Logic.{and_left, by_test}

pub over_same : (d : Drafts) (m n : Slots) → KeepSame m n → (p : PathNames) → node_over d n p ≡ node_over d m p
over_same d m n k p = ap (λ x. or_node (tree.get path_cmp d p) (node_of x)) (k p)

pub rising_same : (d : Drafts) (m n : Slots) → KeepSame m n → ((p : PathNames) → rises name_cmp (names_of (node_over d m p)) ≡ true) → (p : PathNames) → rises name_cmp (names_of (node_over d n p)) ≡ true
rising_same d m n k r p = ap (λ o. rises name_cmp (names_of o)) (over_same d m n k p) ∙ r p

-- OWNERS
pub owner_of_node : (s : ℕ) (o : Option NodeRecord) → has_owner s o ≡ is_of s (node_of o)
owner_of_node s None = refl
owner_of_node s (Some r) = refl

marked_placed : (o : Option Bool) → is_set o ≡ true → is_some o ≡ true
marked_placed None h = h
marked_placed (Some b) h = refl

-- the path of an owned node has a place
pub owned_placed : (m : Slots) (o : Owners) (s : ℕ) (p : PathNames) → AreOwned m o → 0 < s → is_of s (node_of (record_at m p)) ≡ true → has_place o s p ≡ true
owned_placed m o s p a l h = marked_placed (mark_at o s p) (a s p l ∙ owner_of_node s (record_at m p) ∙ h)

owner_with_bytes : (s : ℕ) (bytes : List ℕ) (tx moment : ℕ) (o : Option Node) → is_of s (map_some (with_bytes bytes tx moment) o) ≡ is_of s o
owner_with_bytes s bytes tx moment None = refl
owner_with_bytes s bytes tx moment (Some n) = refl

owner_with_child : (s : ℕ) (x : Name) (tx : ℕ) (o : Option Node) → is_of s (map_some (with_child x tx) o) ≡ is_of s o
owner_with_child s x tx None = refl
owner_with_child s x tx (Some n) = step (has_name x n.names)
  where
    step : (b : Bool) → is_of s (Some (cond b n (record n { cversion = up n.cversion; made = up n.made; pzxid = tx; names = add_name x n.names }))) ≡ eqb n.owner s
    step true = refl
    step false = refl

owner_without_child : (s : ℕ) (x : Name) (tx : ℕ) (o : Option Node) → is_of s (map_some (without_child x tx) o) ≡ is_of s o
owner_without_child s x tx None = refl
owner_without_child s x tx (Some n) = step (has_name x n.names)
  where
    step : (b : Bool) → is_of s (Some (cond b (record n { cversion = up n.cversion; pzxid = tx; names = drop_name x n.names }) n)) ≡ eqb n.owner s
    step true = refl
    step false = refl

-- an edit that leaves a node its owner
pub owner_kept : (s tx moment : ℕ) (w : What) (o : Option Node) → keeps_owner w ≡ true → is_of s (edit tx moment w o) ≡ is_of s o
owner_kept s tx moment (what.Make bytes owner) o k = absurd (false≢true k)
owner_kept s tx moment (what.Replace bytes) o k = owner_with_bytes s bytes tx moment o
owner_kept s tx moment what.Remove o k = absurd (false≢true k)
owner_kept s tx moment (what.AddName n) o k = owner_with_child s n tx o
owner_kept s tx moment (what.DropName n) o k = owner_without_child s n tx o

-- it makes nothing of nothing
pub none_kept : (tx moment : ℕ) (w : What) → keeps_owner w ≡ true → edit tx moment w None ≡ None
none_kept tx moment (what.Make bytes owner) k = absurd (false≢true k)
none_kept tx moment (what.Replace bytes) k = refl
none_kept tx moment what.Remove k = refl
none_kept tx moment (what.AddName n) k = refl
none_kept tx moment (what.DropName n) k = refl

-- it needs no place for an owner
kept_placed : (o : Owners) (p : PathNames) (w : What) → keeps_owner w ≡ true → has_place_for o p w ≡ true
kept_placed o p (what.Make bytes owner) k = absurd (false≢true k)
kept_placed o p (what.Replace bytes) k = refl
kept_placed o p what.Remove k = refl
kept_placed o p (what.AddName n) k = refl
kept_placed o p (what.DropName n) k = refl

made_placed : (o : Owners) (s owner : ℕ) (p : PathNames) → 0 < s → (eqb owner 0 || has_place o owner p) ≡ true → eqb owner s ≡ true → has_place o s p ≡ true
made_placed o s owner p l m e = let same : owner ≡ s = grind (arith, nat_tests) in rw (← same) (other (eqb owner 0) refl m)
  where
    other : (b : Bool) → eqb owner 0 ≡ b → (b || has_place o owner p) ≡ true → has_place o owner p ≡ true
    other true z m = let none : ⊥ = grind (arith, nat_tests) in absurd none
    other false z m = m

-- an edited node's owner has a place where the old one's has, and the new one's
edited_placed : (o : Owners) (s tx moment : ℕ) (p : PathNames) (w : What) (x : Option Node) → 0 < s → has_place_for o p w ≡ true → (is_of s x ≡ true → has_place o s p ≡ true) → is_of s (edit tx moment w x) ≡ true → has_place o s p ≡ true
edited_placed o s tx moment p (what.Make bytes owner) x l m f h = made_placed o s owner p l m h
edited_placed o s tx moment p (what.Replace bytes) x l m f h = f (sym (owner_with_bytes s bytes tx moment x) ∙ h)
edited_placed o s tx moment p what.Remove x l m f h = absurd (false≢true h)
edited_placed o s tx moment p (what.AddName n) x l m f h = f (sym (owner_with_child s n tx x) ∙ h)
edited_placed o s tx moment p (what.DropName n) x l m f h = f (sym (owner_without_child s n tx x) ∙ h)

-- STEPS
-- a write that makes nothing of nodes
pub unchanged : (w : Write) (p : PathNames) (o : Option Node) → node_by w o ≡ o → o ≡ node_after w p o
unchanged w p o e = step (is_of_path p w)
  where
    step : (b : Bool) → o ≡ cond b (node_by w o) o
    step true = sym e
    step false = refl

pub edit_ready : (tx moment : ℕ) (e : Edit) (d f : Drafts) (m n : Slots) (o q : Owners) → IsReady d m o → KeepSame m n → KeepsPlaces o q → has_place_for q e.path e.what ≡ true
    → ((p : PathNames) → node_over f n p ≡ cond (same_path p e.path) (edit tx moment e.what (node_over d n p)) (node_over d n p)) → IsReady f n q
edit_ready tx moment e d f m n o q r k g w u = record {
  places = λ s p l h. placed s p l (ap (is_of s) (sym (u p)) ∙ h);
  rising = λ p. ap (λ x. rises name_cmp (names_of x)) (u p) ∙ risen p (same_path p e.path);
}
  where
    old : (s : ℕ) (p : PathNames) → 0 < s → is_of s (node_over d n p) ≡ true → has_place q s p ≡ true
    old s p l h = g s p (r.places s p l (ap (is_of s) (sym (over_same d m n k p)) ∙ h))

    placed : (s : ℕ) (p : PathNames) → 0 < s → is_of s (cond (same_path p e.path) (edit tx moment e.what (node_over d n p)) (node_over d n p)) ≡ true → has_place q s p ≡ true
    placed s p l = by_test (same_path p e.path) (λ b. is_of s (cond b (edit tx moment e.what (node_over d n p)) (node_over d n p)) ≡ true → has_place q s p ≡ true)
        (λ t. edited_placed q s tx moment p e.what (node_over d n p) l (ap (λ x. has_place_for q x e.what) (same_path_is p e.path t) ∙ w) (old s p l))
        (λ _. old s p l)

    risen : (p : PathNames) (b : Bool) → rises name_cmp (names_of (cond b (edit tx moment e.what (node_over d n p)) (node_over d n p))) ≡ true
    risen p true = edit_rises tx moment e.what (node_over d n p) (rising_same d m n k r.rising p)
    risen p false = rising_same d m n k r.rising p

pub placed_ready : (d : Drafts) (n : Slots) (o q : Owners) → KeepsPlaces o q → IsReady d n o → IsReady d n q
placed_ready d n o q g r = record { places = λ s p l h. g s p (r.places s p l h); rising = r.rising }

-- more places change nothing that is ready
pub still_ready : (d : Drafts) (m n : Slots) (o : Owners) → KeepSame m n → IsReady d m o → IsReady d n o
still_ready d m n o k r = record { places = λ s p l h. r.places s p l (ap (is_of s) (sym (over_same d m n k p)) ∙ h); rising = rising_same d m n k r.rising }

-- THE EDIT THAT WAITS
-- it was made in the draft
pub flushed_ready : (w : Option Step) (d f : Drafts) (n : Slots) (q : Owners) → IsReady d n q → may_wait d w ≡ true → ((p : PathNames) → node_over f n p ≡ pended w p (node_over d n p)) → IsReady f n q
flushed_ready None d f n q r k u = record { places = λ s p l h. r.places s p l (ap (is_of s) (sym (u p)) ∙ h); rising = λ p. ap (λ x. rises name_cmp (names_of x)) (u p) ∙ r.rising p }
flushed_ready (Some s) d f n q r k u =
    edit_ready s.tx s.moment s.change.now d f n n q q r (λ p. refl) (λ t p h. h) (kept_placed q s.change.now.path s.change.now.what (and_left _ _ k)) u

-- the next one begins
pub begun : (s : Step) (v w : Option Step) (d f g : Drafts) (n : Slots) (q : Owners) → IsReady f n q → has_place_for q s.change.now.path s.change.now.what ≡ true
    → ((p : PathNames) → node_over f n p ≡ pended v p (node_over d n p)) → Begins f g n s w
    → Stands (λ p. step_after s p (pended v p (node_over d n p))) w g n q
begun s v None d f g n q r h u b = record {
  ready = edit_ready s.tx s.moment s.change.now f g n n q q r (λ p. refl) (λ t p i. i) h b;
  lone = refl;
  nodes = λ p. b p ∙ ap (step_after s p) (u p);
}
begun s v (Some t) d f g n q r h u b = record {
  ready = subst (λ x. IsReady x n q) (sym b.1) r;
  lone = ap (λ x. is_lone x t) b.1 ∙ ap (is_lone f) b.0 ∙ b.2;
  nodes = λ p. ap (λ x. step_after x p (node_over g n p)) b.0 ∙ ap (λ x. step_after s p (node_over x n p)) b.1 ∙ ap (step_after s p) (u p);
}

-- a write without an edit
pub waits_on : (w : Write) (v : Option Step) (d : Drafts) (m n : Slots) (o : Owners) → KeepSame m n → EditsNone w → IsReady d m o → may_wait d v ≡ true → Stands (λ p. node_after w p (pended v p (node_over d m p))) v d n o
waits_on w v d m n o k e r l = record {
  ready = still_ready d m n o k r;
  lone = l;
  nodes = λ p. ap (pended v p) (over_same d m n k p) ∙ e p (pended v p (node_over d m p));
}

-- a write with an edit
pub makes_edit : (s : Step) (w : Write) (v x : Option Step) (d e : Drafts) (m n : Slots) (o : Owners) → KeepSame m n → Edits s w
    → Stands (λ p. step_after s p (pended v p (node_over d n p))) x e n o → Stands (λ p. node_after w p (pended v p (node_over d m p))) x e n o
makes_edit s w v x d e m n o k h t = record {
  ready = t.ready;
  lone = t.lone;
  nodes = λ p. t.nodes p ∙ ap (λ y. step_after s p (pended v p y)) (over_same d m n k p) ∙ h p (pended v p (node_over d m p));
}

-- ALL WRITES
pub grows_on : (m n x : Slots) (o q y : Owners) → Grows m o n q → Grows n q x y → Grows m o x y
grows_on m n x o q y a b = record { records = λ p. b.records p ∙ a.records p; slots = λ p h. b.slots p (a.slots p h); marks = λ s p. b.marks s p ∙ a.marks s p }

-- what holds once some first writes are prepared
pub record ArePrepared (ws : List Write) (i : ℕ) (m : Slots) (o : Owners) (w : Option Step) (d : Drafts) (n : Slots) (q : Owners) : Type 0 where
  pub grows : Grows m o n q
  pub slots : have_slots n (take i ws) ≡ true
  pub ready : IsReady d n q
  pub lone : may_wait d w ≡ true
  pub nodes : (p : PathNames) → nodes_written p ws (node_of (record_at m p)) ≡ nodes_written p (drop i ws) (pended w p (node_over d n p))

pub one_prepared : (ws : List Write) (i : ℕ) (w : Write) (v z : Option Step) (m n x : Slots) (o q y : Owners) (d e : Drafts) → i < length ws → w ≡ get_or ws i w → ArePrepared ws i m o v d n q → Grows n q x y
    → has_slot_of x w ≡ true → Stands (λ p. node_after w p (pended v p (node_over d n p))) z e x y → ArePrepared ws (i + 1) m o z e x y
one_prepared ws i w v z m n x o q y d e l s a g h t = record {
  grows = grows_on m n x o q y a.grows g;
  slots = slots_taken ws i w n x l s g.slots a.slots h;
  ready = t.ready;
  lone = t.lone;
  nodes = λ p. a.nodes p ∙ nodes_step p ws i w (pended v p (node_over d n p)) l s ∙ ap (nodes_written p (drop (i + 1) ws)) (sym (t.nodes p));
}

-- An ordered map of slots: what is found, put and taken out there, path by path.
use Rattle.std.proofs.Common.{◌≡◌, Bool, true, false, cond, ◌||◌, List, [], ◌∷◌, Option, Some, None, refl, sym, ◌∙◌, ap}
use Rattle.std.specs.Prelude.{is_some, IsSome}
use Rattle.std.specs.BTreeMap as tree
use Rattle.std.specs.BTreeMap.{BTreeMap, is_at, WritesThrough}
use Rattle.std.specs.Map.{lookup}
use Rattle.fk_base.specs.Path.{PathNames, path_cmp, same_path}
use Rattle.fk_tree.specs.declared.node.Node.{Node}
use Rattle.fk_tree.specs.Tree.{map_some}
use Rattle.fk_tree.specs.Rows.{Row, row_node, has_row}
use Rattle.fk_tree.proofs.Order.{same_path_is, same_path_self}
use Rattle.fk_base.proofs.Logic.{by_test}

abbrev pub Slots : Type 0
Slots = BTreeMap PathNames (Option Node)

abbrev pub flat : Option (Option Node) → Option Node
flat None = None
flat (Some o) = o

-- what is looked up
pub looked_up : (p : PathNames) (rs : List Row) → row_node p rs ≡ flat (lookup (is_at (path_cmp p)) rs)
looked_up p [] = refl
looked_up p (r ∷ rs) = step (same_path p r.0) (looked_up p rs)
  where
    step : (b : Bool) → row_node p rs ≡ flat (lookup (is_at (path_cmp p)) rs) → cond b r.1 (row_node p rs) ≡ flat (cond b (Some r.1) (lookup (is_at (path_cmp p)) rs))
    step true e = refl
    step false e = e

pub row_there : (p : PathNames) (rs : List Row) → has_row p rs ≡ is_some (lookup (is_at (path_cmp p)) rs)
row_there p [] = refl
row_there p (r ∷ rs) = step (same_path p r.0) (row_there p rs)
  where
    step : (b : Bool) → has_row p rs ≡ is_some (lookup (is_at (path_cmp p)) rs) → (b || has_row p rs) ≡ is_some (cond b (Some r.1) (lookup (is_at (path_cmp p)) rs))
    step true e = refl
    step false e = e

pub node_looked_up : (p : PathNames) (rs : List Row) (o : Option (Option Node)) → o ≡ lookup (is_at (path_cmp p)) rs → row_node p rs ≡ flat o
node_looked_up p rs o e = looked_up p rs ∙ sym (ap flat e)

-- the same both ways
pub same_flip : (p q : PathNames) → same_path p q ≡ same_path q p
same_flip p q = by_test (same_path p q) (λ b. b ≡ same_path q p) (λ e. rw (same_path_is p q e) (sym (same_path_self q))) (λ e. by_test (same_path q p) (λ b. false ≡ b) (λ f. sym e ∙ rw (same_path_is q p f) (same_path_self p)) (λ _. refl))

-- one key has this, and the others keep theirs
abbrev pub IsUpdated : Slots → Slots → PathNames → Option (Option Node) → Type 0
IsUpdated m n k w = (q : PathNames) → tree.get path_cmp n q ≡ cond (is_at (path_cmp k) q) w (tree.get path_cmp m q)

pub updated_node : (m n : Slots) (k : PathNames) (w : Option (Option Node)) → IsUpdated m n k w → (q : PathNames) → row_node q n.entries ≡ cond (same_path q k) (flat w) (row_node q m.entries)
updated_node m n k w u q = looked_up q n.entries ∙ ap flat (u q) ∙ rw (same_flip k q, looked_up q m.entries) (step (same_path q k) (lookup (is_at (path_cmp q)) m.entries))
  where
    step : (b : Bool) (o : Option (Option Node)) → flat (cond b w o) ≡ cond b (flat w) (flat o)
    step true o = refl
    step false o = refl

pub updated_row : (m n : Slots) (k : PathNames) (w : Option (Option Node)) → IsUpdated m n k w → (q : PathNames) → has_row q n.entries ≡ cond (same_path q k) (is_some w) (has_row q m.entries)
updated_row m n k w u q = row_there q n.entries ∙ ap is_some (u q) ∙ rw (same_flip k q, row_there q m.entries) (step (same_path q k) (lookup (is_at (path_cmp q)) m.entries))
  where
    step : (b : Bool) (o : Option (Option Node)) → is_some (cond b w o) ≡ cond b (is_some w) (is_some o)
    step true o = refl
    step false o = refl

-- an empty slot where there was none
pub none_put : (m n : Slots) (k : PathNames) → is_some (tree.get path_cmp m k) ≡ false → IsUpdated m n k (Some None) → (q : PathNames) → row_node q n.entries ≡ row_node q m.entries
none_put m n k e u q = updated_node m n k (Some None) u q ∙ by_test (same_path q k) (λ b. cond b None (row_node q m.entries) ≡ row_node q m.entries) (λ s. sym (looked_up q m.entries ∙ rw (same_path_is q k s) (empty (tree.get path_cmp m k) e))) (λ _. refl)
  where
    empty : (o : Option (Option Node)) → is_some o ≡ false → flat o ≡ None
    empty None e = refl
    empty (Some x) e = absurd (cc)

pub rows_put : (m n : Slots) (k : PathNames) (o : Option Node) → IsUpdated m n k (Some o) → (q : PathNames) → has_row q m.entries ≡ true → has_row q n.entries ≡ true
rows_put m n k o u q h = updated_row m n k (Some o) u q ∙ rw h (step (same_path q k))
  where
    step : (b : Bool) → cond b true true ≡ true
    step true = refl
    step false = refl

pub looked_some : (p : PathNames) (rs : List Row) → has_row p rs ≡ true → IsSome (lookup (is_at (path_cmp p)) rs)
looked_some p rs h = sym (row_there p rs) ∙ h

-- a node put where there is a row
pub kept_row : (m n : Slots) (k : PathNames) (o : Option Node) → has_row k m.entries ≡ true → IsUpdated m n k (Some o) → (q : PathNames) → has_row q n.entries ≡ has_row q m.entries
kept_row m n k o h u q = updated_row m n k (Some o) u q ∙ by_test (same_path q k) (λ b. cond b true (has_row q m.entries) ≡ has_row q m.entries) (λ s. rw (same_path_is q k s) (sym h)) (λ _. refl)

-- AT THE CALLS
-- what a look-up lends is the node of the path
pub slot_is : (m : Slots) (k : PathNames) (o : Option Node) → Some o ≡ tree.get path_cmp m k → row_node k m.entries ≡ o
slot_is m k o e = looked_up k m.entries ∙ sym (ap flat e)

pub slot_missing : (m : Slots) (k : PathNames) → None ≡ tree.get path_cmp m k → row_node k m.entries ≡ None
slot_missing m k e = looked_up k m.entries ∙ sym (ap flat e)

-- the node of a path written through what a look-up lent
abbrev pub IsWritten : Slots → PathNames → (Option Node → Slots) → Type 0
IsWritten m k l = (w : Option Node) → WritesThrough path_cmp (path_cmp k) m w (l w)

pub one_changed : (m : Slots) (k : PathNames) (l : Option Node → Slots) (f : Node → Node) (o v : Option Node) → Some o ≡ tree.get path_cmp m k → IsWritten m k l → v ≡ map_some f o → (q : PathNames) → row_node q (l v).entries ≡ cond (same_path q k) (map_some f (row_node q m.entries)) (row_node q m.entries)
one_changed m k l f o v e w s q =
    updated_node m (l v) k (Some v) ((w v).3 (sym (ap is_some e))).0 q
    ∙ by_test (same_path q k) (λ b. cond b v (row_node q m.entries) ≡ cond b (map_some f (row_node q m.entries)) (row_node q m.entries)) (λ t. s ∙ ap (map_some f) (sym (slot_is m k o e)) ∙ rw (same_path_is q k t) refl) (λ _. refl)

pub none_changed : (m n : Slots) (k : PathNames) (f : Node → Node) → None ≡ tree.get path_cmp m k → n ≡ m → (q : PathNames) → row_node q n.entries ≡ cond (same_path q k) (map_some f (row_node q m.entries)) (row_node q m.entries)
none_changed m n k f e same q = rw same (by_test (same_path q k) (λ b. row_node q m.entries ≡ cond b (map_some f (row_node q m.entries)) (row_node q m.entries)) (λ t. rw (same_path_is q k t, slot_missing m k e) refl) (λ _. refl))

pub same_written : (m : Slots) (k : PathNames) (l : Option Node → Slots) (o v : Option Node) → Some o ≡ tree.get path_cmp m k → IsWritten m k l → v ≡ o → (q : PathNames) → row_node q (l v).entries ≡ row_node q m.entries
same_written m k l o v e w s q =
    updated_node m (l v) k (Some v) ((w v).3 (sym (ap is_some e))).0 q
    ∙ by_test (same_path q k) (λ b. cond b v (row_node q m.entries) ≡ row_node q m.entries) (λ t. s ∙ sym (slot_is m k o e) ∙ rw (same_path_is q k t) refl) (λ _. refl)

pub rows_written : (m : Slots) (k : PathNames) (l : Option Node → Slots) (o v : Option Node) → Some o ≡ tree.get path_cmp m k → IsWritten m k l → (q : PathNames) → has_row q (l v).entries ≡ has_row q m.entries
rows_written m k l o v e w = kept_row m (l v) k v (row_there k m.entries ∙ sym (ap is_some e)) ((w v).3 (sym (ap is_some e))).0

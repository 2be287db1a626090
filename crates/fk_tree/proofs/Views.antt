-- What a tree shows after a change of its nodes: path by path, what the edits of that path leave.
use Rattle.std.proofs.Common.{◌≡◌, ℕ, Bool, true, false, cond, eqb, ◌&&◌, ◌||◌, T, List, [], ◌∷◌, ◌++◌, Option, Some, None, refl, sym, ◌∙◌, ap, subst, arith}
use Rattle.std.specs.Prelude.{is_some}
use Rattle.std.specs.Ordering.{is_lt}
use Rattle.std.specs.FinMap.{get, insert, entries, find, is_sorted, get-entries, entries_sorted, get-insert}
use Rattle.std.specs.FinMap.Entries.{below_all}
use Rattle.std.proofs.lemmas.Bool.{false≢true}
use Rattle.fk_base.specs.Path.{Name, PathNames, name_cmp, path_cmp, same_name, same_path, parent, last_name, is_root}
use Rattle.fk_tree.specs.declared.edit.What.TheVariants as what
use Rattle.fk_tree.specs.Sorted.{has_name, add_name, is_below, rises}
use Rattle.fk_tree.specs.Tree.{Bare, Nodes, name_under, with_first, names_under, children, with_names, map_some, node_view, fresh}
use Rattle.fk_tree.specs.Edit.{edit, edited, create_edits, set_edits}
use Rattle.fk_tree.specs.Rows.{HasParents, is_free}
use Rattle.fk_tree.specs.Apply.{grown, replaced, put_some, at_path, create_node, set_node}
use Rattle.fk_tree.proofs.Order.{tested, tested_left, tested_right, name_total, name_exact, path_total, same_path_is, names_it, child_is, child_order, name_under_is, same_child, child_apart, child_parts}
use Rattle.fk_tree.proofs.Rising.{same_rising, has_with, rises_with}
use Rattle.fk_base.proofs.Logic.{by_test}

has_with_first : (n : Name) (o : Option Name) (ns : List Name) → has_name n (with_first o ns) ≡ (names_it n o || has_name n ns)
has_with_first n None ns = refl
has_with_first n (Some m) ns = refl

has_under : (p : PathNames) (n : Name) (es : List (PathNames × Bare)) → has_name n (names_under p es) ≡ is_some (find path_cmp (p ++ n ∷ []) es)
has_under p n [] = refl
has_under p n (e ∷ es) = grind (arith, has_with_first n (name_under p e.0) (names_under p es), child_is p e.0 n, has_under p n es)

-- a path's child names are the names under which it has nodes
pub has_children : (t : Nodes) (p : PathNames) (n : Name) → has_name n (children t p) ≡ is_some (get t (p ++ n ∷ []))
has_children t p n = has_under p n (entries t) ∙ ap is_some (sym (get-entries t (p ++ n ∷ [])))

below_under : (p q : PathNames) (n : Name) (es : List (PathNames × Bare)) → name_under p q ≡ Some n → T (below_all path_cmp q es) → is_below name_cmp n (names_under p es) ≡ true
below_under p q n [] a h = refl
below_under p q n (e ∷ es) a h =
    step (name_under p e.0) (names_under p es) (λ m b. sym (order m b) ∙ tested _ (tested_left _ _ h)) (below_under p q n es a (tested_right _ _ h))
  where
    order : (m : Name) → name_under p e.0 ≡ Some m → is_lt (path_cmp q e.0) ≡ is_lt (name_cmp n m)
    order m b = rw (name_under_is p q n a, name_under_is p e.0 m b) (ap is_lt (child_order p n m))

    step : (o : Option Name) (ns : List Name) → ((m : Name) → o ≡ Some m → is_lt (name_cmp n m) ≡ true) → is_below name_cmp n ns ≡ true → is_below name_cmp n (with_first o ns) ≡ true
    step None ns f h = h
    step (Some m) ns f h = grind (arith, f m refl)

rising_under : (p : PathNames) (es : List (PathNames × Bare)) → T (is_sorted path_cmp es) → rises name_cmp (names_under p es) ≡ true
rising_under p [] h = refl
rising_under p (e ∷ es) h = step (name_under p e.0) (names_under p es) (λ n a. below_under p e.0 n es a (tested_left _ _ h)) (rising_under p es (tested_right _ _ h))
  where
    step : (o : Option Name) (ns : List Name) → ((m : Name) → o ≡ Some m → is_below name_cmp m ns ≡ true) → rises name_cmp ns ≡ true → rises name_cmp (with_first o ns) ≡ true
    step None ns f h = h
    step (Some m) ns f h = grind (arith, f m refl)

pub rising_children : (t : Nodes) (p : PathNames) → rises name_cmp (children t p) ≡ true
rising_children t p = rising_under p (entries t) (entries_sorted t)

-- the child names are the rising names under which there are nodes
pub children_of : (t : Nodes) (p : PathNames) (ns : List Name) → rises name_cmp ns ≡ true → ((n : Name) → is_some (get t (p ++ n ∷ [])) ≡ has_name n ns) → children t p ≡ ns
children_of t p ns r h = same_rising name_total name_exact (children t p) ns (rising_children t p) r (λ n. has_children t p n ∙ h n)

pub children_like : (t u : Nodes) (p : PathNames) → ((n : Name) → is_some (get t (p ++ n ∷ [])) ≡ is_some (get u (p ++ n ∷ []))) → children t p ≡ children u p
children_like t u p h = children_of t p (children u p) (rising_children u p) (λ n. h n ∙ sym (has_children u p n))

-- LOOKING UP
pub get_at_path : (p : PathNames) (f : Bare → Bare) (t : Nodes) (q : PathNames) → get (at_path p f t) q ≡ cond (same_path q p) (map_some f (get t q)) (get t q)
get_at_path p f t q = step (get t p) refl
  where
    step : (o : Option Bare) → get t p ≡ o → get (put_some p (map_some f o) t) q ≡ cond (same_path q p) (map_some f (get t q)) (get t q)
    step None e = grind (arith, same_path_is q p)
    step (Some b) e = get-insert path_total t p (f b) q ∙ grind (arith, same_path_is q p)

pub some_at_path : (p : PathNames) (f : Bare → Bare) (t : Nodes) (q : PathNames) → is_some (get (at_path p f t) q) ≡ is_some (get t q)
some_at_path p f t q = rw (get_at_path p f t q) (step (same_path q p) (get t q))
  where
    step : (b : Bool) (o : Option Bare) → is_some (cond b (map_some f o) o) ≡ is_some o
    step true None = refl
    step true (Some x) = refl
    step false o = refl

children_at_path : (p : PathNames) (f : Bare → Bare) (t : Nodes) (q : PathNames) → children (at_path p f t) q ≡ children t q
children_at_path p f t q = children_like (at_path p f t) t q (λ n. some_at_path p f t (q ++ n ∷ []))

-- SET
pub set_view : (t : Nodes) (p q : PathNames) (bytes : List ℕ) (tx moment : ℕ) → node_view (set_node p bytes tx moment t) q ≡ edited tx moment q (set_edits p bytes) (node_view t q)
set_view t p q bytes tx moment = rw (children_at_path p (replaced bytes tx moment) t q, get_at_path p (replaced bytes tx moment) t q) (step (same_path q p) (children t q) (get t q))
  where
    step : (b : Bool) (ns : List Name) (o : Option Bare) → map_some (with_names ns) (cond b (map_some (replaced bytes tx moment) o) o) ≡ cond b (edit tx moment (what.Replace bytes) (map_some (with_names ns) o)) (map_some (with_names ns) o)
    step true ns None = refl
    step true ns (Some n) = refl
    step false ns o = refl

-- a node that no session owns is there
pub free_some : (o : Option Bare) → is_free o ≡ true → is_some o ≡ true
free_some None e = e
free_some (Some b) e = refl

-- a change of a node that keeps its owner
pub free_at_path : (p : PathNames) (f : Bare → Bare) (t : Nodes) (q : PathNames) → ((b : Bare) → (f b).owner ≡ b.owner) → is_free (get (at_path p f t) q) ≡ is_free (get t q)
free_at_path p f t q k = rw (get_at_path p f t q) (step (same_path q p) (get t q))
  where
    step : (b : Bool) (o : Option Bare) → is_free (cond b (map_some f o) o) ≡ is_free o
    step true None = refl
    step true (Some x) = ap (λ n. eqb n 0) (k x)
    step false o = refl

-- CREATE
-- a missing path has no child
pub no_child : (t : Nodes) → HasParents t → (p : PathNames) (n : Name) → is_some (get t p) ≡ false → is_some (get t (p ++ n ∷ [])) ≡ false
no_child t h p n e = by_test (is_some (get t (p ++ n ∷ []))) (λ b. b ≡ false) (λ s. sym (free_some (get t p) (h p n s)) ∙ e) (λ _. refl)

-- the nodes after a create of the child x of d
abbrev pub with_node : Nodes → PathNames → Name → Bare → ℕ → Nodes
with_node t d x b tx = insert (at_path d (grown tx) t) (d ++ x ∷ []) b

get_create : (t : Nodes) (d q : PathNames) (x : Name) (b : Bare) (tx : ℕ) → get (with_node t d x b tx) q ≡ cond (same_path q (d ++ x ∷ [])) (Some b) (cond (same_path q d) (map_some (grown tx) (get t q)) (get t q))
get_create t d q x b tx = get-insert path_total (at_path d (grown tx) t) (d ++ x ∷ []) b q ∙ ap (cond (same_path q (d ++ x ∷ [])) (Some b)) (get_at_path d (grown tx) t q)

pub some_create : (t : Nodes) (d q : PathNames) (x : Name) (b : Bare) (tx : ℕ) → is_some (get (with_node t d x b tx) q) ≡ (same_path q (d ++ x ∷ []) || is_some (get t q))
some_create t d q x b tx =
    ap is_some (get-insert path_total (at_path d (grown tx) t) (d ++ x ∷ []) b q)
    ∙ step (same_path q (d ++ x ∷ [])) (get (at_path d (grown tx) t) q)
    ∙ rw (some_at_path d (grown tx) t q) refl
  where
    step : (c : Bool) (o : Option Bare) → is_some (cond c (Some b) o) ≡ (c || is_some o)
    step true o = refl
    step false o = refl

children_create : (t : Nodes) (d q : PathNames) (x : Name) (b : Bare) (tx : ℕ) → children (with_node t d x b tx) q ≡ cond (same_path q d) (add_name x (children t q)) (children t q)
children_create t d q x b tx =
    children_of _ q _ (rising (same_path q d)) (λ n. some_create t d (q ++ n ∷ []) x b tx ∙ rw (same_child q d n x, ← has_children t q n) (members n (same_path q d)))
  where
    rising : (c : Bool) → rises name_cmp (cond c (add_name x (children t q)) (children t q)) ≡ true
    rising true = rises_with name_total name_exact x (children t q) (rising_children t q)
    rising false = rising_children t q

    members : (n : Name) (c : Bool) → ((c && same_name n x) || has_name n (children t q)) ≡ has_name n (cond c (add_name x (children t q)) (children t q))
    members n true = sym (has_with name_total name_exact n x (children t q))
    members n false = refl

child_view : (t : Nodes) (d q : PathNames) (x : Name) (bytes : List ℕ) (owner tx moment : ℕ) → HasParents t → is_some (get t (d ++ x ∷ [])) ≡ false
    → node_view (with_node t d x (fresh bytes owner tx moment) tx) q
    ≡ edited tx moment q (record { path = d ++ x ∷ []; what = what.Make bytes owner } ∷ record { path = d; what = what.AddName x } ∷ []) (node_view t q)
child_view t d q x bytes owner tx moment h free =
    rw (children_create t d q x (fresh bytes owner tx moment) tx, get_create t d q x (fresh bytes owner tx moment) tx)
    (by_test (same_path q (d ++ x ∷ []))
    (λ c. map_some (with_names (cond (same_path q d) (add_name x (children t q)) (children t q))) (cond c (Some (fresh bytes owner tx moment)) (cond (same_path q d) (map_some (grown tx) (get t q)) (get t q)))
    ≡ cond (same_path q d) (edit tx moment (what.AddName x) (cond c (edit tx moment (what.Make bytes owner) (node_view t q)) (node_view t q))) (cond c (edit tx moment (what.Make bytes owner) (node_view t q)) (node_view t q)))
    (λ e. let none : children t (d ++ x ∷ []) ≡ [] = children_of t (d ++ x ∷ []) [] refl (λ n. no_child t h (d ++ x ∷ []) n free) in
    rw (same_path_is q (d ++ x ∷ []) e) (rw (child_apart d x, none) refl))
    (λ _. step (same_path q d) (children t q) (get t q) (λ e. has_children t q x ∙ rw (same_path_is q d e) free)))
  where
    step : (c : Bool) (ns : List Name) (o : Option Bare) → (c ≡ true → has_name x ns ≡ false) → map_some (with_names (cond c (add_name x ns) ns)) (cond c (map_some (grown tx) o) o) ≡ cond c (edit tx moment (what.AddName x) (map_some (with_names ns) o)) (map_some (with_names ns) o)
    step true ns None f = refl
    step true ns (Some n) f = rw (f refl) refl
    step false ns o f = refl

-- at a free path that isn't the root
pub create_view : (t : Nodes) (p q : PathNames) (bytes : List ℕ) (owner tx moment : ℕ) → HasParents t → is_root p ≡ false → is_some (get t p) ≡ false
    → node_view (create_node p bytes owner tx moment t) q ≡ edited tx moment q (create_edits p bytes owner) (node_view t q)
create_view t [] q bytes owner tx moment h r free = absurd (false≢true (sym r))
create_view t (x ∷ p) q bytes owner tx moment h r free =
    subst (λ c. node_view (insert (at_path (parent (x ∷ p)) (grown tx) t) c (fresh bytes owner tx moment)) q ≡ edited tx moment q (record { path = c; what = what.Make bytes owner } ∷ record { path = parent (x ∷ p); what = what.AddName (last_name (x ∷ p)) } ∷ []) (node_view t q))
    (sym (child_parts x p))
    (child_view t (parent (x ∷ p)) q (last_name (x ∷ p)) bytes owner tx moment h (subst (λ c. is_some (get t c) ≡ false) (child_parts x p) free))

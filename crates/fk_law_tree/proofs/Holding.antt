-- What is read and edited is locked, and what is read is edited.
use Rattle.std.specs.Cmp.{both_ways}
use Rattle.std.proofs.Common.{◌≡◌, ℕ, Bool, true, false, cond, eqb, ◌||◌, List, [], ◌∷◌, ◌++◌, Option, Some, None, refl, sym, ◌∙◌, ap, subst}
use Rattle.std.proofs.lemmas.Bool.{false≢true, or_right}
use Rattle.fk_base.specs.Path.{PathNames, parent, last_name, is_root, same_path}
use Rattle.fk_tree.specs.Sorted.{has_path, in_path_order}
use Rattle.fk_tree.specs.View.{View}
use Rattle.fk_tree.specs.Edit.{of_parent, owner_for, effects, effects_of, create_edits, delete_edits, deletes_edits, part_edits, parts_edits}
use Rattle.fk_tree.specs.Fill.{final_path, made_of, fill_name, fill_made, fill_part, fill_parts, after_part}
use Rattle.fk_tree.specs.Check.{check_open}
use Rattle.fk_tree.specs.Touch.{edit_paths, edited_paths}
use Rattle.fk_tree.specs.Locks.{with_parent, with_parents, numbered_path, numbered_paths, part_lock_paths, parts_lock_paths, lock_paths}
use Rattle.fk_tree.specs.declared.applied.Applied.{Applied}
use Rattle.fk_tree.specs.declared.edit.What.{What}
use Rattle.fk_tree.specs.declared.edit.What.TheVariants as what
use Rattle.fk_tree.specs.declared.node.Node.{Node}
use Rattle.fk_tree.specs.declared.request.Part.{Part}
use Rattle.fk_tree.specs.declared.request.Part.TheVariants as part
use Rattle.fk_tree.specs.declared.request.Request.{Request}
use Rattle.fk_tree.specs.declared.request.Request.TheVariants as request
use Rattle.fk_tree.specs.Rows.{is_of}
use Rattle.fk_tree.proofs.Order.{same_path_is, same_path_self}
use Rattle.fk_tree.proofs.Passing.{final_child, final_parent, passed_open, placed_none}
use Rattle.fk_law_tree.specs.Locking.{Within, EditsAreLocked, owned_final, ReadsAreLocked, ReadsAreEdited, ListsOwned, GoneIsOwned, FitsByItsEdits, LocksReadLocked}
use Rattle.fk_law_tree.specs.Reading.{final_paths, create_reads, part_reads, parts_reads, reads, AgreeOn}
use Rattle.fk_law_tree.specs.Fitting.{GoneIs}
use Rattle.fk_law_tree.proofs.Lists.{ordered_has}
use Rattle.fk_law_tree.proofs.Members.{or_left, has_append, edit_paths_append}
use Rattle.fk_law_tree.proofs.Passing.{CreatePasses, passed_create}
use Rattle.fk_law_tree.proofs.Reading.{at_head, check_reads, fill_reads}
use Rattle.fk_base.proofs.Logic.{by_test}

-- LISTS
either : (a b c : Bool) → (a ≡ true → c ≡ true) → (b ≡ true → c ≡ true) → (a || b) ≡ true → c ≡ true
either true b c f g e = f refl
either false b c f g e = g e

pub within_append : (ps qs rs : List PathNames) → Within ps rs → Within qs rs → Within (ps ++ qs) rs
within_append ps qs rs f g p h = either (has_path p ps) (has_path p qs) (has_path p rs) (f p) (g p) (sym (has_append p ps qs) ∙ h)

pub within_left : (ps qs rs : List PathNames) → Within ps qs → Within ps (qs ++ rs)
within_left ps qs rs f p h = has_append p qs rs ∙ or_left (has_path p qs) (has_path p rs) (f p h)

pub within_right : (ps qs rs : List PathNames) → Within ps rs → Within ps (qs ++ rs)
within_right ps qs rs f p h = has_append p qs rs ∙ or_right (has_path p qs) (has_path p rs) (f p h)

into_order : (ps qs : List PathNames) → Within ps qs → Within ps (in_path_order qs)
into_order ps qs f p h = ordered_has qs p ∙ f p h

out_of_order : (ps qs : List PathNames) → Within ps qs → Within (in_path_order ps) qs
out_of_order ps qs f p h = f p (sym (ordered_has ps p) ∙ h)

pub agree_within : (v w : View) (ps qs : List PathNames) → Within ps qs → AgreeOn v w qs → AgreeOn v w ps
agree_within v w ps qs f a p h = a p (f p h)

-- A PATH AND ITS PARENT
-- in either order
pair_has : (p q : PathNames) (c w : What) → has_path p (edit_paths (record { path = q; what = c } ∷ of_parent q w)) ≡ has_path p (with_parent q)
pair_has p [] c w = refl
pair_has p (n ∷ q) c w = swapped (same_path p (n ∷ q)) (same_path p (parent (n ∷ q)))
  where
    swapped : (a b : Bool) → (a || (b || false)) ≡ (b || (a || false))
    swapped true true = refl
    swapped true false = refl
    swapped false b = refl

create_pair : (p q : PathNames) (bytes : List ℕ) (owner : ℕ) → has_path p (edit_paths (create_edits q bytes owner)) ≡ has_path p (with_parent q)
create_pair p q bytes owner = pair_has p q (what.Make bytes owner) (what.AddName (last_name q))

delete_pair : (p q : PathNames) → has_path p (edit_paths (delete_edits q)) ≡ has_path p (with_parent q)
delete_pair p q = pair_has p q what.Remove (what.DropName (last_name q))

-- the final path of a create that passes, with its parent
final_pair : (v : View) (p : PathNames) (seq : Bool) (c : CreatePasses v p seq) → with_parent (final_path p seq c.above.made) ≡ parent p ∷ final_path p seq c.above.made ∷ []
final_pair v p seq c = rw (final_child p seq c.above.made c.below_root, final_parent p seq c.above.made) refl

create_name : (v : View) (p : PathNames) (seq : Bool) (c : CreatePasses v p seq) → final_path p seq (made_of (v.node (parent p))) ≡ final_path p seq c.above.made
create_name v p seq c = rw c.there refl

create_reads_pair : (v : View) (p : PathNames) (seq : Bool) (c : CreatePasses v p seq) → create_reads v p seq ≡ parent p ∷ final_path p seq c.above.made ∷ []
create_reads_pair v p seq c = rw (c.below_root, c.there) refl

create_locks : (v : View) (p : PathNames) (seq : Bool) (c : CreatePasses v p seq) → cond seq (numbered_paths p (v.node (parent p))) (with_parent p) ≡ parent p ∷ final_path p seq c.above.made ∷ []
create_locks v p true c = rw (c.below_root, c.there, c.unowned) refl
create_locks v p false c = rw c.below_root refl

create_edited : (v : View) (p : PathNames) (seq : Bool) (bytes : List ℕ) (owner : ℕ) (name q : PathNames) → (c : CreatePasses v p seq) → name ≡ final_path p seq (made_of (v.node (parent p)))
    → has_path q (edit_paths (create_edits name bytes owner)) ≡ has_path q (parent p ∷ final_path p seq c.above.made ∷ [])
create_edited v p seq bytes owner name q c n = create_pair q name bytes owner ∙ ap (λ x. has_path q (with_parent x)) (n ∙ create_name v p seq c) ∙ ap (has_path q) (final_pair v p seq c)

-- CLOSES
deletes_pairs : (p : PathNames) (ps : List PathNames) → has_path p (edit_paths (deletes_edits ps)) ≡ has_path p (with_parents ps)
deletes_pairs p [] = refl
deletes_pairs p (q ∷ ps) =
    ap (has_path p) (edit_paths_append (delete_edits q) (deletes_edits ps))
    ∙ has_append p (edit_paths (delete_edits q)) (edit_paths (deletes_edits ps))
    ∙ rw (delete_pair p q, deletes_pairs p ps) (sym (has_append p (with_parent q) (with_parents ps)))

pair_of_one : (q : PathNames) (ps : List PathNames) → has_path q ps ≡ true → Within (with_parent q) (with_parents ps)
pair_of_one q [] m p h = absurd (false≢true m)
pair_of_one q (r ∷ ps) m p h =
    by_test (same_path q r) (λ c. (c || has_path q ps) ≡ true → has_path p (with_parent r ++ with_parents ps) ≡ true)
    (λ s _. has_append p (with_parent r) (with_parents ps) ∙ or_left _ _ (subst (λ x. has_path p (with_parent x) ≡ true) (same_path_is q r s) h))
    (λ _ n. has_append p (with_parent r) (with_parents ps) ∙ or_right (has_path p (with_parent r)) _ (pair_of_one q ps n p h))
    m

pairs_within : (ps qs : List PathNames) → Within ps qs → Within (with_parents ps) (with_parents qs)
pairs_within [] qs f = λ p h. absurd (false≢true h)
pairs_within (q ∷ ps) qs f =
    within_append (with_parent q) (with_parents ps) (with_parents qs)
    (pair_of_one q qs (f q (or_left (same_path q q) _ (same_path_self q))))
    (pairs_within ps qs (λ p h. f p (or_right (same_path p q) _ h)))

-- PARTS
part_pair : (p : PathNames) (v : View) (session : ℕ) (x : Part) → has_path p (edit_paths (part_edits session x (fill_part v x))) ≡ has_path p (part_lock_paths x)
part_pair p v session (part.Create q bytes eph) = create_pair p q bytes (owner_for session eph)
part_pair p v session (part.Set q bytes version) = refl
part_pair p v session (part.Delete q version) = delete_pair p q

parts_pairs : (p : PathNames) (v : View) (session : ℕ) (xs : List Part) → has_path p (edit_paths (parts_edits session xs (fill_parts v session xs))) ≡ has_path p (parts_lock_paths xs)
parts_pairs p v session [] = refl
parts_pairs p v session (x ∷ xs) =
    ap (has_path p) (edit_paths_append (part_edits session x (fill_part v x)) (parts_edits session xs (fill_parts (after_part v session x) session xs)))
    ∙ has_append p (edit_paths (part_edits session x (fill_part v x))) (edit_paths (parts_edits session xs (fill_parts (after_part v session x) session xs)))
    ∙ rw (part_pair p v session x, parts_pairs p (after_part v session x) session xs) (sym (has_append p (part_lock_paths x) (parts_lock_paths xs)))

create_reads_locked : (v : View) (p : PathNames) → Within (create_reads v p false) (with_parent p)
create_reads_locked v [] q h = h
create_reads_locked v (n ∷ p) q h = under (v.node (parent (n ∷ p))) h
  where
    left : (a b : Bool) → (a || false) ≡ true → (a || b) ≡ true
    left true b e = refl
    left false b e = absurd (false≢true e)

    under : (o : Option Node) → has_path q (parent (n ∷ p) ∷ final_paths (n ∷ p) false o) ≡ true → has_path q (parent (n ∷ p) ∷ (n ∷ p) ∷ []) ≡ true
    under None h = left (same_path q (parent (n ∷ p))) _ h
    under (Some d) h = h

with_its_parent : (p : PathNames) → Within (p ∷ []) (with_parent p)
with_its_parent [] q h = h
with_its_parent (n ∷ p) q h = or_right (same_path q (parent (n ∷ p))) _ h

part_reads_locked : (v : View) (x : Part) → Within (part_reads v x) (part_lock_paths x)
part_reads_locked v (part.Create p bytes eph) = create_reads_locked v p
part_reads_locked v (part.Set p bytes version) = λ q h. h
part_reads_locked v (part.Delete p version) = with_its_parent p

parts_reads_locked : (v : View) (session : ℕ) (xs : List Part) → Within (parts_reads v session xs) (parts_lock_paths xs)
parts_reads_locked v session [] = λ q h. h
parts_reads_locked v session (x ∷ xs) =
    within_append (part_reads v x) (parts_reads (after_part v session x) session xs) (part_lock_paths x ++ parts_lock_paths xs)
    (within_left (part_reads v x) (part_lock_paths x) (parts_lock_paths xs) (part_reads_locked v x))
    (within_right (parts_reads (after_part v session x) session xs) (part_lock_paths x) (parts_lock_paths xs) (parts_reads_locked (after_part v session x) session xs))

-- EDITS ARE LOCKED
request_locked : (v : View) (owned : List PathNames) (a : Applied) (r : Request) → check_open v a.session r ≡ None → a.name ≡ fill_name v r → a.made ≡ fill_made v a.session r → Within a.gone owned
    → Within (edit_paths (effects_of a r)) (lock_paths v owned r)
request_locked v owned a (request.Create p bytes seq eph) e n m g q h =
    let c : CreatePasses v p seq = passed_create v p seq (placed_none 0 _ e) in
    ap (has_path q) (create_locks v p seq c) ∙ sym (create_edited v p seq bytes (owner_for a.session eph) a.name q c n) ∙ h
request_locked v owned a (request.Set p bytes version) e n m g q h = h
request_locked v owned a (request.Delete p version) e n m g q h = sym (delete_pair q p) ∙ h
request_locked v owned a (request.Close evict) e n m g q h =
    ordered_has (with_parents owned) q ∙ pairs_within a.gone owned g q (sym (deletes_pairs q a.gone) ∙ h)
request_locked v owned a (request.Multi xs) e n m g q h =
    ordered_has (parts_lock_paths xs) q ∙ sym (ap (λ ms. has_path q (edit_paths (parts_edits a.session xs ms))) m ∙ parts_pairs q v a.session xs) ∙ h

pub edits_are_locked : EditsAreLocked
edits_are_locked v owned a f g =
    out_of_order (edit_paths (effects a)) (lock_paths v owned a.request)
    (request_locked v owned a a.request (passed_open v a.session a.request f.passes) f.name f.made g)

-- READS ARE LOCKED
numbered_locked : (v : View) (p : PathNames) → Within (create_reads v p true) (numbered_paths p (v.node (parent p)) ++ cond (is_root p) [] (owned_final p (v.node (parent p))))
numbered_locked v [] q h = h
numbered_locked v (n ∷ p) q h = under (v.node (parent (n ∷ p))) h
  where
    held : (b : Bool) (f : PathNames) → has_path q (f ∷ []) ≡ true → has_path q (cond b (f ∷ []) [] ++ cond b [] (f ∷ [])) ≡ true
    held true f h = h
    held false f h = h

    rest : (o : Option Node) → has_path q (final_paths (n ∷ p) true o) ≡ true → has_path q (numbered_path (n ∷ p) o ++ owned_final (n ∷ p) o) ≡ true
    rest None h = h
    rest (Some d) h = held (eqb d.owner 0) (final_path (n ∷ p) true d.made) h

    behind : (a b c : Bool) → (b ≡ true → c ≡ true) → (a || b) ≡ true → (a || c) ≡ true
    behind true b c f e = refl
    behind false b c f e = f e

    under : (o : Option Node) → has_path q (parent (n ∷ p) ∷ final_paths (n ∷ p) true o) ≡ true → has_path q ((parent (n ∷ p) ∷ numbered_path (n ∷ p) o) ++ owned_final (n ∷ p) o) ≡ true
    under o h = behind (same_path q (parent (n ∷ p))) _ _ (rest o) h

create_read_locked : (v : View) (p : PathNames) (seq : Bool) → Within (create_reads v p seq) (cond seq (numbered_paths p (v.node (parent p))) (with_parent p) ++ cond seq (cond (is_root p) [] (owned_final p (v.node (parent p)))) [])
create_read_locked v p true = numbered_locked v p
create_read_locked v p false = within_left (create_reads v p false) (with_parent p) [] (create_reads_locked v p)

pub reads_are_locked : ReadsAreLocked
reads_are_locked v owned session (request.Create p bytes seq eph) = create_read_locked v p seq
reads_are_locked v owned session (request.Set p bytes version) = λ q h. h
reads_are_locked v owned session (request.Delete p version) = within_left (p ∷ []) (with_parent p) [] (with_its_parent p)
reads_are_locked v owned session (request.Close evict) = λ q h. absurd (false≢true h)
reads_are_locked v owned session (request.Multi xs) = within_left (parts_reads v session xs) (in_path_order (parts_lock_paths xs)) [] (into_order (parts_reads v session xs) (parts_lock_paths xs) (parts_reads_locked v session xs))

-- READS ARE EDITED

parts_read_edited : (v : View) (session : ℕ) (xs : List Part) → Within (parts_reads v session xs) (edit_paths (parts_edits session xs (fill_parts v session xs)))
parts_read_edited v session xs q h = parts_pairs q v session xs ∙ parts_reads_locked v session xs q h

request_edited : (v : View) (a : Applied) (r : Request) → check_open v a.session r ≡ None → a.name ≡ fill_name v r → a.made ≡ fill_made v a.session r → Within (reads v a.session r) (edit_paths (effects_of a r))
request_edited v a (request.Create p bytes seq eph) e n m q h =
    let c : CreatePasses v p seq = passed_create v p seq (placed_none 0 _ e) in
    create_edited v p seq bytes (owner_for a.session eph) a.name q c n ∙ sym (ap (has_path q) (create_reads_pair v p seq c)) ∙ h
request_edited v a (request.Set p bytes version) e n m q h = h
request_edited v a (request.Delete p version) e n m q h = or_left (same_path q p) _ (one (same_path q p) h)
  where
    one : (b : Bool) → (b || false) ≡ true → b ≡ true
    one true e = refl
    one false e = e
request_edited v a (request.Close evict) e n m q h = absurd (false≢true h)
request_edited v a (request.Multi xs) e n m q h = ap (λ ms. has_path q (edit_paths (parts_edits a.session xs ms))) m ∙ parts_read_edited v a.session xs q h

pub reads_are_edited : ReadsAreEdited
reads_are_edited v a f = into_order (reads v a.session a.request) (edit_paths (effects a)) (request_edited v a a.request (passed_open v a.session a.request f.passes) f.name f.made)

-- CLOSES BY WHAT THEY EDIT

gone_edited : (ps : List PathNames) → Within ps (edit_paths (deletes_edits ps))
gone_edited ps p h = deletes_pairs p ps ∙ pair_of_one p ps h p (with_its_parent p p (or_left (same_path p p) _ (same_path_self p)))

gone_same : (v w : View) (a : Applied) (r : Request) → GoneIs v a.session r a.gone → AgreeOn v w (edit_paths (effects_of a r)) → ListsOwned w a.session r a.gone → GoneIs w a.session r a.gone
gone_same v w a (request.Create p bytes seq eph) g s l = g
gone_same v w a (request.Set p bytes version) g s l = g
gone_same v w a (request.Delete p version) g s l = g
gone_same v w a (request.Close evict) g s l = (g.0, λ p. both_ways (has_path p a.gone) (is_of a.session (w.node p)) (λ h. ap (is_of a.session) (sym (s p (gone_edited a.gone p h))) ∙ sym (g.1 p) ∙ h) (l p))
gone_same v w a (request.Multi xs) g s l = g

pub fits_by_its_edits : FitsByItsEdits
fits_by_its_edits v w a f c s l =
    let same : AgreeOn v w (reads v a.session a.request) = agree_within v w (reads v a.session a.request) (edited_paths a) (reads_are_edited v a f) s in
    record {
      session = f.session;
      passes = sym (check_reads v w a.session a.request c same) ∙ f.passes;
      name = f.name ∙ (fill_reads v w a.session a.request same).name;
      version = f.version ∙ (fill_reads v w a.session a.request same).version;
      made = f.made ∙ (fill_reads v w a.session a.request same).made;
      gone = gone_same v w a a.request f.gone (λ p h. s p (ordered_has (edit_paths (effects a)) p ∙ h)) l;
    }

gone_listed : (v : View) (owned : List PathNames) (a : Applied) (r : Request) → GoneIs v a.session r a.gone → ListsOwned v a.session r owned → Within a.gone owned
gone_listed v owned a (request.Create p bytes seq eph) g l = λ q h. absurd (false≢true (ap (has_path q) (sym g) ∙ h))
gone_listed v owned a (request.Set p bytes version) g l = λ q h. absurd (false≢true (ap (has_path q) (sym g) ∙ h))
gone_listed v owned a (request.Delete p version) g l = λ q h. absurd (false≢true (ap (has_path q) (sym g) ∙ h))
gone_listed v owned a (request.Close evict) g l = λ q h. l q (sym (g.1 q) ∙ h)
gone_listed v owned a (request.Multi xs) g l = λ q h. absurd (false≢true (ap (has_path q) (sym g) ∙ h))

pub gone_is_owned : GoneIsOwned
gone_is_owned v owned a f l = gone_listed v owned a a.request f.gone l

-- LOCK PATHS
numbered_same : (v w : View) (p : PathNames) → AgreeOn v w (numbered_paths p (v.node (parent p))) → numbered_paths p (v.node (parent p)) ≡ numbered_paths p (w.node (parent p))
numbered_same v w [] a = refl
numbered_same v w (n ∷ p) a = ap (numbered_paths (n ∷ p)) (at_head v w (parent (n ∷ p)) _ a)

create_locks_same : (v w : View) (p : PathNames) (seq : Bool) → AgreeOn v w (cond seq (numbered_paths p (v.node (parent p))) (with_parent p)) → cond seq (numbered_paths p (v.node (parent p))) (with_parent p) ≡ cond seq (numbered_paths p (w.node (parent p))) (with_parent p)
create_locks_same v w p true a = numbered_same v w p a
create_locks_same v w p false a = refl

pub locks_read_locked : LocksReadLocked
locks_read_locked v w owned (request.Create p bytes seq eph) a = create_locks_same v w p seq a
locks_read_locked v w owned (request.Set p bytes version) a = refl
locks_read_locked v w owned (request.Delete p version) a = refl
locks_read_locked v w owned (request.Close evict) a = refl
locks_read_locked v w owned (request.Multi xs) a = refl

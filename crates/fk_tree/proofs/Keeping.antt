-- Rows: what is edited, added and written there.
use Rattle.std.proofs.Common.{◌≡◌, ℕ, zero, suc, ◌+◌, ◌<◌, Bool, true, false, cond, eqb, ◌||◌, List, [], ◌∷◌, ◌++◌, Option, Some, None, length, take, drop, get_or, refl, sym, ◌∙◌, ap, subst, arith, drop-cons}
use Rattle.std.specs.Prelude.{Result, Ok, Err, OnOk, OnErr}
use Rattle.std.proofs.lemmas.Bool.Decides.{nat_tests}
use Rattle.std.proofs.lemmas.Bool.{false≢true}
use Rattle.std.proofs.lemmas.List.{take_more}
use Rattle.fk_base.specs.Path.{Name, PathNames, name_cmp, same_path}
use Rattle.fk_tree.specs.declared.node.Node.{Node}
use Rattle.fk_tree.specs.declared.edit.Edit.{Edit}
use Rattle.fk_tree.specs.declared.edit.What.{What}
use Rattle.fk_tree.specs.declared.edit.What.TheVariants as what
use Rattle.fk_tree.specs.declared.slots.Changed.{Changed}
use Rattle.fk_tree.specs.Sorted.{has_name, add_name, drop_name, rises}
use Rattle.fk_tree.specs.Tree.{map_some, up}
use Rattle.fk_tree.specs.Edit.{edit, edited, effects, create_edits, owner_for, delete_edits, deletes_edits, with_bytes, with_child, without_child}
use Rattle.fk_tree.specs.declared.applied.Applied.{Applied}
use Rattle.fk_tree.specs.declared.request.Request.TheVariants as request
use Rattle.fk_tree.specs.Rows.{Row, row_node, has_row, have_rows, changed_by, changes_by, changes_have_rows, written, names_of, is_of, is_noted, is_drop, are_drops, is_edit_noted, are_noted, AreEdited, AreNoted, AreRising, KeepSame, KeepsNotes}
use Rattle.fk_tree.proofs.Notes.{Sets}
use Rattle.fk_tree.proofs.Order.{same_path_is, name_total, name_exact}
use Rattle.fk_tree.proofs.Rising.{rises_without}
use Rattle.fk_base.proofs.Logic.{by_test}

-- EDITING
pub edited_step : (tx moment : ℕ) (p : PathNames) (es : List Edit) (i : ℕ) (d : Edit) (o : Option Node) → i < length es → edited tx moment p (drop i es) o ≡ edited tx moment p (drop (suc i) es) (cond (same_path p (get_or es i d).path) (edit tx moment (get_or es i d).what o) o)
edited_step tx moment p es i d o l = rw (drop-cons es i d l) refl

-- edits, and then others
pub edited_both : (tx moment : ℕ) (p : PathNames) (es fs : List Edit) (o : Option Node) → edited tx moment p (es ++ fs) o ≡ edited tx moment p fs (edited tx moment p es o)
edited_both tx moment p [] fs o = refl
edited_both tx moment p (e ∷ es) fs o = edited_both tx moment p es fs (cond (same_path p e.path) (edit tx moment e.what o) o)

pub edited_more : (tx moment : ℕ) (p : PathNames) (es : List Edit) (i : ℕ) (e : Edit) (o : Option Node) → i < length es → e ≡ get_or es i e → edited tx moment p (take (i + 1) es) o ≡ cond (same_path p e.path) (edit tx moment e.what (edited tx moment p (take i es) o)) (edited tx moment p (take i es) o)
edited_more tx moment p es i e o l s = rw (take_more es i e l, ← s) (edited_both tx moment p (take i es) (e ∷ []) o)

-- ADDING
have_more_rows : (es : List Edit) (e : Edit) (rows : List Row) → have_rows es rows ≡ true → has_row e.path rows ≡ true → have_rows (es ++ e ∷ []) rows ≡ true
have_more_rows [] e rows h a = rw a refl
have_more_rows (f ∷ es) e rows h a = step (has_row f.path rows) h (have_more_rows es e rows)
  where
    step : (b : Bool) → cond b (have_rows es rows) false ≡ true → (have_rows es rows ≡ true → has_row e.path rows ≡ true → have_rows (es ++ e ∷ []) rows ≡ true) → cond b (have_rows (es ++ e ∷ []) rows) false ≡ true
    step true h f = f h a
    step false h f = h

have_rows_stay : (es : List Edit) (rows others : List Row) → ((p : PathNames) → has_row p rows ≡ true → has_row p others ≡ true) → have_rows es rows ≡ true → have_rows es others ≡ true
have_rows_stay [] rows others f h = refl
have_rows_stay (e ∷ es) rows others f h = step (has_row e.path rows) refl h (have_rows_stay es rows others f)
  where
    step : (b : Bool) → has_row e.path rows ≡ b → cond b (have_rows es rows) false ≡ true → (have_rows es rows ≡ true → have_rows es others ≡ true) → have_rows (e ∷ es) others ≡ true
    step true a h g = rw (f e.path a) (g h)
    step false a h g = absurd (false≢true h)

pub have_rows_step : (es : List Edit) (i : ℕ) (e : Edit) (rows others : List Row) → i < length es → e ≡ get_or es i e → ((p : PathNames) → has_row p rows ≡ true → has_row p others ≡ true) → have_rows (take i es) rows ≡ true → has_row e.path others ≡ true → have_rows (take (i + 1) es) others ≡ true
have_rows_step es i e rows others l s f h a = rw (take_more es i e l, ← s) (have_more_rows (take i es) e others (have_rows_stay (take i es) rows others f h) a)

-- WRITING
changes_more : (tx moment : ℕ) (rows : List Row) (all es : List Edit) (e : Edit) → changes_by tx moment rows all (es ++ e ∷ []) ≡ changes_by tx moment rows all es ++ changed_by tx moment rows all e ∷ []
changes_more tx moment rows all [] e = refl
changes_more tx moment rows all (f ∷ es) e = ap (λ cs. changed_by tx moment rows all f ∷ cs) (changes_more tx moment rows all es e)

pub changes_step : (tx moment : ℕ) (rows : List Row) (all es : List Edit) (i : ℕ) (e : Edit) → i < length es → e ≡ get_or es i e → changes_by tx moment rows all (take (i + 1) es) ≡ changes_by tx moment rows all (take i es) ++ record { path = e.path; node = edited tx moment e.path all (row_node e.path rows) } ∷ []
changes_step tx moment rows all es i e l s = rw (take_more es i e l, ← s) (changes_more tx moment rows all (take i es) e)

pub written_last : (p : PathNames) (cs : List Changed) (c : Changed) (o : Option Node) → written p (cs ++ c ∷ []) o ≡ written p cs (cond (same_path p c.path) c.node o)
written_last p [] c o = refl
written_last p (d ∷ cs) c o = ap (cond (same_path p d.path) d.node) (written_last p cs c o)

pub last_has_row : (cs : List Changed) (c : Changed) (rows : List Row) → changes_have_rows (cs ++ c ∷ []) rows ≡ true → (changes_have_rows cs rows ≡ true) × (has_row c.path rows ≡ true)
last_has_row [] c rows h = (refl, step (has_row c.path rows) h)
  where
    step : (b : Bool) → cond b true false ≡ true → b ≡ true
    step true h = refl
    step false h = h
last_has_row (d ∷ cs) c rows h = step (has_row d.path rows) h (last_has_row cs c rows)
  where
    step : (b : Bool) → cond b (changes_have_rows (cs ++ c ∷ []) rows) false ≡ true → (changes_have_rows (cs ++ c ∷ []) rows ≡ true → (changes_have_rows cs rows ≡ true) × (has_row c.path rows ≡ true)) → (cond b (changes_have_rows cs rows) false ≡ true) × (has_row c.path rows ≡ true)
    step true h f = f h
    step false h f = absurd (false≢true h)

pub have_rows_like : (cs : List Changed) (rows others : List Row) → ((p : PathNames) → has_row p others ≡ has_row p rows) → changes_have_rows cs rows ≡ true → changes_have_rows cs others ≡ true
have_rows_like [] rows others f h = refl
have_rows_like (c ∷ cs) rows others f h = rw (f c.path) (step (has_row c.path rows) h (have_rows_like cs rows others f))
  where
    step : (b : Bool) → cond b (changes_have_rows cs rows) false ≡ true → (changes_have_rows cs rows ≡ true → changes_have_rows cs others ≡ true) → cond b (changes_have_rows cs others) false ≡ true
    step true h f = f h
    step false h f = h

-- taking out what isn't there changes nothing
pub gone_same : (rows others : List Row) (k : PathNames) → row_node k rows ≡ None → ((p : PathNames) → row_node p others ≡ cond (same_path p k) None (row_node p rows)) → (p : PathNames) → row_node p others ≡ row_node p rows
gone_same rows others k e u p = u p ∙ by_test (same_path p k) (λ b. cond b None (row_node p rows) ≡ row_node p rows) (λ s. rw (same_path_is p k s) (sym e)) (λ _. refl)

-- DROPPING
pub drops_at : (es : List Edit) (i : ℕ) (d : Edit) → i < length es → are_drops es ≡ true → is_drop (get_or es i d).what ≡ true
drops_at [] i d l h = let none : ⊥ = omega arith in absurd none
drops_at (e ∷ es) zero d l h = first (is_drop e.what) h
  where
    first : (b : Bool) → cond b (are_drops es) false ≡ true → b ≡ true
    first true h = refl
    first false h = h
drops_at (e ∷ es) (suc i) d l h = let shorter : i < length es = omega arith in drops_at es i d shorter (rest (is_drop e.what) h)
  where
    rest : (b : Bool) → cond b (are_drops es) false ≡ true → are_drops es ≡ true
    rest true h = h
    rest false h = absurd (false≢true h)

pub dropped_rise : (x : Name) (tx : ℕ) (o : Option Node) → rises name_cmp (names_of o) ≡ true → rises name_cmp (names_of (map_some (without_child x tx) o)) ≡ true
dropped_rise x tx None h = refl
dropped_rise x tx (Some n) h = step (has_name x n.names)
  where
    step : (b : Bool) → rises name_cmp (cond b (record n { cversion = up n.cversion; pzxid = tx; names = drop_name x n.names }) n).names ≡ true
    step true = rises_without name_total name_exact x n.names h
    step false = h

pub rising_without : (rows others : List Row) (k : PathNames) (x : Name) (tx : ℕ) → AreRising rows → ((p : PathNames) → row_node p others ≡ cond (same_path p k) (map_some (without_child x tx) (row_node p rows)) (row_node p rows)) → AreRising others
rising_without rows others k x tx h u p = rw (u p) (step (same_path p k))
  where
    step : (b : Bool) → rises name_cmp (names_of (cond b (map_some (without_child x tx) (row_node p rows)) (row_node p rows))) ≡ true
    step true = dropped_rise x tx (row_node p rows) (h p)
    step false = h p

-- NOTING
none_lost : (es : List Edit) (sets others : Sets) → KeepsNotes sets others → are_noted es sets ≡ true → are_noted es others ≡ true
none_lost [] sets others k h = refl
none_lost (e ∷ es) sets others k h = step (is_edit_noted e sets) refl h (none_lost es sets others k)
  where
    make : (w : What) (p : PathNames) → is_edit_noted (record { path = p; what = w }) sets ≡ true → is_edit_noted (record { path = p; what = w }) others ≡ true
    make (what.Make bytes owner) p h = by_test (eqb owner 0) (λ b. (b || is_noted owner p others) ≡ true) (λ _. refl) (λ e. k owner p (subst (λ b. (b || is_noted owner p sets) ≡ true) e h))
    make (what.Replace bytes) p h = refl
    make what.Remove p h = refl
    make (what.AddName x) p h = refl
    make (what.DropName x) p h = refl

    step : (b : Bool) → is_edit_noted e sets ≡ b → cond b (are_noted es sets) false ≡ true → (are_noted es sets ≡ true → are_noted es others ≡ true) → are_noted (e ∷ es) others ≡ true
    step true a h f = rw (make e.what e.path a) (f h)
    step false a h f = absurd (false≢true h)

noted_last : (es : List Edit) (e : Edit) (sets : Sets) → are_noted es sets ≡ true → is_edit_noted e sets ≡ true → are_noted (es ++ e ∷ []) sets ≡ true
noted_last [] e sets h a = rw a refl
noted_last (f ∷ es) e sets h a = step (is_edit_noted f sets) h (noted_last es e sets)
  where
    step : (b : Bool) → cond b (are_noted es sets) false ≡ true → (are_noted es sets ≡ true → is_edit_noted e sets ≡ true → are_noted (es ++ e ∷ []) sets ≡ true) → cond b (are_noted (es ++ e ∷ []) sets) false ≡ true
    step true h f = f h a
    step false h f = h

pub noted_step : (es : List Edit) (i : ℕ) (e : Edit) (sets others : Sets) → i < length es → e ≡ get_or es i e → KeepsNotes sets others → are_noted (take i es) sets ≡ true → is_edit_noted e others ≡ true → are_noted (take (i + 1) es) others ≡ true
noted_step es i e sets others l s k h a = rw (take_more es i e l, ← s) (noted_last (take i es) e others (none_lost (take i es) sets others k h) a)

-- a node that a session owns after edits was that session's, or is noted
owned_edited : (s tx moment : ℕ) (p : PathNames) (sets : Sets) (es : List Edit) (o : Option Node) → 0 < s → are_noted es sets ≡ true → is_of s (edited tx moment p es o) ≡ true → (is_of s o ≡ true → is_noted s p sets ≡ true) → is_noted s p sets ≡ true
owned_edited s tx moment p sets [] o l n h f = f h
owned_edited s tx moment p sets (e ∷ es) o l n h f =
    owned_edited s tx moment p sets es (cond (same_path p e.path) (edit tx moment e.what o) o) l (rest (is_edit_noted e sets) n) h
    (one (same_path p e.path) refl)
  where
    rest : (b : Bool) → cond b (are_noted es sets) false ≡ true → are_noted es sets ≡ true
    rest true h = h
    rest false h = absurd (false≢true h)

    first : (b : Bool) → cond b (are_noted es sets) false ≡ true → b ≡ true
    first true h = refl
    first false h = absurd (false≢true h)

    new : (owner : ℕ) (q : PathNames) → same_path p q ≡ true → (eqb owner 0 || is_noted owner q sets) ≡ true → eqb owner s ≡ true → is_noted s p sets ≡ true
    new owner q t m i = let same : owner ≡ s = grind (arith, nat_tests) in rw (same_path_is p q t, ← same) (other (eqb owner 0) refl m)
      where
        other : (b : Bool) → eqb owner 0 ≡ b → (b || is_noted owner q sets) ≡ true → is_noted owner q sets ≡ true
        other true z m = let none : ⊥ = grind (arith, nat_tests) in absurd none
        other false z m = m

    what_is : (w : What) → is_edit_noted (record { path = e.path; what = w }) sets ≡ true → same_path p e.path ≡ true → is_of s (edit tx moment w o) ≡ true → is_noted s p sets ≡ true
    what_is (what.Make bytes owner) m t i = new owner e.path t m i
    what_is (what.Replace bytes) m t i = f (kept o i)
      where
        kept : (x : Option Node) → is_of s (map_some (with_bytes bytes tx moment) x) ≡ true → is_of s x ≡ true
        kept None i = i
        kept (Some n) i = i
    what_is what.Remove m t i = absurd (false≢true i)
    what_is (what.AddName x) m t i = f (kept o i)
      where
        at : (n : Node) (b : Bool) → is_of s (Some (cond b n (record n { cversion = up n.cversion; made = up n.made; pzxid = tx; names = add_name x n.names }))) ≡ true → eqb n.owner s ≡ true
        at n true i = i
        at n false i = i

        kept : (y : Option Node) → is_of s (map_some (with_child x tx) y) ≡ true → is_of s y ≡ true
        kept None i = i
        kept (Some n) i = at n (has_name x n.names) i
    what_is (what.DropName x) m t i = f (kept o i)
      where
        at : (n : Node) (b : Bool) → is_of s (Some (cond b (record n { cversion = up n.cversion; pzxid = tx; names = drop_name x n.names }) n)) ≡ true → eqb n.owner s ≡ true
        at n true i = i
        at n false i = i

        kept : (y : Option Node) → is_of s (map_some (without_child x tx) y) ≡ true → is_of s y ≡ true
        kept None i = i
        kept (Some n) i = at n (has_name x n.names) i

    one : (b : Bool) → same_path p e.path ≡ b → is_of s (cond b (edit tx moment e.what o) o) ≡ true → is_noted s p sets ≡ true
    one true t i = what_is e.what (first (is_edit_noted e sets) n) t i
    one false t i = f i

-- what was noted is noted after edits, or where nothing changed
pub noted_after : {T E : Type 0} (r : Result T E) (tx moment : ℕ) (es : List Edit) (rows others : List Row) (sets : Sets) → are_noted es sets ≡ true → OnOk r (AreEdited tx moment es rows others) → OnErr r (KeepSame rows others) → AreNoted rows sets → AreNoted others sets
noted_after (Ok x) tx moment es rows others sets n a b k s p l h = owned_edited s tx moment p sets es (row_node p rows) l n (sym (ap (is_of s) (a p)) ∙ h) (k s p l)
noted_after (Err x) tx moment es rows others sets n a b k s p l h = k s p l (sym (ap (is_of s) (b p)) ∙ h)

-- THE EDITS OF A CLOSE AND OF A DELETE
drops_both : (es fs : List Edit) → are_drops es ≡ true → are_drops fs ≡ true → are_drops (es ++ fs) ≡ true
drops_both [] fs a b = b
drops_both (e ∷ es) fs a b = step (is_drop e.what) a (drops_both es fs)
  where
    step : (c : Bool) → cond c (are_drops es) false ≡ true → (are_drops es ≡ true → are_drops fs ≡ true → are_drops (es ++ fs) ≡ true) → cond c (are_drops (es ++ fs)) false ≡ true
    step true a f = f a b
    step false a f = a

delete_drops : (p : PathNames) → are_drops (delete_edits p) ≡ true
delete_drops [] = refl
delete_drops (n ∷ p) = refl

deletes_drop : (ps : List PathNames) → are_drops (deletes_edits ps) ≡ true
deletes_drop [] = refl
deletes_drop (p ∷ ps) = drops_both (delete_edits p) (deletes_edits ps) (delete_drops p) (deletes_drop ps)

pub close_drops : (a : Applied) (evict : Bool) (es : List Edit) → a.request ≡ request.Close evict → es ≡ effects a → are_drops es ≡ true
close_drops a evict es r e = rw (e, r) (deletes_drop a.gone)

pub made_edits : (a : Applied) (p : PathNames) (bytes : List ℕ) (seq eph : Bool) (owner : ℕ) (es : List Edit) → a.request ≡ request.Create p bytes seq eph → owner ≡ owner_for a.session eph → es ≡ effects a → es ≡ create_edits a.name bytes owner
made_edits a p bytes seq eph owner es r o e = rw (e, r, o) refl

pub more_noted : (rows : List Row) (sets others : Sets) → AreNoted rows sets → KeepsNotes sets others → AreNoted rows others
more_noted rows sets others n k s p l h = k s p (n s p l h)

pub any_err : {T E : Type 0} {A : Type 0} (r : Result T E) → A → OnErr r A
any_err (Ok x) a = tt
any_err (Err x) a = a

-- The table at its start, where nothing changes it, and after a grant.
use Rattle.std.specs.Prelude.{not}
use Rattle.std.proofs.Common.{◌≡◌, ℕ, Bool, true, false, cond, ◌||◌, List, [], ◌∷◌, length, refl, sym, ◌∙◌, ap, subst, Option, Some, None, is_some}
use Rattle.std.proofs.lemmas.Bool.{false≢true}
use Rattle.fk_base.specs.Path.{PathNames, is_root, same_path}
use Rattle.fk_tree.specs.Edit.{view_after}
use Rattle.fk_tree.specs.Sorted.{has_path}
use Rattle.fk_tree.specs.Touch.{edited_paths}
use Rattle.fk_tree.specs.Tree.{map_some}
use Rattle.fk_tree.specs.View.{start_view}
use Rattle.fk_tree.specs.declared.applied.Applied.{Applied}
use Rattle.fk_tree.proofs.Looking.{same_flip}
use Rattle.fk_print.specs.declared.entry.Entry.{Entry}
use Rattle.fk_print.specs.declared.event.Event.{Event}
use Rattle.fk_print.specs.declared.line.Line.{Line}
use Rattle.fk_print.specs.declared.op.Op.{Op}
use Rattle.fk_print.specs.declared.op.Op.TheVariants as op
use Rattle.fk_store.specs.Meaning.{new_table, or_no_record}
use Rattle.fk_store.specs.Writes.{grant_record, written}
use Rattle.fk_store.specs.declared.node_record.NodeRecord.{NodeRecord}
use Rattle.fk_store.specs.declared.write.Write.TheVariants as write
use Rattle.fk_law_tree.specs.Editors.{is_edited}
use Rattle.fk_law_tree.proofs.Counting.{unedited_stays}
use Rattle.fk_stand.specs.Tables.{has_record, lock_from, node_record, session_record, table_after}
use Rattle.fk_spec.specs.Plan.{Plan, is_client}
use Rattle.fk_spec.specs.Start.{clock_of}
use Rattle.fk_spec.specs.Locks.{Grant, grant_in, has_released, last_grant}
use Rattle.fk_spec.specs.Settling.{done_of}
use Rattle.fk_spec.specs.Stored.{committed_in, committed_of, filled_after, last_edit, last_editor, stored_view, with_filled}
use Rattle.fk_spec.specs.Next.{IsHistory}
use Rattle.fk_law.specs.Due.{IsDue}
use Rattle.fk_law.specs.Locking.{Unreleased}
use Rattle.fk_law.specs.Losing.{IsOwn}
use Rattle.fk_law.specs.Progress.{progress}
use Rattle.fk_law.proofs.Due.{due}
use Rattle.fk_law.proofs.Editing.{live_push_edits_what_it_locked}
use Rattle.fk_law.proofs.Leaving.{commit_is}
use Rattle.fk_law.proofs.Locking.{at_work_is_unreleased}
use Rattle.fk_agree.specs.Records.{GrantIsWritten, LeavesRecords, NewTableStands, RecordsStay}
use Rattle.fk_base.proofs.Logic.{by_test}

-- At the start. -----------------------------------------------------------------------------------------

new_node : (p : Plan) (q : PathNames) → (new_table (length p.asks)).nodes q ≡ (table_after p [] 0).nodes q
new_node p q = by_root (is_root q) refl
  where
    by_root : (b : Bool) → is_root q ≡ b → (new_table (length p.asks)).nodes q ≡ (table_after p [] 0).nodes q
    by_root true e = rw e refl
    by_root false e = rw e refl

pub new_table_stands : NewTableStands
new_table_stands p = λ i. record { nodes = λ q. (new_node p q) i; sessions = (table_after p [] 0).sessions; done = 0; armed = false; faults = 0 }

-- Where nothing changes it. -----------------------------------------------------------------------------

stays : (p : Plan) (faults : ℕ) (v : Event) (o : Op) (ls : List Line) (h : List Entry) → LeavesRecords o → table_after p (record { event = v; op = o; lines = ls } ∷ h) faults ≡ table_after p h faults
stays p faults v (op.LockOk n path) ls h k = absurd k
stays p faults v (op.CommitOk n t) ls h k = absurd k
stays p faults v (op.RefuseOk n cd place at) ls h k = absurd k
stays p faults v (op.LostOk n) ls h k = absurd k
stays p faults v (op.DropOk n t) ls h k = absurd k
stays p faults v (op.DoneOk n t) ls h k = absurd k
stays p faults v (op.NoteOk n) ls h k = absurd k
stays p faults v (op.Pong c n) ls h k = absurd k
stays p faults v o ls h k = refl

pub records_stay : RecordsStay
records_stay p faults e h k = stays p faults e.event e.op e.lines h k

-- A path without a record was never edited. -------------------------------------------------------------

not_own : (n : ℕ) (b : Bool) (o : Option Grant) → (b || is_some o) ≡ false → IsOwn n o → ⊥
not_own n b None f i = i
not_own n true (Some g) f i = false≢true (sym f)
not_own n false (Some g) f i = false≢true (sym f)

none_before : (q : PathNames) (moment : ℕ) (o : Op) (b : Bool) (g : Option Grant) → (b || is_some (grant_in q moment o g)) ≡ false → (b || is_some g) ≡ false
none_before q moment (op.LockOk n path) b g e = by_test (same_path path q) (λ z. (b || is_some (cond z (Some (record { holder = n; moment = moment })) g)) ≡ false → (b || is_some g) ≡ false) (λ _ f. absurd (granted_now b f)) (λ _ f. f) e
  where
    granted_now : (b : Bool) → (b || true) ≡ false → ⊥
    granted_now true f = false≢true (sym f)
    granted_now false f = false≢true (sym f)
none_before q moment o b g e = e

edits_none : (p : Plan) (q : PathNames) (h : List Entry) (o : Op) → IsHistory p h → IsDue p h o → has_record q h ≡ false → is_edited q (committed_of p h) ≡ false → is_edited q (committed_in p h o (committed_of p h)) ≡ false
edits_none p q h (op.CommitOk n t) l d e i =
    let c = commit_is p n t h l d in
    let v = c.live in
    ap (λ y. is_edited q (with_filled (committed_of p h) t y)) c.is
    ∙ (ap (λ b. b || is_edited q (committed_of p h)) (unedited (has_path q (edited_paths (filled_after (committed_of p h) t c.pushed))) refl (λ w. not_own v.function (is_root q) (last_grant q h) e (v.own q (live_push_edits_what_it_locked p t v.function v.session v.k h c.pushed l v v.is_of c.is q w)))) ∙ i)
  where
    unedited : (b : Bool) {x : Bool} → x ≡ b → (x ≡ true → ⊥) → x ≡ false
    unedited true g f = absurd (f g)
    unedited false g f = g
edits_none p q h o l d e i = i

never_edited : (p : Plan) (q : PathNames) (h : List Entry) → IsHistory p h → has_record q h ≡ false → is_edited q (committed_of p h) ≡ false
never_edited p q [] l e = refl
never_edited p q (x ∷ h) l e = let f = none_before q (clock_of h) x.op (is_root q) (last_grant q h) e in edits_none p q h x.op l.0 (due p x h l) f (never_edited p q h l.0 f)

unedited_last : (q : PathNames) (done : List Applied) → is_edited q done ≡ false → last_editor q done ≡ 0
unedited_last q [] e = refl
unedited_last q (a ∷ done) e = by_test (has_path q (edited_paths a)) (λ b. (b || is_edited q done) ≡ false → cond b a.tx (last_editor q done) ≡ 0) (λ _ f. absurd (false≢true (sym f))) (λ _ f. unedited_last q done f) e

unedited_node : (q : PathNames) (done : List Applied) → is_edited q done ≡ false → (view_after done).node q ≡ start_view.node q
unedited_node q [] e = refl
unedited_node q (a ∷ done) e = by_edit (has_path q (edited_paths a)) refl e (unedited_node q done)
  where
    by_edit : (b : Bool) → has_path q (edited_paths a) ≡ b → (b || is_edited q done) ≡ false → (is_edited q done ≡ false → (view_after done).node q ≡ start_view.node q) → (view_after (a ∷ done)).node q ≡ start_view.node q
    by_edit true f g i = absurd (false≢true (sym g))
    by_edit false f g i = unedited_stays (view_after done) a q f ∙ i g

-- what a path without a record shows
empty_record : (p : Plan) (q : PathNames) (h : List Entry) → IsHistory p h → has_record q h ≡ false → ((stored_view p h).node q ≡ None) × (last_edit p q h ≡ 0)
empty_record p q h l e = let u = never_edited p q h l e in (unedited_node q (committed_of p h) u ∙ not_root (is_root q) refl e, unedited_last q (committed_of p h) u)
  where
    not_root : (b : Bool) → is_root q ≡ b → (b || is_some (last_grant q h)) ≡ false → start_view.node q ≡ None
    not_root true f g = absurd (false≢true (sym g))
    not_root false f g = rw f refl

-- A grant. ----------------------------------------------------------------------------------------------

-- the record of a path, with none counted as an empty one
abbrev pub record_at : Plan → PathNames → List Entry → NodeRecord
record_at p q h = or_no_record (cond (has_record q h) (Some (node_record p q h)) None)

pub shows_node : (p : Plan) (q : PathNames) (h : List Entry) → IsHistory p h → (record_at p q h).node ≡ (stored_view p h).node q
shows_node p q h l = by_test (has_record q h) (λ b. (or_no_record (cond b (Some (node_record p q h)) None)).node ≡ (stored_view p h).node q) (λ _. refl) (λ e. sym (empty_record p q h l e).0)

pub shows_last : (p : Plan) (q : PathNames) (h : List Entry) → IsHistory p h → (record_at p q h).last ≡ last_edit p q h
shows_last p q h l = by_test (has_record q h) (λ b. (or_no_record (cond b (Some (node_record p q h)) None)).last ≡ last_edit p q h) (λ _. refl) (λ e. sym (empty_record p q h l e).1)

-- the history with the grant
abbrev longer : Event → List Line → ℕ → PathNames → List Entry → List Entry
longer v ls n path h = record { event = v; op = op.LockOk n path; lines = ls } ∷ h

granted_node : (p : Plan) (n faults : ℕ) (path : PathNames) (v : Event) (ls : List Line) (h : List Entry) (q : PathNames) → IsHistory p h → has_released n h ≡ false → (written (write.Grant path n (clock_of h)) (table_after p h faults)).nodes q ≡ (table_after p (longer v ls n path h) faults).nodes q
granted_node p n faults path v ls h q l u = by_path (same_path path q) refl
  where
    here : same_path path q ≡ true → grant_record n (clock_of h) ((table_after p h faults).nodes q) ≡ Some (node_record p q (longer v ls n path h))
    here e = λ i. Some (record {
      node = (shows_node p q h l) i;
      lock = (ap (λ b. record { inv = n; moment = clock_of h; held = not b }) (sym u) ∙ sym (ap (λ b. lock_from (longer v ls n path h) (cond b (Some (record { holder = n; moment = clock_of h })) (last_grant q h))) e)) i;
      last = (shows_last p q h l) i;
    })

    by_path : (b : Bool) → same_path path q ≡ b → (written (write.Grant path n (clock_of h)) (table_after p h faults)).nodes q ≡ (table_after p (longer v ls n path h) faults).nodes q
    by_path true e =
        ap (λ b. cond b (grant_record n (clock_of h) ((table_after p h faults).nodes q)) ((table_after p h faults).nodes q)) (same_flip q path ∙ e)
        ∙ (here e ∙ sym (ap (λ b. cond b (Some (node_record p q (longer v ls n path h))) None) (recorded (is_root q) ∙ refl)))
      where
        either : (b : Bool) → (b || true) ≡ true
        either true = refl
        either false = refl

        recorded : (b : Bool) → (b || is_some (grant_in q (clock_of h) (op.LockOk n path) (last_grant q h))) ≡ true
        recorded b = ap (λ z. b || is_some (cond z (Some (record { holder = n; moment = clock_of h })) (last_grant q h))) e ∙ either b
    by_path false e =
        ap (λ b. cond b (grant_record n (clock_of h) ((table_after p h faults).nodes q)) ((table_after p h faults).nodes q)) (same_flip q path ∙ e)
        ∙ same (last_grant q (longer v ls n path h)) (ap (λ z. cond z (Some (record { holder = n; moment = clock_of h })) (last_grant q h)) e)
      where
        lock_of_grant : (o : Option Grant) → lock_from h o ≡ lock_from (longer v ls n path h) o
        lock_of_grant None = refl
        lock_of_grant (Some g) = refl

        same : (o : Option Grant) → o ≡ last_grant q h → (table_after p h faults).nodes q ≡ cond (is_root q || is_some o) (Some (record { node = (stored_view p h).node q; lock = lock_from (longer v ls n path h) o; last = last_edit p q h })) None
        same o f = ap (λ g. cond (is_root q || is_some (last_grant q h)) (Some (record { node = (stored_view p h).node q; lock = g; last = last_edit p q h })) None) (lock_of_grant (last_grant q h))
            ∙ ap (λ g. cond (is_root q || is_some g) (Some (record { node = (stored_view p h).node q; lock = lock_from (longer v ls n path h) g; last = last_edit p q h })) None) (sym f)

pub grant_is_written : GrantIsWritten
grant_is_written p n faults path e h l g =
    (λ i. record {
      nodes = λ q. (granted_node p n faults path e.event e.lines h q l.0 free) i;
      sessions = λ s. (same_sessions s) i;
      done = done_of h;
      armed = false;
      faults = faults;
    })
    ∙ ap (λ o. table_after p (record { event = e.event; op = o; lines = e.lines } ∷ h) faults) (sym g)
  where
    d : IsDue p h (op.LockOk n path)
    d = subst (IsDue p h) g (due p e h l)

    free : has_released n h ≡ false
    free = subst (Unreleased (has_released n h)) (ap progress d.2) (at_work_is_unreleased p n h d.0 l.0 d.1)

    same_sessions : (s : ℕ) → (written (write.Grant path n (clock_of h)) (table_after p h faults)).sessions s ≡ (table_after p (longer e.event e.lines n path h) faults).sessions s
    same_sessions s = by_test (is_client p s) (λ b. map_some (λ r. r) (cond b (Some (session_record p s h)) None) ≡ cond b (Some (session_record p s h)) None) (λ _. refl) (λ _. refl)

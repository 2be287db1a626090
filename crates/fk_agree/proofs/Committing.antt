-- The writes of a commit leave the table as the longer history says.
use Rattle.std.specs.Prelude.{◌==◌, ◌&&◌, not}
use Rattle.std.proofs.Common.{◌≡◌, ℕ, ◌+◌, ◌++◌, Bool, true, false, cond, ◌||◌, List, [], ◌∷◌, refl, sym, ◌∙◌, ap, subst, arith, Option, Some, None, is_some}
use Rattle.std.proofs.lemmas.Bool.{false≢true}
use Rattle.std.proofs.lemmas.Bool.Decides.{nat_tests}
use Rattle.fk_base.specs.Path.{PathNames, is_root}
use Rattle.fk_tree.specs.Edit.{closes, edited, effects, view_after}
use Rattle.fk_tree.specs.Sorted.{has_path, in_path_order}
use Rattle.fk_tree.specs.Touch.{edit_paths, edited_paths}
use Rattle.fk_tree.specs.Tree.{map_some}
use Rattle.fk_print.specs.declared.entry.Entry.{Entry}
use Rattle.fk_print.specs.declared.event.Event.{Event}
use Rattle.fk_print.specs.declared.line.Line.{Line}
use Rattle.fk_print.specs.declared.op.Op.TheVariants as op
use Rattle.fk_wire.specs.declared.message.Pushed.{Pushed}
use Rattle.fk_store.specs.Locks.{released}
use Rattle.fk_store.specs.Writes.{all_written, done_written, records_written, session_after, session_written}
use Rattle.fk_store.specs.declared.node_record.NodeRecord.{NodeRecord}
use Rattle.fk_store.specs.declared.outcome.Outcome.TheVariants as kept
use Rattle.fk_store.specs.declared.session_record.SessionRecord.{SessionRecord}
use Rattle.fk_store.specs.declared.write.Write.{Write}
use Rattle.fk_store.specs.declared.write.Write.TheVariants as write
use Rattle.fk_settle.specs.Transaction.{applied_as, change_writes, close_writes, commit_writes, release_writes}
use Rattle.fk_law_tree.specs.Locking.{Within}
use Rattle.fk_law_tree.proofs.Lists.{ordered_has}
use Rattle.fk_stand.specs.Messages.{push_message_of}
use Rattle.fk_stand.specs.Tables.{has_record, kept_as, lock_after, lock_from, node_record, pending_in, pending_of, session_record, table_after}
use Rattle.fk_spec.specs.Plan.{Plan, is_client}
use Rattle.fk_spec.specs.Start as start
use Rattle.fk_spec.specs.Start.{is_session, pushed_of}
use Rattle.fk_spec.specs.Locks.{Grant, granted, has_released, is_push_of, last_grant}
use Rattle.fk_spec.specs.Settling.{Committed, count_settling, done_of, last_for, last_of_session, outcome_here, outcome_of, session_of_push, settled_of, settling}
use Rattle.fk_spec.specs.Stored.{committed_of, filled_after, last_edit, last_editor, stored_view, with_filled}
use Rattle.fk_spec.specs.Next.{IsHistory}
use Rattle.fk_law.specs.Due.{IsDue, IsPushOf}
use Rattle.fk_law.specs.Losing.{IsOwn}
use Rattle.fk_law.proofs.Due.{due}
use Rattle.fk_law.proofs.Editing.{live_push_edits_what_it_locked}
use Rattle.fk_law.proofs.Leaving.{commit_is}
use Rattle.fk_law.proofs.Locking.{lock_names_a_granted_path}
use Rattle.fk_law.proofs.Settled.{session_of_its_push}
use Rattle.fk_agree.specs.Pushes.{Tells}
use Rattle.fk_agree.specs.Commits.{CommitIsWritten}
use Rattle.fk_agree.proofs.Carried.{live_push_is_its_message}
use Rattle.fk_agree.proofs.Telling.{message_tells_its_push}
use Rattle.fk_agree.proofs.Writing.{arm_stays, changed, changes_leave_done, changes_leave_sessions, changes_written, done_append, done_is_written, faults_stay, freed, no_changes_written, no_releases_written, nodes_written, records_append, releases_leave_done, releases_leave_sessions, releases_written, sessions_append, sessions_written}
use Rattle.fk_base.proofs.Logic.{by_test, itself}

-- All writes of a commit, at a path and at a session. ---------------------------------------------------

-- the last writes of a commit, those before them, and its first ones
abbrev settles : ℕ → Pushed → List Write
settles t x = write.Settle x.session x.k (kept.Applied t) ∷ close_writes x.session x.request

abbrev pends : ℕ → Pushed → List Write
pends t x = write.AddPending x.session t ∷ release_writes (in_path_order x.paths)

abbrev edits : ℕ → Pushed → List Write
edits t x = change_writes t x.moment (effects (applied_as t x))

settles_leave : (t : ℕ) (x : Pushed) (q : PathNames) (o : Option NodeRecord) → records_written q (settles t x) o ≡ o
settles_leave t x q o = by_test (closes x.request) (λ b. records_written q (cond b (write.CloseSession x.session ∷ []) []) o ≡ o) (λ _. refl) (λ _. refl)

commit_at : (t : ℕ) (x : Pushed) (q : PathNames) (r : NodeRecord) → records_written q (commit_writes t x) (Some r) ≡ Some (freed q (in_path_order x.paths) (changed t x.moment q (effects (applied_as t x)) r))
commit_at t x q r =
    records_append q (edits t x ++ pends t x) (settles t x) (Some r)
    ∙ (settles_leave t x q _
    ∙ (records_append q (edits t x) (pends t x) (Some r)
    ∙ (ap (records_written q (pends t x)) (changes_written q t x.moment (effects (applied_as t x)) r)
    ∙ releases_written q (in_path_order x.paths) (changed t x.moment q (effects (applied_as t x)) r))))

no_commit_at : (t : ℕ) (x : Pushed) (q : PathNames) → has_path q (edit_paths (effects (applied_as t x))) ≡ false → records_written q (commit_writes t x) None ≡ None
no_commit_at t x q e =
    records_append q (edits t x ++ pends t x) (settles t x) None
    ∙ (settles_leave t x q _
    ∙ (records_append q (edits t x) (pends t x) None
    ∙ (ap (records_written q (pends t x)) (no_changes_written q t x.moment (effects (applied_as t x)) e)
    ∙ no_releases_written q (in_path_order x.paths))))

commit_in : (t : ℕ) (x : Pushed) (s : ℕ) (r : SessionRecord) → session_written s (commit_writes t x) r ≡ session_written s (settles t x) (session_after (write.AddPending x.session t) s r)
commit_in t x s r =
    sessions_append s (edits t x ++ pends t x) (settles t x) r
    ∙ ap (session_written s (settles t x)) (sessions_append s (edits t x) (pends t x) r
    ∙ (ap (session_written s (pends t x)) (changes_leave_sessions s t x.moment (effects (applied_as t x)) r)
    ∙ releases_leave_sessions s (in_path_order x.paths) (session_after (write.AddPending x.session t) s r)))

commit_done : (t : ℕ) (x : Pushed) (d : ℕ) → done_written (commit_writes t x) d ≡ d
commit_done t x d =
    done_append (edits t x ++ pends t x) (settles t x) d
    ∙ (by_test (closes x.request) (λ b. done_written (cond b (write.CloseSession x.session ∷ []) []) (done_written (edits t x ++ pends t x) d) ≡ done_written (edits t x ++ pends t x) d) (λ _. refl) (λ _. refl)
    ∙ (done_append (edits t x) (pends t x) d
    ∙ (ap (done_written (pends t x)) (changes_leave_done t x.moment (effects (applied_as t x)) d)
    ∙ releases_leave_done (in_path_order x.paths) d)))

-- A commit, with the message of its push. ---------------------------------------------------------------

-- the entry of the commit, and what is known of its push
record Commit (p : Plan) (n t : ℕ) (h : List Entry) (x : Pushed) : Type 0 where
  pub holder : ℕ
  pub session : ℕ
  pub k : ℕ
  pub is_of : IsPushOf t holder session k h
  pub next : settled_of session h + 1 ≡ k
  pub own : (q : PathNames) → has_path q (granted holder h) ≡ true → IsOwn holder (last_grant q h)
  pub tells : Tells x holder session k h
  pub pushed : start.Pushed
  pub asks : pushed_of p t h ≡ Some pushed
  pub fills : applied_as t x ≡ filled_after (committed_of p h) t pushed
  pub within : Within (edited_paths (filled_after (committed_of p h) t pushed)) (granted holder h)

a_commit : (p : Plan) (n t : ℕ) (h : List Entry) (x : Pushed) → IsHistory p h → IsDue p h (op.CommitOk n t) → push_message_of p t h ≡ Some x → Commit p n t h x
a_commit p n t h x l d m =
    let c = commit_is p n t h l d in
    let v = c.live in
    record {
      holder = v.function;
      session = v.session;
      k = v.k;
      is_of = v.is_of;
      next = v.next;
      own = v.own;
      tells = message_tells_its_push p t v.function v.session v.k h x l v.is_of m;
      pushed = c.pushed;
      asks = c.is;
      fills = live_push_is_its_message p t h x c.pushed l v m c.is;
      within = live_push_edits_what_it_locked p t v.function v.session v.k h c.pushed l v v.is_of c.is;
    }

-- the history with the commit
abbrev longer : Event → List Line → ℕ → ℕ → List Entry → List Entry
longer v ls n t h = record { event = v; op = op.CommitOk n t; lines = ls } ∷ h

-- Locks. ------------------------------------------------------------------------------------------------

-- a function released its locks with this commit exactly where the push is its own
released_with : (p : Plan) (n t : ℕ) (v : Event) (ls : List Line) (h : List Entry) (x : Pushed) (c : Commit p n t h x) (m : ℕ) → has_released m (longer v ls n t h) ≡ ((c.holder == m) || has_released m h)
released_with p n t v ls h x c m = ap (λ b. b || has_released m h) (ap (is_push_of m) c.is_of.pushed ∙ ap (λ f. f == m) c.is_of.function)

lock_freed : (p : Plan) (n t : ℕ) (v : Event) (ls : List Line) (h : List Entry) (x : Pushed) (c : Commit p n t h x) (q : PathNames) (o : Option Grant) → last_grant q h ≡ o → IsHistory p h → cond (has_path q (granted c.holder h)) (released (lock_from h o)) (lock_from h o) ≡ lock_from (longer v ls n t h) o
lock_freed p n t v ls h x c q None g l = by_test (has_path q (granted c.holder h)) (λ b. cond b (released (lock_from h None)) (lock_from h None) ≡ lock_from (longer v ls n t h) None) (λ _. refl) (λ _. refl)
lock_freed p n t v ls h x c q (Some g) w l = by_path (has_path q (granted c.holder h)) refl
  where
    own_so : IsOwn c.holder (Some g) → g.holder ≡ c.holder
    own_so i = i

    by_path : (b : Bool) → has_path q (granted c.holder h) ≡ b → cond b (released (lock_from h (Some g))) (lock_from h (Some g)) ≡ lock_from (longer v ls n t h) (Some g)
    by_path true e =
        let i : g.holder ≡ c.holder = own_so (subst (IsOwn c.holder) w (c.own q e)) in
        let z : (c.holder == g.holder) ≡ true = grind (arith, nat_tests) in
        ap (λ b. record { inv = g.holder; moment = g.moment; held = not b }) (sym (released_with p n t v ls h x c g.holder ∙ ap (λ b. b || has_released g.holder h) z))
    by_path false e =
        let z : (c.holder == g.holder) ≡ false = others (c.holder == g.holder) refl in
        ap (λ b. record { inv = g.holder; moment = g.moment; held = not b }) (sym (released_with p n t v ls h x c g.holder ∙ ap (λ b. b || has_released g.holder h) z))
      where
        others : (b : Bool) → (c.holder == g.holder) ≡ b → b ≡ false
        others false f = refl
        others true f =
            let i : g.holder ≡ c.holder = grind (arith, nat_tests) in
            absurd (false≢true (sym e ∙ subst (λ m. has_path q (granted m h) ≡ true) i (lock_names_a_granted_path p q h g l w).0))

-- Records of paths. -------------------------------------------------------------------------------------

node_written : (p : Plan) (n t : ℕ) (v : Event) (ls : List Line) (h : List Entry) (x : Pushed) (c : Commit p n t h x) (q : PathNames) → IsHistory p h → freed q (in_path_order x.paths) (changed t x.moment q (effects (applied_as t x)) (node_record p q h)) ≡ node_record p q (longer v ls n t h)
node_written p n t v ls h x c q l =
    as_record (has_path q (in_path_order x.paths)) (changed t x.moment q (effects (applied_as t x)) (node_record p q h))
    ∙ (λ i. record { node = nodes i; lock = locks i; last = lasts i })
  where
    as_record : (b : Bool) (r : NodeRecord) → cond b (record r { lock = released r.lock }) r ≡ record { node = r.node; lock = cond b (released r.lock) r.lock; last = r.last }
    as_record true r = refl
    as_record false r = refl

    done : with_filled (committed_of p h) t (pushed_of p t h) ≡ applied_as t x ∷ committed_of p h
    done = ap (with_filled (committed_of p h) t) c.asks ∙ ap (λ a. a ∷ committed_of p h) (sym c.fills)

    nodes : edited t x.moment q (effects (applied_as t x)) ((stored_view p h).node q) ≡ (view_after (with_filled (committed_of p h) t (pushed_of p t h))).node q
    nodes = sym (ap (λ bs. (view_after bs).node q) done)

    lasts : cond (has_path q (edit_paths (effects (applied_as t x)))) t (last_edit p q h) ≡ last_editor q (with_filled (committed_of p h) t (pushed_of p t h))
    lasts = ap (λ b. cond b t (last_edit p q h)) (sym (ordered_has (edit_paths (effects (applied_as t x))) q)) ∙ sym (ap (last_editor q) done)

    locks : cond (has_path q (in_path_order x.paths)) (released (lock_after q h)) (lock_after q h) ≡ lock_after q (longer v ls n t h)
    locks = ap (λ b. cond b (released (lock_after q h)) (lock_after q h)) (ordered_has x.paths q ∙ ap (has_path q) c.tells.paths) ∙ lock_freed p n t v ls h x c q (last_grant q h) refl l

-- a path without a record isn't edited
unrecorded : (p : Plan) (n t : ℕ) (h : List Entry) (x : Pushed) (c : Commit p n t h x) (q : PathNames) → has_record q h ≡ false → has_path q (edit_paths (effects (applied_as t x))) ≡ false
unrecorded p n t h x c q e = by_edit (has_path q (edit_paths (effects (applied_as t x)))) refl
  where
    none : (b : Bool) (o : Option Grant) → (b || is_some o) ≡ false → IsOwn c.holder o → ⊥
    none b None f i = i
    none true (Some g) f i = false≢true (sym f)
    none false (Some g) f i = false≢true (sym f)

    edits : has_path q (edit_paths (effects (applied_as t x))) ≡ true → has_path q (edited_paths (filled_after (committed_of p h) t c.pushed)) ≡ true
    edits g = subst (λ a. has_path q (edited_paths a) ≡ true) c.fills (ordered_has (edit_paths (effects (applied_as t x))) q ∙ g)

    by_edit : (b : Bool) → has_path q (edit_paths (effects (applied_as t x))) ≡ b → b ≡ false
    by_edit false g = refl
    by_edit true g = absurd (none (is_root q) (last_grant q h) e (c.own q (c.within q (edits g))))

nodes_are : (p : Plan) (n t faults : ℕ) (v : Event) (ls : List Line) (h : List Entry) (x : Pushed) (c : Commit p n t h x) (q : PathNames) → IsHistory p h → records_written q (commit_writes t x) ((table_after p h faults).nodes q) ≡ (table_after p (longer v ls n t h) faults).nodes q
nodes_are p n t faults v ls h x c q l =
    by_test (has_record q h) (λ b. records_written q (commit_writes t x) (cond b (Some (node_record p q h)) None) ≡ cond b (Some (node_record p q (longer v ls n t h))) None)
    (λ _. commit_at t x q (node_record p q h) ∙ ap Some (node_written p n t v ls h x c q l))
    (λ e. no_commit_at t x q (unrecorded p n t h x c q e))

-- Records of sessions. ----------------------------------------------------------------------------------

-- what the last two writes make of a session's record
settles_in : (t : ℕ) (x : Pushed) (s : ℕ) (r : SessionRecord) → (x.session == s) ≡ true → session_written s (settles t x) r ≡ record { settled = x.k; outcome = kept.Applied t; last = r.last; closed = closes x.request || r.closed; pending = r.pending; ping = r.ping; ping_at = r.ping_at; pong = r.pong }
settles_in t x s r e =
    ap (session_written s (close_writes x.session x.request)) (ap (λ b. cond b (record r { settled = x.k; outcome = kept.Applied t }) r) e)
    ∙ by_test (closes x.request) (λ b. session_written s (cond b (write.CloseSession x.session ∷ []) []) (record r { settled = x.k; outcome = kept.Applied t }) ≡ record { settled = x.k; outcome = kept.Applied t; last = r.last; closed = b || r.closed; pending = r.pending; ping = r.ping; ping_at = r.ping_at; pong = r.pong })
    (λ _. ap (λ b. cond b (record r { settled = x.k; outcome = kept.Applied t; closed = true }) (record r { settled = x.k; outcome = kept.Applied t })) e)
    (λ _. refl)

settles_apart : (t : ℕ) (x : Pushed) (s : ℕ) (r : SessionRecord) → (x.session == s) ≡ false → session_written s (settles t x) r ≡ r
settles_apart t x s r e =
    ap (session_written s (close_writes x.session x.request)) (ap (λ b. cond b (record r { settled = x.k; outcome = kept.Applied t }) r) e)
    ∙ by_test (closes x.request) (λ b. session_written s (cond b (write.CloseSession x.session ∷ []) []) r ≡ r) (λ _. ap (λ b. cond b (record r { closed = true }) r) e) (λ _. refl)

done_with : (p : Plan) (n t : ℕ) (h : List Entry) (x : Pushed) (c : Commit p n t h x) → with_filled (committed_of p h) t (pushed_of p t h) ≡ applied_as t x ∷ committed_of p h
done_with p n t h x c = ap (with_filled (committed_of p h) t) c.asks ∙ ap (λ a. a ∷ committed_of p h) (sym c.fills)

is_closed_with : (p : Plan) (n t : ℕ) (h : List Entry) (x : Pushed) (c : Commit p n t h x) (s : ℕ) → cond (closes x.request) ((x.session == s) || (stored_view p h).closed s) ((stored_view p h).closed s) ≡ (view_after (with_filled (committed_of p h) t (pushed_of p t h))).closed s
is_closed_with p n t h x c s = sym (ap (λ bs. (view_after bs).closed s) (done_with p n t h x c))

of_session : (p : Plan) (n t : ℕ) (h : List Entry) (x : Pushed) (c : Commit p n t h x) → session_of_push t h ≡ Some c.session
of_session p n t h x c = session_of_its_push t c.holder c.session c.k h c.is_of

-- the record of the push's own session
own_session : (p : Plan) (n t : ℕ) (v : Event) (ls : List Line) (h : List Entry) (x : Pushed) (c : Commit p n t h x) → session_written c.session (commit_writes t x) (session_record p c.session h) ≡ session_record p c.session (longer v ls n t h)
own_session p n t v ls h x c =
    commit_in t x s r
    ∙ (settles_in t x s (session_after (write.AddPending x.session t) s r) own
    ∙ (ap (λ y. record { settled = x.k; outcome = kept.Applied t; last = y.last; closed = closes x.request || y.closed; pending = y.pending; ping = y.ping; ping_at = y.ping_at; pong = y.pong }) (ap (λ b. cond b (record r { pending = r.pending ++ t ∷ []; last = t }) r) own)
    ∙ (λ i. record { settled = settled i; outcome = outcome i; last = last i; closed = closed i; pending = pending i; ping = r.ping; ping_at = r.ping_at; pong = r.pong })))
  where
    s : ℕ
    s = c.session

    r : SessionRecord
    r = session_record p s h

    own : (x.session == s) ≡ true
    own = ap (λ m. m == s) c.tells.session ∙ itself s

    counted : settled_of s (longer v ls n t h) ≡ settled_of s h + 1
    counted = ap (λ o. count_settling s (settling o (Committed t)) (settled_of s h)) (of_session p n t h x c) ∙ ap (λ b. cond b (settled_of s h + 1) (settled_of s h)) (itself s)

    settled : x.k ≡ settled_of s (longer v ls n t h)
    settled = c.tells.number ∙ (sym c.next ∙ sym counted)

    outcome : kept.Applied t ≡ kept_as (outcome_of s (settled_of s (longer v ls n t h)) (longer v ls n t h))
    outcome = sym (ap kept_as (ap (λ m. outcome_of s m (longer v ls n t h)) counted
        ∙ (ap (λ o. outcome_here s (settled_of s h + 1) (settled_of s h) (settling o (Committed t)) (outcome_of s (settled_of s h + 1) h)) (of_session p n t h x c)
        ∙ ap (λ b. cond b (Some (Committed t)) (outcome_of s (settled_of s h + 1) h)) (both (s == s) (settled_of s h + 1 == settled_of s h + 1) (itself s) (itself (settled_of s h + 1))))))
      where
        both : (a b : Bool) → a ≡ true → b ≡ true → (a && b) ≡ true
        both a b i j = rw (i, j) refl

    last : t ≡ last_for s h (op.CommitOk n t) (last_of_session s h)
    last = sym (ap (λ o. cond (is_session s o) t (last_of_session s h)) (of_session p n t h x c) ∙ ap (λ b. cond b t (last_of_session s h)) (itself s))

    closed : (closes x.request || r.closed) ≡ (view_after (with_filled (committed_of p h) t (pushed_of p t h))).closed s
    closed = by_test (closes x.request) (λ b. (b || r.closed) ≡ cond b ((x.session == s) || r.closed) r.closed) (λ _. sym (ap (λ b. b || r.closed) own)) (λ _. refl) ∙ is_closed_with p n t h x c s

    pending : r.pending ++ t ∷ [] ≡ pending_in s h (op.CommitOk n t) (pending_of s h)
    pending = sym (ap (λ o. cond (is_session s o) (pending_of s h ++ t ∷ []) (pending_of s h)) (of_session p n t h x c) ∙ ap (λ b. cond b (pending_of s h ++ t ∷ []) (pending_of s h)) (itself s))

-- the records of the other sessions stay
other_session : (p : Plan) (n t : ℕ) (v : Event) (ls : List Line) (h : List Entry) (x : Pushed) (c : Commit p n t h x) (s : ℕ) → (c.session == s) ≡ false → session_written s (commit_writes t x) (session_record p s h) ≡ session_record p s (longer v ls n t h)
other_session p n t v ls h x c s e =
    commit_in t x s r
    ∙ (settles_apart t x s (session_after (write.AddPending x.session t) s r) apart
    ∙ (ap (λ b. cond b (record r { pending = r.pending ++ t ∷ []; last = t }) r) apart
    ∙ (λ i. record { settled = (sym counted) i; outcome = outcome i; last = last i; closed = closed i; pending = pending i; ping = r.ping; ping_at = r.ping_at; pong = r.pong })))
  where
    r : SessionRecord
    r = session_record p s h

    apart : (x.session == s) ≡ false
    apart = ap (λ m. m == s) c.tells.session ∙ e

    counted : settled_of s (longer v ls n t h) ≡ settled_of s h
    counted = ap (λ o. count_settling s (settling o (Committed t)) (settled_of s h)) (of_session p n t h x c) ∙ ap (λ b. cond b (settled_of s h + 1) (settled_of s h)) e

    outcome : r.outcome ≡ kept_as (outcome_of s (settled_of s (longer v ls n t h)) (longer v ls n t h))
    outcome = sym (ap kept_as (ap (λ m. outcome_of s m (longer v ls n t h)) counted
        ∙ (ap (λ o. outcome_here s (settled_of s h) (settled_of s h) (settling o (Committed t)) (outcome_of s (settled_of s h) h)) (of_session p n t h x c)
        ∙ ap (λ b. cond (b && (settled_of s h + 1 == settled_of s h)) (Some (Committed t)) (outcome_of s (settled_of s h) h)) e)))

    last : r.last ≡ last_for s h (op.CommitOk n t) (last_of_session s h)
    last = sym (ap (λ o. cond (is_session s o) t (last_of_session s h)) (of_session p n t h x c) ∙ ap (λ b. cond b t (last_of_session s h)) e)

    closed : r.closed ≡ (view_after (with_filled (committed_of p h) t (pushed_of p t h))).closed s
    closed = by_test (closes x.request) (λ b. r.closed ≡ cond b ((x.session == s) || r.closed) r.closed) (λ _. sym (ap (λ b. b || r.closed) apart)) (λ _. refl) ∙ is_closed_with p n t h x c s

    pending : r.pending ≡ pending_in s h (op.CommitOk n t) (pending_of s h)
    pending = sym (ap (λ o. cond (is_session s o) (pending_of s h ++ t ∷ []) (pending_of s h)) (of_session p n t h x c) ∙ ap (λ b. cond b (pending_of s h ++ t ∷ []) (pending_of s h)) e)

session_written_so : (p : Plan) (n t : ℕ) (v : Event) (ls : List Line) (h : List Entry) (x : Pushed) (c : Commit p n t h x) (s : ℕ) → session_written s (commit_writes t x) (session_record p s h) ≡ session_record p s (longer v ls n t h)
session_written_so p n t v ls h x c s = by_session (c.session == s) refl
  where
    by_session : (b : Bool) → (c.session == s) ≡ b → session_written s (commit_writes t x) (session_record p s h) ≡ session_record p s (longer v ls n t h)
    by_session true e = let i : c.session ≡ s = grind (arith, nat_tests) in subst (λ m. session_written m (commit_writes t x) (session_record p m h) ≡ session_record p m (longer v ls n t h)) i (own_session p n t v ls h x c)
    by_session false e = other_session p n t v ls h x c s e

sessions_are : (p : Plan) (n t faults : ℕ) (v : Event) (ls : List Line) (h : List Entry) (x : Pushed) (c : Commit p n t h x) (s : ℕ) → map_some (session_written s (commit_writes t x)) ((table_after p h faults).sessions s) ≡ (table_after p (longer v ls n t h) faults).sessions s
sessions_are p n t faults v ls h x c s =
    by_test (is_client p s) (λ b. map_some (session_written s (commit_writes t x)) (cond b (Some (session_record p s h)) None) ≡ cond b (Some (session_record p s (longer v ls n t h))) None)
    (λ _. ap Some (session_written_so p n t v ls h x c s))
    (λ _. refl)

-- The whole table. --------------------------------------------------------------------------------------

table_written : (p : Plan) (n t faults : ℕ) (v : Event) (ls : List Line) (h : List Entry) (x : Pushed) → Commit p n t h x → IsHistory p h → all_written (commit_writes t x) (table_after p h faults) ≡ table_after p (longer v ls n t h) faults
table_written p n t faults v ls h x c l = λ i. record {
  nodes = λ q. (nodes_written (commit_writes t x) (table_after p h faults) q ∙ nodes_are p n t faults v ls h x c q l) i;
  sessions = λ s. (sessions_written (commit_writes t x) (table_after p h faults) s ∙ sessions_are p n t faults v ls h x c s) i;
  done = (done_is_written (commit_writes t x) (table_after p h faults) ∙ commit_done t x (done_of h)) i;
  armed = (arm_stays (commit_writes t x) (table_after p h faults)) i;
  faults = (faults_stay (commit_writes t x) (table_after p h faults)) i;
}

pub commit_is_written : CommitIsWritten
commit_is_written p n t faults e h x l g m =
    table_written p n t faults e.event e.lines h x (a_commit p n t h x l.0 (subst (IsDue p h) g (due p e h l)) m) l.0
    ∙ ap (λ o. table_after p (record { event = e.event; op = o; lines = e.lines } ∷ h) faults) (sym g)

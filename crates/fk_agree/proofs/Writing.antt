-- What the writes of a commit make of the records, path by path and session by session.
use Rattle.std.proofs.Common.{◌≡◌, ℕ, ◌++◌, Bool, true, false, cond, ◌||◌, List, [], ◌∷◌, refl, sym, ◌∙◌, ap, Option, Some, None}
use Rattle.std.proofs.lemmas.Bool.{false≢true}
use Rattle.fk_base.specs.Path.{PathNames, same_path}
use Rattle.fk_tree.specs.Edit.{edit, edited}
use Rattle.fk_tree.specs.Sorted.{has_path}
use Rattle.fk_tree.specs.Touch.{edit_paths}
use Rattle.fk_tree.specs.Tree.{map_some}
use Rattle.fk_tree.specs.declared.edit.Edit.{Edit}
use Rattle.fk_store.specs.Locks.{released}
use Rattle.fk_store.specs.Meaning.{Meaning}
use Rattle.fk_store.specs.Writes.{all_written, done_written, change_record, records_written, record_after, release_record, session_after, session_written, written}
use Rattle.fk_store.specs.declared.node_record.NodeRecord.{NodeRecord}
use Rattle.fk_store.specs.declared.session_record.SessionRecord.{SessionRecord}
use Rattle.fk_store.specs.declared.write.Write.{Write}
use Rattle.fk_settle.specs.Transaction.{change_writes, release_writes}
use Rattle.fk_base.proofs.Logic.{by_test}

-- All writes of a transaction, seen at one place. -------------------------------------------------------

pub nodes_written : (ws : List Write) (m : Meaning) (q : PathNames) → (all_written ws m).nodes q ≡ records_written q ws (m.nodes q)
nodes_written [] m q = refl
nodes_written (w ∷ ws) m q = nodes_written ws (written w m) q

map_twice : (f g : SessionRecord → SessionRecord) (o : Option SessionRecord) → map_some g (map_some f o) ≡ map_some (λ r. g (f r)) o
map_twice f g None = refl
map_twice f g (Some r) = refl

pub sessions_written : (ws : List Write) (m : Meaning) (s : ℕ) → (all_written ws m).sessions s ≡ map_some (session_written s ws) (m.sessions s)
sessions_written [] m s = same (m.sessions s)
  where
    same : (o : Option SessionRecord) → o ≡ map_some (λ r. r) o
    same None = refl
    same (Some r) = refl
sessions_written (w ∷ ws) m s = sessions_written ws (written w m) s ∙ map_twice (session_after w s) (session_written s ws) (m.sessions s)

pub done_is_written : (ws : List Write) (m : Meaning) → (all_written ws m).done ≡ done_written ws m.done
done_is_written [] m = refl
done_is_written (w ∷ ws) m = done_is_written ws (written w m)

pub arm_stays : (ws : List Write) (m : Meaning) → (all_written ws m).armed ≡ m.armed
arm_stays [] m = refl
arm_stays (w ∷ ws) m = arm_stays ws (written w m)

pub faults_stay : (ws : List Write) (m : Meaning) → (all_written ws m).faults ≡ m.faults
faults_stay [] m = refl
faults_stay (w ∷ ws) m = faults_stay ws (written w m)

-- One after another. ------------------------------------------------------------------------------------

pub records_append : (q : PathNames) (ws vs : List Write) (o : Option NodeRecord) → records_written q (ws ++ vs) o ≡ records_written q vs (records_written q ws o)
records_append q [] vs o = refl
records_append q (w ∷ ws) vs o = records_append q ws vs (record_after w q o)

pub sessions_append : (s : ℕ) (ws vs : List Write) (r : SessionRecord) → session_written s (ws ++ vs) r ≡ session_written s vs (session_written s ws r)
sessions_append s [] vs r = refl
sessions_append s (w ∷ ws) vs r = sessions_append s ws vs (session_after w s r)

pub done_append : (ws vs : List Write) (d : ℕ) → done_written (ws ++ vs) d ≡ done_written vs (done_written ws d)
done_append [] vs d = refl
done_append (w ∷ ws) vs d = done_append ws vs _

-- The edits. --------------------------------------------------------------------------------------------

-- a record after the edits of its path
abbrev pub changed : ℕ → ℕ → PathNames → List Edit → NodeRecord → NodeRecord
changed tx moment q es r = record { node = edited tx moment q es r.node; lock = r.lock; last = cond (has_path q (edit_paths es)) tx r.last }

-- the last transaction of a record that is changed by a first edit and maybe by more
last_twice : (tx last : ℕ) (c : Bool) → cond c tx tx ≡ cond (true || c) tx last
last_twice tx last true = refl
last_twice tx last false = refl

pub changes_written : (q : PathNames) (tx moment : ℕ) (es : List Edit) (r : NodeRecord) → records_written q (change_writes tx moment es) (Some r) ≡ Some (changed tx moment q es r)
changes_written q tx moment [] r = refl
changes_written q tx moment (e ∷ es) r =
    by_test (same_path q e.path) (λ b. records_written q (change_writes tx moment es) (cond b (change_record e tx moment (Some r)) (Some r)) ≡ Some (record { node = edited tx moment q es (cond b (edit tx moment e.what r.node) r.node); lock = r.lock; last = cond (b || has_path q (edit_paths es)) tx r.last }))
    (λ _. changes_written q tx moment es _ ∙ ap (λ l. Some (record { node = edited tx moment q es (edit tx moment e.what r.node); lock = r.lock; last = l })) (last_twice tx r.last (has_path q (edit_paths es))))
    (λ _. changes_written q tx moment es r)

-- a path without a record that isn't edited gets none
pub no_changes_written : (q : PathNames) (tx moment : ℕ) (es : List Edit) → has_path q (edit_paths es) ≡ false → records_written q (change_writes tx moment es) None ≡ None
no_changes_written q tx moment [] g = refl
no_changes_written q tx moment (e ∷ es) g =
    by_test (same_path q e.path) (λ b. (b || has_path q (edit_paths es)) ≡ false → records_written q (change_writes tx moment es) (cond b (change_record e tx moment None) None) ≡ None)
    (λ _ f. absurd (false≢true (sym f)))
    (λ _ f. no_changes_written q tx moment es f)
    g

-- The releases. -----------------------------------------------------------------------------------------

-- a record after the release of these paths
abbrev pub freed : PathNames → List PathNames → NodeRecord → NodeRecord
freed q ps r = cond (has_path q ps) (record r { lock = released r.lock }) r

freed_twice : (r : NodeRecord) (c : Bool) → cond c (record r { lock = released r.lock }) (record r { lock = released r.lock }) ≡ record r { lock = released r.lock }
freed_twice r true = refl
freed_twice r false = refl

pub releases_written : (q : PathNames) (ps : List PathNames) (r : NodeRecord) → records_written q (release_writes ps) (Some r) ≡ Some (freed q ps r)
releases_written q [] r = refl
releases_written q (x ∷ ps) r =
    by_test (same_path q x) (λ b. records_written q (release_writes ps) (cond b (release_record (Some r)) (Some r)) ≡ Some (cond (b || has_path q ps) (record r { lock = released r.lock }) r))
    (λ _. releases_written q ps (record r { lock = released r.lock }) ∙ ap Some (freed_twice r (has_path q ps)))
    (λ _. releases_written q ps r)

pub no_releases_written : (q : PathNames) (ps : List PathNames) → records_written q (release_writes ps) None ≡ None
no_releases_written q [] = refl
no_releases_written q (x ∷ ps) =
    by_test (same_path q x) (λ b. records_written q (release_writes ps) (cond b (release_record None) None) ≡ None)
    (λ _. no_releases_written q ps)
    (λ _. no_releases_written q ps)

-- Neither changes the record of a session, nor the number done. ------------------------------------------

pub changes_leave_sessions : (s tx moment : ℕ) (es : List Edit) (r : SessionRecord) → session_written s (change_writes tx moment es) r ≡ r
changes_leave_sessions s tx moment [] r = refl
changes_leave_sessions s tx moment (e ∷ es) r = changes_leave_sessions s tx moment es r

pub releases_leave_sessions : (s : ℕ) (ps : List PathNames) (r : SessionRecord) → session_written s (release_writes ps) r ≡ r
releases_leave_sessions s [] r = refl
releases_leave_sessions s (x ∷ ps) r = releases_leave_sessions s ps r

pub changes_leave_done : (tx moment : ℕ) (es : List Edit) (d : ℕ) → done_written (change_writes tx moment es) d ≡ d
changes_leave_done tx moment [] d = refl
changes_leave_done tx moment (e ∷ es) d = changes_leave_done tx moment es d

pub releases_leave_done : (ps : List PathNames) (d : ℕ) → done_written (release_writes ps) d ≡ d
releases_leave_done [] d = refl
releases_leave_done (x ∷ ps) d = releases_leave_done ps d

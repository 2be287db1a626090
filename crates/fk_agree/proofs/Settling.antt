-- The table after a refusal and after a loss.
use Rattle.std.specs.Prelude.{◌==◌, ◌&&◌, not}
use Rattle.std.proofs.Common.{◌≡◌, ℕ, ◌+◌, Bool, true, false, cond, ◌||◌, List, [], ◌∷◌, refl, sym, ◌∙◌, ap, subst, arith, Option, Some, None}
use Rattle.std.proofs.lemmas.Bool.{false≢true}
use Rattle.std.proofs.lemmas.Bool.Decides.{nat_tests}
use Rattle.fk_base.specs.Path.{PathNames}
use Rattle.fk_base.specs.declared.code.Code.{Code}
use Rattle.fk_tree.specs.Sorted.{has_path}
use Rattle.fk_tree.specs.Tree.{map_some}
use Rattle.fk_tree.specs.declared.request.Request.{Request}
use Rattle.fk_print.specs.declared.entry.Entry.{Entry}
use Rattle.fk_print.specs.declared.event.Event.{Event}
use Rattle.fk_print.specs.declared.line.Line.{Line}
use Rattle.fk_print.specs.declared.op.Op.{Op}
use Rattle.fk_print.specs.declared.op.Op.TheVariants as op
use Rattle.fk_store.specs.Locks.{released}
use Rattle.fk_store.specs.Writes.{all_written, records_written, session_after, session_written}
use Rattle.fk_store.specs.declared.node_record.NodeRecord.{NodeRecord}
use Rattle.fk_store.specs.declared.outcome.Outcome.TheVariants as kept
use Rattle.fk_store.specs.declared.outcome.Outcome as store
use Rattle.fk_store.specs.declared.session_record.SessionRecord.{SessionRecord}
use Rattle.fk_store.specs.declared.write.Write.{Write}
use Rattle.fk_store.specs.declared.write.Write.TheVariants as write
use Rattle.fk_settle.specs.Transaction.{refuse_writes, release_writes}
use Rattle.fk_stand.specs.Tables.{has_record, kept_as, lock_from, node_record, session_record, table_after}
use Rattle.fk_spec.specs.Plan.{Plan, is_client}
use Rattle.fk_spec.specs.Start.{seen_with, session_followed, task_of}
use Rattle.fk_spec.specs.Locks.{Grant, granted, has_released, last_grant, loss_of}
use Rattle.fk_spec.specs.Settling.{Outcome, Passed, Refused, count_settling, done_of, outcome_here, outcome_of, settled_in, settled_of, settling}
use Rattle.fk_spec.specs.Follower.{Follower, next_with}
use Rattle.fk_spec.specs.Follower as follower
use Rattle.fk_spec.specs.Function.{Following, actor, place_of}
use Rattle.fk_spec.specs.Next.{IsHistory}
use Rattle.fk_law.specs.Due.{IsDue, Refuses}
use Rattle.fk_law.specs.Losing.{IsOwn}
use Rattle.fk_law.specs.Progress.{Expires, progress, progress_after}
use Rattle.fk_law.proofs.Deciding.{StandsSo, same_follower, stands_at, unsettled_nothing}
use Rattle.fk_law.proofs.Due.{due}
use Rattle.fk_law.proofs.Locking.{lock_names_a_granted_path}
use Rattle.fk_law.proofs.Moving.{ahead}
use Rattle.fk_law.proofs.Recording.{records_are_of_its_grants}
use Rattle.fk_law.proofs.Refusing.{own_each}
use Rattle.fk_law.proofs.Standing.{OnStanding, standing_step}
use Rattle.fk_law.proofs.Starting.{follower_task}
use Rattle.fk_agree.specs.Records.{ExpiredIsGrantedNothing, LossIsWritten, RefusalIsWritten}
use Rattle.fk_agree.proofs.Writing.{arm_stays, done_append, done_is_written, faults_stay, no_releases_written, nodes_written, records_append, releases_leave_done, releases_leave_sessions, releases_written, sessions_append, sessions_written}
use Rattle.fk_base.proofs.Logic.{by_test, itself}

-- A follower that expires its request was granted nothing. ----------------------------------------------

abbrev ExpiresBare : Follower → Type 0
ExpiresBare f = progress f.stage ≡ Expires → f.granted ≡ []

bare_moves : (p : Plan) (n : ℕ) (h : List Entry) (r : Request) (o : Op) (f : Follower) → IsDue p h o → place_of p n h ≡ Following f → actor o ≡ Some n → StandsSo (settled_of f.session h) (seen_with f.session f.k h) r f f.stage → ExpiresBare f → ExpiresBare (next_with p h r o f)
bare_moves p n h r (op.SessionClosed m) f d b a s i w =
    let x = same_follower p h m n d.0 f d.1 a b in
    unsettled_nothing (settled_of f.session h) (seen_with f.session f.k h) r f (subst (λ y. settled_of y.session h + 1 ≡ y.k) x d.3) (subst (StandsSo (settled_of f.session h) (seen_with f.session f.k h) r f) (subst (λ y. y.stage ≡ follower.Session) x d.2) s)
bare_moves p n h r (op.LockBusy m path holder moment) f d b a s i w = i w
bare_moves p n h r o f d b a s i w = absurd (never (sym (ahead p h r o f).2 ∙ w))
  where
    never : progress_after o (progress f.stage) ≡ Expires → ⊥
    never e = grind arith

bare : (p : Plan) (n : ℕ) (h : List Entry) → IsHistory p h → OnStanding ExpiresBare (place_of p n h)
bare p n [] l = tt
bare p n (e ∷ h) l =
    standing_step p n h e.op (place_of p n h) ExpiresBare
    (λ f b _. subst (OnStanding ExpiresBare) b (bare p n h l.0))
    (λ c k _ _. refl)
    (λ f r b a q. bare_moves p n h r e.op f (due p e h l) b a (stands_at p n h f r l.0 b q) (subst (OnStanding ExpiresBare) b (bare p n h l.0)))

pub expired_is_granted_nothing : ExpiredIsGrantedNothing
expired_is_granted_nothing p n at h f l b w = sym (records_are_of_its_grants p n h f l b) ∙ ap follower.paths_of (subst (OnStanding ExpiresBare) b (bare p n h l) (ap progress w))

-- what a follower that refuses was granted is its own
refuser_owns : (p : Plan) (n place at : ℕ) (cd : Code) (h : List Entry) (f : Follower) (s : follower.Stage) → f.stage ≡ s → IsHistory p h → place_of p n h ≡ Following f → Refuses n cd place at h s → (q : PathNames) → has_path q (granted n h) ≡ true → IsOwn n (last_grant q h)
refuser_owns p n place at cd h f (follower.Refuse r a) w l b d q i = own_each n h d.3 q i
refuser_owns p n place at cd h f (follower.Expire a) w l b d q i = absurd (false≢true (sym (ap (has_path q) (expired_is_granted_nothing p n a h f l b w)) ∙ i))
refuser_owns p n place at cd h f s w l b d q i = absurd d

-- Sessions. ---------------------------------------------------------------------------------------------

-- a session's record with its next request settled so
abbrev settled_as : ℕ → store.Outcome → SessionRecord → SessionRecord
settled_as k o r = record r { settled = k; outcome = o }

-- where a line settles request k of session c, and changes nothing else of a session
settle_own : (p : Plan) (c k : ℕ) (w : Outcome) (o : Op) (h : List Entry) → settled_in h o ≡ Some (record { session = c; outcome = w }) → settled_of c h + 1 ≡ k → (k ≡ count_settling c (settled_in h o) (settled_of c h)) × (kept_as (Some w) ≡ kept_as (outcome_here c (count_settling c (settled_in h o) (settled_of c h)) (settled_of c h) (settled_in h o) (outcome_of c (count_settling c (settled_in h o) (settled_of c h)) h)))
settle_own p c k w o h e n = (sym n ∙ sym counted, sym (ap kept_as here))
  where
    counted : count_settling c (settled_in h o) (settled_of c h) ≡ settled_of c h + 1
    counted = ap (λ x. count_settling c x (settled_of c h)) e ∙ ap (λ b. cond b (settled_of c h + 1) (settled_of c h)) (itself c)

    both : (a b : Bool) → a ≡ true → b ≡ true → (a && b) ≡ true
    both a b i j = rw (i, j) refl

    here : outcome_here c (count_settling c (settled_in h o) (settled_of c h)) (settled_of c h) (settled_in h o) (outcome_of c (count_settling c (settled_in h o) (settled_of c h)) h) ≡ Some w
    here =
        ap (λ m. outcome_here c m (settled_of c h) (settled_in h o) (outcome_of c m h)) counted
        ∙ (ap (λ x. outcome_here c (settled_of c h + 1) (settled_of c h) x (outcome_of c (settled_of c h + 1) h)) e
        ∙ ap (λ b. cond b (Some w) (outcome_of c (settled_of c h + 1) h)) (both (c == c) (settled_of c h + 1 == settled_of c h + 1) (itself c) (itself (settled_of c h + 1))))

settle_other : (c s : ℕ) (w : Outcome) (o : Op) (h : List Entry) → settled_in h o ≡ Some (record { session = c; outcome = w }) → (c == s) ≡ false → (settled_of s h ≡ count_settling s (settled_in h o) (settled_of s h)) × (outcome_of s (settled_of s h) h ≡ outcome_here s (count_settling s (settled_in h o) (settled_of s h)) (settled_of s h) (settled_in h o) (outcome_of s (count_settling s (settled_in h o) (settled_of s h)) h))
settle_other c s w o h e n = (sym counted, sym here)
  where
    counted : count_settling s (settled_in h o) (settled_of s h) ≡ settled_of s h
    counted = ap (λ x. count_settling s x (settled_of s h)) e ∙ ap (λ b. cond b (settled_of s h + 1) (settled_of s h)) n

    here : outcome_here s (count_settling s (settled_in h o) (settled_of s h)) (settled_of s h) (settled_in h o) (outcome_of s (count_settling s (settled_in h o) (settled_of s h)) h) ≡ outcome_of s (settled_of s h) h
    here =
        ap (λ m. outcome_here s m (settled_of s h) (settled_in h o) (outcome_of s m h)) counted
        ∙ (ap (λ x. outcome_here s (settled_of s h) (settled_of s h) x (outcome_of s (settled_of s h) h)) e
        ∙ ap (λ b. cond (b && (settled_of s h + 1 == settled_of s h)) (Some w) (outcome_of s (settled_of s h) h)) n)

-- The history with a refusal, and with a loss. ----------------------------------------------------------

abbrev refusing : Event → List Line → ℕ → Code → ℕ → ℕ → List Entry → List Entry
refusing v ls n cd place at h = record { event = v; op = op.RefuseOk n cd place at; lines = ls } ∷ h

abbrev losing : Event → List Line → ℕ → List Entry → List Entry
losing v ls n h = record { event = v; op = op.LostOk n; lines = ls } ∷ h

-- the write of an outcome on the record of a session
settle_at : (c s k : ℕ) (o : store.Outcome) (r : SessionRecord) (b : Bool) → (c == s) ≡ b → session_after (write.Settle c k o) s r ≡ cond b (settled_as k o r) r
settle_at c s k o r b e = ap (λ z. cond z (settled_as k o r) r) e

refused_session : (p : Plan) (v : Event) (ls : List Line) (n place at c k : ℕ) (cd : Code) (h : List Entry) (s : ℕ) → session_followed (task_of n h) ≡ Some c → settled_of c h + 1 ≡ k → session_after (write.Settle c k (kept.Refused cd at place)) s (session_record p s h) ≡ session_record p s (refusing v ls n cd place at h)
refused_session p v ls n place at c k cd h s t z = by_session (c == s) refl
  where
    e : settled_in h (op.RefuseOk n cd place at) ≡ Some (record { session = c; outcome = Refused cd place at })
    e = ap (λ x. settling x (Refused cd place at)) t

    own : session_after (write.Settle c k (kept.Refused cd at place)) c (session_record p c h) ≡ session_record p c (refusing v ls n cd place at h)
    own = let x = settle_own p c k (Refused cd place at) (op.RefuseOk n cd place at) h e z in
        settle_at c c k (kept.Refused cd at place) (session_record p c h) true (itself c)
        ∙ (λ i. record (session_record p c (refusing v ls n cd place at h)) { settled = (x.0) i; outcome = (x.1) i })

    by_session : (b : Bool) → (c == s) ≡ b → session_after (write.Settle c k (kept.Refused cd at place)) s (session_record p s h) ≡ session_record p s (refusing v ls n cd place at h)
    by_session true f = let i : c ≡ s = grind (arith, nat_tests) in subst (λ m. session_after (write.Settle c k (kept.Refused cd at place)) m (session_record p m h) ≡ session_record p m (refusing v ls n cd place at h)) i own
    by_session false f = let x = settle_other c s (Refused cd place at) (op.RefuseOk n cd place at) h e f in
        settle_at c s k (kept.Refused cd at place) (session_record p s h) false f
        ∙ (λ i. record (session_record p s (refusing v ls n cd place at h)) { settled = (x.0) i; outcome = kept_as ((x.1) i) })

lost_session : (p : Plan) (v : Event) (ls : List Line) (n c k : ℕ) (h : List Entry) (s : ℕ) → session_followed (task_of n h) ≡ Some c → settled_of c h + 1 ≡ k → session_after (write.Settle c k (kept_as (Some (Passed (loss_of n h))))) s (session_record p s h) ≡ session_record p s (losing v ls n h)
lost_session p v ls n c k h s t z = by_session (c == s) refl
  where
    e : settled_in h (op.LostOk n) ≡ Some (record { session = c; outcome = Passed (loss_of n h) })
    e = ap (λ x. settling x (Passed (loss_of n h))) t

    own : session_after (write.Settle c k (kept_as (Some (Passed (loss_of n h))))) c (session_record p c h) ≡ session_record p c (losing v ls n h)
    own = let x = settle_own p c k (Passed (loss_of n h)) (op.LostOk n) h e z in
        settle_at c c k (kept_as (Some (Passed (loss_of n h)))) (session_record p c h) true (itself c)
        ∙ (λ i. record (session_record p c (losing v ls n h)) { settled = (x.0) i; outcome = (x.1) i })

    by_session : (b : Bool) → (c == s) ≡ b → session_after (write.Settle c k (kept_as (Some (Passed (loss_of n h))))) s (session_record p s h) ≡ session_record p s (losing v ls n h)
    by_session true f = let i : c ≡ s = grind (arith, nat_tests) in subst (λ m. session_after (write.Settle c k (kept_as (Some (Passed (loss_of n h))))) m (session_record p m h) ≡ session_record p m (losing v ls n h)) i own
    by_session false f = let x = settle_other c s (Passed (loss_of n h)) (op.LostOk n) h e f in
        settle_at c s k (kept_as (Some (Passed (loss_of n h)))) (session_record p s h) false f
        ∙ (λ i. record (session_record p s (losing v ls n h)) { settled = (x.0) i; outcome = kept_as ((x.1) i) })

-- Locks. ------------------------------------------------------------------------------------------------

lock_freed : (p : Plan) (v : Event) (ls : List Line) (n place at : ℕ) (cd : Code) (h : List Entry) (q : PathNames) (o : Option Grant) → last_grant q h ≡ o → IsHistory p h → (has_path q (granted n h) ≡ true → IsOwn n (last_grant q h)) → cond (has_path q (granted n h)) (released (lock_from h o)) (lock_from h o) ≡ lock_from (refusing v ls n cd place at h) o
lock_freed p v ls n place at cd h q None w l i = by_test (has_path q (granted n h)) (λ b. cond b (released (lock_from h None)) (lock_from h None) ≡ lock_from (refusing v ls n cd place at h) None) (λ _. refl) (λ _. refl)
lock_freed p v ls n place at cd h q (Some g) w l i = by_path (has_path q (granted n h)) refl
  where
    with_holder : (b : Bool) → (n == g.holder) ≡ b → (b || has_released g.holder h) ≡ has_released g.holder (refusing v ls n cd place at h)
    with_holder b e = sym (ap (λ z. z || has_released g.holder h) e)

    by_path : (b : Bool) → has_path q (granted n h) ≡ b → cond b (released (lock_from h (Some g))) (lock_from h (Some g)) ≡ lock_from (refusing v ls n cd place at h) (Some g)
    by_path true e =
        let o : g.holder ≡ n = subst (IsOwn n) w (i e) in
        let z : (n == g.holder) ≡ true = grind (arith, nat_tests) in
        ap (λ b. record { inv = g.holder; moment = g.moment; held = not b }) (with_holder true z)
    by_path false e = ap (λ b. record { inv = g.holder; moment = g.moment; held = not b }) (with_holder false (others (n == g.holder) refl))
      where
        others : (b : Bool) → (n == g.holder) ≡ b → (n == g.holder) ≡ false
        others false f = f
        others true f =
            let o : g.holder ≡ n = grind (arith, nat_tests) in
            absurd (false≢true (sym e ∙ subst (λ m. has_path q (granted m h) ≡ true) o (lock_names_a_granted_path p q h g l w).0))

-- The whole table. --------------------------------------------------------------------------------------

refused_node : (p : Plan) (v : Event) (ls : List Line) (n place at c k faults : ℕ) (cd : Code) (h : List Entry) (ps : List PathNames) (q : PathNames) → IsHistory p h → (has_path q (granted n h) ≡ true → IsOwn n (last_grant q h)) → has_path q ps ≡ has_path q (granted n h)
    → records_written q (refuse_writes c k (kept.Refused cd at place) ps) ((table_after p h faults).nodes q) ≡ (table_after p (refusing v ls n cd place at h) faults).nodes q
refused_node p v ls n place at c k faults cd h ps q l i e =
    by_test (has_record q h) (λ b. records_written q (refuse_writes c k (kept.Refused cd at place) ps) (cond b (Some (node_record p q h)) None) ≡ cond b (Some (node_record p q (refusing v ls n cd place at h))) None)
    (λ _. records_append q (release_writes ps) (write.Settle c k (kept.Refused cd at place) ∷ []) (Some (node_record p q h)) ∙ (releases_written q ps (node_record p q h) ∙ ap Some (freed_here (has_path q ps) e)))
    (λ _. records_append q (release_writes ps) (write.Settle c k (kept.Refused cd at place) ∷ []) None ∙ no_releases_written q ps)
  where
    as_record : (b : Bool) (r : NodeRecord) → cond b (record r { lock = released r.lock }) r ≡ record r { lock = cond b (released r.lock) r.lock }
    as_record true r = refl
    as_record false r = refl

    freed_here : (b : Bool) → b ≡ has_path q (granted n h) → cond b (record (node_record p q h) { lock = released (lock_from h (last_grant q h)) }) (node_record p q h) ≡ node_record p q (refusing v ls n cd place at h)
    freed_here b f = as_record b (node_record p q h) ∙ ap (λ x. record (node_record p q h) { lock = x }) (ap (λ z. cond z (released (lock_from h (last_grant q h))) (lock_from h (last_grant q h))) f ∙ lock_freed p v ls n place at cd h q (last_grant q h) refl l i)

settled_table : (p : Plan) (v : Event) (ls : List Line) (n place at c k faults : ℕ) (cd : Code) (h : List Entry) (ps : List PathNames) → IsHistory p h → ((q : PathNames) → has_path q (granted n h) ≡ true → IsOwn n (last_grant q h)) → ((q : PathNames) → has_path q ps ≡ has_path q (granted n h)) → session_followed (task_of n h) ≡ Some c → settled_of c h + 1 ≡ k
    → all_written (refuse_writes c k (kept.Refused cd at place) ps) (table_after p h faults) ≡ table_after p (refusing v ls n cd place at h) faults
settled_table p v ls n place at c k faults cd h ps l o e t z = λ i. record {
  nodes = λ q. (nodes_written ws (table_after p h faults) q ∙ refused_node p v ls n place at c k faults cd h ps q l (o q) (e q)) i;
  sessions = λ s. (sessions_written ws (table_after p h faults) s ∙ by_test (is_client p s) (λ b. map_some (session_written s ws) (cond b (Some (session_record p s h)) None) ≡ cond b (Some (session_record p s (refusing v ls n cd place at h))) None) (λ _. ap Some (sessions_append s (release_writes ps) (write.Settle c k (kept.Refused cd at place) ∷ []) (session_record p s h) ∙ (ap (session_after (write.Settle c k (kept.Refused cd at place)) s) (releases_leave_sessions s ps (session_record p s h)) ∙ refused_session p v ls n place at c k cd h s t z))) (λ _. refl)) i;
  done = (done_is_written ws (table_after p h faults) ∙ (done_append (release_writes ps) (write.Settle c k (kept.Refused cd at place) ∷ []) (done_of h) ∙ releases_leave_done ps (done_of h))) i;
  armed = (arm_stays ws (table_after p h faults)) i;
  faults = (faults_stay ws (table_after p h faults)) i;
}
  where
    ws : List Write
    ws = refuse_writes c k (kept.Refused cd at place) ps

follows : (p : Plan) (n : ℕ) (h : List Entry) (f : Follower) → IsHistory p h → place_of p n h ≡ Following f → session_followed (task_of n h) ≡ Some f.session
follows p n h f l b = ap session_followed (follower_task p n h f l b)

pub refusal_is_written : RefusalIsWritten
refusal_is_written p n place at faults cd e h f ps l g b q =
    settled_table p e.event e.lines n place at f.session f.k faults cd h ps l.0 (refuser_owns p n place at cd h f f.stage refl l.0 b due_so.1) q (follows p n h f l.0 b) due_so.0
    ∙ ap (λ o. table_after p (record { event = e.event; op = o; lines = e.lines } ∷ h) faults) (sym g)
  where
    d : IsDue p h (op.RefuseOk n cd place at)
    d = subst (IsDue p h) g (due p e h l)

    x : d.0 ≡ f
    x = same_follower p h n n d.0 f d.1 refl b

    due_so : (settled_of f.session h + 1 ≡ f.k) × Refuses n cd place at h f.stage
    due_so = subst (λ y. (settled_of y.session h + 1 ≡ y.k) × Refuses n cd place at h y.stage) x (d.2, d.3)

lost_table : (p : Plan) (v : Event) (ls : List Line) (n c k faults : ℕ) (h : List Entry) → session_followed (task_of n h) ≡ Some c → settled_of c h + 1 ≡ k → all_written (refuse_writes c k (kept_as (Some (Passed (loss_of n h)))) []) (table_after p h faults) ≡ table_after p (losing v ls n h) faults
lost_table p v ls n c k faults h t z = λ i. record {
  nodes = (table_after p (losing v ls n h) faults).nodes;
  sessions = λ s. (by_test (is_client p s) (λ b. map_some (session_after (write.Settle c k (kept_as (Some (Passed (loss_of n h))))) s) (cond b (Some (session_record p s h)) None) ≡ cond b (Some (session_record p s (losing v ls n h))) None) (λ _. ap Some (lost_session p v ls n c k h s t z)) (λ _. refl)) i;
  done = done_of h;
  armed = false;
  faults = faults;
}

pub loss_is_written : LossIsWritten
loss_is_written p n faults e h f l g b =
    lost_table p e.event e.lines n f.session f.k faults h (follows p n h f l.0 b) settled
    ∙ ap (λ o. table_after p (record { event = e.event; op = o; lines = e.lines } ∷ h) faults) (sym g)
  where
    d : IsDue p h (op.LostOk n)
    d = subst (IsDue p h) g (due p e h l)

    settled : settled_of f.session h + 1 ≡ f.k
    settled = subst (λ y. settled_of y.session h + 1 ≡ y.k) (same_follower p h n n d.0 f d.1 refl b) d.3

-- What the services hold after an operation of a follower.
use Rattle.std.specs.Prelude.{◌+◌, ◌==◌, if◌then◌else◌}
use Rattle.std.proofs.Common.{◌≡◌, ℕ, ◌≤◌, Bool, true, false, List, [], ◌∷◌, refl, sym, ◌∙◌, ap, subst, Option, Some, None}
use Rattle.fk_base.specs.Faults.{one_more}
use Rattle.fk_base.specs.Path.{PathNames}
use Rattle.fk_base.specs.declared.code.Code.TheVariants as code
use Rattle.fk_tree.specs.Sorted.{has_path}
use Rattle.fk_print.specs.declared.entry.Entry.{Entry}
use Rattle.fk_print.specs.declared.op.Op.{Op}
use Rattle.fk_print.specs.declared.op.Op.TheVariants as op
use Rattle.fk_queue.specs.Meaning as post
use Rattle.fk_queue.specs.declared.lane.Lane.TheVariants as lane
use Rattle.fk_queue.specs.Letters.{head_number}
use Rattle.fk_settle.specs.Held as held
use Rattle.fk_settle.specs.Transaction.{commit_writes, refuse_writes}
use Rattle.fk_store.specs.Conds.{session_of}
use Rattle.fk_store.specs.Locks.{is_free}
use Rattle.fk_store.specs.Meaning as table
use Rattle.fk_store.specs.Meaning.{lock_of}
use Rattle.fk_store.specs.Writes.{all_written, written}
use Rattle.fk_store.specs.declared.outcome.Outcome as store
use Rattle.fk_store.specs.declared.outcome.Outcome.TheVariants as kept
use Rattle.fk_store.specs.declared.write.Write.TheVariants as write
use Rattle.fk_follow.specs.Meaning.{Meaning}
use Rattle.fk_follow.specs.Operation.{calm_op, lock_op, locked, session_op}
use Rattle.fk_stand.specs.Messages.{outcome_tell, push_with}
use Rattle.fk_follow.specs.Services.{post_after_step, push_at, stage_post, stage_table, table_after_step, taken, told}
use Rattle.fk_follow.specs.Sketches.{follower_for}
use Rattle.fk_wire.specs.declared.message.Tell.{Tell}
use Rattle.fk_law_tree.proofs.Lists.{ordered_has}
use Rattle.fk_stand.specs.Posts.{post_after}
use Rattle.fk_stand.specs.Tables.{kept_as, table_after}
use Rattle.fk_spec.specs.Plan.{Plan}
use Rattle.fk_spec.specs.Start.{Follows, clock_of, request_of, task_of}
use Rattle.fk_spec.specs.Locks.{granted, loss_of}
use Rattle.fk_spec.specs.Settling.{Passed}
use Rattle.fk_spec.specs.Follower as stage
use Rattle.fk_spec.specs.Follower.{Follower, Stage, commit_locked, refuse_locked}
use Rattle.fk_spec.specs.Function.{Following, follower_word, place_of}
use Rattle.fk_spec.specs.Next.{IsHistory}
use Rattle.fk_law.proofs.Settled.{reached}
use Rattle.fk_agree.specs.Records.{LeavesRecords}
use Rattle.fk_agree.specs.Stored.{LeavesStore}
use Rattle.fk_agree.specs.Watched.{LeavesWatches}
use Rattle.fk_agree.proofs.Committing.{commit_is_written}
use Rattle.fk_agree.proofs.Granting.{grant_is_written, records_stay}
use Rattle.fk_agree.proofs.Held.{left_table, settled_if, settled_so, settled_table, left_post}
use Rattle.fk_agree.proofs.Putting.{store_stays}
use Rattle.fk_agree.proofs.Serving.{LeavesPost, fault_leaves, post_stands, services_stay, table_stands}
use Rattle.fk_agree.proofs.Settling.{expired_is_granted_nothing, loss_is_written, refusal_is_written}
use Rattle.fk_agree.proofs.Watching.{watches_stay}
use Rattle.fk_agree_follow.specs.Followers.{FollowerFaultIsWritten, FollowerIsWritten, Keeps}
use Rattle.fk_agree_follow.proofs.Making.{ack_all, by_settling, either, lock_all, made_spares, session_all, stage_makes}
use Rattle.fk_agree_follow.proofs.Operating.{Reads, calm_follower, follower_faults, its_reads, its_task}
use Rattle.fk_agree_follow.proofs.Posting.{pushed_post, removed_post, replied_post}
use Rattle.fk_agree_follow.proofs.Sketching.{pushes_for}

-- The table. --------------------------------------------------------------------------------------------

taken_table : (p : Plan) (n faults : ℕ) (path : PathNames) (e : Entry) (h : List Entry) → IsHistory p (e ∷ h) → e.op ≡ lock_op (clock_of h) p.lock n path (lock_of (table_after p h faults) path) → taken path n (clock_of h) p.lock (table_after p h faults) ≡ table_after p (e ∷ h) faults
taken_table p n faults path e h l g = by_free (is_free (clock_of h) p.lock (lock_of (table_after p h faults) path)) g
  where
    by_free : (b : Bool) → e.op ≡ (if b then op.LockOk n path else op.LockBusy n path (lock_of (table_after p h faults) path).inv (lock_of (table_after p h faults) path).moment) → (if b then written (write.Grant path n (clock_of h)) (table_after p h faults) else table_after p h faults) ≡ table_after p (e ∷ h) faults
    by_free true f = grant_is_written p n faults path e h l f
    by_free false f = left_table p faults e h (op.LockBusy n path (lock_of (table_after p h faults) path).inv (lock_of (table_after p h faults) path).moment) f tt

-- one without locks
bare_table : (p : Plan) (faults : ℕ) (e : Entry) (h : List Entry) (b : Bool) (x s : Op) (z : table.Meaning) → e.op ≡ (if b then x else s) → (e.op ≡ x → z ≡ table_after p (e ∷ h) faults) → LeavesRecords s → settled_if b None z (table_after p h faults) ≡ table_after p (e ∷ h) faults
bare_table p faults e h true x s z g a b = a g
bare_table p faults e h false x s z g a b = left_table p faults e h s g b

-- what holds of a follower
record Works (p : Plan) (n : ℕ) (h : List Entry) (m : Meaning) : Type 0 where
  pub inv : m.inv ≡ n
  pub whole : Follower
  pub stands : place_of p m.inv h ≡ Following whole
  pub sketched : m.follower ≡ follower_for m.message.request whole
  pub reads : Reads p m.inv h m.follower
  pub first : 1 ≤ m.follower.k
  pub task : task_of m.inv h ≡ Some (Follows m.follower.session m.follower.k)

-- what is written of its session and its request is what the rules' follower writes
its_writes : (p : Plan) (e : Entry) (h : List Entry) (m : Meaning) (f : Follower) (o : store.Outcome) (ps : List PathNames) (a : ℕ) → m.follower ≡ follower_for m.message.request f → all_written (refuse_writes f.session f.k o ps) (table_after p h a) ≡ table_after p (e ∷ h) a
    → all_written (refuse_writes m.follower.session m.follower.k o ps) (table_after p h a) ≡ table_after p (e ∷ h) a
its_writes p e h m f o ps a s w = ap (λ z. all_written (refuse_writes z.session z.k o ps) (table_after p h a)) s ∙ w

table_case : (p : Plan) (n a b : ℕ) (e : Entry) (h : List Entry) (m : Meaning) (owned : List PathNames) (x : Stage) → m.follower.stage ≡ x → IsHistory p (e ∷ h) → Works p n h m → Keeps p m.inv h m x
    → e.op ≡ calm_op (table_after p h a) (post_after p h b) (clock_of h) p.lock owned m.inv m.follower x → stage_table (table_after p h a) (clock_of h) p.lock m x ≡ table_after p (e ∷ h) a
table_case p n a b e h m owned stage.Session y l i k g = left_table p a e h (session_op m.inv m.follower.k (session_of (table_after p h a) m.follower.session)) g (session_all LeavesRecords m.inv m.follower.k (session_of (table_after p h a) m.follower.session) tt tt tt tt tt)
table_case p n a b e h m owned stage.Owned y l i k g = sym (records_stay p a e h (subst LeavesRecords (sym g) tt))
table_case p n a b e h m owned (stage.Lock path) y l i k g = taken_table p m.inv a path e h l g
table_case p n a b e h m owned stage.Push y l i k g = sym (records_stay p a e h (subst LeavesRecords (sym g) tt))
table_case p n a b e h m owned (stage.Refuse r at) y l i k g =
    let t = table_after p h a in
    let f = m.follower in
    let ws = refuse_writes f.session f.k (kept.Refused r.code at r.place) (locked f) in
    settled_so t m.inv f.session f.k (locked f) ws i.first refl
    ∙ settled_table p a e h ((session_of t f.session).settled + 1 == f.k) (held.first_passed m.inv t (locked f)) (refuse_locked m.inv r at) (op.RefuseSettled m.inv r.code r.place at (session_of t f.session).settled) (all_written ws t) g
    (λ o. its_writes p e h m i.whole (kept.Refused r.code at r.place) (locked f) a i.sketched (refusal_is_written p m.inv r.place at a r.code e h i.whole (locked f) l o i.stands (λ q. ap (has_path q) i.reads.locks ∙ ordered_has (granted m.inv h) q))) tt (λ x. tt)
table_case p n a b e h m owned (stage.Expire at) y l i k g =
    let t = table_after p h a in
    let f = m.follower in
    let ws = refuse_writes f.session f.k (kept.Refused code.SessionExpired at 0) [] in
    settled_so t m.inv f.session f.k [] ws i.first refl
    ∙ bare_table p a e h ((session_of t f.session).settled + 1 == f.k) (op.RefuseOk m.inv code.SessionExpired 0 at) (op.RefuseSettled m.inv code.SessionExpired 0 at (session_of t f.session).settled) (all_written ws t) g
    (λ o. its_writes p e h m i.whole (kept.Refused code.SessionExpired at 0) [] a i.sketched (refusal_is_written p m.inv 0 at a code.SessionExpired e h i.whole [] l o i.stands (λ q. ap (has_path q) (sym (expired_is_granted_nothing p m.inv at h i.whole l.0 i.stands (ap (λ z. z.stage) (sym i.sketched) ∙ y)))))) tt
table_case p n a b e h m owned (stage.Commit tx) y l i k g =
    let t = table_after p h a in
    let f = m.follower in
    let ws = commit_writes tx (push_at m.moment m) in
    settled_so t m.inv f.session f.k (locked f) ws i.first refl
    ∙ settled_table p a e h ((session_of t f.session).settled + 1 == f.k) (held.first_passed m.inv t (locked f)) (commit_locked m.inv tx) (op.CommitSettled m.inv tx (session_of t f.session).settled) (all_written ws t) g
    (λ o. commit_is_written p m.inv tx a e h (push_at m.moment m) l o k.0) tt (λ x. tt)
table_case p n a b e h m owned stage.Lost y l i k g =
    let t = table_after p h a in
    let f = m.follower in
    let ws = refuse_writes f.session f.k m.outcome [] in
    settled_so t m.inv f.session f.k [] ws i.first refl
    ∙ bare_table p a e h ((session_of t f.session).settled + 1 == f.k) (op.LostOk m.inv) (op.LostSettled m.inv (session_of t f.session).settled) (all_written ws t) g
    (λ o. ap (λ w. all_written (refuse_writes f.session f.k w []) t) k ∙ its_writes p e h m i.whole (kept_as (Some (Passed (loss_of m.inv h)))) [] a i.sketched (loss_is_written p m.inv a e h i.whole l o i.stands)) tt
table_case p n a b e h m owned stage.Reply y l i k g = sym (records_stay p a e h (subst LeavesRecords (sym g) tt))
table_case p n a b e h m owned stage.Ack y l i k g = sym (records_stay p a e h (subst LeavesRecords (sym g) (ack_all LeavesRecords m.inv m.follower.k (head_number ((post_after p h b).lanes (lane.Session m.follower.session))) tt tt)))
table_case p n a b e h m owned stage.Ended y l i k g = sym (records_stay p a e h (subst LeavesRecords (sym g) tt))

-- The post. ---------------------------------------------------------------------------------------------

post_case : (p : Plan) (n a b : ℕ) (e : Entry) (h : List Entry) (m : Meaning) (owned : List PathNames) (x : Stage) → Works p n h m → request_of p m.follower.session m.follower.k h ≡ Some m.message.request → Keeps p m.inv h m x
    → e.op ≡ calm_op (table_after p h a) (post_after p h b) (clock_of h) p.lock owned m.inv m.follower x → stage_post (post_after p h b) (clock_of h) m x ≡ post_after p (e ∷ h) b
post_case p n a b e h m owned stage.Session i r k g = left_post p b e h (session_op m.inv m.follower.k (session_of (table_after p h a) m.follower.session)) g (session_all LeavesPost m.inv m.follower.k (session_of (table_after p h a) m.follower.session) tt tt tt tt tt)
post_case p n a b e h m owned stage.Owned i r k g = left_post p b e h _ g tt
post_case p n a b e h m owned (stage.Lock path) i r k g = left_post p b e h (lock_op (clock_of h) p.lock m.inv path (lock_of (table_after p h a) path)) g (lock_all LeavesPost (clock_of h) p.lock m.inv path (lock_of (table_after p h a) path) tt tt)
post_case p n a b e h m owned stage.Push i r k g =
    pushed_post p m.inv (((post_after p h b).lanes lane.Leader).given + 1) b e h i.whole m.message.request (push_at (clock_of h) m) g i.stands (ap (λ f. request_of p f.session f.k h) (sym i.sketched) ∙ r)
    (ap (λ f. push_with m.inv (clock_of h) f m.message.request) i.sketched ∙ pushes_for m.inv (clock_of h) m.message.request i.whole)
post_case p n a b e h m owned (stage.Refuse r at) i q k g = left_post p b e h _ g (by_settling LeavesPost ((session_of (table_after p h a) m.follower.session).settled + 1 == m.follower.k) (held.first_passed m.inv (table_after p h a) (locked m.follower)) (refuse_locked m.inv r at) (op.RefuseSettled m.inv r.code r.place at (session_of (table_after p h a) m.follower.session).settled) tt tt (λ x. tt))
post_case p n a b e h m owned (stage.Expire at) i r k g = left_post p b e h _ g (either LeavesPost ((session_of (table_after p h a) m.follower.session).settled + 1 == m.follower.k) (op.RefuseOk m.inv code.SessionExpired 0 at) (op.RefuseSettled m.inv code.SessionExpired 0 at (session_of (table_after p h a) m.follower.session).settled) tt tt)
post_case p n a b e h m owned (stage.Commit tx) i r k g = left_post p b e h _ g (by_settling LeavesPost ((session_of (table_after p h a) m.follower.session).settled + 1 == m.follower.k) (held.first_passed m.inv (table_after p h a) (locked m.follower)) (commit_locked m.inv tx) (op.CommitSettled m.inv tx (session_of (table_after p h a) m.follower.session).settled) tt tt (λ x. tt))
post_case p n a b e h m owned stage.Lost i r k g = left_post p b e h _ g (either LeavesPost ((session_of (table_after p h a) m.follower.session).settled + 1 == m.follower.k) (op.LostOk m.inv) (op.LostSettled m.inv (session_of (table_after p h a) m.follower.session).settled) tt tt)
post_case p n a b e h m owned stage.Reply i r k g = replied_post p m.inv m.follower.session m.follower.k b e h m.outcome g i.reads.client i.task k
post_case p n a b e h m owned stage.Ack i r k g = removed_post p m.inv m.follower.session m.follower.k b e h g i.reads.client i.task
post_case p n a b e h m owned stage.Ended i r k g = left_post p b e h _ g tt

-- All of them. ------------------------------------------------------------------------------------------

pub follower_is_written : FollowerIsWritten
follower_is_written p n e h m t q u w owned l s i r g = record {
  table = table_stands p (e ∷ h) t.faults (table_after_step t (clock_of h) p.lock m) (ap (λ z. stage_table z (clock_of h) p.lock m m.follower.stage) s.table ∙ table_case p n t.faults q.faults e h m owned m.follower.stage refl l so keeps calm);
  post = post_stands p (e ∷ h) q.faults (post_after_step q (clock_of h) m) (ap (λ z. stage_post z (clock_of h) m m.follower.stage) s.post ∙ post_case p n t.faults q.faults e h m owned m.follower.stage so i.requested keeps calm);
  user = s.user ∙ sym (store_stays p u.faults e h l (subst LeavesStore (sym calm) spares.0));
  watches = s.watches ∙ sym (watches_stay p w.faults e h (subst LeavesWatches (sym calm) spares.1));
}
  where
    calm : e.op ≡ calm_op (table_after p h t.faults) (post_after p h q.faults) (clock_of h) p.lock owned m.inv m.follower m.follower.stage
    calm = g ∙ calm_follower p h t q (clock_of h) p.lock owned m s.table s.post

    keeps : Keeps p m.inv h m m.follower.stage
    keeps = subst (λ z. Keeps p z h m m.follower.stage) (sym i.inv) i.keeps

    spares : LeavesStore (calm_op (table_after p h t.faults) (post_after p h q.faults) (clock_of h) p.lock owned m.inv m.follower m.follower.stage) × LeavesWatches (calm_op (table_after p h t.faults) (post_after p h q.faults) (clock_of h) p.lock owned m.inv m.follower m.follower.stage)
    spares = made_spares m.inv (calm_op (table_after p h t.faults) (post_after p h q.faults) (clock_of h) p.lock owned m.inv m.follower m.follower.stage) (stage_makes (table_after p h t.faults) (post_after p h q.faults) (clock_of h) p.lock owned m.inv m.follower m.follower.stage i.going)

    so : Works p n h m
    so = record {
      inv = i.inv;
      whole = i.whole;
      stands = ap (λ z. place_of p z h) i.inv ∙ i.stands;
      sketched = i.sketched;
      reads = subst (λ z. Reads p z h m.follower) (sym i.inv) (its_reads p n h m l.0 i);
      first = (reached p n m.follower.session m.follower.k h l.0 (its_task p n h m l.0 i)).0;
      task = ap (λ z. task_of z h) i.inv ∙ its_task p n h m l.0 i;
    }

-- After a fault. ----------------------------------------------------------------------------------------

-- how often calls of the table, and of the post, have failed
abbrev table_faults : ℕ → Stage → ℕ
table_faults f stage.Push = f
table_faults f stage.Reply = f
table_faults f stage.Ack = f
table_faults f stage.Ended = f
table_faults f _ = one_more f

failed_table : (p : Plan) (now time : ℕ) (h : List Entry) (m : Meaning) (f : ℕ) (x : Stage) → table.calmed (stage_table (table.armed (table_after p h f)) now time m x) ≡ table_after p h (table_faults f x)
failed_table p now time h m f stage.Session = refl
failed_table p now time h m f stage.Owned = refl
failed_table p now time h m f (stage.Lock path) = refl
failed_table p now time h m f stage.Push = refl
failed_table p now time h m f (stage.Refuse r at) = refl
failed_table p now time h m f (stage.Expire at) = refl
failed_table p now time h m f (stage.Commit tx) = refl
failed_table p now time h m f stage.Lost = refl
failed_table p now time h m f stage.Reply = refl
failed_table p now time h m f stage.Ack = refl
failed_table p now time h m f stage.Ended = refl

told_faults : (p : Plan) (h : List Entry) (c f : ℕ) (o : Option Tell) → (z : ℕ) × (post.calmed (told c o (post.armed (post_after p h f))) ≡ post_after p h z)
told_faults p h c f None = (f, refl)
told_faults p h c f (Some x) = (one_more f, refl)

failed_post : (p : Plan) (now : ℕ) (h : List Entry) (m : Meaning) (f : ℕ) (x : Stage) → (z : ℕ) × (post.calmed (stage_post (post.armed (post_after p h f)) now m x) ≡ post_after p h z)
failed_post p now h m f stage.Session = (f, refl)
failed_post p now h m f stage.Owned = (f, refl)
failed_post p now h m f (stage.Lock path) = (f, refl)
failed_post p now h m f stage.Push = (one_more f, refl)
failed_post p now h m f (stage.Refuse r at) = (f, refl)
failed_post p now h m f (stage.Expire at) = (f, refl)
failed_post p now h m f (stage.Commit tx) = (f, refl)
failed_post p now h m f stage.Lost = (f, refl)
failed_post p now h m f stage.Reply = told_faults p h m.follower.session f (outcome_tell m.follower.k m.outcome)
failed_post p now h m f stage.Ack = (one_more f, refl)
failed_post p now h m f stage.Ended = (f, refl)

pub follower_fault_is_written : FollowerFaultIsWritten
follower_fault_is_written p n e h m t q u w owned l s i g =
    let z = failed_post p (clock_of h) h m q.faults m.follower.stage in
    services_stay p e h (table.calmed (table_after_step (table.armed t) (clock_of h) p.lock m)) (post.calmed (post_after_step (post.armed q) (clock_of h) m)) u w l (fault_leaves p m.inv (follower_word m.follower.stage) e h (g ∙ follower_faults t q (clock_of h) p.lock owned m i.going))
    (record {
      table = table_stands p h (table_faults t.faults m.follower.stage) (table.calmed (table_after_step (table.armed t) (clock_of h) p.lock m)) (ap (λ z. table.calmed (stage_table (table.armed z) (clock_of h) p.lock m m.follower.stage)) s.table ∙ failed_table p (clock_of h) p.lock h m t.faults m.follower.stage);
      post = post_stands p h z.0 (post.calmed (post_after_step (post.armed q) (clock_of h) m)) (ap (λ z. post.calmed (stage_post (post.armed z) (clock_of h) m m.follower.stage)) s.post ∙ z.1);
      user = s.user;
      watches = s.watches;
    })

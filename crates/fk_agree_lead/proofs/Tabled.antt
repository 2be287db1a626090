-- What the table holds after a leader's operation.
use Rattle.std.specs.Prelude.{◌==◌, nat_lt, if◌then◌else◌}
use Rattle.std.proofs.Common.{◌≡◌, ℕ, ◌+◌, ◌≤◌, Bool, true, false, List, ◌∷◌, refl, sym, ◌∙◌, ap, subst, Some, None}
use Rattle.fk_tree.specs.Sorted.{in_path_order}
use Rattle.fk_print.specs.declared.entry.Entry.{Entry}
use Rattle.fk_print.specs.declared.op.Op.TheVariants as op
use Rattle.fk_queue.specs.Meaning as post
use Rattle.fk_settle.specs.Held.{first_passed}
use Rattle.fk_settle.specs.Transaction.{commit_writes, transacted, written_unless}
use Rattle.fk_store.specs.Conds.{Miss, found_at, session_of}
use Rattle.fk_store.specs.Meaning as table
use Rattle.fk_store.specs.Writes.{all_written}
use Rattle.fk_store.specs.declared.cond.Cond.TheVariants as cond
use Rattle.fk_user.specs.Meaning as user
use Rattle.fk_watch.specs.Meaning as watches
use Rattle.fk_lead.specs.Meaning.{Meaning, Swept}
use Rattle.fk_lead.specs.Operation.{calm_op, commit_op}
use Rattle.fk_lead.specs.Services.{done_writes, drop_writes, finish_conds, stage_table}
use Rattle.fk_stand.specs.Tables.{table_after}
use Rattle.fk_spec.specs.Plan.{Plan}
use Rattle.fk_spec.specs.Follower.{commit_locked}
use Rattle.fk_spec.specs.Leader as leader
use Rattle.fk_spec.specs.Leader.{Stage}
use Rattle.fk_spec.specs.Settling.{done_of}
use Rattle.fk_spec.specs.Next.{IsHistory}
use Rattle.fk_agree.specs.Records.{LeavesRecords}
use Rattle.fk_agree.proofs.Committing.{commit_is_written}
use Rattle.fk_agree.proofs.Finishing.{drop_is_written, finish_is_written}
use Rattle.fk_agree.proofs.Held.{left_table, settled_so, settled_table}
use Rattle.fk_agree_lead.specs.Leaders.{IsLeader}
use Rattle.fk_agree_lead.proofs.Making.{may}
use Rattle.fk_agree_lead.proofs.Pushed.{HasPush, its_push}

-- A commit. ---------------------------------------------------------------------------------------------

-- a commit writes where its request is next and all locks are held
commit_leaves : (p : Plan) (n faults : ℕ) (e : Entry) (h : List Entry) (m : Meaning) → IsHistory p (e ∷ h) → IsLeader p n h m → e.op ≡ commit_op (table_after p h faults) m.inv m.tx m.message → stage_table (table_after p h faults) m leader.Commit ≡ table_after p (e ∷ h) faults
commit_leaves p n faults e h m l i g =
    settled_so t m.message.inv m.message.session m.message.k (in_path_order m.message.paths) (commit_writes m.tx m.message) first refl
    ∙ settled_table p faults e h ((session_of t m.message.session).settled + 1 == m.message.k) (first_passed m.message.inv t (in_path_order m.message.paths)) (commit_locked m.inv m.tx) (op.CommitSettled m.inv m.tx (session_of t m.message.session).settled) (all_written (commit_writes m.tx m.message) t) g (λ f. commit_is_written p m.inv m.tx faults e h m.message l f i.message) tt (λ x. tt)
  where
    t : table.Meaning
    t = table_after p h faults

    first : 1 ≤ m.message.k
    first = let x = its_push p n h m l.0 i in subst (λ z. 1 ≤ z) (sym x.tells.number) x.first

-- A push that is dropped, or done. ----------------------------------------------------------------------

-- a push is dropped where none up to it is finished
drop_leaves : (p : Plan) (n t faults : ℕ) (e : Entry) (h : List Entry) → IsHistory p (e ∷ h) → e.op ≡ (if nat_lt (done_of h) t then op.DropOk n t else op.DropMiss n t (done_of h)) → transacted (finish_conds t) (drop_writes t) (table_after p h faults) ≡ table_after p (e ∷ h) faults
drop_leaves p n t faults e h l g = by_less (nat_lt (done_of h) t) g
  where
    miss : Miss
    miss = record { place = 0; found = found_at (table_after p h faults) (cond.DoneBelow t) }

    by_less : (b : Bool) → e.op ≡ (if b then op.DropOk n t else op.DropMiss n t (done_of h)) → written_unless (if b then None else Some miss) (drop_writes t) (table_after p h faults) ≡ table_after p (e ∷ h) faults
    by_less true f = drop_is_written p n t faults e h l f
    by_less false f = left_table p faults e h (op.DropMiss n t (done_of h)) f tt

-- so it is done
done_leaves : (p : Plan) (n faults : ℕ) (e : Entry) (h : List Entry) (m : Meaning) → IsHistory p (e ∷ h) → HasPush p h m → e.op ≡ (if nat_lt (done_of h) m.tx then op.DoneOk n m.tx else op.DoneMiss n m.tx (done_of h)) → transacted (finish_conds m.tx) (done_writes m.message.session m.tx) (table_after p h faults) ≡ table_after p (e ∷ h) faults
done_leaves p n faults e h m l x g = ap (λ c. transacted (finish_conds m.tx) (done_writes c m.tx) (table_after p h faults)) x.tells.session ∙ by_less (nat_lt (done_of h) m.tx) g
  where
    miss : Miss
    miss = record { place = 0; found = found_at (table_after p h faults) (cond.DoneBelow m.tx) }

    by_less : (b : Bool) → e.op ≡ (if b then op.DoneOk n m.tx else op.DoneMiss n m.tx (done_of h)) → written_unless (if b then None else Some miss) (done_writes x.session m.tx) (table_after p h faults) ≡ table_after p (e ∷ h) faults
    by_less true f = finish_is_written p n m.tx x.holder x.session x.k faults e h l f x.is_of
    by_less false f = left_table p faults e h (op.DoneMiss n m.tx (done_of h)) f tt

-- Each operation. ---------------------------------------------------------------------------------------

-- the table after each operation
pub table_case : (p : Plan) (n faults : ℕ) (e : Entry) (h : List Entry) (m : Meaning) (q : post.Meaning) (w : watches.Watches) (u : user.Meaning) (s : Swept) (x : Stage) → IsHistory p (e ∷ h) → IsLeader p n h m → e.op ≡ calm_op (table_after p h faults) q w u s m x → stage_table (table_after p h faults) m x ≡ table_after p (e ∷ h) faults
table_case p n faults e h m q w u s leader.Commit l i g = commit_leaves p n faults e h m l i g
table_case p n faults e h m q w u s leader.Pending l i g = left_table p faults e h (calm_op (table_after p h faults) q w u s m leader.Pending) g (may LeavesRecords (table_after p h faults) q w u s m leader.Pending (tt, tt))
table_case p n faults e h m q w u s leader.Drop l i g = drop_leaves p m.inv m.tx faults e h l g
table_case p n faults e h m q w u s leader.Sweep l i g = left_table p faults e h (calm_op (table_after p h faults) q w u s m leader.Sweep) g (may LeavesRecords (table_after p h faults) q w u s m leader.Sweep ((λ a. tt), (λ a b. tt)))
table_case p n faults e h m q w u s (leader.Put path others) l i g = left_table p faults e h (calm_op (table_after p h faults) q w u s m (leader.Put path others)) g (may LeavesRecords (table_after p h faults) q w u s m (leader.Put path others) (tt, (λ a. tt)))
table_case p n faults e h m q w u s leader.Publish l i g = left_table p faults e h (calm_op (table_after p h faults) q w u s m leader.Publish) g (may LeavesRecords (table_after p h faults) q w u s m leader.Publish (tt, (λ a. tt)))
table_case p n faults e h m q w u s leader.Notify l i g = left_table p faults e h (calm_op (table_after p h faults) q w u s m leader.Notify) g (may LeavesRecords (table_after p h faults) q w u s m leader.Notify (λ a. tt))
table_case p n faults e h m q w u s leader.Reply l i g = left_table p faults e h (calm_op (table_after p h faults) q w u s m leader.Reply) g (may LeavesRecords (table_after p h faults) q w u s m leader.Reply tt)
table_case p n faults e h m q w u s leader.Done l i g = done_leaves p m.inv faults e h m l (its_push p n h m l.0 i) g
table_case p n faults e h m q w u s leader.Ack l i g = left_table p faults e h (calm_op (table_after p h faults) q w u s m leader.Ack) g (may LeavesRecords (table_after p h faults) q w u s m leader.Ack (tt, tt))
table_case p n faults e h m q w u s leader.Ended l i g = left_table p faults e h (calm_op (table_after p h faults) q w u s m leader.Ended) g (may LeavesRecords (table_after p h faults) q w u s m leader.Ended tt)

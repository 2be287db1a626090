-- What the services hold after a leader's operation, or after its fault, and the lines that it prints.
use Rattle.std.specs.Prelude.{nat_lt, if◌then◌else◌, length}
use Rattle.std.proofs.Common.{◌≡◌, ℕ, Bool, true, false, List, [], ◌∷◌, refl, sym, ◌∙◌, ap, subst}
use Rattle.fk_base.specs.Faults.{one_more}
use Rattle.fk_base.specs.Path.{PathNames}
use Rattle.fk_tree.specs.Edit.{effects}
use Rattle.fk_tree.specs.Touch.{edits_at}
use Rattle.fk_print.specs.declared.entry.Entry.{Entry}
use Rattle.fk_print.specs.declared.line.Line.TheVariants as line
use Rattle.fk_print.specs.declared.op.Op.{Op}
use Rattle.fk_print.specs.declared.op.Op.TheVariants as op
use Rattle.fk_queue.specs.Meaning as post
use Rattle.fk_store.specs.Meaning as table
use Rattle.fk_user.specs.Meaning as user
use Rattle.fk_user.specs.Meaning.{published, with_put}
use Rattle.fk_watch.specs.Meaning as watches
use Rattle.fk_lead.specs.Meaning.{Meaning, Swept, edits_of}
use Rattle.fk_lead.specs.Operation.{calm_op}
use Rattle.fk_lead.specs.Services.{post_after_step, stage_post, stage_table, stage_user, stage_watches, table_after_step, user_after_step, watches_after_step}
use Rattle.fk_stand.specs.Posts.{post_after}
use Rattle.fk_stand.specs.Stores.{store_after, watches_after}
use Rattle.fk_stand.specs.Tables.{table_after}
use Rattle.fk_spec.specs.Plan.{Plan}
use Rattle.fk_spec.specs.Settling.{mark_of}
use Rattle.fk_spec.specs.Stored.{stamp_of}
use Rattle.fk_spec.specs.Watches.{epoch_after, published_epoch, swept_by}
use Rattle.fk_spec.specs.Leader as leader
use Rattle.fk_spec.specs.Leader.{Stage}
use Rattle.fk_spec.specs.Function.{Leading, leader_word, place_of}
use Rattle.fk_spec.specs.Next.{IsHistory, next_lines, printed_of, tx_lines}
use Rattle.fk_law.proofs.Leading.{leader_stands_where_it_may}
use Rattle.fk_agree.specs.Stored.{LeavesStore}
use Rattle.fk_agree.specs.Watched.{LeavesWatches}
use Rattle.fk_agree.proofs.Putting.{publication_is_written, put_is_written}
use Rattle.fk_agree.proofs.Serving.{fault_leaves, post_stands, services_stay, store_stands, table_stands, watches_stand}
use Rattle.fk_agree.proofs.Held.{left_store, left_watches}
use Rattle.fk_agree_lead.specs.Leaders.{IsLeader, LeaderFaultIsWritten, LeaderIsWritten, LeaderPrintsItsLines, printed_at}
use Rattle.fk_agree_lead.proofs.Making.{May, calm_leader, leader_faults, may, sweep_leaves}
use Rattle.fk_agree_lead.proofs.Posted.{post_case}
use Rattle.fk_agree_lead.proofs.Pushed.{HasCommit, its_commit}
use Rattle.fk_agree_lead.proofs.Tabled.{table_case}

-- The user storage. -------------------------------------------------------------------------------------

-- a put writes where the record has an earlier stamp
put_leaves : (p : Plan) (faults : ℕ) (e : Entry) (h : List Entry) (m : Meaning) (path : PathNames) → IsHistory p (e ∷ h) → HasCommit p h m → e.op ≡ (if nat_lt (stamp_of path h) m.tx then op.PutOk m.inv m.tx path else op.PutMiss m.inv m.tx path (stamp_of path h)) → (if nat_lt (stamp_of path h) m.tx then with_put (store_after p h faults) path m.tx m.message.moment (edits_of path m) else store_after p h faults) ≡ store_after p (e ∷ h) faults
put_leaves p faults e h m path l c g = by_less (nat_lt (stamp_of path h) m.tx) g
  where
    by_less : (b : Bool) → e.op ≡ (if b then op.PutOk m.inv m.tx path else op.PutMiss m.inv m.tx path (stamp_of path h)) → (if b then with_put (store_after p h faults) path m.tx m.message.moment (edits_of path m) else store_after p h faults) ≡ store_after p (e ∷ h) faults
    by_less true f =
        ap (λ a. with_put (store_after p h faults) path m.tx a.moment (edits_at path (effects a))) c.same ∙ put_is_written p m.inv m.tx faults path e h c.applied l f c.committed
    by_less false f = left_store p faults e h (op.PutMiss m.inv m.tx path (stamp_of path h)) l f tt

-- a publication writes where the mark is before it
publish_leaves : (p : Plan) (n faults : ℕ) (e : Entry) (h : List Entry) (m : Meaning) → IsHistory p (e ∷ h) → IsLeader p n h m → e.op ≡ (if nat_lt (mark_of h) m.tx then op.PublishOk m.inv m.tx else op.PublishMiss m.inv m.tx (mark_of h)) → (if nat_lt (mark_of h) m.tx then published (store_after p h faults) m.tx m.swept.epoch else store_after p h faults) ≡ store_after p (e ∷ h) faults
publish_leaves p n faults e h m l i g = by_less (nat_lt (mark_of h) m.tx) g
  where
    epoch : e.op ≡ op.PublishOk m.inv m.tx → m.swept.epoch ≡ published_epoch p (e ∷ h)
    epoch f = ap (λ z. z.epoch) i.swept ∙ (ap (λ j. (swept_by p j h).epoch) (sym i.inv) ∙ sym (ap (λ o. epoch_after p h o (published_epoch p h)) f))

    by_less : (b : Bool) → e.op ≡ (if b then op.PublishOk m.inv m.tx else op.PublishMiss m.inv m.tx (mark_of h)) → (if b then published (store_after p h faults) m.tx m.swept.epoch else store_after p h faults) ≡ store_after p (e ∷ h) faults
    by_less true f = ap (published (store_after p h faults) m.tx) (epoch f) ∙ publication_is_written p m.inv m.tx faults e h l f
    by_less false f = left_store p faults e h (op.PublishMiss m.inv m.tx (mark_of h)) l f tt

-- the user storage after each operation
store_case : (p : Plan) (n faults : ℕ) (e : Entry) (h : List Entry) (m : Meaning) (t : table.Meaning) (q : post.Meaning) (w : watches.Watches) (s : Swept) (x : Stage) → IsHistory p (e ∷ h) → IsLeader p n h m → place_of p n h ≡ Leading m.tx x → e.op ≡ calm_op t q w (store_after p h faults) s m x → stage_user (store_after p h faults) m x ≡ store_after p (e ∷ h) faults
store_case p n faults e h m t q w s leader.Commit l i b g = left_store p faults e h (calm_op t q w (store_after p h faults) s m leader.Commit) l g (may LeavesStore t q w (store_after p h faults) s m leader.Commit (tt, (λ a. tt), (λ path a b. tt)))
store_case p n faults e h m t q w s leader.Pending l i b g = left_store p faults e h (calm_op t q w (store_after p h faults) s m leader.Pending) l g (may LeavesStore t q w (store_after p h faults) s m leader.Pending (tt, tt))
store_case p n faults e h m t q w s leader.Drop l i b g = left_store p faults e h (calm_op t q w (store_after p h faults) s m leader.Drop) l g (may LeavesStore t q w (store_after p h faults) s m leader.Drop (tt, (λ a. tt)))
store_case p n faults e h m t q w s leader.Sweep l i b g = left_store p faults e h (calm_op t q w (store_after p h faults) s m leader.Sweep) l g (may LeavesStore t q w (store_after p h faults) s m leader.Sweep ((λ a. tt), (λ a b. tt)))
store_case p n faults e h m t q w s (leader.Put path others) l i b g = put_leaves p faults e h m path l (its_commit p n h m l.0 i (leader_stands_where_it_may p n m.tx (leader.Put path others) h l.0 b).0) g
store_case p n faults e h m t q w s leader.Publish l i b g = publish_leaves p n faults e h m l i g
store_case p n faults e h m t q w s leader.Notify l i b g = left_store p faults e h (calm_op t q w (store_after p h faults) s m leader.Notify) l g (may LeavesStore t q w (store_after p h faults) s m leader.Notify (λ a. tt))
store_case p n faults e h m t q w s leader.Reply l i b g = left_store p faults e h (calm_op t q w (store_after p h faults) s m leader.Reply) l g (may LeavesStore t q w (store_after p h faults) s m leader.Reply tt)
store_case p n faults e h m t q w s leader.Done l i b g = left_store p faults e h (calm_op t q w (store_after p h faults) s m leader.Done) l g (may LeavesStore t q w (store_after p h faults) s m leader.Done (tt, (λ a. tt)))
store_case p n faults e h m t q w s leader.Ack l i b g = left_store p faults e h (calm_op t q w (store_after p h faults) s m leader.Ack) l g (may LeavesStore t q w (store_after p h faults) s m leader.Ack (tt, tt))
store_case p n faults e h m t q w s leader.Ended l i b g = left_store p faults e h (calm_op t q w (store_after p h faults) s m leader.Ended) l g (may LeavesStore t q w (store_after p h faults) s m leader.Ended tt)

-- The table of watches. ---------------------------------------------------------------------------------

-- the table of watches after each operation
watches_case : (p : Plan) (n faults : ℕ) (e : Entry) (h : List Entry) (m : Meaning) (t : table.Meaning) (q : post.Meaning) (u : user.Meaning) (s : Swept) (x : Stage) → IsHistory p (e ∷ h) → IsLeader p n h m → place_of p n h ≡ Leading m.tx x → e.op ≡ calm_op t q (watches_after p h faults) u s m x → stage_watches (watches_after p h faults) m x ≡ watches_after p (e ∷ h) faults
watches_case p n faults e h m t q u s leader.Commit l i b g = left_watches p faults e h (calm_op t q (watches_after p h faults) u s m leader.Commit) g (may LeavesWatches t q (watches_after p h faults) u s m leader.Commit (tt, (λ a. tt), (λ path a b. tt)))
watches_case p n faults e h m t q u s leader.Pending l i b g = left_watches p faults e h (calm_op t q (watches_after p h faults) u s m leader.Pending) g (may LeavesWatches t q (watches_after p h faults) u s m leader.Pending (tt, tt))
watches_case p n faults e h m t q u s leader.Drop l i b g = left_watches p faults e h (calm_op t q (watches_after p h faults) u s m leader.Drop) g (may LeavesWatches t q (watches_after p h faults) u s m leader.Drop (tt, (λ a. tt)))
watches_case p n faults e h m t q u s leader.Sweep l i b g = sweep_leaves p m.inv (length s.fired) (length s.fired) faults e h m l (its_commit p n h m l.0 i (leader_stands_where_it_may p n m.tx leader.Sweep h l.0 b)) g
watches_case p n faults e h m t q u s (leader.Put path others) l i b g = left_watches p faults e h (calm_op t q (watches_after p h faults) u s m (leader.Put path others)) g (may LeavesWatches t q (watches_after p h faults) u s m (leader.Put path others) (tt, (λ a. tt)))
watches_case p n faults e h m t q u s leader.Publish l i b g = left_watches p faults e h (calm_op t q (watches_after p h faults) u s m leader.Publish) g (may LeavesWatches t q (watches_after p h faults) u s m leader.Publish (tt, (λ a. tt)))
watches_case p n faults e h m t q u s leader.Notify l i b g = left_watches p faults e h (calm_op t q (watches_after p h faults) u s m leader.Notify) g (may LeavesWatches t q (watches_after p h faults) u s m leader.Notify (λ a. tt))
watches_case p n faults e h m t q u s leader.Reply l i b g = left_watches p faults e h (calm_op t q (watches_after p h faults) u s m leader.Reply) g (may LeavesWatches t q (watches_after p h faults) u s m leader.Reply tt)
watches_case p n faults e h m t q u s leader.Done l i b g = left_watches p faults e h (calm_op t q (watches_after p h faults) u s m leader.Done) g (may LeavesWatches t q (watches_after p h faults) u s m leader.Done (tt, (λ a. tt)))
watches_case p n faults e h m t q u s leader.Ack l i b g = left_watches p faults e h (calm_op t q (watches_after p h faults) u s m leader.Ack) g (may LeavesWatches t q (watches_after p h faults) u s m leader.Ack (tt, tt))
watches_case p n faults e h m t q u s leader.Ended l i b g = left_watches p faults e h (calm_op t q (watches_after p h faults) u s m leader.Ended) g (may LeavesWatches t q (watches_after p h faults) u s m leader.Ended tt)

-- All of them. ------------------------------------------------------------------------------------------

pub leader_is_written : LeaderIsWritten
leader_is_written p n e h m t q u w s l a i g = record {
  table = table_stands p (e ∷ h) t.faults (table_after_step t m) (ap (λ z. stage_table z m m.stage) a.table ∙ table_case p n t.faults e h m q w u s m.stage l i (calm ∙ ap (λ z. calm_op z q w u s m m.stage) a.table));
  post = post_stands p (e ∷ h) q.faults (post_after_step q m) (ap (λ z. stage_post z m m.stage) a.post ∙ post_case p n q.faults e h m t w u s m.stage l i (calm ∙ ap (λ z. calm_op t z w u s m m.stage) a.post));
  user = store_stands p (e ∷ h) u.faults (user_after_step u m) (ap (λ z. stage_user z m m.stage) a.user ∙ store_case p n u.faults e h m t q w s m.stage l i i.stands (calm ∙ ap (λ z. calm_op t q w z s m m.stage) a.user));
  watches = watches_stand p (e ∷ h) w.faults (watches_after_step w m) (ap (λ z. stage_watches z m m.stage) a.watches ∙ watches_case p n w.faults e h m t q u s m.stage l i i.stands (calm ∙ ap (λ z. calm_op t q z u s m m.stage) a.watches));
}
  where
    calm : e.op ≡ calm_op t q w u s m m.stage
    calm = g ∙ calm_leader p h t q u w s m a

-- After a fault. ----------------------------------------------------------------------------------------

-- how often calls of the table have failed
abbrev table_faults : ℕ → Stage → ℕ
table_faults f leader.Commit = one_more f
table_faults f leader.Pending = one_more f
table_faults f leader.Drop = one_more f
table_faults f leader.Sweep = f
table_faults f (leader.Put path others) = f
table_faults f leader.Publish = f
table_faults f leader.Notify = f
table_faults f leader.Reply = f
table_faults f leader.Done = one_more f
table_faults f leader.Ack = f
table_faults f leader.Ended = f

failed_table : (p : Plan) (h : List Entry) (m : Meaning) (f : ℕ) (x : Stage) → table.calmed (stage_table (table.armed (table_after p h f)) m x) ≡ table_after p h (table_faults f x)
failed_table p h m f leader.Commit = refl
failed_table p h m f leader.Pending = refl
failed_table p h m f leader.Drop = refl
failed_table p h m f leader.Sweep = refl
failed_table p h m f (leader.Put path others) = refl
failed_table p h m f leader.Publish = refl
failed_table p h m f leader.Notify = refl
failed_table p h m f leader.Reply = refl
failed_table p h m f leader.Done = refl
failed_table p h m f leader.Ack = refl
failed_table p h m f leader.Ended = refl

-- and of the post
abbrev post_faults : ℕ → Stage → ℕ
post_faults f leader.Commit = f
post_faults f leader.Pending = f
post_faults f leader.Drop = f
post_faults f leader.Sweep = f
post_faults f (leader.Put path others) = f
post_faults f leader.Publish = f
post_faults f leader.Notify = one_more f
post_faults f leader.Reply = one_more f
post_faults f leader.Done = f
post_faults f leader.Ack = one_more f
post_faults f leader.Ended = f

failed_post : (p : Plan) (h : List Entry) (m : Meaning) (f : ℕ) (x : Stage) → post.calmed (stage_post (post.armed (post_after p h f)) m x) ≡ post_after p h (post_faults f x)
failed_post p h m f leader.Commit = refl
failed_post p h m f leader.Pending = refl
failed_post p h m f leader.Drop = refl
failed_post p h m f leader.Sweep = refl
failed_post p h m f (leader.Put path others) = refl
failed_post p h m f leader.Publish = refl
failed_post p h m f leader.Notify = refl
failed_post p h m f leader.Reply = refl
failed_post p h m f leader.Done = refl
failed_post p h m f leader.Ack = refl
failed_post p h m f leader.Ended = refl

-- and of the user storage
abbrev user_faults : ℕ → Stage → ℕ
user_faults f leader.Commit = f
user_faults f leader.Pending = f
user_faults f leader.Drop = f
user_faults f leader.Sweep = f
user_faults f (leader.Put path others) = one_more f
user_faults f leader.Publish = one_more f
user_faults f leader.Notify = f
user_faults f leader.Reply = f
user_faults f leader.Done = f
user_faults f leader.Ack = f
user_faults f leader.Ended = f

failed_user : (p : Plan) (h : List Entry) (m : Meaning) (f : ℕ) (x : Stage) → user.calmed (stage_user (user.armed (store_after p h f)) m x) ≡ store_after p h (user_faults f x)
failed_user p h m f leader.Commit = refl
failed_user p h m f leader.Pending = refl
failed_user p h m f leader.Drop = refl
failed_user p h m f leader.Sweep = refl
failed_user p h m f (leader.Put path others) = refl
failed_user p h m f leader.Publish = refl
failed_user p h m f leader.Notify = refl
failed_user p h m f leader.Reply = refl
failed_user p h m f leader.Done = refl
failed_user p h m f leader.Ack = refl
failed_user p h m f leader.Ended = refl

-- and of the table of watches
abbrev watches_faults : ℕ → Stage → ℕ
watches_faults f leader.Commit = f
watches_faults f leader.Pending = f
watches_faults f leader.Drop = f
watches_faults f leader.Sweep = one_more f
watches_faults f (leader.Put path others) = f
watches_faults f leader.Publish = f
watches_faults f leader.Notify = f
watches_faults f leader.Reply = f
watches_faults f leader.Done = f
watches_faults f leader.Ack = f
watches_faults f leader.Ended = f

failed_watches : (p : Plan) (h : List Entry) (m : Meaning) (f : ℕ) (x : Stage) → watches.calmed (stage_watches (watches.armed (watches_after p h f)) m x) ≡ watches_after p h (watches_faults f x)
failed_watches p h m f leader.Commit = refl
failed_watches p h m f leader.Pending = refl
failed_watches p h m f leader.Drop = refl
failed_watches p h m f leader.Sweep = refl
failed_watches p h m f (leader.Put path others) = refl
failed_watches p h m f leader.Publish = refl
failed_watches p h m f leader.Notify = refl
failed_watches p h m f leader.Reply = refl
failed_watches p h m f leader.Done = refl
failed_watches p h m f leader.Ack = refl
failed_watches p h m f leader.Ended = refl

pub leader_fault_is_written : LeaderFaultIsWritten
leader_fault_is_written p n e h m t q u w s l a i g =
    services_stay p e h (table.calmed (table_after_step (table.armed t) m)) (post.calmed (post_after_step (post.armed q) m)) (user.calmed (user_after_step (user.armed u) m)) (watches.calmed (watches_after_step (watches.armed w) m)) l (fault_leaves p m.inv (leader_word m.stage) e h (g ∙ leader_faults p n h m t q u w s i))
    (record {
      table = table_stands p h (table_faults t.faults m.stage) (table.calmed (table_after_step (table.armed t) m)) (ap (λ z. table.calmed (stage_table (table.armed z) m m.stage)) a.table ∙ failed_table p h m t.faults m.stage);
      post = post_stands p h (post_faults q.faults m.stage) (post.calmed (post_after_step (post.armed q) m)) (ap (λ z. post.calmed (stage_post (post.armed z) m m.stage)) a.post ∙ failed_post p h m q.faults m.stage);
      user = store_stands p h (user_faults u.faults m.stage) (user.calmed (user_after_step (user.armed u) m)) (ap (λ z. user.calmed (stage_user (user.armed z) m m.stage)) a.user ∙ failed_user p h m u.faults m.stage);
      watches = watches_stand p h (watches_faults w.faults m.stage) (watches.calmed (watches_after_step (watches.armed w) m)) (ap (λ z. watches.calmed (stage_watches (watches.armed z) m m.stage)) a.watches ∙ failed_watches p h m w.faults m.stage);
    })

-- The lines that it prints. -----------------------------------------------------------------------------

-- an operation prints what the leader shows
abbrev Prints : Plan → List Entry → Meaning → Op → Type 0
Prints p h m o = next_lines p h o ≡ printed_at m o

-- each operation that it may make does so
prints_all : (p : Plan) (n : ℕ) (h : List Entry) (m : Meaning) (x : Stage) → IsHistory p h → IsLeader p n h m → place_of p n h ≡ Leading m.tx x → May (Prints p h m) m x
prints_all p n h m leader.Commit l i b = (refl, (λ a. refl), (λ path a b. refl))
prints_all p n h m leader.Pending l i b = (refl, refl)
prints_all p n h m leader.Drop l i b = (refl, (λ a. refl))
prints_all p n h m leader.Sweep l i b = ((λ a. refl), (λ a b. refl))
prints_all p n h m (leader.Put path others) l i b = (refl, (λ a. refl))
prints_all p n h m leader.Publish l i b =
    let c = its_commit p n h m l i (leader_stands_where_it_may p n m.tx leader.Publish h l b).0 in
    (ap tx_lines c.committed ∙ ap (λ a. line.Tx (printed_of a) ∷ []) (sym c.same), (λ a. refl))
prints_all p n h m leader.Notify l i b = λ a. refl
prints_all p n h m leader.Reply l i b = refl
prints_all p n h m leader.Done l i b = (refl, (λ a. refl))
prints_all p n h m leader.Ack l i b = (refl, refl)
prints_all p n h m leader.Ended l i b = refl

pub leader_prints_its_lines : LeaderPrintsItsLines
leader_prints_its_lines p n h m t q u w s l a i = subst (Prints p h m) (sym (calm_leader p h t q u w s m a)) (may (Prints p h m) t q w u s m m.stage (prints_all p n h m m.stage l i i.stands))

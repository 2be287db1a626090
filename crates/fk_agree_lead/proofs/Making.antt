-- A leader makes the operation that the rules name, and the fault that they name.
use Rattle.std.specs.Prelude.{◌==◌, nat_lt, if◌then◌else◌, length, map}
use Rattle.std.proofs.Common.{◌≡◌, ℕ, suc, ◌+◌, Bool, true, false, List, [], ◌∷◌, refl, sym, ◌∙◌, ap, subst, Option, Some, None}
use Rattle.std.proofs.lemmas.Bool.{cond_both, false≢true}
use Rattle.fk_base.specs.Path.{PathNames}
use Rattle.fk_tree.specs.Sorted.{in_path_order}
use Rattle.fk_tree.specs.Touch.{touches}
use Rattle.fk_print.specs.declared.entry.Entry.{Entry}
use Rattle.fk_print.specs.declared.event.Event.TheVariants as event
use Rattle.fk_print.specs.declared.op.Op.{Op}
use Rattle.fk_print.specs.declared.op.Op.TheVariants as op
use Rattle.fk_queue.specs.Letters.{head_number}
use Rattle.fk_queue.specs.Meaning as post
use Rattle.fk_queue.specs.declared.lane.Lane.TheVariants as lane
use Rattle.fk_store.specs.Conds.{session_of}
use Rattle.fk_store.specs.Meaning as table
use Rattle.fk_user.specs.Meaning as user
use Rattle.fk_watch.specs.Meaning as watches
use Rattle.fk_watch.specs.Notes.{fired_as}
use Rattle.fk_watch.specs.Sweeping.{swept_for}
use Rattle.fk_settle.specs.Held as settle
use Rattle.fk_lead.specs.Meaning.{Meaning, Swept, is_end, touches_of}
use Rattle.fk_lead.specs.Operation as lead
use Rattle.fk_lead.specs.Operation.{calm_op, is_armed, step_op}
use Rattle.fk_lead.specs.Sweeping.{AreSwept, IsSweepOf, given_at, swept_at}
use Rattle.fk_stand.specs.Standing.{Standing}
use Rattle.fk_stand.specs.Stores.{watches_after}
use Rattle.fk_stand.specs.Tables.{table_after}
use Rattle.fk_spec.specs.Plan.{Plan}
use Rattle.fk_spec.specs.Locks.{Passed, first_passed, granted}
use Rattle.fk_spec.specs.Settling.{settled_of, swept_of}
use Rattle.fk_spec.specs.Watches.{Firing, fired_after, fired_by, fired_watches, firings, set_watches, touches_from, touches_of_push}
use Rattle.fk_spec.specs.Failing.{or_fault}
use Rattle.fk_spec.specs.Follower.{ack_op, commit_locked, commit_op, is_number}
use Rattle.fk_spec.specs.Leader as leader
use Rattle.fk_spec.specs.Leader.{Stage, leader_op, sweep_op}
use Rattle.fk_spec.specs.Function.{Leading, fault_op, function_op, leader_word, place_of}
use Rattle.fk_spec.specs.Next.{IsHistory, next_entry}
use Rattle.fk_law.proofs.Leading.{leader_stands_where_it_may}
use Rattle.fk_agree.specs.Watched.{LeavesWatches}
use Rattle.fk_agree.proofs.Counting.{heads_are_the_rules, lanes_are_counted}
use Rattle.fk_agree.proofs.Held.{passed_same}
use Rattle.fk_agree.proofs.Serving.{lane_is, session_is}
use Rattle.fk_agree.proofs.Watching.{sweep_is_written, watches_stay}
use Rattle.fk_agree_lead.specs.Leaders.{IsLeader, LeaderFails, LeaderMakesItsOperation, swept_as}
use Rattle.fk_agree_lead.proofs.Given.{listed_of, newly_listed, swept_is_listed}
use Rattle.fk_agree_lead.proofs.Pending.{pending_the_same}
use Rattle.fk_agree_lead.proofs.Pushed.{HasCommit, HasPush, its_commit, its_push, of_push_is}

-- The operations that it may make. ----------------------------------------------------------------------

-- this holds of each operation that it may make where it stands
abbrev pub May : (Op → Type 0) → Meaning → Stage → Type 0
May P m leader.Commit = P (op.CommitOk m.inv m.tx) × ((a : ℕ) → P (op.CommitSettled m.inv m.tx a)) × ((path : PathNames) (a b : ℕ) → P (op.CommitLock m.inv m.tx path a b))
May P m leader.Pending = P (op.PendingYes m.inv m.tx) × P (op.PendingNo m.inv m.tx)
May P m leader.Drop = P (op.DropOk m.inv m.tx) × ((a : ℕ) → P (op.DropMiss m.inv m.tx a))
May P m leader.Sweep = ((a : ℕ) → P (op.SweepOk m.inv m.tx a)) × ((a b : ℕ) → P (op.SweepMiss m.inv m.tx a b))
May P m (leader.Put path others) = P (op.PutOk m.inv m.tx path) × ((a : ℕ) → P (op.PutMiss m.inv m.tx path a))
May P m leader.Publish = P (op.PublishOk m.inv m.tx) × ((a : ℕ) → P (op.PublishMiss m.inv m.tx a))
May P m leader.Notify = (a : ℕ) → P (op.Notify m.inv m.tx a)
May P m leader.Reply = P (op.Reply m.inv m.message.session m.message.k)
May P m leader.Done = P (op.DoneOk m.inv m.tx) × ((a : ℕ) → P (op.DoneMiss m.inv m.tx a))
May P m leader.Ack = P (op.AckOk m.inv) × P (op.AckGone m.inv)
May P m leader.Ended = P op.Idle

-- what holds of both holds of the one that is chosen
either : (P : Op → Type 0) (b : Bool) (x y : Op) → P x → P y → P (if b then x else y)
either P b x y i j = cond_both b x y P (λ _. i) (λ _. j)

-- what holds of a commit and of each lock that passed on holds of what the locks say
locked : (P : Op → Type 0) (n t : ℕ) (o : Option Passed) → P (op.CommitOk n t) → ((path : PathNames) (a b : ℕ) → P (op.CommitLock n t path a b)) → P (commit_locked n t o)
locked P n t None i j = i
locked P n t (Some x) i j = j x.path x.holder x.moment

-- so it holds of the one that it makes
pub may : (P : Op → Type 0) (t : table.Meaning) (q : post.Meaning) (w : watches.Watches) (u : user.Meaning) (s : Swept) (m : Meaning) (x : Stage) → May P m x → P (calm_op t q w u s m x)
may P t q w u s m leader.Commit i =
    let passed = (settle.first_passed m.message.inv t (in_path_order m.message.paths)) in
    let settled = (session_of t m.message.session).settled in
    either P (settled + 1 == m.message.k) (commit_locked m.inv m.tx passed) (op.CommitSettled m.inv m.tx settled) (locked P m.inv m.tx passed i.0 i.2) (i.1 settled)
may P t q w u s m leader.Pending i = either P (lead.is_pending m.tx (session_of t m.message.session).pending) (op.PendingYes m.inv m.tx) (op.PendingNo m.inv m.tx) i.0 i.1
may P t q w u s m leader.Drop i = either P (nat_lt t.done m.tx) (op.DropOk m.inv m.tx) (op.DropMiss m.inv m.tx t.done) i.0 (i.1 t.done)
may P t q w u s m leader.Sweep i = either P (nat_lt w.swept m.tx) (op.SweepOk m.inv m.tx (length s.fired)) (op.SweepMiss m.inv m.tx w.swept (length s.fired)) (i.0 (length s.fired)) (i.1 w.swept (length s.fired))
may P t q w u s m (leader.Put path others) i = either P (nat_lt (u.records path).stamp m.tx) (op.PutOk m.inv m.tx path) (op.PutMiss m.inv m.tx path (u.records path).stamp) i.0 (i.1 (u.records path).stamp)
may P t q w u s m leader.Publish i = either P (nat_lt u.mark m.tx) (op.PublishOk m.inv m.tx) (op.PublishMiss m.inv m.tx u.mark) i.0 (i.1 u.mark)
may P t q w u s m leader.Notify i = i ((q.lanes lane.Watch).given + 1)
may P t q w u s m leader.Reply i = i
may P t q w u s m leader.Done i = either P (nat_lt t.done m.tx) (op.DoneOk m.inv m.tx) (op.DoneMiss m.inv m.tx t.done) i.0 (i.1 t.done)
may P t q w u s m leader.Ack i = either P (is_number m.tx (head_number (q.lanes lane.Leader))) (op.AckOk m.inv) (op.AckGone m.inv) i.0 i.1
may P t q w u s m leader.Ended i = i

-- Where the services are calm, and where they fail. -----------------------------------------------------

-- no service fails
calm_stage : (t : table.Meaning) (q : post.Meaning) (w : watches.Watches) (u : user.Meaning) (s : Swept) (m : Meaning) (x : Stage) → t.armed ≡ false → q.armed ≡ false → w.armed ≡ false → u.armed ≡ false → or_fault (is_armed t q w u x) m.inv (leader_word x) (calm_op t q w u s m x) ≡ calm_op t q w u s m x
calm_stage t q w u s m leader.Commit a b c d = rw a refl
calm_stage t q w u s m leader.Pending a b c d = rw a refl
calm_stage t q w u s m leader.Drop a b c d = rw a refl
calm_stage t q w u s m leader.Sweep a b c d = rw c refl
calm_stage t q w u s m (leader.Put path others) a b c d = rw d refl
calm_stage t q w u s m leader.Publish a b c d = rw d refl
calm_stage t q w u s m leader.Notify a b c d = rw b refl
calm_stage t q w u s m leader.Reply a b c d = rw b refl
calm_stage t q w u s m leader.Done a b c d = rw a refl
calm_stage t q w u s m leader.Ack a b c d = rw b refl
calm_stage t q w u s m leader.Ended a b c d = refl

-- where the services stand, its operation is the one that they answer
pub calm_leader : (p : Plan) (h : List Entry) (t : table.Meaning) (q : post.Meaning) (u : user.Meaning) (w : watches.Watches) (s : Swept) (m : Meaning) → Standing p h t q u w → step_op t q w u s m ≡ calm_op t q w u s m m.stage
calm_leader p h t q u w s m a = calm_stage t q w u s m m.stage (ap (λ z. z.armed) a.table) (ap (λ z. z.armed) a.post) (ap (λ z. z.armed) a.watches) (ap (λ z. z.armed) a.user)

-- each service fails
fail_stage : (t : table.Meaning) (q : post.Meaning) (w : watches.Watches) (u : user.Meaning) (s : Swept) (m : Meaning) (x : Stage) → is_end x ≡ false → or_fault (is_armed (table.armed t) (post.armed q) (watches.armed w) (user.armed u) x) m.inv (leader_word x) (calm_op (table.armed t) (post.armed q) (watches.armed w) (user.armed u) s m x) ≡ op.Fault m.inv (leader_word x)
fail_stage t q w u s m leader.Commit e = refl
fail_stage t q w u s m leader.Pending e = refl
fail_stage t q w u s m leader.Drop e = refl
fail_stage t q w u s m leader.Sweep e = refl
fail_stage t q w u s m (leader.Put path others) e = refl
fail_stage t q w u s m leader.Publish e = refl
fail_stage t q w u s m leader.Notify e = refl
fail_stage t q w u s m leader.Reply e = refl
fail_stage t q w u s m leader.Done e = refl
fail_stage t q w u s m leader.Ack e = refl
fail_stage t q w u s m leader.Ended e = absurd (false≢true (sym e))

-- where they fail, it is a fault
pub leader_faults : (p : Plan) (n : ℕ) (h : List Entry) (m : Meaning) (t : table.Meaning) (q : post.Meaning) (u : user.Meaning) (w : watches.Watches) (s : Swept) → IsLeader p n h m → step_op (table.armed t) (post.armed q) (watches.armed w) (user.armed u) s m ≡ op.Fault m.inv (leader_word m.stage)
leader_faults p n h m t q u w s i = fail_stage t q w u s m m.stage i.going

pub leader_fails : LeaderFails
leader_fails p n h m t q u w s i = leader_faults p n h m t q u w s i ∙ (ap (λ z. op.Fault z (leader_word m.stage)) i.inv ∙ sym (ap (fault_op n) i.stands))

-- A commit. ---------------------------------------------------------------------------------------------

-- the operation of a commit, by what it finds
abbrev committing : ℕ → ℕ → ℕ → ℕ → Option Passed → Op
committing n t settled k passed = if settled + 1 == k then commit_locked n t passed else op.CommitSettled n t settled

-- what a commit finds of its session
settled_found : (p : Plan) (h : List Entry) (m : Meaning) (t : table.Meaning) → t ≡ table_after p h t.faults → (x : HasPush p h m) → (session_of t m.message.session).settled ≡ settled_of x.session h
settled_found p h m t s x = ap (λ z. (session_of t z).settled) x.tells.session ∙ ap (λ z. z.settled) (session_is p x.session h t s x.client)

-- and of its locks
passed_found : (p : Plan) (h : List Entry) (m : Meaning) (t : table.Meaning) → t ≡ table_after p h t.faults → (x : HasPush p h m) → (settle.first_passed m.message.inv t (in_path_order m.message.paths)) ≡ first_passed x.holder h (in_path_order (granted x.holder h))
passed_found p h m t s x =
    ap (λ z. (settle.first_passed m.message.inv z (in_path_order m.message.paths))) s
    ∙ (passed_same p m.message.inv t.faults h (in_path_order m.message.paths) ∙ (λ i. first_passed ((x.tells.inv) i) h (in_path_order ((x.tells.paths) i))))

-- so its operation is found the same
commit_found : (p : Plan) (h : List Entry) (m : Meaning) (t : table.Meaning) → t ≡ table_after p h t.faults → (x : HasPush p h m) → lead.commit_op t m.inv m.tx m.message ≡ committing m.inv m.tx (settled_of x.session h) x.k (first_passed x.holder h (in_path_order (granted x.holder h)))
commit_found p h m t s x = λ i. committing m.inv m.tx ((settled_found p h m t s x) i) ((x.tells.number) i) ((passed_found p h m t s x) i)

-- A sweep. ----------------------------------------------------------------------------------------------

-- the touches of a push that is committed
touches_are : (p : Plan) (h : List Entry) (m : Meaning) → HasCommit p h m → touches_of m ≡ touches_of_push p m.tx h
touches_are p h m c = ap touches c.same ∙ sym (ap touches_from c.committed)

-- the operation of a sweep, by how many fired
abbrev pub sweeping : ℕ → ℕ → List Entry → ℕ → ℕ → Op
sweeping n t h k j = if nat_lt (swept_of h) t then op.SweepOk n t k else op.SweepMiss n t (swept_of h) j

-- a sweep leaves the table of watches as the longer history says
pub sweep_leaves : (p : Plan) (n k j faults : ℕ) (e : Entry) (h : List Entry) (m : Meaning) → IsHistory p (e ∷ h) → HasCommit p h m → e.op ≡ sweeping n m.tx h k j → swept_at m.tx (touches_of m) (watches_after p h faults) ≡ watches_after p (e ∷ h) faults
sweep_leaves p n k j faults e h m l c g = by_less (nat_lt (swept_of h) m.tx) g
  where
    by_less : (b : Bool) → e.op ≡ (if b then op.SweepOk n m.tx k else op.SweepMiss n m.tx (swept_of h) j) → (if b then swept_for m.tx (touches_of m) (watches_after p h faults) else watches_after p h faults) ≡ watches_after p (e ∷ h) faults
    by_less true f = ap (λ ts. swept_for m.tx ts (watches_after p h faults)) (touches_are p h m c) ∙ sweep_is_written p n m.tx k faults e h l f
    by_less false f = sym (watches_stay p faults e h (subst LeavesWatches (sym f) tt))

-- what the watches give at a sweep is what the rules list
pub given_is_listed : (p : Plan) (n k j : ℕ) (e : Entry) (h : List Entry) (m : Meaning) (w : watches.Watches) (s : Swept) → IsHistory p (e ∷ h) → w ≡ watches_after p h w.faults → HasCommit p h m → IsSweepOf m.tx (touches_of m) w s → e.op ≡ sweeping n m.tx h k j → s ≡ swept_as (listed_of m.tx (fired_watches p (e ∷ h)))
given_is_listed p n k j e h m w s l a c y g = swept_is_listed p m.tx w.faults (e ∷ h) s l (subst (λ z. AreSwept m.tx z.fired s) (ap (swept_at m.tx (touches_of m)) a ∙ sweep_leaves p n k j w.faults e h m l c g) (y (ap (λ z. z.armed) a)))

-- as many are listed as the rules list
counted : (fs : List Firing) → length (map fired_as fs) ≡ length fs
counted [] = refl
counted (f ∷ fs) = ap suc (counted fs)

-- a sweep finds as many as the rules say
sweep_found : (p : Plan) (n : ℕ) (h : List Entry) (m : Meaning) (w : watches.Watches) (s : Swept) → IsHistory p h → w ≡ watches_after p h w.faults → HasCommit p h m → IsSweepOf m.tx (touches_of m) w s → place_of p n h ≡ Leading m.tx leader.Sweep → lead.sweep_op w n m.tx s.fired ≡ sweep_op p h n m.tx
sweep_found p n h m w s l a c y b = ap (λ z. lead.sweep_op z n m.tx s.fired) a ∙ by_less (nat_lt (swept_of h) m.tx) named
  where
    e : Entry
    e = next_entry p h (event.Step n)

    longer : IsHistory p (e ∷ h)
    longer = (l, (refl, refl))

    named : e.op ≡ sweep_op p h n m.tx
    named = ap (function_op p h n) b

    new : List Firing
    new = firings m.tx (touches_of_push p m.tx h) (set_watches p h)

    old : List Firing
    old = fired_by m.tx (fired_watches p h)

    listed : s.fired ≡ map fired_as (fired_by m.tx (fired_watches p (e ∷ h)))
    listed = ap (λ z. z.fired) (given_is_listed p n (length new) (length old) e h m w s longer a c y named)

    by_less : (z : Bool) → e.op ≡ (if z then op.SweepOk n m.tx (length new) else op.SweepMiss n m.tx (swept_of h) (length old)) → (if z then op.SweepOk n m.tx (length s.fired) else op.SweepMiss n m.tx (swept_of h) (length s.fired)) ≡ (if z then op.SweepOk n m.tx (length new) else op.SweepMiss n m.tx (swept_of h) (length old))
    by_less true f = ap (λ fs. op.SweepOk n m.tx (length fs)) listed ∙ ap (op.SweepOk n m.tx) (counted (fired_by m.tx (fired_watches p (e ∷ h))) ∙ ap length (newly_listed p n m.tx (length new) e h longer f))
    by_less false f = ap (λ fs. op.SweepMiss n m.tx (swept_of h) (length fs)) listed ∙ ap (op.SweepMiss n m.tx (swept_of h)) (counted (fired_by m.tx (fired_watches p (e ∷ h))) ∙ ap (λ o. length (fired_by m.tx (fired_after p h o (fired_watches p h)))) f)

-- Each operation. ---------------------------------------------------------------------------------------

-- each operation is the one that the rules name
rule_stage : (p : Plan) (n : ℕ) (h : List Entry) (m : Meaning) (t : table.Meaning) (q : post.Meaning) (u : user.Meaning) (w : watches.Watches) (s : Swept) (x : Stage) → IsHistory p h → Standing p h t q u w → IsLeader p n h m → given_at w m s x → place_of p n h ≡ Leading m.tx x → calm_op t q w u s m x ≡ leader_op p h n m.tx x
rule_stage p n h m t q u w s leader.Commit l a i g b =
    let x = its_push p n h m l i in
    commit_found p h m t a.table x ∙ (ap (λ z. committing z m.tx (settled_of x.session h) x.k (first_passed x.holder h (in_path_order (granted x.holder h)))) i.inv ∙ sym (of_push_is m.tx x.holder x.session x.k h (λ holder session k. commit_op h n m.tx holder session k) x.is_of))
rule_stage p n h m t q u w s leader.Pending l a i g b =
    let x = its_push p n h m l i in
    ap (λ z. lead.pending_op t z m.tx m.message.session) i.inv
    ∙ (ap (lead.pending_op t n m.tx) x.tells.session
    ∙ (ap (λ z. if lead.is_pending m.tx z.pending then op.PendingYes n m.tx else op.PendingNo n m.tx) (session_is p x.session h t a.table x.client)
    ∙ ap (λ z. if z then op.PendingYes n m.tx else op.PendingNo n m.tx) (pending_the_same p m.tx x.holder x.session x.k h l x.is_of)))
rule_stage p n h m t q u w s leader.Drop l a i g b = ap (λ z. lead.drop_op t z m.tx) i.inv ∙ ap (λ z. lead.drop_op z n m.tx) a.table
rule_stage p n h m t q u w s leader.Sweep l a i g b = ap (λ z. lead.sweep_op w z m.tx s.fired) i.inv ∙ sweep_found p n h m w s l a.watches (its_commit p n h m l i (leader_stands_where_it_may p n m.tx leader.Sweep h l b)) g b
rule_stage p n h m t q u w s (leader.Put path others) l a i g b = ap (λ z. lead.put_op u z m.tx path) i.inv ∙ ap (λ z. lead.put_op z n m.tx path) a.user
rule_stage p n h m t q u w s leader.Publish l a i g b = ap (λ z. lead.publish_op u z m.tx) i.inv ∙ ap (λ z. lead.publish_op z n m.tx) a.user
rule_stage p n h m t q u w s leader.Notify l a i g b = ap (λ z. op.Notify z m.tx ((q.lanes lane.Watch).given + 1)) i.inv ∙ ap (λ z. op.Notify n m.tx (z + 1)) (ap (λ z. z.given) (lane_is p h q lane.Watch a.post refl) ∙ (lanes_are_counted p h l).2.count)
rule_stage p n h m t q u w s leader.Reply l a i g b =
    let x = its_push p n h m l i in
    ap (λ z. op.Reply z m.message.session m.message.k) i.inv ∙ ((λ j. op.Reply n ((x.tells.session) j) ((x.tells.number) j)) ∙ sym (of_push_is m.tx x.holder x.session x.k h (λ holder session k. op.Reply n session k) x.is_of))
rule_stage p n h m t q u w s leader.Done l a i g b = ap (λ z. lead.done_op t z m.tx) i.inv ∙ ap (λ z. lead.done_op z n m.tx) a.table
rule_stage p n h m t q u w s leader.Ack l a i g b = ap (λ z. ack_op z m.tx (head_number (q.lanes lane.Leader))) i.inv ∙ ap (ack_op n m.tx) (ap head_number (lane_is p h q lane.Leader a.post refl) ∙ (heads_are_the_rules p h l).1)
rule_stage p n h m t q u w s leader.Ended l a i g b = refl

pub leader_makes_its_operation : LeaderMakesItsOperation
leader_makes_its_operation p n h m t q u w s l a i g = calm_leader p h t q u w s m a ∙ (rule_stage p n h m t q u w s m.stage l a i g i.stands ∙ sym (ap (function_op p h n) i.stands))

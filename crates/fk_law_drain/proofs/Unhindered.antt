-- No function of a drain is hindered.
use Rattle.std.specs.Prelude.{◌==◌, if◌then◌else◌, nat_lt}
use Rattle.std.proofs.Common.{◌≡◌, ◌≢◌, ℕ, ◌+◌, ◌≤◌, ◌⊎◌, inl, inr, Bool, true, false, List, [], ◌∷◌, length, refl, sym, ◌∙◌, ap, subst, arith, Option, Some, None}
use Rattle.std.proofs.lemmas.Bool.{false≢true, cond_both}
use Rattle.std.proofs.lemmas.Bool.Decides.{nat_tests}
use Rattle.fk_base.specs.Path.{PathNames}
use Rattle.fk_base.specs.declared.code.Code.TheVariants as code
use Rattle.fk_tree.specs.Check.{Refusal}
use Rattle.fk_tree.specs.Sorted.{has_path, in_path_order}
use Rattle.fk_tree.specs.declared.request.Request.{Request}
use Rattle.fk_print.specs.declared.entry.Entry.{Entry}
use Rattle.fk_print.specs.declared.op.Op.{Op}
use Rattle.fk_print.specs.declared.op.Op.TheVariants as op
use Rattle.fk_spec.specs.Plan.{Plan}
use Rattle.fk_spec.specs.Start.{Task, Follows, Leads, Notifies, Probes, Push, push_of, pushes_of, request_of, seen_with, sends_of, task_of}
use Rattle.fk_spec.specs.Locks.{Grant, first_passed, granted, last_grant, may_grant}
use Rattle.fk_spec.specs.Locks as locks
use Rattle.fk_spec.specs.Settling.{Outcome, Committed, Passed, Refused, done_of, is_committed, is_pending, mark_of, outcome_of, settled_of, swept_of}
use Rattle.fk_spec.specs.Stored.{stamp_of, stored_view}
use Rattle.fk_spec.specs.Lanes.{follows_session, head_among, leader_head, leads, notes_of, notifies, removed_by, session_head, watch_head}
use Rattle.fk_spec.specs.Follower.{Follower, next_follower, ack_op, busy_op, commit_locked, commit_op, expire_op, follower_op, lock_op, refuse_locked, refuse_op, session_op, settled_op, unsettled_op}
use Rattle.fk_spec.specs.Follower as follower
use Rattle.fk_spec.specs.Leader.{next_leader, for_push, for_task, leader_op, of_push}
use Rattle.fk_spec.specs.Leader as leader
use Rattle.fk_spec.specs.Teller.{Note, next_teller, note_of, teller_op, to_tell}
use Rattle.fk_spec.specs.Teller as teller
use Rattle.fk_spec.specs.Watches.{Firing, fired_by, fired_watches, firings, set_watches, touches_of_push}
use Rattle.fk_spec.specs.Function.{Place, Absent, Following, Leading, Telling, Beating, actor, beat_on, follow_on, function_op, is_absent, lead_on, moved, place_of, placed, tell_on, telling}
use Rattle.fk_spec.specs.Heartbeat.{next_beat}
use Rattle.fk_spec.specs.Heartbeat as heartbeat
use Rattle.fk_spec.specs.Next.{IsHistory}
use Rattle.fk_law.specs.Due.{Commits, HoldsAll, IsPushOf}
use Rattle.fk_law.specs.Functions.{IsFor}
use Rattle.fk_law.specs.Losing.{IsLive, IsOwn}
use Rattle.fk_law.specs.Progress.{progress}
use Rattle.fk_law.proofs.Committing.{committed_settled}
use Rattle.fk_law.proofs.Deciding.{StandsSo, stands_at}
use Rattle.fk_law.proofs.Leading.{leader_at_or_below_the_head}
use Rattle.fk_law.proofs.Living.{live_commits, own_held}
use Rattle.fk_law.proofs.Locking.{lock_names_a_granted_path, unsettled_unreleased}
use Rattle.fk_law.proofs.Moving.{place_step}
use Rattle.fk_law.proofs.Pushing.{push_request, push_there}
use Rattle.fk_law.proofs.Recording.{records_are_of_its_grants}
use Rattle.fk_law.proofs.Seeing.{lock_is_new}
use Rattle.fk_law.proofs.Losing.{passed_not_held}
use Rattle.fk_law.proofs.Sending.{sent_has_a_request}
use Rattle.fk_law.proofs.Settled.{commit_of, reached}
use Rattle.fk_law.proofs.Starting.{follower_task, leader_task, place_for, teller_at_or_below_the_head}
use Rattle.fk_law_drain.specs.Draining.{IsCalm, IsHolder, IsUnhindered, SettlesNext, WorksOnTheHead}
use Rattle.fk_base.proofs.Logic.{itself}

-- Functions end only at their ends. --------------------------------------------------------------------

abbrev pub IsUnended : Place → Type 0
IsUnended (Following f) = f.stage ≢ follower.Ended
IsUnended (Leading t s) = s ≢ leader.Ended
IsUnended (Telling w t s) = s ≢ teller.Ended
IsUnended (Beating c s) = s ≢ heartbeat.Ended
IsUnended Absent = Unit {0}

follow_unended : (s : follower.Stage) (g : Follower) → s ≡ g.stage → IsUnended (follow_on s g)
follow_unended follower.Ended g e = tt
follow_unended follower.Session g e = λ f. absurd (grind arith)
follow_unended follower.Owned g e = λ f. absurd (grind arith)
follow_unended (follower.Lock path) g e = λ f. absurd (grind arith)
follow_unended follower.Push g e = λ f. absurd (grind arith)
follow_unended (follower.Refuse r at) g e = λ f. absurd (grind arith)
follow_unended (follower.Expire at) g e = λ f. absurd (grind arith)
follow_unended (follower.Commit t) g e = λ f. absurd (grind arith)
follow_unended follower.Lost g e = λ f. absurd (grind arith)
follow_unended follower.Reply g e = λ f. absurd (grind arith)
follow_unended follower.Ack g e = λ f. absurd (grind arith)

lead_unended : (t : ℕ) (s : leader.Stage) → IsUnended (lead_on t s)
lead_unended t leader.Ended = tt
lead_unended t leader.Commit = λ f. absurd (grind arith)
lead_unended t leader.Pending = λ f. absurd (grind arith)
lead_unended t leader.Drop = λ f. absurd (grind arith)
lead_unended t leader.Sweep = λ f. absurd (grind arith)
lead_unended t (leader.Put path others) = λ f. absurd (grind arith)
lead_unended t leader.Publish = λ f. absurd (grind arith)
lead_unended t leader.Notify = λ f. absurd (grind arith)
lead_unended t leader.Reply = λ f. absurd (grind arith)
lead_unended t leader.Done = λ f. absurd (grind arith)
lead_unended t leader.Ack = λ f. absurd (grind arith)

tell_unended : (w t : ℕ) (s : teller.Stage) → IsUnended (tell_on w t s)
tell_unended w t teller.Ended = tt
tell_unended w t (teller.Tell f fs) = λ e. absurd (grind arith)
tell_unended w t teller.Told = λ e. absurd (grind arith)
tell_unended w t teller.Ack = λ e. absurd (grind arith)

beat_unended : (c : ℕ) (s : heartbeat.Stage) → IsUnended (beat_on c s)
beat_unended c heartbeat.Ended = tt
beat_unended c heartbeat.Probe = λ e. absurd (grind arith)
beat_unended c heartbeat.Ping = λ e. absurd (grind arith)
beat_unended c heartbeat.Note = λ e. absurd (grind arith)
beat_unended c heartbeat.Evict = λ e. absurd (grind arith)

moved_unended : (p : Plan) (h : List Entry) (o : Op) (x : Place) → IsUnended (moved p h o x)
moved_unended p h o Absent = tt
moved_unended p h o (Following f) = let g = next_follower p h o f in follow_unended g.stage g refl
moved_unended p h o (Leading t s) = lead_unended t (next_leader p h t o s)
moved_unended p h o (Telling w t s) = tell_unended w t (next_teller o s)
moved_unended p h o (Beating c s) = beat_unended c (next_beat o)

told_unended : (w : ℕ) (o : Option Note) → IsUnended (telling w o)
told_unended w None = tt
told_unended w (Some x) = to_tell_unended x.fired
  where
    to_tell_unended : (fs : List Firing) → to_tell fs ≢ teller.Ended
    to_tell_unended [] e = grind arith
    to_tell_unended (f ∷ fs) e = grind arith

placed_unended : (p : Plan) (h : List Entry) (t : Task) → IsUnended (placed p h t)
placed_unended p h (Follows c k) = λ e. absurd (grind arith)
placed_unended p h (Leads t) = λ e. absurd (grind arith)
placed_unended p h (Notifies w) = told_unended w (note_of p w h)
placed_unended p h (Probes c) = λ e. absurd (grind arith)

pub unended : (p : Plan) (n : ℕ) (h : List Entry) → IsUnended (place_of p n h)
unended p n [] = tt
unended p n (e ∷ h) = place_step p n h e.op (place_of p n h) IsUnended (λ _. unended p n h) (λ s _ _. placed_unended p h s.task) (λ _. moved_unended p h e.op (place_of p n h))

-- Followers. -------------------------------------------------------------------------------------------

-- the operation is of function n, and isn't hindered
abbrev pub GoesOn : ℕ → Place → Op → Type 0
GoesOn n x o = IsUnhindered x o × (actor o ≡ Some n)

unsettled_goes : (n : ℕ) (f : Follower) (b : Bool) → GoesOn n (Following f) (unsettled_op n b)
unsettled_goes n f true = (tt, refl)
unsettled_goes n f false = (tt, refl)

settled_goes : (n : ℕ) (f : Follower) (o : Option Outcome) → GoesOn n (Following f) (settled_op n o)
settled_goes n f None = (tt, refl)
settled_goes n f (Some (Committed t)) = (tt, refl)
settled_goes n f (Some (Refused cd place at)) = (tt, refl)
settled_goes n f (Some (Passed loss)) = (tt, refl)

session_goes : (p : Plan) (h : List Entry) (n : ℕ) (f : Follower) (c k : ℕ) → GoesOn n (Following f) (session_op p h n c k)
session_goes p h n f c k =
    cond_both (settled_of c h + 1 == k) (unsettled_op n ((stored_view p h).closed c)) (if settled_of c h == k then settled_op n (outcome_of c k h) else op.SessionPast n) (GoesOn n (Following f))
    (λ _. unsettled_goes n f ((stored_view p h).closed c))
    (λ _. cond_both (settled_of c h == k) (settled_op n (outcome_of c k h)) (op.SessionPast n) (GoesOn n (Following f)) (λ _. settled_goes n f (outcome_of c k h)) (λ _. (tt, refl)))

-- the path that a follower locks next may be granted
lock_may_be_granted : (p : Plan) (n : ℕ) (h : List Entry) (f : Follower) (path : PathNames) → IsHistory p h → place_of p n h ≡ Following f → f.stage ≡ follower.Lock path → (may_grant p.lock h (last_grant path h) ≡ true) ⊎ (IsHolder (place_of p n h) × IsOwn n (last_grant path h)) → may_grant p.lock h (last_grant path h) ≡ true
lock_may_be_granted p n h f path l b s (inl e) = e
lock_may_be_granted p n h f path l b s (inr o) = absurd (false≢true (sym new ∙ granted_it (last_grant path h) refl o.1))
  where
    task : task_of n h ≡ Some (Follows f.session f.k)
    task = follower_task p n h f l b

    its_request : (r : Request) × (request_of p f.session f.k h ≡ Some r)
    its_request = let r = reached p n f.session f.k h l task in sent_has_a_request p f.session f.k h l r.0 r.2

    new : has_path path (granted n h) ≡ false
    new = let r = its_request in ap (has_path path) (sym (records_are_of_its_grants p n h f l b)) ∙ lock_is_new (settled_of f.session h) (seen_with f.session f.k h) r.0 f path (subst (StandsSo (settled_of f.session h) (seen_with f.session f.k h) r.0 f) s (stands_at p n h f r.0 l b r.1))

    granted_it : (g : Option Grant) → last_grant path h ≡ g → IsOwn n g → has_path path (granted n h) ≡ true
    granted_it None q i = absurd i
    granted_it (Some g) q i = subst (λ m. has_path path (granted m h) ≡ true) i (lock_names_a_granted_path p path h g l q).0

lock_goes : (p : Plan) (n : ℕ) (h : List Entry) (f : Follower) (path : PathNames) → may_grant p.lock h (last_grant path h) ≡ true → GoesOn n (Following f) (lock_op p.lock h n path)
lock_goes p n h f path e = subst (λ b. GoesOn n (Following f) (if b then op.LockOk n path else busy_op n path (last_grant path h))) (sym e) (tt, refl)

holds_all : (p : Plan) (n c k : ℕ) (h : List Entry) → IsHistory p h → task_of n h ≡ Some (Follows c k) → settled_of c h + 1 ≡ k → ((path : PathNames) → has_path path (granted n h) ≡ true → IsOwn n (last_grant path h)) → HoldsAll n h
holds_all p n c k h l t s o = by_passed (first_passed n h (in_path_order (granted n h))) refl
  where
    by_passed : (x : Option locks.Passed) → first_passed n h (in_path_order (granted n h)) ≡ x → x ≡ None
    by_passed None e = refl
    by_passed (Some x) e = let w = passed_not_held n h x e in absurd (false≢true (sym w.1 ∙ own_held n h (last_grant x.path h) (o x.path w.0) (unsettled_unreleased p n c k h l t s)))

refuse_goes : (h : List Entry) (n : ℕ) (f : Follower) (r : Refusal) (at c k : ℕ) → settled_of c h + 1 ≡ k → HoldsAll n h → GoesOn n (Following f) (refuse_op h n r at c k)
refuse_goes h n f r at c k s a =
    subst (λ b. GoesOn n (Following f) (if b then refuse_locked n r at (first_passed n h (in_path_order (granted n h))) else op.RefuseSettled n r.code r.place at (settled_of c h))) (sym (next s))
    (subst (λ z. GoesOn n (Following f) (refuse_locked n r at z)) (sym a) (tt, refl))
  where
    next : settled_of c h + 1 ≡ k → (settled_of c h + 1 == k) ≡ true
    next s = grind (arith, nat_tests)

expire_goes : (h : List Entry) (n : ℕ) (f : Follower) (at c k : ℕ) → settled_of c h + 1 ≡ k → GoesOn n (Following f) (expire_op h n at c k)
expire_goes h n f at c k s = subst (λ b. GoesOn n (Following f) (if b then op.RefuseOk n code.SessionExpired 0 at else op.RefuseSettled n code.SessionExpired 0 at (settled_of c h))) (sym (next s)) (tt, refl)
  where
    next : settled_of c h + 1 ≡ k → (settled_of c h + 1 == k) ≡ true
    next s = grind (arith, nat_tests)

commit_goes : (p : Plan) (n t : ℕ) (h : List Entry) (f : Follower) → IsHistory p h → place_of p n h ≡ Following f → f.stage ≡ follower.Commit t → settled_of f.session h + 1 ≡ f.k → ((path : PathNames) → has_path path (granted n h) ≡ true → IsOwn n (last_grant path h)) → GoesOn n (Following f) (commit_op h n t n f.session f.k)
commit_goes p n t h f l b s a o = subst (GoesOn n (Following f)) (sym (live_commits p n t n f.session f.k h l push live)) (tt, refl)
  where
    push : IsPushOf t n f.session f.k h
    push = commit_of p n t n f.session f.k h l (subst (Commits n t n f.session f.k h) (sym b) (s, refl, refl, refl))

    uncommitted : (c : Bool) → is_committed t h ≡ c → c ≡ false
    uncommitted false e = refl
    uncommitted true e = let d = committed_settled p t n f.session f.k h l e push in absurd (omega (arith, a, d))

    live : IsLive t h
    live = record { function = n; session = f.session; k = f.k; is_of = push; uncommitted = uncommitted (is_committed t h) refl; next = a; own = o }

ack_goes : (n k : ℕ) (x : Place) (head : Option ℕ) → head ≡ Some k → IsUnhindered x (op.AckOk n) → GoesOn n x (ack_op n k head)
ack_goes n k x head e u = subst (λ z. GoesOn n x (ack_op n k z)) (sym e) (subst (λ b. GoesOn n x (if b then op.AckOk n else op.AckGone n)) (sym (itself k)) (u, refl))

-- the head of a lane that isn't empty
its_head : (given removed k : ℕ) → k ≡ removed + 1 → k ≤ given → head_among given removed ≡ Some k
its_head given removed k e b = grind (arith, nat_tests)

follower_goes : (p : Plan) (n : ℕ) (h : List Entry) (f : Follower) (s : follower.Stage) → IsHistory p h → IsCalm p n h → place_of p n h ≡ Following f → f.stage ≡ s → s ≢ follower.Ended → (f.k ≡ removed_by (follows_session f.session) h + 1) × SettlesNext (settled_of f.session h) f.k (progress s) → GoesOn n (Following f) (follower_op p h n f s)
follower_goes p n h f follower.Session l i b e u w = session_goes p h n f f.session f.k
follower_goes p n h f follower.Owned l i b e u w = (tt, refl)
follower_goes p n h f (follower.Lock path) l i b e u w = lock_goes p n h f path (lock_may_be_granted p n h f path l b e (i.free path))
follower_goes p n h f follower.Push l i b e u w = (tt, refl)
follower_goes p n h f (follower.Refuse r at) l i b e u w = refuse_goes h n f r at f.session f.k w.1 (holds_all p n f.session f.k h l (follower_task p n h f l b) w.1 (λ path. i.own path (ap is_absent b)))
follower_goes p n h f (follower.Expire at) l i b e u w = expire_goes h n f at f.session f.k w.1
follower_goes p n h f (follower.Commit t) l i b e u w = commit_goes p n t h f l b e w.1 (λ path. i.own path (ap is_absent b))
follower_goes p n h f follower.Lost l i b e u w = absurd w.1
follower_goes p n h f follower.Reply l i b e u w = (tt, refl)
follower_goes p n h f follower.Ack l i b e u w = ack_goes n f.k (Following f) (session_head f.session h) (its_head (sends_of f.session h) (removed_by (follows_session f.session) h) f.k w.0 (reached p n f.session f.k h l (follower_task p n h f l b)).2) tt
follower_goes p n h f follower.Ended l i b e u w = absurd (u refl)

-- Leaders. ---------------------------------------------------------------------------------------------

record IsLed (p : Plan) (t : ℕ) (h : List Entry) : Type 0 where
  pub push : Push
  pub pushed : push_of t h ≡ Some push
  pub session : ℕ
  pub k : ℕ
  pub task : task_of push.function h ≡ Some (Follows session k)

its_led : (p : Plan) (n t : ℕ) (s : leader.Stage) (h : List Entry) → IsHistory p h → place_of p n h ≡ Leading t s → IsLed p t h
its_led p n t s h l b =
    let r = leader_at_or_below_the_head p n t h l (leader_task p n h t s l b) in
    let x = push_there p t h l r.0 r.2 in
    let y = push_request p t h x.0 l x.1 in
    record { push = x.0; pushed = x.1; session = y.0; k = y.1; task = y.2 }

led : (p : Plan) (t : ℕ) (h : List Entry) (x : IsLed p t h) (f : ℕ → ℕ → ℕ → Op) → of_push t h f ≡ f x.push.function x.session x.k
led p t h x f = ap (λ z. for_push h z f) x.pushed ∙ ap (λ z. for_task z (λ session k. f x.push.function session k)) x.task

commit_acts : (h : List Entry) (n t m c k : ℕ) (s : leader.Stage) → GoesOn n (Leading t s) (commit_op h n t m c k)
commit_acts h n t m c k s = cond_both (settled_of c h + 1 == k) (commit_locked n t (first_passed m h (in_path_order (granted m h)))) (op.CommitSettled n t (settled_of c h)) (GoesOn n (Leading t s)) (λ _. by_passed (first_passed m h (in_path_order (granted m h)))) (λ _. (tt, refl))
  where
    by_passed : (x : Option locks.Passed) → GoesOn n (Leading t s) (commit_locked n t x)
    by_passed None = (tt, refl)
    by_passed (Some x) = (tt, refl)

either_goes : (n : ℕ) (x : Place) (b : Bool) (o q : Op) → GoesOn n x o → GoesOn n x q → GoesOn n x (if b then o else q)
either_goes n x true o q i j = i
either_goes n x false o q i j = j

leader_goes : (p : Plan) (n t : ℕ) (h : List Entry) (s : leader.Stage) → IsHistory p h → place_of p n h ≡ Leading t s → t ≡ removed_by leads h + 1 → (r : leader.Stage) → r ≢ leader.Ended → GoesOn n (Leading t s) (leader_op p h n t r)
leader_goes p n t h s l b w leader.Commit u = let x = its_led p n t s h l b in subst (GoesOn n (Leading t s)) (sym (led p t h x (λ m c k. commit_op h n t m c k))) (commit_acts h n t x.push.function x.session x.k s)
leader_goes p n t h s l b w leader.Pending u = either_goes n (Leading t s) (is_pending t h) (op.PendingYes n t) (op.PendingNo n t) (tt, refl) (tt, refl)
leader_goes p n t h s l b w leader.Drop u = either_goes n (Leading t s) (nat_lt (done_of h) t) (op.DropOk n t) (op.DropMiss n t (done_of h)) (tt, refl) (tt, refl)
leader_goes p n t h s l b w leader.Sweep u = either_goes n (Leading t s) (nat_lt (swept_of h) t) (op.SweepOk n t (length (firings t (touches_of_push p t h) (set_watches p h)))) (op.SweepMiss n t (swept_of h) (length (fired_by t (fired_watches p h)))) (tt, refl) (tt, refl)
leader_goes p n t h s l b w (leader.Put path others) u = either_goes n (Leading t s) (nat_lt (stamp_of path h) t) (op.PutOk n t path) (op.PutMiss n t path (stamp_of path h)) (tt, refl) (tt, refl)
leader_goes p n t h s l b w leader.Publish u = either_goes n (Leading t s) (nat_lt (mark_of h) t) (op.PublishOk n t) (op.PublishMiss n t (mark_of h)) (tt, refl) (tt, refl)
leader_goes p n t h s l b w leader.Notify u = (tt, refl)
leader_goes p n t h s l b w leader.Reply u = let x = its_led p n t s h l b in subst (GoesOn n (Leading t s)) (sym (led p t h x (λ m c k. op.Reply n c k))) (tt, refl)
leader_goes p n t h s l b w leader.Done u = either_goes n (Leading t s) (nat_lt (done_of h) t) (op.DoneOk n t) (op.DoneMiss n t (done_of h)) (tt, refl) (tt, refl)
leader_goes p n t h s l b w leader.Ack u = ack_goes n t (Leading t s) (leader_head h) (its_head (pushes_of h) (removed_by leads h) t w (leader_at_or_below_the_head p n t h l (leader_task p n h t s l b)).2) tt
leader_goes p n t h s l b w leader.Ended u = absurd (u refl)

-- Watch functions. -------------------------------------------------------------------------------------

teller_goes : (p : Plan) (n w t : ℕ) (h : List Entry) (s : teller.Stage) → IsHistory p h → place_of p n h ≡ Telling w t s → w ≡ removed_by notifies h + 1 → (r : teller.Stage) → r ≢ teller.Ended → GoesOn n (Telling w t s) (teller_op h n w t r)
teller_goes p n w t h s l b e (teller.Tell f fs) u = (tt, refl)
teller_goes p n w t h s l b e teller.Told u = (tt, refl)
teller_goes p n w t h s l b e teller.Ack u = ack_goes n w (Telling w t s) (watch_head h) (its_head (notes_of h) (removed_by notifies h) w e (teller_at_or_below_the_head p n w h l (subst (IsFor (task_of n h)) b (place_for p n h l))).2) tt
teller_goes p n w t h s l b e teller.Ended u = absurd (u refl)

-- A function in flight in a calm history goes on.
pub function_goes : (p : Plan) (n : ℕ) (h : List Entry) → IsHistory p h → IsCalm p n h → is_absent (place_of p n h) ≡ false → GoesOn n (place_of p n h) (function_op p h n (place_of p n h))
function_goes p n h l i a = by_place (place_of p n h) refl (unended p n h) i.works
  where
    by_place : (x : Place) → place_of p n h ≡ x → IsUnended x → WorksOnTheHead h x → GoesOn n x (function_op p h n x)
    by_place (Following f) b u w = follower_goes p n h f f.stage l i b refl u w
    by_place (Leading t s) b u w = leader_goes p n t h s l b w s u
    by_place (Telling m t s) b u w = teller_goes p n m t h s l b w s u
    by_place (Beating c s) b u w = absurd w
    by_place Absent b u w = absurd (false≢true (sym a ∙ ap is_absent b))

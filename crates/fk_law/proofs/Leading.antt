-- The leader lane: its pushes are finished one after another.
use Rattle.std.specs.Prelude.{◌==◌, ◌||◌, max, nat_le}
use Rattle.std.proofs.Common.{◌≡◌, ℕ, ◌+◌, ◌<◌, ◌≤◌, ◌⊎◌, inl, inr, Bool, true, false, List, [], ◌∷◌, refl, sym, ◌∙◌, subst, arith, Some}
use Rattle.std.proofs.lemmas.Bool.{false≢true, or_right, leb-true, leb-false}
use Rattle.std.proofs.lemmas.Bool.Decides.{nat_tests}
use Rattle.fk_base.specs.Path.{PathNames}
use Rattle.fk_print.specs.declared.entry.Entry.{Entry}
use Rattle.fk_print.specs.declared.op.Op.{Op}
use Rattle.fk_print.specs.declared.op.Op.TheVariants as op
use Rattle.fk_spec.specs.Plan.{Plan}
use Rattle.fk_spec.specs.Start.{Leads, task_of, pushes_of, count_push, pushed_in, or_else, started_in, task_here}
use Rattle.fk_spec.specs.Settling.{is_committed, commits, is_finished, finishes, is_pending, done_of, done_in, swept_of, swept_in, mark_of, mark_in}
use Rattle.fk_spec.specs.Lanes.{leads, removed_by, removed_in}
use Rattle.fk_spec.specs.Leader.{next_leader, to_put, to_notify, after_put}
use Rattle.fk_spec.specs.Leader as leader
use Rattle.fk_spec.specs.Watches.{Firing}
use Rattle.fk_spec.specs.Function.{Place, Leading, place_of, actor}
use Rattle.fk_spec.specs.Next.{IsHistory}
use Rattle.fk_law.specs.Due.{IsDue, Acks}
use Rattle.fk_law.specs.Functions.{IsFor}
use Rattle.fk_law.specs.Losing.{IsDead}
use Rattle.fk_law.specs.LeaderLane.{publishes, is_published, IsFinished, DoneIsRemovedOrOneMore, MarkBehindSweep, SweptAreCommitted, PublishedAreSwept, PublishedUpToTheMark, PushesBelowTheHeadAreFinished, CommitsAreBeyondTheSweep, StandsSo, Stands, LeaderStandsWhereItMay, LeaderWorksAtOrBelowTheHead, DoneWerePushed, PublishedAreCommitted, sweeps, is_swept, SweptUpToTheSweep}
use Rattle.fk_law.proofs.Numbers.{less_or_not}
use Rattle.fk_law.proofs.Due.{due}
use Rattle.fk_law.proofs.Moving.{OnLeader, leader_step}
use Rattle.fk_law.proofs.Starting.{leader_task, place_for}
use Rattle.fk_law.proofs.Pushing.{push_bound}
use Rattle.fk_law.proofs.Settled.{IsBetween, commit_of, removed_grows}
use Rattle.fk_law.proofs.Committing.{commits_once}
use Rattle.fk_law.proofs.Losing.{IsOver, dead_stays, dead_no_commit, missed_settled, missed_passed}

-- A push that a leader was started for is at most one beyond the removed ones.
reached_step : (p : Plan) (n t : ℕ) (h : List Entry) (o : Op) → IsDue p h o → (task_of n h ≡ Some (Leads t) → (1 ≤ t) × (t ≤ removed_by leads h + 1)) → or_else (task_here n (started_in o)) (task_of n h) ≡ Some (Leads t) → (1 ≤ t) × (t ≤ removed_in leads h o (removed_by leads h) + 1)
reached_step p n t h o d i e = grind (arith, nat_tests)

pub push_reached : (p : Plan) (n t : ℕ) (h : List Entry) → IsHistory p h → task_of n h ≡ Some (Leads t) → (1 ≤ t) × (t ≤ removed_by leads h + 1)
push_reached p n t [] l i = absurd (grind arith)
push_reached p n t (e ∷ h) l i = reached_step p n t h e.op (due p e h l) (push_reached p n t h l.0) i

lead_pushed_step : (p : Plan) (n t : ℕ) (h : List Entry) (o : Op) → IsDue p h o → (task_of n h ≡ Some (Leads t) → t ≤ pushes_of h) → or_else (task_here n (started_in o)) (task_of n h) ≡ Some (Leads t) → t ≤ count_push (pushed_in 0 o) (pushes_of h)
lead_pushed_step p n t h o d i e = grind (arith, nat_tests)

lead_pushed : (p : Plan) (n t : ℕ) (h : List Entry) → IsHistory p h → task_of n h ≡ Some (Leads t) → t ≤ pushes_of h
lead_pushed p n t [] l i = absurd (grind arith)
lead_pushed p n t (e ∷ h) l i = lead_pushed_step p n t h e.op (due p e h l) (lead_pushed p n t h l.0) i

finished_step : (t : ℕ) (h : List Entry) (o : Op) → (is_finished t h ≡ true → t ≤ done_of h) → (finishes t o || is_finished t h) ≡ true → t ≤ done_in o (done_of h)
finished_step t h o i e = grind (arith, nat_tests)

finished_done : (t : ℕ) (h : List Entry) → is_finished t h ≡ true → t ≤ done_of h
finished_done t [] i = absurd (false≢true i)
finished_done t (e ∷ h) i = finished_step t h e.op (finished_done t h) i

either_grows : {A B C E : Type 0} → (A → B) → (C → E) → A ⊎ C → B ⊎ E
either_grows f g (inl a) = inl (f a)
either_grows f g (inr c) = inr (g c)

stands_grow : (D E : Type 0) (c b : Bool) (d1 d2 s1 s2 m1 m2 t : ℕ) (s : leader.Stage) → (D → E) → (c ≡ true → b ≡ true) → d1 ≤ d2 → s1 ≤ s2 → m1 ≤ m2 → StandsSo D c d1 s1 m1 t s → StandsSo E b d2 s2 m2 t s
stands_grow D E c b d1 d2 s1 s2 m1 m2 t leader.Pending f g x y z i = either_grows f g i
stands_grow D E c b d1 d2 s1 s2 m1 m2 t leader.Drop f g x y z i = either_grows f (λ a. omega (arith, a, x)) i
stands_grow D E c b d1 d2 s1 s2 m1 m2 t s f g x y z i = grind arith

grows : (t : ℕ) (h : List Entry) (o : Op) → (done_of h ≤ done_in o (done_of h)) × (swept_of h ≤ swept_in o (swept_of h)) × (mark_of h ≤ mark_in o (mark_of h))
grows t h o = grind (arith, nat_tests)

pub mark_grows : (m : ℕ) (o : Op) → m ≤ mark_in o m
mark_grows m o = grind (arith, nat_tests)

put_stands : (D : Type 0) (c : Bool) (d w m t : ℕ) (ps : List PathNames) → c ≡ true → t ≤ w → StandsSo D c d w m t (to_put ps)
put_stands D c d w m t [] e b = (e, b)
put_stands D c d w m t (p ∷ ps) e b = (e, b)

after_put_stands : (D : Type 0) (c : Bool) (d w m t : ℕ) (path : PathNames) (ps : List PathNames) (s : leader.Stage) → s ≡ leader.Put path ps → StandsSo D c d w m t s → StandsSo D c d w m t (after_put s)
after_put_stands D c d w m t path ps s e i = grind (arith, put_stands D c d w m t ps)

notify_stands : (D : Type 0) (c : Bool) (d w m t : ℕ) (fs : List Firing) → c ≡ true → t ≤ m → StandsSo D c d w m t (to_notify fs)
notify_stands D c d w m t [] e b = (e, b)
notify_stands D c d w m t (f ∷ fs) e b = (e, b)

pending_no : (t : ℕ) (D : Type 0) (h : List Entry) → is_pending t h ≡ false → D ⊎ (is_committed t h ≡ true) → D ⊎ (t ≤ done_of h)
pending_no t D h e (inl a) = inl a
pending_no t D h e (inr c) = inr (finished_done t h (grind arith))

stands_moves : (p : Plan) (n t : ℕ) (s : leader.Stage) (h : List Entry) (o : Op) → IsHistory p h → IsDue p h o → place_of p n h ≡ Leading t s → actor o ≡ Some n → StandsSo (IsDead t h) (is_committed t h) (done_of h) (swept_of h) (mark_of h) t s → StandsSo (IsDead t h) (commits t o || is_committed t h) (done_in o (done_of h)) (swept_in o (swept_of h)) (mark_in o (mark_of h)) t (next_leader p h t o s)
stands_moves p n t s h (op.CommitSettled m u settled) l d e a i = let f : u ≡ t = grind arith in subst (λ x. IsOver x h) f (missed_settled p m u settled h l d)
stands_moves p n t s h (op.CommitLock m u path holder moment) l d e a i = let f : u ≡ t = grind arith in subst (λ x. IsOver x h) f (missed_passed p m u holder moment path h l d)
stands_moves p n t s h (op.PendingNo m u) l d e a i = pending_no t (IsDead t h) h (grind arith) (grind arith)
stands_moves p n t s h (op.SweepOk m u fired) l d e a i = put_stands (IsDead t h) (is_committed t h) (done_of h) (max u (swept_of h)) (mark_of h) t _ (grind arith) (grind (arith, nat_tests))
stands_moves p n t s h (op.SweepMiss m u swept fired) l d e a i = put_stands (IsDead t h) (is_committed t h) (done_of h) (swept_of h) (mark_of h) t _ (grind arith) (grind (arith, nat_tests))
stands_moves p n t s h (op.PutOk m u path) l d e a i = after_put_stands (IsDead t h) (is_committed t h) (done_of h) (swept_of h) (mark_of h) t path d.0 s (grind arith) i
stands_moves p n t s h (op.PutMiss m u path stamp) l d e a i = after_put_stands (IsDead t h) (is_committed t h) (done_of h) (swept_of h) (mark_of h) t path d.0 s (grind arith) i
stands_moves p n t s h (op.PublishOk m u) l d e a i = notify_stands (IsDead t h) (is_committed t h) (done_of h) (swept_of h) (max u (mark_of h)) t _ (grind arith) (grind (arith, nat_tests))
stands_moves p n t s h (op.PublishMiss m u mark) l d e a i = notify_stands (IsDead t h) (is_committed t h) (done_of h) (swept_of h) (mark_of h) t _ (grind arith) (grind (arith, nat_tests))
stands_moves p n t s h o l d e a i = grind (arith, nat_tests)

-- What holds of the lane. -----------------------------------------------------------------------------

record IsInOrder (p : Plan) (h : List Entry) : Type 0 where
  pub between : IsBetween (removed_by leads h) (done_of h)
  pub finished : (t : ℕ) → 1 ≤ t → t ≤ done_of h → IsDead t h ⊎ ((is_committed t h ≡ true) × (t ≤ mark_of h))
  pub swept : swept_of h ≤ removed_by leads h + 1
  pub mark : mark_of h ≤ swept_of h
  pub committed : 1 ≤ swept_of h → is_committed (swept_of h) h ≡ true
  pub published : (t : ℕ) → is_committed t h ≡ true → t ≤ mark_of h → is_published t h ≡ true
  pub was_swept : (t : ℕ) → is_committed t h ≡ true → t ≤ swept_of h → is_swept t h ≡ true
  pub stands : (n : ℕ) → OnLeader (Stands h) (place_of p n h)

stands_step : (p : Plan) (n : ℕ) (e : Entry) (h : List Entry) → IsHistory p (e ∷ h) → OnLeader (Stands h) (place_of p n h) → OnLeader (Stands (e ∷ h)) (place_of p n (e ∷ h))
stands_step p n e h l i =
    leader_step p n h e.op (place_of p n h) (Stands (e ∷ h))
    (λ t s b _. let g = grows t h e.op in stands_grow (IsDead t h) (IsDead t (e ∷ h)) (is_committed t h) (is_committed t (e ∷ h)) (done_of h) (done_of (e ∷ h)) (swept_of h) (swept_of (e ∷ h)) (mark_of h) (mark_of (e ∷ h)) t s (dead_stays p t e h l) (or_right (commits t e.op) (is_committed t h)) g.0 g.1 g.2 (subst (OnLeader (Stands h)) b i))
    (λ t _. tt)
    (λ t s b a. stands_grow (IsDead t h) (IsDead t (e ∷ h)) (is_committed t (e ∷ h)) (is_committed t (e ∷ h)) (done_of (e ∷ h)) (done_of (e ∷ h)) (swept_of (e ∷ h)) (swept_of (e ∷ h)) (mark_of (e ∷ h)) (mark_of (e ∷ h)) t (next_leader p h t e.op s) (dead_stays p t e h l) (λ c. c) (omega arith) (omega arith) (omega arith)
    (stands_moves p n t s h e.op l.0 (due p e h l) b a (subst (OnLeader (Stands h)) b i)))

ack_done : (n : ℕ) (h : List Entry) (x : Place) → IsFor (task_of n h) x → Acks h x → OnLeader (Stands h) x → removed_by leads h ≤ done_of h → removed_in leads h (op.AckOk n) (removed_by leads h) ≤ done_of h
ack_done n h x f a i b = grind (arith, nat_tests)

lower_step : (p : Plan) (h : List Entry) (o : Op) → IsHistory p h → IsDue p h o → IsInOrder p h → removed_in leads h o (removed_by leads h) ≤ done_in o (done_of h)
lower_step p h (op.AckOk n) l d i = ack_done n h (place_of p n h) (place_for p n h l) d (i.stands n) i.between.0
lower_step p h o l d i = let b = i.between in grind (arith, nat_tests)

leading_at : (p : Plan) (n t : ℕ) (s : leader.Stage) (h : List Entry) → IsHistory p h → IsInOrder p h → place_of p n h ≡ Leading t s → Stands h t s × (1 ≤ t) × (t ≤ removed_by leads h + 1)
leading_at p n t s h l i b = let r = push_reached p n t h l (leader_task p n h t s l b) in (subst (OnLeader (Stands h)) b (i.stands n), r.0, r.1)

upper_step : (p : Plan) (h : List Entry) (o : Op) → IsHistory p h → IsDue p h o → IsInOrder p h → (done_in o (done_of h) ≤ removed_by leads h + 1) × (swept_in o (swept_of h) ≤ removed_by leads h + 1) × (mark_in o (mark_of h) ≤ swept_in o (swept_of h))
upper_step p h (op.DropOk n t) l d i = let r = leading_at p n t leader.Drop h l i d.0 in let b = i.between in let s = i.swept in let m = i.mark in grind (arith, nat_tests)
upper_step p h (op.DoneOk n t) l d i = let r = leading_at p n t leader.Done h l i d.0 in let b = i.between in let s = i.swept in let m = i.mark in grind (arith, nat_tests)
upper_step p h (op.SweepOk n t fired) l d i = let r = leading_at p n t leader.Sweep h l i d.0 in let b = i.between in let s = i.swept in let m = i.mark in grind (arith, nat_tests)
upper_step p h (op.PublishOk n t) l d i = let r = leading_at p n t leader.Publish h l i d.0 in let b = i.between in let s = i.swept in let m = i.mark in grind (arith, nat_tests)
upper_step p h o l d i = let b = i.between in let s = i.swept in let m = i.mark in grind (arith, nat_tests)

-- a push that becomes done is dead, or committed and published
newly_done : (p : Plan) (u : ℕ) (h : List Entry) (o : Op) → IsHistory p h → IsDue p h o → IsInOrder p h → done_of h < u → u ≤ done_in o (done_of h) → IsDead u h ⊎ ((is_committed u h ≡ true) × (u ≤ mark_of h))
newly_done p u h (op.DropOk n t) l d i a b =
    let r = leading_at p n t leader.Drop h l i d.0 in
    let f : u ≡ t = (let c = i.between in let v = d.1 in grind (arith, nat_tests)) in
    subst (λ x. IsDead x h ⊎ ((is_committed x h ≡ true) × (x ≤ mark_of h))) (sym f) (elim r.0 [ inl x ↦ inl x | inr y ↦ absurd (omega (arith, y, d.1)) ])
newly_done p u h (op.DoneOk n t) l d i a b =
    let r = leading_at p n t leader.Done h l i d.0 in
    let f : u ≡ t = (let c = i.between in let v = d.1 in grind (arith, nat_tests)) in
    subst (λ x. IsDead x h ⊎ ((is_committed x h ≡ true) × (x ≤ mark_of h))) (sym f) (inr r.0)
newly_done p u h o l d i a b = absurd (grind (arith, nat_tests))

-- what commits is beyond all that is done, swept and published
commit_beyond : (p : Plan) (n t : ℕ) (h : List Entry) → IsHistory p h → IsDue p h (op.CommitOk n t) → IsInOrder p h → (done_of h < t) × (swept_of h < t) × (mark_of h < t)
commit_beyond p n t h l d i = (beyond_done, beyond_swept, (let m = i.mark in let s = beyond_swept in omega (arith, m, s)))
  where
    fresh : is_committed t h ≡ false
    fresh = commits_once p n t h l d

    low : 1 ≤ t
    low = let w = commit_of p n t d.0 d.1 d.2 h l d.3 in (push_bound p t h w.push l w.pushed).1

    not_finished : IsDead t h ⊎ ((is_committed t h ≡ true) × (t ≤ mark_of h)) → ⊥
    not_finished (inl x) = let f = dead_no_commit p t h (op.CommitOk n t) l d x in grind (arith, nat_tests)
    not_finished (inr x) = false≢true (sym fresh ∙ x.0)

    beyond_done : done_of h < t
    beyond_done = less_or_not _ _ (λ b. not_finished (i.finished t low b))

    beyond_swept : swept_of h < t
    beyond_swept = less_or_not _ _ (λ b. let s = i.swept in let c = i.between in let a = beyond_done in let e : swept_of h ≡ t = omega (arith, b, s, c.0, a) in let g = i.committed (omega (arith, low, b)) in false≢true (sym fresh ∙ subst (λ x. is_committed x h ≡ true) e g))

-- Each entry keeps it. --------------------------------------------------------------------------------

finished_grows : (p : Plan) (t : ℕ) (e : Entry) (h : List Entry) → IsHistory p (e ∷ h) → IsDead t h ⊎ ((is_committed t h ≡ true) × (t ≤ mark_of h)) → IsDead t (e ∷ h) ⊎ ((is_committed t (e ∷ h) ≡ true) × (t ≤ mark_of (e ∷ h)))
finished_grows p t e h l (inl x) = inl (dead_stays p t e h l x)
finished_grows p t e h l (inr x) = let g = grows t h e.op in inr (or_right (commits t e.op) (is_committed t h) x.0, omega (arith, x.1, g.2))

finished_keeps : (p : Plan) (t : ℕ) (e : Entry) (h : List Entry) → IsHistory p (e ∷ h) → IsInOrder p h → 1 ≤ t → t ≤ done_of (e ∷ h) → IsDead t (e ∷ h) ⊎ ((is_committed t (e ∷ h) ≡ true) × (t ≤ mark_of (e ∷ h)))
finished_keeps p t e h l i a b = finished_grows p t e h l (by_test (nat_le t (done_of h)) refl)
  where
    by_test : (c : Bool) → nat_le t (done_of h) ≡ c → IsDead t h ⊎ ((is_committed t h ≡ true) × (t ≤ mark_of h))
    by_test true f = i.finished t a (grind (arith, nat_tests))
    by_test false f = newly_done p t h e.op l.0 (due p e h l) i (grind (arith, nat_tests)) b

swept_committed : (p : Plan) (h : List Entry) (o : Op) → IsHistory p h → IsDue p h o → IsInOrder p h → 1 ≤ swept_in o (swept_of h) → is_committed (swept_in o (swept_of h)) h ≡ true
swept_committed p h (op.SweepOk n t fired) l d i b =
    let r = leading_at p n t leader.Sweep h l i d.0 in
    let f : max t (swept_of h) ≡ t = (let v = d.1 in grind (arith, nat_tests)) in
    subst (λ x. is_committed x h ≡ true) (sym f) r.0
swept_committed p h o l d i b = let c = i.committed in grind (arith, nat_tests)

-- a push up to the mark that is newly committed or newly covered
published_step : (p : Plan) (u : ℕ) (h : List Entry) (o : Op) → IsHistory p h → IsDue p h o → IsInOrder p h → (commits u o || is_committed u h) ≡ true → u ≤ mark_in o (mark_of h) → (publishes u o || is_published u h) ≡ true
published_step p u h (op.CommitOk n t) l d i a b = let c = commit_beyond p n t h l d i in let q = i.published u in grind (arith, nat_tests)
published_step p u h (op.PublishOk n t) l d i a b = by_old (nat_le u (mark_of h)) refl
  where
    r : Stands h t leader.Publish × (1 ≤ t) × (t ≤ removed_by leads h + 1)
    r = leading_at p n t leader.Publish h l i d.0

    not_finished : mark_of h < u → IsDead u h ⊎ ((is_committed u h ≡ true) × (u ≤ mark_of h)) → ⊥
    not_finished m (inl x) = false≢true (sym x.uncommitted ∙ a)
    not_finished m (inr x) = omega (arith, m, x.1)

    same : mark_of h < u → u ≤ t → u ≡ t
    same m c = let g = less_or_not (done_of h) u (λ x. not_finished m (i.finished u (omega (arith, m)) x)) in let y = i.between in let z = r.2 in omega (arith, g, y.0, z, c)

    by_old : (c : Bool) → nat_le u (mark_of h) ≡ c → ((t == u) || is_published u h) ≡ true
    by_old true e = or_right (t == u) (is_published u h) (i.published u a (grind (arith, nat_tests)))
    by_old false e = let f : u ≡ t = same (grind (arith, nat_tests)) (grind (arith, nat_tests)) in grind (arith, nat_tests)
published_step p u h o l d i a b = let q = i.published u in grind (arith, nat_tests)

-- a push up to the sweep's number that is newly committed or newly covered
was_swept_step : (p : Plan) (u : ℕ) (h : List Entry) (o : Op) → IsHistory p h → IsDue p h o → IsInOrder p h → (commits u o || is_committed u h) ≡ true → u ≤ swept_in o (swept_of h) → (sweeps u o || is_swept u h) ≡ true
was_swept_step p u h (op.CommitOk n t) l d i a b = let c = commit_beyond p n t h l d i in let q = i.was_swept u in grind (arith, nat_tests)
was_swept_step p u h (op.SweepOk n t fired) l d i a b = by_old (nat_le u (swept_of h)) refl
  where
    r : Stands h t leader.Sweep × (1 ≤ t) × (t ≤ removed_by leads h + 1)
    r = leading_at p n t leader.Sweep h l i d.0

    not_finished : swept_of h < u → IsDead u h ⊎ ((is_committed u h ≡ true) × (u ≤ mark_of h)) → ⊥
    not_finished m (inl x) = false≢true (sym x.uncommitted ∙ a)
    not_finished m (inr x) = let k = i.mark in omega (arith, m, x.1, k)

    same : swept_of h < u → u ≤ t → u ≡ t
    same m c = let g = less_or_not (done_of h) u (λ x. not_finished m (i.finished u (omega (arith, m)) x)) in let y = i.between in let z = r.2 in omega (arith, g, y.0, z, c)

    by_old : (c : Bool) → nat_le u (swept_of h) ≡ c → ((t == u) || is_swept u h) ≡ true
    by_old true e = or_right (t == u) (is_swept u h) (i.was_swept u a (leb-true u (swept_of h) e))
    by_old false e = let m = leb-false u (swept_of h) e in let f : u ≡ t = same m (grind (arith, nat_tests)) in grind (arith, nat_tests)
was_swept_step p u h o l d i a b = let q = i.was_swept u in grind (arith, nat_tests)

order_step : (p : Plan) (e : Entry) (h : List Entry) → IsHistory p (e ∷ h) → IsInOrder p h → IsInOrder p (e ∷ h)
order_step p e h l i =
    let d = due p e h l in
    let u = upper_step p h e.op l.0 d i in
    let g = removed_grows leads h e.op (removed_by leads h) in
    record {
      between = (lower_step p h e.op l.0 d i, omega (arith, u.0, g.0));
      finished = λ t a b. finished_keeps p t e h l i a b;
      swept = omega (arith, u.1, g.0);
      mark = u.2;
      committed = λ b. or_right (commits (swept_of (e ∷ h)) e.op) (is_committed (swept_of (e ∷ h)) h) (swept_committed p h e.op l.0 d i b);
      published = λ t a b. published_step p t h e.op l.0 d i a b;
      was_swept = λ t a b. was_swept_step p t h e.op l.0 d i a b;
      stands = λ n. stands_step p n e h l (i.stands n);
    }

in_order : (p : Plan) (h : List Entry) → IsHistory p h → IsInOrder p h
in_order p [] l = record { between = (omega arith, omega arith); finished = λ t a b. absurd (omega (arith, a, b)); swept = omega arith; mark = omega arith; committed = λ b. absurd (omega (arith, b)); published = λ t a b. absurd (false≢true a); was_swept = λ t a b. absurd (false≢true a); stands = λ n. tt }
in_order p (e ∷ h) l = order_step p e h l (in_order p h l.0)

-- The laws. -------------------------------------------------------------------------------------------

pub done_is_removed_or_one_more : DoneIsRemovedOrOneMore
done_is_removed_or_one_more p h l = (in_order p h l).between

pub mark_behind_sweep : MarkBehindSweep
mark_behind_sweep p h l = let i = in_order p h l in (i.mark, i.swept)

pub swept_are_committed : SweptAreCommitted
swept_are_committed p n t fired h l d = (leading_at p n t leader.Sweep h l (in_order p h l) d.0).0

pub published_are_swept : PublishedAreSwept
published_are_swept p n t h l d = let r = (leading_at p n t leader.Publish h l (in_order p h l) d.0).0 in (r.0, r.1, d.1)

pub published_up_to_the_mark : PublishedUpToTheMark
published_up_to_the_mark p t h l a b = (in_order p h l).published t a b

pub pushes_below_the_head : PushesBelowTheHeadAreFinished
pushes_below_the_head p t h l a b = shown (i.finished t a (let c = i.between in omega (arith, b, c.0)))
  where
    i : IsInOrder p h
    i = in_order p h l

    shown : IsDead t h ⊎ ((is_committed t h ≡ true) × (t ≤ mark_of h)) → IsFinished t h
    shown (inl x) = inl x
    shown (inr x) = inr (x.0, i.published t x.0 x.1)

pub commits_are_beyond_the_sweep : CommitsAreBeyondTheSweep
commits_are_beyond_the_sweep p n t h l d = commit_beyond p n t h l d (in_order p h l)

pub swept_up_to_the_sweep : SweptUpToTheSweep
swept_up_to_the_sweep p t h l a b = (in_order p h l).was_swept t a b

pub leader_stands_where_it_may : LeaderStandsWhereItMay
leader_stands_where_it_may p n t s h l b = (leading_at p n t s h l (in_order p h l) b).0

pub leader_at_or_below_the_head : LeaderWorksAtOrBelowTheHead
leader_at_or_below_the_head p n t h l b = let r = push_reached p n t h l b in (r.0, r.1, lead_pushed p n t h l b)

published_mark_step : (p : Plan) (t : ℕ) (h : List Entry) (o : Op) → IsHistory p h → IsDue p h o → (is_published t h ≡ true → (is_committed t h ≡ true) × (t ≤ mark_of h)) → (publishes t o || is_published t h) ≡ true → ((commits t o || is_committed t h) ≡ true) × (t ≤ mark_in o (mark_of h))
published_mark_step p t h (op.PublishOk n s) l d i e = let r = published_are_swept p n s h l d in grind (arith, nat_tests)
published_mark_step p t h o l d i e = grind (arith, nat_tests)

pub published_are_committed : PublishedAreCommitted
published_are_committed p t [] l e = absurd (false≢true e)
published_are_committed p t (e ∷ h) l i = published_mark_step p t h e.op l.0 (due p e h l) (published_are_committed p t h l.0) i

done_step : (p : Plan) (h : List Entry) (o : Op) → IsHistory p h → IsDue p h o → done_of h ≤ pushes_of h → done_in o (done_of h) ≤ count_push (pushed_in 0 o) (pushes_of h)
done_step p h (op.DropOk n t) l d i = let r = lead_pushed p n t h l (leader_task p n h t leader.Drop l d.0) in grind (arith, nat_tests)
done_step p h (op.DoneOk n t) l d i = let r = lead_pushed p n t h l (leader_task p n h t leader.Done l d.0) in grind (arith, nat_tests)
done_step p h o l d i = grind (arith, nat_tests)

pub done_were_pushed : DoneWerePushed
done_were_pushed p [] l = omega arith
done_were_pushed p (e ∷ h) l = done_step p h e.op l.0 (due p e h l) (done_were_pushed p h l.0)

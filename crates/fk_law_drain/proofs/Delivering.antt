-- What became of a request is told, once its message is removed and its push is done.
use Rattle.std.specs.Prelude.{◌==◌, ◌||◌, ◌<◌, nat_le}
use Rattle.std.proofs.Common.{◌≡◌, ℕ, ◌+◌, ◌≤◌, ◌⊎◌, inl, inr, Bool, true, false, List, [], ◌∷◌, refl, sym, ◌∙◌, ap, subst, arith, Option, Some}
use Rattle.std.proofs.lemmas.Bool.{false≢true, leb-true, leb-false}
use Rattle.std.proofs.lemmas.Bool.Decides.{nat_tests}
use Rattle.fk_base.specs.Path.{PathNames}
use Rattle.fk_print.specs.declared.entry.Entry.{Entry}
use Rattle.fk_print.specs.declared.op.Op.{Op}
use Rattle.fk_print.specs.declared.op.Op.TheVariants as op
use Rattle.fk_spec.specs.Plan.{Plan}
use Rattle.fk_spec.specs.Start.{Task, Follows, sends_of, task_of}
use Rattle.fk_spec.specs.Settling.{Outcome, Committed, commits, done_in, done_of, is_committed, outcome_of, settled_of}
use Rattle.fk_spec.specs.Lanes.{follows_session, head_among, removed_by, removed_in}
use Rattle.fk_spec.specs.Follower.{Follower}
use Rattle.fk_spec.specs.Follower as follower
use Rattle.fk_spec.specs.Leader.{next_leader, to_put, to_notify}
use Rattle.fk_spec.specs.Leader as leader
use Rattle.fk_spec.specs.Watches.{Firing}
use Rattle.fk_spec.specs.Function.{Place, Absent, Following, Leading, Telling, Beating, actor, place_of}
use Rattle.fk_spec.specs.Next.{IsHistory}
use Rattle.fk_law.specs.Due.{IsDue, IsPushOf, IsApplied, Acks}
use Rattle.fk_law.specs.Due as due_so
use Rattle.fk_law.specs.Functions.{IsFor}
use Rattle.fk_law.specs.LeaderLane.{Stands}
use Rattle.fk_law.specs.Losing.{IsDead}
use Rattle.fk_law.specs.Progress.{Progress, progress, progress_after}
use Rattle.fk_law.specs.Progress as progress_so
use Rattle.fk_law.specs.Settled.{IsCommittedPush}
use Rattle.fk_law.proofs.Committing.{committed_push, its_push_is_one, its_push_stays}
use Rattle.fk_law.proofs.Deciding.{same_follower}
use Rattle.fk_law.proofs.Due.{due}
use Rattle.fk_law.proofs.Leading.{commits_are_beyond_the_sweep, done_is_removed_or_one_more, leader_at_or_below_the_head, leader_stands_where_it_may}
use Rattle.fk_law.proofs.Moving.{OnFollower, OnLeader, follower_step, leader_step}
use Rattle.fk_law.proofs.Outcomes.{applied_is_committed, outcome_never_changes}
use Rattle.fk_law.proofs.Settled.{commit_of, reached, settled_between, settled_were_sent, task_at_most_next}
use Rattle.fk_law.proofs.Starting.{follower_task, leader_task, place_for}
use Rattle.fk_law_reply.specs.Plans.{HasFittingVerbs}
use Rattle.fk_law_drain.specs.Delivering.{IsReplied, IsUnderWay, RemovedMessageIsRepliedOrCommitted, DonePushIsReplied}
use Rattle.fk_law_drain.proofs.Awaiting.{IsGiven, replied_now, replied_stays}

-- What is shown of each history. -----------------------------------------------------------------------

-- a request is replied to, or its push isn't done
abbrev IsSeenTo : Plan → ℕ → ℕ → List Entry → Type 0
IsSeenTo p c k h = IsReplied p c k h ⊎ IsUnderWay c k h

abbrev EndsSo : Plan → List Entry → ℕ → ℕ → Progress → Type 0
EndsSo p h c k q = q ≡ progress_so.Acks → IsSeenTo p c k h

-- the request of push t is replied to
abbrev IsPushReplied : Plan → ℕ → List Entry → Type 0
IsPushReplied p t h = (n c k : ℕ) → IsPushOf t n c k h → IsReplied p c k h

abbrev FinishesSo : Plan → List Entry → ℕ → leader.Stage → Type 0
FinishesSo p h t s = s ≡ leader.Done → IsPushReplied p t h

record IsDelivered (p : Plan) (h : List Entry) : Type 0 where
  pub removed : (c k : ℕ) → 1 ≤ k → k ≤ removed_by (follows_session c) h → IsSeenTo p c k h
  pub ends : (n : ℕ) → OnFollower (EndsSo p h) (place_of p n h)
  pub done : (t : ℕ) → is_committed t h ≡ true → t ≤ done_of h → IsPushReplied p t h
  pub finishes : (n : ℕ) → OnLeader (FinishesSo p h) (place_of p n h)

-- Pushes. ----------------------------------------------------------------------------------------------

push_given : (p : Plan) (t n c k : ℕ) (h : List Entry) → IsHistory p h → IsPushOf t n c k h → IsGiven c k h
push_given p t n c k h l i = let r = reached p n c k h l i.task in (r.0, r.2)

-- the request of a push that was committed before stays replied to
push_stays_replied : (p : Plan) (t : ℕ) (e : Entry) (h : List Entry) → HasFittingVerbs p → IsHistory p (e ∷ h) → is_committed t h ≡ true → IsPushReplied p t h → IsPushReplied p t (e ∷ h)
push_stays_replied p t e h v l a i n c k j =
    let x = committed_push p t h l.0 a in
    let w = its_push_stays p t x.function x.session x.k e h l x.is_of in
    let g = its_push_is_one t x.function x.session x.k n c k (e ∷ h) w j in
    subst (λ z. IsReplied p z k (e ∷ h)) g.1 (subst (λ z. IsReplied p x.session z (e ∷ h)) g.2 (replied_stays p x.session x.k e h v l (push_given p t x.function x.session x.k h l.0 x.is_of) (i x.function x.session x.k x.is_of)))

-- a push that becomes done, and was committed, is finished by its leader
newly_done : (p : Plan) (t : ℕ) (h : List Entry) (o : Op) → IsHistory p h → IsDue p h o → is_committed t h ≡ true → done_of h < t → t ≤ done_in o (done_of h) → (n : ℕ) × (place_of p n h ≡ Leading t leader.Done)
newly_done p t h (op.DropOk n u) l d a b g = absurd (by_end (leader_stands_where_it_may p n u leader.Drop h l d.0))
  where
    its_own : t ≡ u
    its_own = let r = leader_at_or_below_the_head p n u h l (leader_task p n h u leader.Drop l d.0) in let y = done_is_removed_or_one_more p h l in let v = d.1 in grind (arith, nat_tests)

    by_end : IsDead u h ⊎ (u ≤ done_of h) → ⊥
    by_end (inl x) = false≢true (sym x.uncommitted ∙ subst (λ z. is_committed z h ≡ true) its_own a)
    by_end (inr x) = let v = d.1 in omega (arith, x, v)
newly_done p t h (op.DoneOk n u) l d a b g = (n, subst (λ z. place_of p n h ≡ Leading z leader.Done) (sym its_own) d.0)
  where
    its_own : t ≡ u
    its_own = let r = leader_at_or_below_the_head p n u h l (leader_task p n h u leader.Done l d.0) in let y = done_is_removed_or_one_more p h l in let v = d.1 in grind (arith, nat_tests)
newly_done p t h o l d a b g = absurd (omega (arith, b, g))

-- a push up to the done ones was committed before the entry
committed_before : (p : Plan) (t : ℕ) (h : List Entry) (o : Op) → IsHistory p h → IsDue p h o → t ≤ done_in o (done_of h) → (commits t o || is_committed t h) ≡ true → is_committed t h ≡ true
committed_before p t h (op.CommitOk n u) l d b a = let c = (commits_are_beyond_the_sweep p n u h l d).0 in grind (arith, nat_tests)
committed_before p t h o l d b a = a

done_step : (p : Plan) (t : ℕ) (e : Entry) (h : List Entry) → HasFittingVerbs p → IsHistory p (e ∷ h) → IsDelivered p h → is_committed t (e ∷ h) ≡ true → t ≤ done_of (e ∷ h) → IsPushReplied p t (e ∷ h)
done_step p t e h v l i a b = push_stays_replied p t e h v l before (by_done (nat_le t (done_of h)) refl)
  where
    before : is_committed t h ≡ true
    before = committed_before p t h e.op l.0 (due p e h l) b a

    by_done : (x : Bool) → nat_le t (done_of h) ≡ x → IsPushReplied p t h
    by_done true f = i.done t before (leb-true t (done_of h) f)
    by_done false f = let w = newly_done p t h e.op l.0 (due p e h l) before (leb-false t (done_of h) f) b in subst (OnLeader (FinishesSo p h)) w.1 (i.finishes w.0) refl

-- Leaders. ---------------------------------------------------------------------------------------------

put_not_done : (ps : List PathNames) → to_put ps ≡ leader.Done → ⊥
put_not_done [] e = absurd (grind arith)
put_not_done (q ∷ qs) e = absurd (grind arith)

notify_not_done : (fs : List Firing) → to_notify fs ≡ leader.Done → ⊥
notify_not_done [] e = absurd (grind arith)
notify_not_done (f ∷ fs) e = absurd (grind arith)

after_its_put : (p : Plan) (h : List Entry) (n m t u : ℕ) (path : PathNames) (others : List PathNames) (s : leader.Stage) → m ≡ n → place_of p m h ≡ Leading u (leader.Put path others) → place_of p n h ≡ Leading t s → leader.after_put s ≡ leader.Done → ⊥
after_its_put p h n m t u path others s f d b e = put_not_done others (subst (λ z. leader.after_put z ≡ leader.Done) its_stage e)
  where
    its_stage : s ≡ leader.Put path others
    its_stage = grind arith

-- a leader comes before its push is done by its reply
comes_to_done : (p : Plan) (n t : ℕ) (h : List Entry) (o : Op) (s : leader.Stage) → IsDue p h o → place_of p n h ≡ Leading t s → actor o ≡ Some n → next_leader p h t o s ≡ leader.Done → (c k : ℕ) × (o ≡ op.Reply n c k)
comes_to_done p n t h (op.Reply m c k) s d b a e = (c, k, (let f : m ≡ n = grind arith in ap (λ z. op.Reply z c k) f))
comes_to_done p n t h (op.PutOk m u path) s d b a e = absurd (after_its_put p h n m t u path d.0 s (grind arith) d.1 b e)
comes_to_done p n t h (op.PutMiss m u path stamp) s d b a e = absurd (after_its_put p h n m t u path d.0 s (grind arith) d.1 b e)
comes_to_done p n t h (op.SweepOk m u fired) s d b a e = absurd (put_not_done _ e)
comes_to_done p n t h (op.SweepMiss m u swept fired) s d b a e = absurd (put_not_done _ e)
comes_to_done p n t h (op.PublishOk m u) s d b a e = absurd (notify_not_done _ e)
comes_to_done p n t h (op.PublishMiss m u mark) s d b a e = absurd (notify_not_done _ e)
comes_to_done p n t h o s d b a e = absurd (grind arith)

-- the push of a leader that replies
replying_push : (p : Plan) (n t c k : ℕ) (h : List Entry) (s : leader.Stage) → place_of p n h ≡ Leading t s → due_so.Replies c k h (place_of p n h) → (m : ℕ) × IsPushOf t m c k h
replying_push p n t c k h s b d = let x = subst (due_so.Replies c k h) b d in (x.1, x.2)

leader_moves : (p : Plan) (n t : ℕ) (e : Entry) (h : List Entry) (s : leader.Stage) → HasFittingVerbs p → IsHistory p (e ∷ h) → place_of p n h ≡ Leading t s → actor e.op ≡ Some n → FinishesSo p (e ∷ h) t (next_leader p h t e.op s)
leader_moves p n t e h s v l b a f m c k j =
    let y = comes_to_done p n t h e.op s (due p e h l) b a f in
    let x = replying_push p n t y.0 y.1 h s b (subst (IsDue p h) y.2 (due p e h l)) in
    let g = its_push_is_one t x.0 y.0 y.1 m c k (e ∷ h) (its_push_stays p t x.0 y.0 y.1 e h l x.1) j in
    subst (λ z. IsReplied p z k (e ∷ h)) g.1 (subst (λ z. IsReplied p y.0 z (e ∷ h)) g.2 (replied_now p n y.0 y.1 e h v l y.2))

finishes_step : (p : Plan) (n : ℕ) (e : Entry) (h : List Entry) → HasFittingVerbs p → IsHistory p (e ∷ h) → IsDelivered p h → OnLeader (FinishesSo p (e ∷ h)) (place_of p n (e ∷ h))
finishes_step p n e h v l i =
    leader_step p n h e.op (place_of p n h) (FinishesSo p (e ∷ h))
    (λ t s b _ f. push_stays_replied p t e h v l (committed t s b f) (subst (OnLeader (FinishesSo p h)) b (i.finishes n) f))
    (λ t _ f. absurd (grind arith))
    (λ t s b a. leader_moves p n t e h s v l b a)
  where
    committed : (t : ℕ) (s : leader.Stage) → place_of p n h ≡ Leading t s → s ≡ leader.Done → is_committed t h ≡ true
    committed t s b f = (subst (Stands h t) f (leader_stands_where_it_may p n t s h l.0 b)).0

-- Requests. --------------------------------------------------------------------------------------------

-- a request that is under way stays so, or its push becomes done
under_way_after : (p : Plan) (c k : ℕ) (e : Entry) (h : List Entry) → IsHistory p (e ∷ h) → ((t : ℕ) → is_committed t (e ∷ h) ≡ true → t ≤ done_of (e ∷ h) → IsPushReplied p t (e ∷ h)) → (t : ℕ) → outcome_of c k (e ∷ h) ≡ Some (Committed t) → IsSeenTo p c k (e ∷ h)
under_way_after p c k e h l done t o = by_done (nat_le t (done_of (e ∷ h))) refl
  where
    by_done : (x : Bool) → nat_le t (done_of (e ∷ h)) ≡ x → IsSeenTo p c k (e ∷ h)
    by_done true f = let w = applied_is_committed p c k t (e ∷ h) l o in inl (done t w.0 (leb-true t (done_of (e ∷ h)) f) w.1 c k w.2)
    by_done false f = inr (record { tx = t; outcome = o; undone = leb-false t (done_of (e ∷ h)) f })

seen_to_stays : (p : Plan) (c k : ℕ) (e : Entry) (h : List Entry) → HasFittingVerbs p → IsHistory p (e ∷ h) → ((t : ℕ) → is_committed t (e ∷ h) ≡ true → t ≤ done_of (e ∷ h) → IsPushReplied p t (e ∷ h)) → IsGiven c k h → IsSeenTo p c k h → IsSeenTo p c k (e ∷ h)
seen_to_stays p c k e h v l done g (inl x) = inl (replied_stays p c k e h v l g x)
seen_to_stays p c k e h v l done g (inr x) = under_way_after p c k e h l done x.tx (outcome_never_changes p c k h (e ∷ []) (Committed x.tx) l x.outcome)

-- Followers. -------------------------------------------------------------------------------------------

applied_seen_to : (p : Plan) (c k : ℕ) (h : List Entry) → IsHistory p h → IsDelivered p h → (o : Option Outcome) → outcome_of c k h ≡ o → IsApplied o → IsSeenTo p c k h
applied_seen_to p c k h l i (Some (Committed t)) e a = by_done (nat_le t (done_of h)) refl
  where
    by_done : (x : Bool) → nat_le t (done_of h) ≡ x → IsSeenTo p c k h
    by_done true f = let w = applied_is_committed p c k t h l e in inl (i.done t w.0 (leb-true t (done_of h) f) w.1 c k w.2)
    by_done false f = inr (record { tx = t; outcome = e; undone = leb-false t (done_of h) f })
applied_seen_to p c k h l i o e a = absurd a

past_removed : (p : Plan) (n c k : ℕ) (h : List Entry) → IsHistory p h → task_of n h ≡ Some (Follows c k) → (settled_of c h + 1 ≡ k → ⊥) → (settled_of c h ≡ k → ⊥) → k ≤ removed_by (follows_session c) h
past_removed p n c k h l t a b = let x = task_at_most_next p n c k h l t in let y = (settled_between p c h l).1 in grind (arith, nat_tests)

-- a follower's own commit
committed_now : (p : Plan) (n m t : ℕ) (e : Entry) (h : List Entry) (f : Follower) → IsHistory p (e ∷ h) → e.op ≡ op.CommitOk m t → m ≡ n → place_of p n h ≡ Following f → outcome_of f.session f.k (e ∷ h) ≡ Some (Committed t)
committed_now p n m t e h f l q g b = its x
  where
    d : IsDue p h (op.CommitOk m t)
    d = subst (IsDue p h) q (due p e h l)

    w : IsPushOf t d.0 d.1 d.2 (e ∷ h)
    w = its_push_stays p t d.0 d.1 d.2 e h l (commit_of p m t d.0 d.1 d.2 h l.0 d.3)

    own : (d.1 ≡ f.session) × (d.2 ≡ f.k)
    own = let c = subst (due_so.Commits m t d.0 d.1 d.2 h) (ap (λ z. place_of p z h) g ∙ b) d.3 in (sym c.2, sym c.3)

    now : is_committed t (e ∷ h) ≡ true
    now = subst (λ o. (commits t o || is_committed t h) ≡ true) (sym q) (first (is_committed t h))
      where
        first : (a : Bool) → ((t == t) || a) ≡ true
        first a = grind (arith, nat_tests)

    x : IsCommittedPush t (e ∷ h)
    x = committed_push p t (e ∷ h) l now

    its : IsCommittedPush t (e ∷ h) → outcome_of f.session f.k (e ∷ h) ≡ Some (Committed t)
    its y =
        let u = its_push_is_one t y.function y.session y.k d.0 d.1 d.2 (e ∷ h) y.is_of w in
        subst (λ z. outcome_of z f.k (e ∷ h) ≡ Some (Committed t)) (u.1 ∙ own.0) (subst (λ z. outcome_of y.session z (e ∷ h) ≡ Some (Committed t)) (u.2 ∙ own.1) y.outcome)

-- the request of a follower that replies
replying_request : (p : Plan) (n m c k : ℕ) (h : List Entry) (f : Follower) → m ≡ n → place_of p n h ≡ Following f → due_so.Replies c k h (place_of p m h) → (c ≡ f.session) × (k ≡ f.k)
replying_request p n m c k h f g b d = let x = subst (due_so.Replies c k h) (ap (λ z. place_of p z h) g ∙ b) d in (sym x.1, sym x.2)

follower_moves : (p : Plan) (n : ℕ) (e : Entry) (h : List Entry) (o : Op) (f : Follower) → HasFittingVerbs p → IsHistory p (e ∷ h) → IsDelivered p h → ((t : ℕ) → is_committed t (e ∷ h) ≡ true → t ≤ done_of (e ∷ h) → IsPushReplied p t (e ∷ h)) → e.op ≡ o → IsDue p h o → place_of p n h ≡ Following f → actor o ≡ Some n → IsGiven f.session f.k h → EndsSo p (e ∷ h) f.session f.k (progress_after o (progress f.stage))
follower_moves p n e h (op.SessionApplied m) f v l i done q d b a g r =
    let y = same_follower p h m n d.0 f d.1 a b in
    seen_to_stays p f.session f.k e h v l done g (applied_seen_to p f.session f.k h l.0 i (outcome_of f.session f.k h) refl (subst (λ z. IsApplied (outcome_of z.session z.k h)) y d.4))
follower_moves p n e h (op.SessionPast m) f v l i done q d b a g r =
    let y = same_follower p h m n d.0 f d.1 a b in
    seen_to_stays p f.session f.k e h v l done g (i.removed f.session f.k g.0 (past_removed p n f.session f.k h l.0 (follower_task p n h f l.0 b) (subst (λ z. settled_of z.session h + 1 ≡ z.k → ⊥) y d.3) (subst (λ z. settled_of z.session h ≡ z.k → ⊥) y d.4)))
follower_moves p n e h (op.CommitOk m t) f v l i done q d b a g r =
    let x : m ≡ n = grind arith in
    under_way_after p f.session f.k e h l done t (committed_now p n m t e h f l q x b)
follower_moves p n e h (op.Reply m c k) f v l i done q d b a g r =
    let x : m ≡ n = grind arith in
    let y = replying_request p n m c k h f x b d in
    inl (subst (λ z. IsReplied p z f.k (e ∷ h)) y.0 (subst (λ z. IsReplied p c z (e ∷ h)) y.1 (replied_now p m c k e h v l q)))
follower_moves p n e h (op.LockBusy m path holder moment) f v l i done q d b a g r = seen_to_stays p f.session f.k e h v l done g (subst (OnFollower (EndsSo p h)) b (i.ends n) r)
follower_moves p n e h o f v l i done q d b a g r = absurd (grind arith)

ends_step : (p : Plan) (n : ℕ) (e : Entry) (h : List Entry) → HasFittingVerbs p → IsHistory p (e ∷ h) → IsDelivered p h → ((t : ℕ) → is_committed t (e ∷ h) ≡ true → t ≤ done_of (e ∷ h) → IsPushReplied p t (e ∷ h)) → OnFollower (EndsSo p (e ∷ h)) (place_of p n (e ∷ h))
ends_step p n e h v l i done =
    follower_step p n h e.op (place_of p n h) (EndsSo p (e ∷ h))
    (λ f b _ r. seen_to_stays p f.session f.k e h v l done (given f b) (subst (OnFollower (EndsSo p h)) b (i.ends n) r))
    (λ c k _ r. absurd (grind arith))
    (λ f b a. follower_moves p n e h e.op f v l i done refl (due p e h l) b a (given f b))
  where
    given : (f : Follower) → place_of p n h ≡ Following f → IsGiven f.session f.k h
    given f b = let r = reached p n f.session f.k h l.0 (follower_task p n h f l.0 b) in (r.0, r.2)

-- Removed messages. ------------------------------------------------------------------------------------

-- the message that a follower removes
record RemovesIt (p : Plan) (c k : ℕ) (h : List Entry) : Type 0 where
  pub function : ℕ
  pub worker : Follower
  pub stands : place_of p function h ≡ Following worker
  pub ends : worker.stage ≡ follower.Ack
  pub its_session : worker.session ≡ c
  pub its_number : worker.k ≡ k

pub head_is : (given removed k : ℕ) → head_among given removed ≡ Some k → removed + 1 ≡ k
head_is given removed k e = grind (arith, nat_tests)

removed_low : (w : Option Task → Bool) (n : ℕ) (h : List Entry) (r k : ℕ) → r < k → k ≤ removed_in w h (op.AckOk n) r → (w (task_of n h) ≡ true) × (k ≡ r + 1)
removed_low w n h r k a b = (grind (arith, nat_tests), grind (arith, nat_tests))

follows_so : (c d k : ℕ) → follows_session c (Some (Follows d k)) ≡ true → d ≡ c
follows_so c d k e = grind (arith, nat_tests)

removes_by : (p : Plan) (n c k : ℕ) (h : List Entry) (x : Place) → place_of p n h ≡ x → IsFor (task_of n h) x → Acks h x → follows_session c (task_of n h) ≡ true → k ≡ removed_by (follows_session c) h + 1 → RemovesIt p c k h
removes_by p n c k h (Following f) b i a w r =
    let s : f.session ≡ c = follows_so c f.session f.k (subst (λ z. follows_session c z ≡ true) i w) in
    record { function = n; worker = f; stands = b; ends = a.0; its_session = s; its_number = sym (head_is (sends_of f.session h) (removed_by (follows_session f.session) h) f.k a.1) ∙ (ap (λ z. removed_by (follows_session z) h + 1) s ∙ sym r) }
removes_by p n c k h (Leading t s) b i a w r = absurd (false≢true (subst (λ z. follows_session c z ≡ true) i w))
removes_by p n c k h (Telling u t s) b i a w r = absurd (false≢true (subst (λ z. follows_session c z ≡ true) i w))
removes_by p n c k h Absent b i a w r = absurd a
removes_by p n c k h (Beating u s) b i a w r = absurd a

newly_removed : (p : Plan) (c k : ℕ) (h : List Entry) (o : Op) → IsHistory p h → IsDue p h o → removed_by (follows_session c) h < k → k ≤ removed_in (follows_session c) h o (removed_by (follows_session c) h) → RemovesIt p c k h
newly_removed p c k h (op.AckOk n) l d a b = let w = removed_low (follows_session c) n h (removed_by (follows_session c) h) k a b in removes_by p n c k h (place_of p n h) refl (place_for p n h l) d w.0 w.1
newly_removed p c k h o l d a b = absurd (omega (arith, a, b))

removed_step : (p : Plan) (c k : ℕ) (e : Entry) (h : List Entry) → HasFittingVerbs p → IsHistory p (e ∷ h) → IsDelivered p h → ((t : ℕ) → is_committed t (e ∷ h) ≡ true → t ≤ done_of (e ∷ h) → IsPushReplied p t (e ∷ h)) → 1 ≤ k → k ≤ removed_by (follows_session c) (e ∷ h) → IsSeenTo p c k (e ∷ h)
removed_step p c k e h v l i done a b = by_old (nat_le k (removed_by (follows_session c) h)) refl
  where
    sent : k ≤ removed_by (follows_session c) h → k ≤ sends_of c h
    sent f = let x = (settled_between p c h l.0).0 in let y = settled_were_sent p c h l.0 in omega (arith, f, x, y)

    new : RemovesIt p c k h → IsSeenTo p c k (e ∷ h)
    new x =
        let r = reached p x.function x.worker.session x.worker.k h l.0 (follower_task p x.function h x.worker l.0 x.stands) in
        let y = seen_to_stays p x.worker.session x.worker.k e h v l done (r.0, r.2) (subst (OnFollower (EndsSo p h)) x.stands (i.ends x.function) (ap progress x.ends)) in
        subst (λ z. IsSeenTo p z k (e ∷ h)) x.its_session (subst (λ z. IsSeenTo p x.worker.session z (e ∷ h)) x.its_number y)

    by_old : (z : Bool) → nat_le k (removed_by (follows_session c) h) ≡ z → IsSeenTo p c k (e ∷ h)
    by_old true f = let g = leb-true k (removed_by (follows_session c) h) f in seen_to_stays p c k e h v l done (a, sent g) (i.removed c k a g)
    by_old false f = new (newly_removed p c k h e.op l.0 (due p e h l) (leb-false k (removed_by (follows_session c) h) f) b)

-- Histories. -------------------------------------------------------------------------------------------

delivered_step : (p : Plan) (e : Entry) (h : List Entry) → HasFittingVerbs p → IsHistory p (e ∷ h) → IsDelivered p h → IsDelivered p (e ∷ h)
delivered_step p e h v l i = record {
  removed = λ c k a b. removed_step p c k e h v l i done a b;
  ends = λ n. ends_step p n e h v l i done;
  done = done;
  finishes = λ n. finishes_step p n e h v l i;
}
  where
    done : (t : ℕ) → is_committed t (e ∷ h) ≡ true → t ≤ done_of (e ∷ h) → IsPushReplied p t (e ∷ h)
    done t a b = done_step p t e h v l i a b

delivered : (p : Plan) (h : List Entry) → HasFittingVerbs p → IsHistory p h → IsDelivered p h
delivered p [] v l = record { removed = λ c k a b. absurd (omega (arith, a, b)); ends = λ n. tt; done = λ t a b. absurd (false≢true a); finishes = λ n. tt }
delivered p (e ∷ h) v l = delivered_step p e h v l (delivered p h v l.0)

pub removed_message_is_replied_or_committed : RemovedMessageIsRepliedOrCommitted
removed_message_is_replied_or_committed p c k h v l a b = (delivered p h v l).removed c k a b

pub done_push_is_replied : DonePushIsReplied
done_push_is_replied p t n c k h v l a b i = (delivered p h v l).done t a b n c k i

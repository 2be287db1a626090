-- Where a function stands after one more entry.
use Rattle.std.specs.Prelude.{◌==◌}
use Rattle.std.proofs.Common.{◌≡◌, ◌≢◌, ℕ, List, refl, sym, ◌∙◌, ap, subst, arith, Option, Some, None}
use Rattle.std.proofs.lemmas.Bool.{cond_both, eqb-true, eqb-false}
use Rattle.fk_base.specs.Path.{PathNames}
use Rattle.fk_tree.specs.Check.{Refusal}
use Rattle.fk_tree.specs.declared.request.Request.{Request}
use Rattle.fk_print.specs.declared.entry.Entry.{Entry}
use Rattle.fk_print.specs.declared.op.Op.{Op}
use Rattle.fk_print.specs.declared.op.Op.TheVariants as op
use Rattle.fk_spec.specs.Plan.{Plan}
use Rattle.fk_spec.specs.Start.{Start, Task, Follows, Leads, Notifies, Probes, started_in, request_of, seen_with}
use Rattle.fk_spec.specs.Settling.{last_of_session}
use Rattle.fk_spec.specs.Stored.{committed_of, owned_after}
use Rattle.fk_spec.specs.Follower.{Follower, begin, next_with, next_for, next_follower, next_stage, decided, to_lock, to_begin, with_granted}
use Rattle.fk_spec.specs.Follower as follower
use Rattle.fk_spec.specs.Leader.{next_leader}
use Rattle.fk_spec.specs.Leader as leader
use Rattle.fk_spec.specs.Function.{Place, Absent, Following, Leading, Telling, Beating, actor, placed, telling, follow_on, lead_on, tell_on, beat_on, moved, started_at, place_by}
use Rattle.fk_spec.specs.Teller.{Note}
use Rattle.fk_spec.specs.Teller as teller
use Rattle.fk_spec.specs.Heartbeat as heartbeat
use Rattle.fk_law.specs.Progress.{Progress, Asks, Works, progress, progress_after}

decided_works : (seen : ℕ) (f : Follower) (o : Option Refusal) → progress (decided seen f o) ≡ Works
decided_works seen f None = refl
decided_works seen f (Some r) = refl

works : (seen : ℕ) (r : Request) (f : Follower) (o : Option PathNames) → progress (next_stage seen r f o) ≡ Works
works seen r f None = decided_works seen f _
works seen r f (Some p) = refl

-- the last commit of its session that a follower knows after each answer
abbrev pub last_after : List Entry → Op → Follower → ℕ
last_after h (op.SessionNew n) f = last_of_session f.session h
last_after h _ f = f.last

-- the same request, so much farther
abbrev pub IsAhead : Follower → Progress → ℕ → Follower → Type 0
IsAhead f q l g = (g.session ≡ f.session) × (g.k ≡ f.k) × (progress g.stage ≡ q) × (g.last ≡ l)

lock_ahead : (seen : ℕ) (r : Request) (f g : Follower) (l : ℕ) → g.session ≡ f.session → g.k ≡ f.k → g.last ≡ l → IsAhead f Works l (to_lock seen r g)
lock_ahead seen r f g l c k e = (c, k, works seen r g _, e)

begin_ahead : (seen : ℕ) (r : Request) (f g : Follower) (l : ℕ) → g.session ≡ f.session → g.k ≡ f.k → g.last ≡ l → IsAhead f Works l (to_begin seen r g)
begin_ahead seen r f g l c k e = cond_both _ (record g { stage = follower.Owned }) (to_lock seen r g) (IsAhead f Works l) (λ _. (c, k, refl, e)) (λ _. lock_ahead seen r f g l c k e)

pub ahead : (p : Plan) (h : List Entry) (r : Request) (o : Op) (f : Follower) → IsAhead f (progress_after o (progress f.stage)) (last_after h o f) (next_with p h r o f)
ahead p h r (op.SessionNew n) f = begin_ahead (seen_with f.session f.k h) r f (record f { last = last_of_session f.session h }) (last_of_session f.session h) refl refl refl
ahead p h r (op.Owned n count) f = lock_ahead (seen_with f.session f.k h) r f (record f { owned = owned_after f.session (committed_of p h) }) f.last refl refl refl
ahead p h r (op.LockOk n path) f = lock_ahead (seen_with f.session f.k h) r f (with_granted p h path f) f.last refl refl refl
ahead p h r o f = grind arith

follow_on_keeps : (P : Place → Type 0) (s : follower.Stage) (g : Follower) → P Absent → P (Following g) → P (follow_on s g)
follow_on_keeps P follower.Ended g a b = a
follow_on_keeps P s g a b = b

lead_on_keeps : (P : Place → Type 0) (t : ℕ) (s : leader.Stage) → P Absent → P (Leading t s) → P (lead_on t s)
lead_on_keeps P t leader.Ended a b = a
lead_on_keeps P t s a b = b

pub moved_follower : (p : Plan) (h : List Entry) (o : Op) (f : Follower) (P : Place → Type 0) → P Absent → ((g : Follower) → IsAhead f (progress_after o (progress f.stage)) (last_after h o f) g → P (Following g)) → P (moved p h o (Following f))
moved_follower p h o f P a b = asked (request_of p f.session f.k h) refl
  where
    asked : (r : Option Request) → request_of p f.session f.k h ≡ r → P (moved p h o (Following f))
    asked None e = subst (λ (r : Option Request). let g = next_for p h r o f in P (follow_on g.stage g)) (sym e) a
    asked (Some r) e = subst (λ (r : Option Request). let g = next_for p h r o f in P (follow_on g.stage g)) (sym e) (follow_on_keeps P (next_with p h r o f).stage (next_with p h r o f) a (b (next_with p h r o f) (ahead p h r o f)))

pub moved_leader : (p : Plan) (h : List Entry) (o : Op) (t : ℕ) (s : leader.Stage) (P : Place → Type 0) → P Absent → P (Leading t (next_leader p h t o s)) → P (moved p h o (Leading t s))
moved_leader p h o t s P a b = lead_on_keeps P t (next_leader p h t o s) a b

-- A function stands where it stood, or where its start line puts it, or where its own operation brings it.
pub place_step : (p : Plan) (n : ℕ) (h : List Entry) (o : Op) (x : Place) (P : Place → Type 0)
    → (actor o ≢ Some n → P x)
    → ((s : Start) → started_in o ≡ Some s → s.function ≡ n → P (placed p h s.task))
    → (actor o ≡ Some n → P (moved p h o x))
    → P (place_by p n h o (actor o) x)
place_step p n h o x P kept begun moves = by_actor (actor o) refl
  where
    by_start : (s : Option Start) → started_in o ≡ s → actor o ≢ Some n → P (started_at p n h s x)
    by_start None e a = kept a
    by_start (Some s) e a = cond_both (s.function == n) (placed p h s.task) x P (λ f. begun s e (eqb-true _ _ f)) (λ _. kept a)

    none_other : actor o ≡ None → actor o ≢ Some n
    none_other e f = grind arith

    some_other : (m : ℕ) → actor o ≡ Some m → m ≢ n → actor o ≢ Some n
    some_other m e d f = grind arith

    by_actor : (a : Option ℕ) → actor o ≡ a → P (place_by p n h o a x)
    by_actor None e = by_start (started_in o) refl (none_other e)
    by_actor (Some m) e = cond_both (m == n) (moved p h o x) x P (λ f. moves (e ∙ ap Some (eqb-true _ _ f))) (λ f. kept (some_other m e (eqb-false _ _ f)))

-- Followers alone. -----------------------------------------------------------------------------------

abbrev pub OnWhole : (ℕ → ℕ → ℕ → Progress → Type 0) → Place → Type 0
OnWhole Q (Following f) = Q f.session f.k f.last (progress f.stage)
OnWhole Q _ = Unit {0}

tell_no_follower : (Q : ℕ → ℕ → ℕ → Progress → Type 0) (w t : ℕ) (s : teller.Stage) → OnWhole Q (tell_on w t s)
tell_no_follower Q w t s = grind arith

beat_no_follower : (Q : ℕ → ℕ → ℕ → Progress → Type 0) (c : ℕ) (s : heartbeat.Stage) → OnWhole Q (beat_on c s)
beat_no_follower Q c s = grind arith

telling_no_follower : (Q : ℕ → ℕ → ℕ → Progress → Type 0) (w : ℕ) (o : Option Note) → OnWhole Q (telling w o)
telling_no_follower Q w None = tt
telling_no_follower Q w (Some x) = tt

pub follower_start : (n : ℕ) (o : Op) (s : Start) (c k : ℕ) → started_in o ≡ Some s → s.function ≡ n → s.task ≡ Follows c k → o ≡ op.Follower n c k
follower_start n o s c k e f t = grind arith

pub whole_step : (p : Plan) (n : ℕ) (h : List Entry) (o : Op) (x : Place) (Q : ℕ → ℕ → ℕ → Progress → Type 0)
    → ((f : Follower) → x ≡ Following f → actor o ≢ Some n → Q f.session f.k f.last (progress f.stage))
    → ((c k : ℕ) → o ≡ op.Follower n c k → Q c k 0 Asks)
    → ((f : Follower) → x ≡ Following f → actor o ≡ Some n → Q f.session f.k (last_after h o f) (progress_after o (progress f.stage)))
    → OnWhole Q (place_by p n h o (actor o) x)
whole_step p n h o x Q kept begun moves = place_step p n h o x (OnWhole Q) (λ a. stays x refl a) starts (λ a. goes x refl a)
  where
    stays : (y : Place) → x ≡ y → actor o ≢ Some n → OnWhole Q y
    stays (Following f) e a = kept f e a
    stays Absent e a = tt
    stays (Leading t s) e a = tt
    stays (Telling w t s) e a = tt
    stays (Beating c s) e a = tt

    placed_so : (s : Start) (t : Task) → s.task ≡ t → started_in o ≡ Some s → s.function ≡ n → OnWhole Q (placed p h t)
    placed_so s (Follows c k) d e f = begun c k (follower_start n o s c k e f d)
    placed_so s (Leads t) d e f = tt
    placed_so s (Notifies w) d e f = telling_no_follower Q w _
    placed_so s (Probes c) d e f = tt

    starts : (s : Start) → started_in o ≡ Some s → s.function ≡ n → OnWhole Q (placed p h s.task)
    starts s e f = placed_so s s.task refl e f

    goes : (y : Place) → x ≡ y → actor o ≡ Some n → OnWhole Q (moved p h o y)
    goes (Following f) e a = moved_follower p h o f (OnWhole Q) tt (λ g i. rw (i.0, i.1, i.2, i.3) (moves f e a))
    goes Absent e a = tt
    goes (Leading t s) e a = moved_leader p h o t s (OnWhole Q) tt tt
    goes (Telling w t s) e a = tell_no_follower Q w t _
    goes (Beating c s) e a = beat_no_follower Q c _

abbrev pub OnFollower : (ℕ → ℕ → Progress → Type 0) → Place → Type 0
OnFollower Q (Following f) = Q f.session f.k (progress f.stage)
OnFollower Q _ = Unit {0}

without_last : (Q : ℕ → ℕ → Progress → Type 0) (x : Place) → OnWhole (λ c k l q. Q c k q) x → OnFollower Q x
without_last Q (Following f) i = i
without_last Q Absent i = tt
without_last Q (Leading t s) i = tt
without_last Q (Telling w t s) i = tt
without_last Q (Beating c s) i = tt

pub follower_step : (p : Plan) (n : ℕ) (h : List Entry) (o : Op) (x : Place) (Q : ℕ → ℕ → Progress → Type 0)
    → ((f : Follower) → x ≡ Following f → actor o ≢ Some n → Q f.session f.k (progress f.stage))
    → ((c k : ℕ) → o ≡ op.Follower n c k → Q c k Asks)
    → ((f : Follower) → x ≡ Following f → actor o ≡ Some n → Q f.session f.k (progress_after o (progress f.stage)))
    → OnFollower Q (place_by p n h o (actor o) x)
follower_step p n h o x Q kept begun moves = without_last Q (place_by p n h o (actor o) x) (whole_step p n h o x (λ c k l q. Q c k q) kept begun moves)

-- Leaders alone. --------------------------------------------------------------------------------------

abbrev pub OnLeader : (ℕ → leader.Stage → Type 0) → Place → Type 0
OnLeader Q (Leading t s) = Q t s
OnLeader Q _ = Unit {0}

tell_no_leader : (Q : ℕ → leader.Stage → Type 0) (w t : ℕ) (s : teller.Stage) → OnLeader Q (tell_on w t s)
tell_no_leader Q w t s = grind arith

beat_no_leader : (Q : ℕ → leader.Stage → Type 0) (c : ℕ) (s : heartbeat.Stage) → OnLeader Q (beat_on c s)
beat_no_leader Q c s = grind arith

telling_no_leader : (Q : ℕ → leader.Stage → Type 0) (w : ℕ) (o : Option Note) → OnLeader Q (telling w o)
telling_no_leader Q w None = tt
telling_no_leader Q w (Some x) = tt

leader_start : (n : ℕ) (o : Op) (s : Start) (t : ℕ) → started_in o ≡ Some s → s.function ≡ n → s.task ≡ Leads t → o ≡ op.Leader n t
leader_start n o s t e f d = grind arith

pub leader_step : (p : Plan) (n : ℕ) (h : List Entry) (o : Op) (x : Place) (Q : ℕ → leader.Stage → Type 0)
    → ((t : ℕ) (s : leader.Stage) → x ≡ Leading t s → actor o ≢ Some n → Q t s)
    → ((t : ℕ) → o ≡ op.Leader n t → Q t leader.Commit)
    → ((t : ℕ) (s : leader.Stage) → x ≡ Leading t s → actor o ≡ Some n → Q t (next_leader p h t o s))
    → OnLeader Q (place_by p n h o (actor o) x)
leader_step p n h o x Q kept begun moves = place_step p n h o x (OnLeader Q) (λ a. stays x refl a) starts (λ a. goes x refl a)
  where
    stays : (y : Place) → x ≡ y → actor o ≢ Some n → OnLeader Q y
    stays (Leading t s) e a = kept t s e a
    stays Absent e a = tt
    stays (Following f) e a = tt
    stays (Telling w t s) e a = tt
    stays (Beating c s) e a = tt

    placed_so : (s : Start) (t : Task) → s.task ≡ t → started_in o ≡ Some s → s.function ≡ n → OnLeader Q (placed p h t)
    placed_so s (Follows c k) d e f = tt
    placed_so s (Leads t) d e f = begun t (leader_start n o s t e f d)
    placed_so s (Notifies w) d e f = telling_no_leader Q w _
    placed_so s (Probes c) d e f = tt

    starts : (s : Start) → started_in o ≡ Some s → s.function ≡ n → OnLeader Q (placed p h s.task)
    starts s e f = placed_so s s.task refl e f

    goes : (y : Place) → x ≡ y → actor o ≡ Some n → OnLeader Q (moved p h o y)
    goes (Following f) e a = moved_follower p h o f (OnLeader Q) tt (λ g i. tt)
    goes (Leading t s) e a = moved_leader p h o t s (OnLeader Q) tt (moves t s e a)
    goes Absent e a = tt
    goes (Telling w t s) e a = tell_no_leader Q w t _
    goes (Beating c s) e a = beat_no_leader Q c _

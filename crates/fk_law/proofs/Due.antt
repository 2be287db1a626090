-- What each operation line says of the entries before it: the only place where the rule of the next entry is opened.
use Rattle.std.proofs.Common.{◌≡◌, ℕ, ◌+◌, true, List, refl, sym, ap, subst, arith, Option, Some, None}
use Rattle.std.specs.Prelude.{◌==◌, nat_lt, nat_le}
use Rattle.std.proofs.lemmas.Bool.{cond_both, eqb-true, eqb-false}
use Rattle.std.proofs.lemmas.Bool.Decides.{nat_tests}
use Rattle.std.proofs.lemmas.Option.{same_Some}
use Rattle.fk_base.specs.Path.{PathNames}
use Rattle.fk_tree.specs.Check.{Refusal}
use Rattle.fk_tree.specs.Sorted.{in_path_order}
use Rattle.fk_print.specs.declared.entry.Entry.{Entry}
use Rattle.fk_print.specs.declared.event.Event.{Event}
use Rattle.fk_print.specs.declared.event.Event.TheVariants as event
use Rattle.fk_print.specs.declared.op.Op.{Op}
use Rattle.fk_print.specs.declared.op.Op.TheVariants as op
use Rattle.fk_spec.specs.Plan.{Plan}
use Rattle.fk_spec.specs.Start.{Task, Follows, Leads, Notifies, Probes, Push, clock_of, starts_of, task_of, push_of}
use Rattle.fk_spec.specs.Locks as locks
use Rattle.fk_spec.specs.Locks.{granted, first_passed}
use Rattle.fk_spec.specs.Settling.{settled_of}
use Rattle.fk_spec.specs.Stored.{stored_view}
use Rattle.fk_spec.specs.Lanes.{session_head, leader_head, watch_head}
use Rattle.fk_spec.specs.Follower.{Follower, follower_op, session_op, unsettled_op, settled_op, lock_op, busy_op, commit_op, commit_locked, refuse_op, refuse_locked, expire_op, lost_op, ack_op, is_number}
use Rattle.fk_spec.specs.Follower as follower
use Rattle.fk_spec.specs.Leader.{leader_op, of_push, for_push, for_task}
use Rattle.fk_spec.specs.Leader as leader
use Rattle.fk_spec.specs.Teller.{teller_op}
use Rattle.fk_spec.specs.Teller as teller
use Rattle.fk_spec.specs.Heartbeat.{beat_op, probe_op, open_op, unanswered_op}
use Rattle.fk_spec.specs.Pings.{Noted, noted_of, pong_of}
use Rattle.fk_spec.specs.Heartbeat as heartbeat
use Rattle.fk_spec.specs.Function.{Place, Absent, Following, Leading, Telling, Beating, place_of, function_op, fault_op}
use Rattle.fk_spec.specs.Client.{client_in, client_op}
use Rattle.fk_spec.specs.Next.{names_client, next_op, follow_op, lead_op, tell_op, crash_op}
use Rattle.fk_law.specs.Due.{IsDue, IsFollower, Commits, IsPushOf, EveryEntryIsDue}
use Rattle.fk_law.specs.Operations.{ClientOperationsSay, OperationSays}
use Rattle.fk_law.proofs.Operating.{client_turns, failed_due}

-- A follower's. --------------------------------------------------------------------------------------

session_due : (p : Plan) (h : List Entry) (n : ℕ) (f : Follower) → IsFollower p n h f → f.stage ≡ follower.Session → IsDue p h (session_op p h n f.session f.k)
session_due p h n f l s = grind (arith, nat_tests)

lock_due : (p : Plan) (h : List Entry) (n : ℕ) (f : Follower) (path : PathNames) → IsFollower p n h f → f.stage ≡ follower.Lock path → IsDue p h (lock_op p.lock h n path)
lock_due p h n f path l s = grind (arith, nat_tests)

commit_due : (p : Plan) (h : List Entry) (n t m c k : ℕ) → Commits n t m c k h (place_of p n h) → IsDue p h (commit_op h n t m c k)
commit_due p h n t m c k l =
    cond_both (settled_of c h + 1 == k) (commit_locked n t (first_passed m h (in_path_order (granted m h)))) (op.CommitSettled n t (settled_of c h)) (IsDue p h)
    (λ s. locked (first_passed m h (in_path_order (granted m h))) refl (eqb-true _ _ s))
    (λ s. (m, c, k, l, eqb-false _ _ s))
  where
    locked : (o : Option locks.Passed) → first_passed m h (in_path_order (granted m h)) ≡ o → settled_of c h + 1 ≡ k → IsDue p h (commit_locked n t o)
    locked None e s = (m, c, k, l, s, e)
    locked (Some x) e s = (m, c, k, l, s, e)

refuse_due : (p : Plan) (h : List Entry) (n : ℕ) (f : Follower) (r : Refusal) (at : ℕ) → IsFollower p n h f → f.stage ≡ follower.Refuse r at → IsDue p h (refuse_op h n r at f.session f.k)
refuse_due p h n f r at l s = grind (arith, nat_tests)

expire_due : (p : Plan) (h : List Entry) (n : ℕ) (f : Follower) (at : ℕ) → IsFollower p n h f → f.stage ≡ follower.Expire at → IsDue p h (expire_op h n at f.session f.k)
expire_due p h n f at l s = grind (arith, nat_tests)

lost_due : (p : Plan) (h : List Entry) (n : ℕ) (f : Follower) → IsFollower p n h f → f.stage ≡ follower.Lost → IsDue p h (lost_op h n f.session f.k)
lost_due p h n f l s = grind (arith, nat_tests)

is_number_is : (n : ℕ) (o : Option ℕ) → is_number n o ≡ true → o ≡ Some n
is_number_is n None e = grind arith
is_number_is n (Some m) e = grind (arith, nat_tests)

ack_due : (p : Plan) (h : List Entry) (n : ℕ) (f : Follower) → IsFollower p n h f → f.stage ≡ follower.Ack → IsDue p h (ack_op n f.k (session_head f.session h))
ack_due p h n f l s = grind (arith, nat_tests, is_number_is f.k (session_head f.session h))

follower_due : (p : Plan) (h : List Entry) (n : ℕ) (f : Follower) (s : follower.Stage) → IsFollower p n h f → f.stage ≡ s → IsDue p h (follower_op p h n f s)
follower_due p h n f follower.Session l e = session_due p h n f l e
follower_due p h n f follower.Owned l e = (f, l, e)
follower_due p h n f (follower.Lock path) l e = lock_due p h n f path l e
follower_due p h n f follower.Push l e = (f, l, e, refl)
follower_due p h n f (follower.Refuse r at) l e = refuse_due p h n f r at l e
follower_due p h n f (follower.Expire at) l e = expire_due p h n f at l e
follower_due p h n f (follower.Commit t) l e = commit_due p h n t n f.session f.k (grind arith)
follower_due p h n f follower.Lost l e = lost_due p h n f l e
follower_due p h n f follower.Reply l e = grind arith
follower_due p h n f follower.Ack l e = ack_due p h n f l e
follower_due p h n f follower.Ended l e = tt

-- A leader's, a watch function's and a heartbeat's. ---------------------------------------------------

of_push_due : (p : Plan) (h : List Entry) (t : ℕ) (g : ℕ → ℕ → ℕ → Op) → ((m c k : ℕ) → IsPushOf t m c k h → IsDue p h (g m c k)) → IsDue p h (of_push t h g)
of_push_due p h t g d = pushed (push_of t h) refl
  where
    tasked : (x : Push) (o : Option Task) → push_of t h ≡ Some x → task_of x.function h ≡ o → IsDue p h (for_task o (λ c k. g x.function c k))
    tasked x None e f = tt
    tasked x (Some (Follows c k)) e f = d x.function c k (record { push = x; pushed = e; function = refl; task = f })
    tasked x (Some (Leads s)) e f = tt
    tasked x (Some (Notifies w)) e f = tt
    tasked x (Some (Probes c)) e f = tt

    pushed : (o : Option Push) → push_of t h ≡ o → IsDue p h (for_push h o g)
    pushed None e = tt
    pushed (Some x) e = tasked x (task_of x.function h) e refl

leader_commit_due : (p : Plan) (h : List Entry) (n t : ℕ) → place_of p n h ≡ Leading t leader.Commit → (m c k : ℕ) → IsPushOf t m c k h → IsDue p h (commit_op h n t m c k)
leader_commit_due p h n t l m c k x = commit_due p h n t m c k (subst (Commits n t m c k h) (sym l) (refl, refl, x))

leader_reply_due : (p : Plan) (h : List Entry) (n t : ℕ) → place_of p n h ≡ Leading t leader.Reply → (m c k : ℕ) → IsPushOf t m c k h → IsDue p h (op.Reply n c k)
leader_reply_due p h n t l m c k x = grind arith

leader_due : (p : Plan) (h : List Entry) (n t : ℕ) (s : leader.Stage) → place_of p n h ≡ Leading t s → IsDue p h (leader_op p h n t s)
leader_due p h n t leader.Commit l = of_push_due p h t (λ m c k. commit_op h n t m c k) (leader_commit_due p h n t l)
leader_due p h n t leader.Reply l = of_push_due p h t (λ m c k. op.Reply n c k) (leader_reply_due p h n t l)
leader_due p h n t leader.Ack l = grind (arith, nat_tests, is_number_is t (leader_head h))
leader_due p h n t leader.Ended l = tt
leader_due p h n t s l = grind (arith, nat_tests)

teller_due : (p : Plan) (h : List Entry) (n w t : ℕ) (s : teller.Stage) → place_of p n h ≡ Telling w t s → IsDue p h (teller_op h n w t s)
teller_due p h n w t teller.Ack l = grind (arith, nat_tests, is_number_is w (watch_head h))
teller_due p h n w t s l = grind (arith, nat_tests)

unanswered_due : (p : Plan) (h : List Entry) (n c clock : ℕ) (x : Noted) → place_of p n h ≡ Beating c heartbeat.Probe → IsDue p h (unanswered_op n p.beat clock x)
unanswered_due p h n c clock x l = cond_both (nat_lt (x.moment + p.beat) clock) (op.ProbeLate n x.ping x.moment) (op.ProbeWaiting n) (IsDue p h) (λ _. (c, l)) (λ _. (c, l))

open_due : (p : Plan) (h : List Entry) (n c clock pong : ℕ) (x : Noted) → place_of p n h ≡ Beating c heartbeat.Probe → IsDue p h (open_op n p.beat clock pong x)
open_due p h n c clock pong x l = cond_both (nat_le x.ping pong) (op.ProbeFresh n) (unanswered_op n p.beat clock x) (IsDue p h) (λ _. (c, l)) (λ _. unanswered_due p h n c clock x l)

probe_due : (p : Plan) (h : List Entry) (n c : ℕ) → place_of p n h ≡ Beating c heartbeat.Probe → IsDue p h (probe_op p h n c)
probe_due p h n c l = cond_both ((stored_view p h).closed c) (op.ProbeClosed n) (open_op n p.beat (clock_of h) (pong_of c h) (noted_of c h)) (IsDue p h) (λ _. (c, l)) (λ _. open_due p h n c (clock_of h) (pong_of c h) (noted_of c h) l)

beat_due : (p : Plan) (h : List Entry) (n c : ℕ) (s : heartbeat.Stage) → place_of p n h ≡ Beating c s → IsDue p h (beat_op p h n c s)
beat_due p h n c heartbeat.Probe l = probe_due p h n c l
beat_due p h n c heartbeat.Ping l = l
beat_due p h n c heartbeat.Note l = cond_both (nat_lt (noted_of c h).ping n) (op.NoteOk n) (op.NoteMiss n (noted_of c h).ping) (IsDue p h) (λ _. (c, l)) (λ _. (c, l))
beat_due p h n c heartbeat.Evict l = (c, l, refl)
beat_due p h n c heartbeat.Ended l = tt

function_due : (p : Plan) (h : List Entry) (n : ℕ) (x : Place) → place_of p n h ≡ x → IsDue p h (function_op p h n x)
function_due p h n Absent e = tt
function_due p h n (Following f) e = follower_due p h n f f.stage e refl
function_due p h n (Leading t s) e = leader_due p h n t s e
function_due p h n (Telling w t s) e = teller_due p h n w t s e
function_due p h n (Beating c s) e = beat_due p h n c s e

fault_due : (p : Plan) (h : List Entry) (n : ℕ) (x : Place) → place_of p n h ≡ x → IsDue p h (fault_op n x)
fault_due p h n Absent e = tt
fault_due p h n x e = grind arith

-- Each event's. ---------------------------------------------------------------------------------------

follow_due : (p : Plan) (h : List Entry) (c : ℕ) (o : Option ℕ) → session_head c h ≡ o → IsDue p h (follow_op (starts_of h + 1) c o)
follow_due p h c None e = tt
follow_due p h c (Some k) e = (refl, e)

lead_due : (p : Plan) (h : List Entry) (o : Option ℕ) → leader_head h ≡ o → IsDue p h (lead_op (starts_of h + 1) o)
lead_due p h None e = tt
lead_due p h (Some t) e = (refl, e)

tell_due : (p : Plan) (h : List Entry) (o : Option ℕ) → watch_head h ≡ o → IsDue p h (tell_op (starts_of h + 1) o)
tell_due p h None e = tt
tell_due p h (Some w) e = (refl, e)

crash_due : (p : Plan) (h : List Entry) (n : ℕ) (x : Place) → place_of p n h ≡ x → IsDue p h (crash_op n x)
crash_due p h n Absent e = tt
crash_due p h n x e = grind arith

event_due : (p : Plan) (h : List Entry) (v : Event) → names_client p v ≡ true → IsDue p h (next_op p h v)
event_due p h (event.Client c) i = (client_turns p c h).0
event_due p h (event.Deliver c) i = follow_due p h c (session_head c h) refl
event_due p h event.Leader i = lead_due p h (leader_head h) refl
event_due p h event.Watch i = tell_due p h (watch_head h) refl
event_due p h (event.Beat c) i = (refl, i)
event_due p h (event.Step n) i = function_due p h n (place_of p n h) refl
event_due p h (event.Crash n) i = crash_due p h n (place_of p n h) refl
event_due p h (event.Fail n) i = fault_due p h n (place_of p n h) refl
event_due p h (event.FailClient c) i = failed_due p h (client_op p c h) (client_turns p c h).0
event_due p h (event.Clock moment) i = grind (arith, nat_tests)

pub due : EveryEntryIsDue
due p e h l = subst (IsDue p h) (sym (ap (λ x. x.op) l.1.0)) (event_due p h e.event l.1.1)

-- What an operation of client c says. -----------------------------------------------------------------

said : (p : Plan) (c d : ℕ) (h : List Entry) (o : Op) → Some d ≡ Some c → OperationSays p d h o → OperationSays p c h o
said p c d h o e a = subst (λ z. OperationSays p z h o) (same_Some d c e) a

says : (p : Plan) (c : ℕ) (h : List Entry) (o : Op) → client_in o ≡ Some c → IsDue p h o → OperationSays p c h o
says p c h (op.Pong d ping) e a = said p c d h (op.Pong d ping) e a
says p c h (op.TakeDone d k t) e a = said p c d h (op.TakeDone d k t) e a.2
says p c h (op.TakeEvicted d k t) e a = said p c d h (op.TakeEvicted d k t) e a.2
says p c h (op.TakeRefused d k) e a = said p c d h (op.TakeRefused d k) e a.3
says p c h (op.TakeLost d k) e a = said p c d h (op.TakeLost d k) e a.3
says p c h (op.TakeWatch d id) e a = said p c d h (op.TakeWatch d id) e a.2
says p c h (op.TakePing d ping) e a = said p c d h (op.TakePing d ping) e a.2
says p c h (op.TakeFault d) e a = said p c d h (op.TakeFault d) e a
says p c h (op.LookOk d i mark) e a = said p c d h (op.LookOk d i mark) e a
says p c h (op.LookHeld d i mark id) e a = said p c d h (op.LookHeld d i mark id) e a
says p c h (op.LookBehind d i mark) e a = said p c d h (op.LookBehind d i mark) e a
says p c h (op.LookFault d i) e a = said p c d h (op.LookFault d i) e a
says p c h (op.WatchSet d i id) e a = said p c d h (op.WatchSet d i id) e a
says p c h (op.WatchSwept d i t) e a = said p c d h (op.WatchSwept d i t) e a
says p c h (op.WatchFault d i) e a = said p c d h (op.WatchFault d i) e a
says p c h (op.Send d i k) e a = said p c d h (op.Send d i k) e a.3
says p c h (op.SendFault d i) e a = said p c d h (op.SendFault d i) e a
says p c h (op.Read d i stamp) e a = said p c d h (op.Read d i stamp) e a
says p c h (op.ReadFault d i) e a = said p c d h (op.ReadFault d i) e a
says p c h (op.Local d i) e a = said p c d h (op.Local d i) e a
says p c h o e a = tt

pub client_operations_say : ClientOperationsSay
client_operations_say p c e h l a = says p c h e.op a (due p e h l)

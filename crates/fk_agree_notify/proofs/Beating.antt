-- A heartbeat starts, makes its operation, goes on, and has what it needs.
use Rattle.std.specs.Prelude.{◌+◌, ◌-◌, ◌<◌, ◌^◌, if◌then◌else◌, nat_le, nat_lt, is_some}
use Rattle.std.proofs.Common.{◌≡◌, ℕ, inl, inr, ◌⊎◌, Bool, true, false, List, ◌∷◌, length, refl, sym, ◌∙◌, ap, subst, arith, Some}
use Rattle.std.proofs.lemmas.Bool.{false≢true}
use Rattle.fk_print.specs.declared.entry.Entry.{Entry}
use Rattle.fk_print.specs.declared.op.Op.{Op}
use Rattle.fk_print.specs.declared.op.Op.TheVariants as op
use Rattle.fk_queue.specs.Lanes.{is_session}
use Rattle.fk_queue.specs.Meaning as post
use Rattle.fk_queue.specs.declared.lane.Lane.TheVariants as lane
use Rattle.fk_store.specs.Conds.{session_of}
use Rattle.fk_store.specs.Meaning as table
use Rattle.fk_store.specs.declared.session_record.SessionRecord.{SessionRecord}
use Rattle.fk_watch.specs.Beating as beating
use Rattle.fk_watch.specs.Beating.{Meaning, calm_op, going_to, is_armed, is_end, is_ended, step_op}
use Rattle.fk_watch.specs.BeatingFit.{IsFit}
use Rattle.fk_stand.specs.Tables.{session_record}
use Rattle.fk_spec.specs.Plan.{Plan, is_client}
use Rattle.fk_spec.specs.Start.{Probes, clock_of, sends_of, started_in, task_of}
use Rattle.fk_spec.specs.Failing.{or_fault}
use Rattle.fk_spec.specs.Function.{actor, beat_on, beat_word, fault_op, function_op, is_absent, moved, place_of}
use Rattle.fk_spec.specs.Heartbeat as heartbeat
use Rattle.fk_spec.specs.Heartbeat.{Stage, beat_op, next_beat, open_op, unanswered_op}
use Rattle.fk_spec.specs.Pings.{Noted}
use Rattle.fk_spec.specs.Next.{IsHistory}
use Rattle.fk_law.specs.Functions.{IsFor}
use Rattle.fk_law.proofs.Beating.{heartbeats_are_of_clients}
use Rattle.fk_law.proofs.Clients.{probes_client}
use Rattle.fk_law.proofs.Starting.{others_leave_it, own_operation_moves_it, place_bound, place_for, start_places_it}
use Rattle.fk_law_watch.proofs.Counting.{starts_are_bounded}
use Rattle.fk_agree.proofs.Counting.{lanes_are_counted}
use Rattle.fk_agree.proofs.Serving.{lane_is, session_is, session_there, IsOf}
use Rattle.fk_agree_notify.specs.Beats.{BeatFails, BeatGoesOn, BeatIsFit, BeatMakesItsOperation, BeatStarts, IsBeat, OthersLeaveBeats}
use Rattle.fk_agree.specs.Ends.{HasEnded}
use Rattle.fk_agree.proofs.Bounds.{is_number as is_limited, lane_low}
use Rattle.fk_base.proofs.Logic.{by_test}

-- Its session is a client's. ----------------------------------------------------------------------------

pub beat_task : (p : Plan) (n : ℕ) (h : List Entry) (m : Meaning) → IsHistory p h → IsBeat p n h m → task_of n h ≡ Some (Probes m.session)
beat_task p n h m l i = subst (IsFor (task_of n h)) i.stands (place_for p n h l)

pub beats_client : (p : Plan) (n : ℕ) (h : List Entry) (m : Meaning) → IsHistory p h → IsBeat p n h m → is_client p m.session ≡ true
beats_client p n h m l i = probes_client p n m.session h (heartbeats_are_of_clients p h l) (beat_task p n h m l i)

-- Its operation. ----------------------------------------------------------------------------------------

calm_stage : (t : table.Meaning) (q : post.Meaning) (now beat : ℕ) (m : Meaning) (x : Stage) → t.armed ≡ false → q.armed ≡ false → or_fault (is_armed t q x) m.inv (beat_word x) (calm_op t q now beat m x) ≡ calm_op t q now beat m x
calm_stage t q now beat m heartbeat.Probe a b = rw a refl
calm_stage t q now beat m heartbeat.Ping a b = rw b refl
calm_stage t q now beat m heartbeat.Note a b = rw a refl
calm_stage t q now beat m heartbeat.Evict a b = rw b refl
calm_stage t q now beat m heartbeat.Ended a b = refl

-- where the services are calm
pub calm_beat : (t : table.Meaning) (q : post.Meaning) (now beat : ℕ) (m : Meaning) → t.armed ≡ false → q.armed ≡ false → step_op t q now beat m ≡ calm_op t q now beat m m.stage
calm_beat t q now beat m a b = calm_stage t q now beat m m.stage a b

rule_stage : (p : Plan) (h : List Entry) (n : ℕ) (t : table.Meaning) (q : post.Meaning) (m : Meaning) (x : Stage) → m.inv ≡ n → session_of t m.session ≡ session_record p m.session h → (q.lanes (lane.Session m.session)).given ≡ sends_of m.session h → calm_op t q (clock_of h) p.beat m x ≡ beat_op p h n m.session x
rule_stage p h n t q m heartbeat.Probe e r g = ap (λ z. beating.probe_op z (clock_of h) p.beat (session_of t m.session)) e ∙ ap (beating.probe_op n (clock_of h) p.beat) r
rule_stage p h n t q m heartbeat.Ping e r g = ap (λ z. op.Ping z m.session) e
rule_stage p h n t q m heartbeat.Note e r g = ap (λ z. beating.note_op z (session_of t m.session)) e ∙ ap (beating.note_op n) r
rule_stage p h n t q m heartbeat.Evict e r g = ap (λ z. op.Evict z ((q.lanes (lane.Session m.session)).given + 1)) e ∙ ap (λ z. op.Evict n (z + 1)) g
rule_stage p h n t q m heartbeat.Ended e r g = refl

pub beat_makes_its_operation : BeatMakesItsOperation
beat_makes_its_operation p n h m t q u w l s i =
    let c = beats_client p n h m l i in
    calm_beat t q (clock_of h) p.beat m (ap (λ z. z.armed) s.table) (ap (λ z. z.armed) s.post)
    ∙ (rule_stage p h n t q m m.stage i.inv (session_is p m.session h t s.table c) (ap (λ z. z.given) (lane_is p h q (lane.Session m.session) s.post c) ∙ ((lanes_are_counted p h l).0 m.session).count) ∙ sym (ap (function_op p h n) i.stands))

fail_stage : (t : table.Meaning) (q : post.Meaning) (now beat : ℕ) (m : Meaning) (x : Stage) → is_end x ≡ false → or_fault (is_armed (table.armed t) (post.armed q) x) m.inv (beat_word x) (calm_op (table.armed t) (post.armed q) now beat m x) ≡ op.Fault m.inv (beat_word x)
fail_stage t q now beat m heartbeat.Probe e = refl
fail_stage t q now beat m heartbeat.Ping e = refl
fail_stage t q now beat m heartbeat.Note e = refl
fail_stage t q now beat m heartbeat.Evict e = refl
fail_stage t q now beat m heartbeat.Ended e = absurd (false≢true (sym e))

pub beat_faults : (t : table.Meaning) (q : post.Meaning) (now beat : ℕ) (m : Meaning) → is_ended m ≡ false → step_op (table.armed t) (post.armed q) now beat m ≡ op.Fault m.inv (beat_word m.stage)
beat_faults t q now beat m e = fail_stage t q now beat m m.stage e

pub beat_fails : BeatFails
beat_fails p n now beat h m t q i = beat_faults t q now beat m i.going ∙ (ap (λ z. op.Fault z (beat_word m.stage)) i.inv ∙ sym (ap (fault_op n) i.stands))

-- It goes on. -------------------------------------------------------------------------------------------

late_of : (n beat now : ℕ) (x : Noted) → IsOf n (unanswered_op n beat now x)
late_of n beat now x = by_test (nat_lt (x.moment + beat) now) (λ b. IsOf n (if b then op.ProbeLate n x.ping x.moment else op.ProbeWaiting n)) (λ _. refl) (λ _. refl)

open_of : (n beat now pong : ℕ) (x : Noted) → IsOf n (open_op n beat now pong x)
open_of n beat now pong x = by_test (nat_le x.ping pong) (λ b. IsOf n (if b then op.ProbeFresh n else unanswered_op n beat now x)) (λ _. refl) (λ _. late_of n beat now x)

probe_of : (n now beat : ℕ) (r : SessionRecord) → IsOf n (beating.probe_op n now beat r)
probe_of n now beat r = by_test r.closed (λ b. IsOf n (if b then op.ProbeClosed n else open_op n beat now r.pong (beating.noted_in r))) (λ _. refl) (λ _. open_of n beat now r.pong (beating.noted_in r))

note_of : (n : ℕ) (r : SessionRecord) → IsOf n (beating.note_op n r)
note_of n r = by_test (nat_lt r.ping n) (λ b. IsOf n (if b then op.NoteOk n else op.NoteMiss n r.ping)) (λ _. refl) (λ _. refl)

of_it : (t : table.Meaning) (q : post.Meaning) (now beat : ℕ) (m : Meaning) (x : Stage) → is_end x ≡ false → IsOf m.inv (calm_op t q now beat m x)
of_it t q now beat m heartbeat.Probe e = probe_of m.inv now beat (session_of t m.session)
of_it t q now beat m heartbeat.Ping e = refl
of_it t q now beat m heartbeat.Note e = note_of m.inv (session_of t m.session)
of_it t q now beat m heartbeat.Evict e = refl
of_it t q now beat m heartbeat.Ended e = absurd (false≢true (sym e))

fault_or_it : (b : Bool) (n : ℕ) (x : Stage) (o : Op) → IsOf n o → IsOf n (or_fault b n (beat_word x) o)
fault_or_it true n x o i = refl
fault_or_it false n x o i = i

-- its operation is its own
pub beat_acts : (t : table.Meaning) (q : post.Meaning) (now beat : ℕ) (m : Meaning) → is_ended m ≡ false → actor (step_op t q now beat m) ≡ Some m.inv
beat_acts t q now beat m e = fault_or_it (is_armed t q m.stage) m.inv m.stage (calm_op t q now beat m m.stage) (of_it t q now beat m m.stage e)

after_place : (p : Plan) (n : ℕ) (g : List Entry) (m : Meaning) (x : Stage) → m.inv ≡ n → place_of p n g ≡ beat_on m.session x → IsBeat p n g (going_to x m) ⊎ HasEnded p n g (is_ended (going_to x m))
after_place p n g m heartbeat.Probe e a = inl (record { inv = e; going = refl; stands = a })
after_place p n g m heartbeat.Ping e a = inl (record { inv = e; going = refl; stands = a })
after_place p n g m heartbeat.Note e a = inl (record { inv = e; going = refl; stands = a })
after_place p n g m heartbeat.Evict e a = inl (record { inv = e; going = refl; stands = a })
after_place p n g m heartbeat.Ended e a = inr (record { is_so = refl; absent = a })

pub beat_goes_on : BeatGoesOn
beat_goes_on p n now beat e h m t q i g = after_place p n (e ∷ h) m (next_beat (step_op t q now beat m)) i.inv (own_operation_moves_it p n e h its ∙ (ap (moved p h e.op) i.stands ∙ ap (λ o. beat_on m.session (next_beat o)) g))
  where
    its : actor e.op ≡ Some n
    its = ap actor g ∙ (beat_acts t q now beat m i.going ∙ ap Some i.inv)

pub others_leave_beats : OthersLeaveBeats
others_leave_beats p n e h m l i other = record { inv = i.inv; going = i.going; stands = others_leave_it p n e h l (ap is_absent i.stands) other ∙ i.stands }

pub beat_starts : BeatStarts
beat_starts p n c e h g = record { inv = refl; going = refl; stands = start_places_it p e h (record { function = n; task = Probes c }) (ap started_in g) }

-- What it needs. ----------------------------------------------------------------------------------------

armed_fit : (t : table.Meaning) (q : post.Meaning) (m : Meaning) → IsFit t q m → IsFit (table.armed t) (post.armed q) m
armed_fit t q m f = record {
  going = f.going;
  inv = f.inv;
  session = record { table = f.session.table; post = f.session.post; requests = f.session.requests; inbox = f.session.inbox };
}

pub beat_is_fit : BeatIsFit
beat_is_fit p n h m t q u w l b s i = (fit, armed_fit t q m fit)
  where
    c : is_client p m.session ≡ true
    c = beats_client p n h m l i

    fit : IsFit t q m
    fit = record {
      going = i.going;
      inv = (let x = place_bound p n h l (ap is_absent i.stands) in let y = starts_are_bounded h in is_limited m.inv (length h) b (omega (arith, x.1, y, i.inv)));
      session = record {
        table = ap is_some (session_there p m.session h t s.table c);
        post = ap (λ z. is_session z.sessions m.session) s.post ∙ c;
        requests = subst (λ x. x.given < 2 ^ 63 - 1) (sym (lane_is p h q (lane.Session m.session) s.post c)) (lane_low p (lane.Session m.session) h b);
        inbox = subst (λ x. x.given < 2 ^ 63 - 1) (sym (lane_is p h q (lane.Inbox m.session) s.post c)) (lane_low p (lane.Inbox m.session) h b);
      };
    }

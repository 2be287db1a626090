-- An engine goes on from where it stands to where the longer history says.
use Rattle.std.proofs.lemmas.Bool.{false≢true}
use Rattle.std.proofs.Common.{◌≡◌, ℕ, List, [], ◌∷◌, refl, sym, ◌∙◌, ap, subst, Option, Some, None}
use Rattle.fk_print.specs.declared.entry.Entry.{Entry}
use Rattle.fk_print.specs.declared.event.Event.{Event}
use Rattle.fk_print.specs.declared.event.Event.TheVariants as event
use Rattle.fk_print.specs.declared.op.Op.TheVariants as op
use Rattle.fk_watch.specs.Services.{Services}
use Rattle.fk_stand.specs.Standing.{Standing}
use Rattle.fk_spec.specs.Plan.{Plan}
use Rattle.fk_spec.specs.Function.{Absent, Beating, Following, Leading, Place, Telling, actor, fault_op, function_op, is_absent, place_of}
use Rattle.fk_spec.specs.Next.{IsHistory, next_entry, next_lines}
use Rattle.fk_engine.specs.declared.times.Times.{Times}
use Rattle.fk_engine.specs.Engine.{made}
use Rattle.fk_engine.specs.Events.{after_event, as_it_is}
use Rattle.fk_engine.specs.Fit.{IsReadAt}
use Rattle.fk_engine.specs.Flights.{unless_ended}
use Rattle.fk_agree.specs.Sending.{Sends}
use Rattle.fk_engine.specs.Machines as machine
use Rattle.fk_engine.specs.Machines.{Follower, Leader, Teller, Beat, after_step, lines_by, services_after, step_op}
use Rattle.fk_engine.specs.Parts.{Meaning}
use Rattle.fk_engine.specs.Playing.{SendsReadable}
use Rattle.fk_engine.specs.Reads.{Read}
use Rattle.fk_engine.specs.Serving.{armed, calmed}
use Rattle.fk_engine.specs.Stepping as stepping
use Rattle.fk_engine.specs.Stepping.{IsReadBy, function_lines, function_moved, function_services}
use Rattle.fk_agree_engine.specs.Playing.{CanPlay, EngineGoesOn, EventIsNext}
use Rattle.fk_agree_engine.specs.World.{IsWorld, StandsAs}
use Rattle.fk_agree_engine.proofs.Moves.{move_world}
use Rattle.fk_agree_engine.proofs.Plain.{beat_goes_on, beat_next, clock_goes_on, clock_next, crash_goes_on, crash_next, deliver_goes_on, deliver_next, idle_goes_on, is_in_flight, lead_goes_on, lead_next, longer, tell_goes_on, tell_next}
use Rattle.fk_agree_engine.proofs.Readable.{silent_sends}
use Rattle.fk_agree_engine.proofs.Steps.{Faults, Steps, beat_faults, beat_steps, follower_faults, follower_steps, leader_faults, leader_steps, teller_faults, teller_steps, times_of}
use Rattle.fk_agree_engine.proofs.Turns.{calm_world, fail_goes_on, fail_next, turn_goes_on, turn_next, ruled}

-- The times. ---------------------------------------------------------------------------------------------

abbrev timed : Plan → List Entry → Meaning → Meaning
timed p h w = record w { times = times_of p h }

times_are : (p : Plan) (h : List Entry) (w : Meaning) → IsWorld p h w → w ≡ timed p h w
times_are p h w x = λ i. record w { times = record { clock = (x.clock) i; lock = (x.lock) i; beat = (x.beat) i } }

-- One function. ------------------------------------------------------------------------------------------

steps : (p : Plan) (n : ℕ) (h : List Entry) (s : Services) (r : Read) (m : machine.Meaning) → IsHistory p h → Standing p h s.table s.post s.user s.watches → StandsAs p n h (Some m) → machine.IsReadAt s r m → Steps p n h s r m
steps p n h s r (Follower m) l a i d = follower_steps p n h s r m l a i d
steps p n h s r (Leader m) l a i d = leader_steps p n h s r m l a i d
steps p n h s r (Teller m) l a i d = teller_steps p n h s r m l a i
steps p n h s r (Beat m) l a i d = beat_steps p n h s r m l a i

faults : (p : Plan) (n : ℕ) (h : List Entry) (s : Services) (r : Read) (m : machine.Meaning) → Standing p h s.table s.post s.user s.watches → StandsAs p n h (Some m) → Faults p n h s r m
faults p n h s r (Follower m) a i = follower_faults p n h s r m a i
faults p n h s r (Leader m) a i = leader_faults p n h s r m a i
faults p n h s r (Teller m) a i = teller_faults p n h s r m a i
faults p n h s r (Beat m) a i = beat_faults p n h s r m a i

abbrev step_entry : Event → Services → Times → Read → Option machine.Meaning → Entry
step_entry v s t r o = record { event = v; op = stepping.function_op s t r o; lines = function_lines s t r o }

step_is : (p : Plan) (n : ℕ) (h : List Entry) (s : Services) (r : Read) (o : Option machine.Meaning) → IsHistory p h → Standing p h s.table s.post s.user s.watches → StandsAs p n h o → IsReadBy s r o → step_entry (event.Step n) s (times_of p h) r o ≡ next_entry p h (event.Step n)
step_is p n h s r None l a i d = ap (λ x. ruled p h (event.Step n) (function_op p h n x)) (sym i)
step_is p n h s r (Some m) l a i d =
    let x = steps p n h s r m l a i d in
    ap (λ ls. record { event = event.Step n; op = step_op s (times_of p h) r m; lines = ls }) x.lines ∙ ap (ruled p h (event.Step n)) x.rule

-- a fault prints nothing, and is the function's own
fault_own : (p : Plan) (n : ℕ) (h : List Entry) (x : Place) → (x ≡ Absent → ⊥) → actor (fault_op n x) ≡ Some n
fault_own p n h Absent k = absurd (k refl)
fault_own p n h (Following f) k = refl
fault_own p n h (Leading t s) k = refl
fault_own p n h (Telling w t s) k = refl
fault_own p n h (Beating c s) k = refl

fault_quiet : (p : Plan) (n : ℕ) (h : List Entry) (x : Place) → next_lines p h (fault_op n x) ≡ []
fault_quiet p n h Absent = refl
fault_quiet p n h (Following f) = refl
fault_quiet p n h (Leading t s) = refl
fault_quiet p n h (Telling w t s) = refl
fault_quiet p n h (Beating c s) = refl

fault_silent : (p : Plan) (n : ℕ) (h : List Entry) (x : Place) → Sends p h (fault_op n x)
fault_silent p n h Absent = silent_sends p h op.Idle tt
fault_silent p n h (Following f) = silent_sends p h (fault_op n (Following f)) tt
fault_silent p n h (Leading t s) = silent_sends p h (fault_op n (Leading t s)) tt
fault_silent p n h (Telling w t s) = silent_sends p h (fault_op n (Telling w t s)) tt
fault_silent p n h (Beating c s) = silent_sends p h (fault_op n (Beating c s)) tt

-- the lines of a machine whose operation is a fault
fault_lines : (n : ℕ) (x : Place) (m : machine.Meaning) → lines_by (fault_op n x) m ≡ []
fault_lines n x (Follower m) = refl
fault_lines n x (Teller m) = refl
fault_lines n x (Beat m) = refl
fault_lines n Absent (Leader m) = refl
fault_lines n (Following f) (Leader m) = refl
fault_lines n (Leading t s) (Leader m) = refl
fault_lines n (Telling w t s) (Leader m) = refl
fault_lines n (Beating c s) (Leader m) = refl

fault_is : (p : Plan) (n : ℕ) (h : List Entry) (s : Services) (r : Read) (o : Option machine.Meaning) → Standing p h s.table s.post s.user s.watches → StandsAs p n h o → step_entry (event.Fail n) (armed s) (times_of p h) r o ≡ next_entry p h (event.Fail n)
fault_is p n h s r None a i = ap (λ x. ruled p h (event.Fail n) (fault_op n x)) (sym i)
fault_is p n h s r (Some m) a i =
    let x = faults p n h s r m a i in
    ap (λ z. record { event = event.Fail n; op = z; lines = lines_by z m }) x.rule
    ∙ ap (λ ls. record { event = event.Fail n; op = fault_op n (place_of p n h); lines = ls }) (fault_lines n (place_of p n h) m ∙ sym (fault_quiet p n h (place_of p n h)))

-- After it. ----------------------------------------------------------------------------------------------

in_flight : (p : Plan) (n : ℕ) (h : List Entry) (m : machine.Meaning) → StandsAs p n h (Some m) → place_of p n h ≡ Absent → ⊥
in_flight p n h m s a = false≢true (sym (is_in_flight p n h m s) ∙ ap is_absent a)

step_case : (p : Plan) (n : ℕ) (h : List Entry) (w : Meaning) (r : Read) (o : Option machine.Meaning) → w.times ≡ times_of p h → IsWorld p h w → StandsAs p n h o → IsReadBy w.services r o → stepping.SendsReadable (times_of p h) o → IsHistory p (step_entry (event.Step n) w.services (times_of p h) r o ∷ h)
    → IsWorld p (step_entry (event.Step n) w.services (times_of p h) r o ∷ h) (record w { functions = function_moved w.services (times_of p h) r n o w.functions; services = as_it_is (function_services w.services (times_of p h) o) })
step_case p n h w r None t x i d k l = idle_goes_on p h w (event.Step n) l x
step_case p n h w r (Some m) t x i d k l =
    let y = steps p n h w.services r m x.history x.services i d in
    let e = step_entry (event.Step n) w.services (times_of p h) r (Some m) in
    move_world p n e h w (unless_ended (after_step w.services (times_of p h) r m)) (services_after w.services (times_of p h) m) l y.own (y.stands e l refl) (y.serves e l refl) (y.sends k) x

fault_case : (p : Plan) (n : ℕ) (h : List Entry) (w : Meaning) (r : Read) (o : Option machine.Meaning) → IsWorld p h w → StandsAs p n h o → IsHistory p (step_entry (event.Fail n) (armed w.services) (times_of p h) r o ∷ h)
    → IsWorld p (step_entry (event.Fail n) (armed w.services) (times_of p h) r o ∷ h) (record w { functions = function_moved (armed w.services) (times_of p h) r n o w.functions; services = calmed (function_services (armed w.services) (times_of p h) o) })
fault_case p n h w r None x i l = calm_world p (step_entry (event.Fail n) (armed w.services) (times_of p h) r None) h w (idle_goes_on p h w (event.Fail n) l x)
fault_case p n h w r (Some m) x i l =
    let y = faults p n h w.services r m x.services i in
    let e = step_entry (event.Fail n) (armed w.services) (times_of p h) r (Some m) in
    move_world p n e h w (unless_ended (after_step (armed w.services) (times_of p h) r m)) (calmed (services_after (armed w.services) (times_of p h) m)) l
    (ap actor y.rule ∙ fault_own p n h (place_of p n h) (in_flight p n h m i)) (y.stands e l refl) (y.serves e l refl) (subst (Sends p h) (sym y.rule) (fault_silent p n h (place_of p n h))) x

-- Each event. --------------------------------------------------------------------------------------------

-- with the times that the history says
next_timed : (p : Plan) (h : List Entry) (w : Meaning) (v : Event) (r : Read) → IsWorld p h w → (CanPlay p h (timed p h w) v → IsReadAt (timed p h w) v r → made (timed p h w) v r ≡ next_entry p h v) → CanPlay p h w v → IsReadAt w v r → made w v r ≡ next_entry p h v
next_timed p h w v r x f = subst (λ z. CanPlay p h z v → IsReadAt z v r → made z v r ≡ next_entry p h v) (sym (times_are p h w x)) f

goes_timed : (p : Plan) (h : List Entry) (w : Meaning) (v : Event) (r : Read) → IsWorld p h w → (CanPlay p h (timed p h w) v → IsReadAt (timed p h w) v r → SendsReadable (timed p h w) v → IsWorld p (made (timed p h w) v r ∷ h) (after_event (timed p h w) v r)) → CanPlay p h w v → IsReadAt w v r → SendsReadable w v → IsWorld p (made w v r ∷ h) (after_event w v r)
goes_timed p h w v r x f = subst (λ z. CanPlay p h z v → IsReadAt z v r → SendsReadable z v → IsWorld p (made z v r ∷ h) (after_event z v r)) (sym (times_are p h w x)) f

step_next : (p : Plan) (h : List Entry) (w : Meaning) (n : ℕ) (r : Read) → CanPlay p h (timed p h w) (event.Step n) → IsReadAt (timed p h w) (event.Step n) r → made (timed p h w) (event.Step n) r ≡ next_entry p h (event.Step n)
step_next p h w n r k d = step_is p n h w.services r (w.functions.running n) k.world.history k.world.services (k.world.functions.running n) d

fault_next : (p : Plan) (h : List Entry) (w : Meaning) (n : ℕ) (r : Read) → CanPlay p h (timed p h w) (event.Fail n) → IsReadAt (timed p h w) (event.Fail n) r → made (timed p h w) (event.Fail n) r ≡ next_entry p h (event.Fail n)
fault_next p h w n r k d = fault_is p n h w.services r (w.functions.running n) k.world.services (k.world.functions.running n)

pub event_is_next : EventIsNext
event_is_next p h w (event.Client c) r k d = turn_next p h w c r k d
event_is_next p h w (event.Deliver c) r k d = deliver_next p h w c r k.world k.named
event_is_next p h w event.Leader r k d = lead_next p h w r k.world
event_is_next p h w event.Watch r k d = tell_next p h w r k.world
event_is_next p h w (event.Beat c) r k d = beat_next p h w c r k.world
event_is_next p h w (event.Step n) r k d = next_timed p h w (event.Step n) r k.world (step_next p h w n r) k d
event_is_next p h w (event.Crash n) r k d = crash_next p h w n r k.world
event_is_next p h w (event.Fail n) r k d = next_timed p h w (event.Fail n) r k.world (fault_next p h w n r) k d
event_is_next p h w (event.FailClient c) r k d = fail_next p h w c r k d
event_is_next p h w (event.Clock moment) r k d = clock_next p h w moment r k.world

step_goes : (p : Plan) (h : List Entry) (w : Meaning) (n : ℕ) (r : Read) → CanPlay p h (timed p h w) (event.Step n) → IsReadAt (timed p h w) (event.Step n) r → SendsReadable (timed p h w) (event.Step n) → IsWorld p (made (timed p h w) (event.Step n) r ∷ h) (after_event (timed p h w) (event.Step n) r)
step_goes p h w n r k d s = step_case p n h (timed p h w) r (w.functions.running n) refl k.world (k.world.functions.running n) d s (longer p h (timed p h w) (event.Step n) r k (step_next p h w n r k d))

fault_goes : (p : Plan) (h : List Entry) (w : Meaning) (n : ℕ) (r : Read) → CanPlay p h (timed p h w) (event.Fail n) → IsReadAt (timed p h w) (event.Fail n) r → SendsReadable (timed p h w) (event.Fail n) → IsWorld p (made (timed p h w) (event.Fail n) r ∷ h) (after_event (timed p h w) (event.Fail n) r)
fault_goes p h w n r k d s = fault_case p n h (timed p h w) r (w.functions.running n) k.world (k.world.functions.running n) (longer p h (timed p h w) (event.Fail n) r k (fault_next p h w n r k d))

pub engine_goes_on : EngineGoesOn
engine_goes_on p h w (event.Client c) r k d s = turn_goes_on p h w c r k d
engine_goes_on p h w (event.Deliver c) r k d s = deliver_goes_on p h w c r k d
engine_goes_on p h w event.Leader r k d s = lead_goes_on p h w r k d
engine_goes_on p h w event.Watch r k d s = tell_goes_on p h w r k d
engine_goes_on p h w (event.Beat c) r k d s = beat_goes_on p h w c r k
engine_goes_on p h w (event.Step n) r k d s = goes_timed p h w (event.Step n) r k.world (step_goes p h w n r) k d s
engine_goes_on p h w (event.Crash n) r k d s = crash_goes_on p h w n r k
engine_goes_on p h w (event.Fail n) r k d s = goes_timed p h w (event.Fail n) r k.world (fault_goes p h w n r) k d s
engine_goes_on p h w (event.FailClient c) r k d s = fail_goes_on p h w c r k d
engine_goes_on p h w (event.Clock moment) r k d s = clock_goes_on p h w moment r k

-- What an event needs of an engine holds; a new engine stands; a deployment's plan is within limits.
use Rattle.std.specs.Prelude.{◌^◌}
use Rattle.std.proofs.Common.{◌≡◌, ℕ, ◌<◌, ◌≤◌, true, List, [], ◌∷◌, length, refl, sym, ◌∙◌, ap, subst, arith, Option, Some, None}
use Rattle.std.proofs.lemmas.Option.{none-some}
use Rattle.fk_print.specs.declared.entry.Entry.{Entry}
use Rattle.fk_print.specs.declared.event.Event.TheVariants as event
use Rattle.fk_queue.specs.Lanes.{is_session}
use Rattle.fk_queue.specs.Letters.{first_number, head_bytes}
use Rattle.fk_queue.specs.declared.lane.Lane.TheVariants as lane
use Rattle.fk_queue.specs.declared.letter.Letter.{Letter}
use Rattle.fk_base.specs.Limits.{IsNumber}
use Rattle.fk_wire.specs.NoteText.{IsNoteText}
use Rattle.fk_wire.specs.PushedText.{IsPushedText}
use Rattle.fk_wire.specs.SentText.{IsSentText}
use Rattle.fk_wire.specs.declared.version.Version.TheVariants as version
use Rattle.fk_stand.specs.Posts.{lane_after}
use Rattle.fk_spec.specs.Plan.{Plan, is_client, nth, plan_of}
use Rattle.fk_spec.specs.Start.{origin_of, seen_with, sent_in}
use Rattle.fk_spec.specs.Start as start
use Rattle.fk_spec.specs.Next.{IsHistory}
use Rattle.fk_limits.proofs.Deployments.{asks_are_limited, requests_are_readable}
use Rattle.fk_law_watch.specs.FirstNumbers.{ReadsAreReads}
use Rattle.fk_law_watch.proofs.Counting.{pushes_are_bounded, starts_are_bounded}
use Rattle.fk_law_watch.proofs.FirstNumbers.{deployments_read_by_reads}
use Rattle.fk_law_client.proofs.Pushed.{mark_pushed, origin_up, sent_up}
use Rattle.fk_law_client.proofs.Seen.{seen_published}
use Rattle.fk_client.specs.Meaning as client
use Rattle.fk_agree.proofs.Counting.{heads_are_the_rules}
use Rattle.fk_agree.proofs.Heading.{leader_head_is_its_push, session_head_is_its_request, watch_head_is_its_note}
use Rattle.fk_agree.proofs.Serving.{lane_is, new_services_stand}
use Rattle.fk_queue.specs.Meaning.{new_post}
use Rattle.fk_store.specs.Meaning.{new_table}
use Rattle.fk_user.specs.Meaning.{new_store}
use Rattle.fk_watch.specs.Meaning.{new_watches}
use Rattle.fk_stand.specs.Standing.{Standing}
use Rattle.fk_agree.specs.Heads.{note_as}
use Rattle.fk_follow.specs.Fit as follow
use Rattle.fk_agree_client.specs.Standing.{IsClient}
use Rattle.fk_agree_client.proofs.Fitting.{client_is_fit}
use Rattle.fk_agree_client.proofs.Going.{new_client_stands}
use Rattle.fk_agree_follow.proofs.Fitting.{follower_is_fit}
use Rattle.fk_agree_lead.proofs.Needs.{leader_is_fit}
use Rattle.fk_agree_notify.proofs.Beating.{beat_is_fit}
use Rattle.fk_agree_notify.proofs.Telling.{teller_is_fit}
use Rattle.fk_engine.specs.Fit.{CanStart, FitsTurnOf}
use Rattle.fk_engine.specs.Heads.{IsReadable}
use Rattle.fk_engine.specs.Machines as machine
use Rattle.fk_engine.specs.Machines.{Follower, Leader, Teller, Beat}
use Rattle.fk_engine.specs.Parts.{Meaning}
use Rattle.fk_engine.specs.Stepping.{FitsStepOf}
use Rattle.fk_agree_engine.specs.Playing.{EventIsFit}
use Rattle.fk_agree_engine.specs.Starting.{DeploymentsAreWithinLimits, NewEngineStands}
use Rattle.fk_agree_engine.specs.World.{IsWithinLimits, IsWorld, StandsAs}

-- A function that may start. -----------------------------------------------------------------------------

can_start : (p : Plan) (h : List Entry) (w : Meaning) → IsWorld p h w → length h < 2 ^ 62 → CanStart w
can_start p h w x b = let s = x.functions.started in let t = starts_are_bounded h in omega (arith, s, t, b)

session_there : (p : Plan) (c : ℕ) (h : List Entry) (w : Meaning) → IsWorld p h w → is_client p c ≡ true → is_session w.services.post.sessions c ≡ true
session_there p c h w x i = ap (λ z. is_session z.sessions c) x.services.post ∙ i

-- The heads of the lanes. --------------------------------------------------------------------------------

session_read : (p : Plan) (c : ℕ) (h : List Entry) (g : ℕ) (xs : List Letter) → IsWithinLimits p → IsHistory p h → IsNumber (length h) → record { given = g; waiting = xs } ≡ lane_after p (lane.Session c) h → IsReadable IsSentText xs
session_read p c h g [] k l b e = tt
session_read p c h g (x ∷ xs) k l b e =
    let i = session_head_is_its_request p c x.number h l (sym ((heads_are_the_rules p h l).0 c) ∙ sym (ap (λ s. first_number s.waiting) e)) in
    (record { request = i.request; seen = seen_with c x.number h }, (k.requests c x.number h l b i.request i.requested, (version.Two, tt, ap head_bytes e ∙ i.text)))

leader_read : (p : Plan) (h : List Entry) (w : Meaning) (g : ℕ) (xs : List Letter) → IsWorld p h w → record { given = g; waiting = xs } ≡ lane_after p lane.Leader h → IsReadable IsPushedText xs
leader_read p h w g [] y e = tt
leader_read p h w g (x ∷ xs) y e =
    let i = leader_head_is_its_push p x.number h y.history (sym (heads_are_the_rules p h y.history).1 ∙ sym (ap (λ s. first_number s.waiting) e)) in
    (i.push, (y.readable.pushes x.number i.push i.pushed, (version.Two, (tt, tt), ap head_bytes e ∙ i.text)))

watch_read : (p : Plan) (h : List Entry) (w : Meaning) (g : ℕ) (xs : List Letter) → IsWorld p h w → record { given = g; waiting = xs } ≡ lane_after p lane.Watch h → IsReadable IsNoteText xs
watch_read p h w g [] y e = tt
watch_read p h w g (x ∷ xs) y e =
    let i = watch_head_is_its_note p x.number h y.history (sym (heads_are_the_rules p h y.history).2 ∙ sym (ap (λ s. first_number s.waiting) e)) in
    (note_as i.note, (y.readable.notes x.number i.note i.noted, (version.Two, tt, ap head_bytes e ∙ i.text)))

-- A client's turn. ---------------------------------------------------------------------------------------

turn_fits : (p : Plan) (c : ℕ) (h : List Entry) (w : Meaning) (o : Option client.Meaning) → IsWithinLimits p → IsWorld p h w → length h < 2 ^ 62 → is_client p c ≡ true → nth w.clients c ≡ o → FitsTurnOf w.services o
turn_fits p c h w None k x b i q = tt
turn_fits p c h w (Some m) k x b i q =
    let s = x.clients.each c m q in
    record {
      session = subst (λ z. is_session w.services.post.sessions z ≡ true) (sym (ap (λ z. z.session) s.is)) (session_there p c h w x i);
      turn = λ z. client_is_fit p c h m w.services.table w.services.post w.services.user w.services.watches k.reads x.history b i (k.asks c) (x.readable.tells c) s x.services z;
    }

-- A function's step. -------------------------------------------------------------------------------------

machine_fits : (p : Plan) (n : ℕ) (h : List Entry) (w : Meaning) (m : machine.Meaning) → IsWorld p h w → length h < 2 ^ 62 → StandsAs p n h (Some m) → machine.IsFit w.services w.times m
machine_fits p n h w (Follower m) x b i = subst (λ z. follow.IsFit w.services.table w.services.post z m) (sym x.clock) (follower_is_fit p n h m w.services.table w.services.post w.services.user w.services.watches x.history b x.moment x.services i).0
machine_fits p n h w (Leader m) x b i = (leader_is_fit p n h m w.services.table w.services.post w.services.user w.services.watches x.history b x.services i).0
machine_fits p n h w (Teller m) x b i = (teller_is_fit p n h m w.services.table w.services.post w.services.user w.services.watches x.history b x.services i).0
machine_fits p n h w (Beat m) x b i = (beat_is_fit p n h m w.services.table w.services.post w.services.user w.services.watches x.history b x.services i).0

step_fits : (p : Plan) (n : ℕ) (h : List Entry) (w : Meaning) (o : Option machine.Meaning) → IsWorld p h w → length h < 2 ^ 62 → StandsAs p n h o → FitsStepOf w.services w.times o
step_fits p n h w None x b i = tt
step_fits p n h w (Some m) x b i = machine_fits p n h w m x b i

few : (n : ℕ) → n < 2 ^ 62 → IsNumber n
few n b = omega (arith, b)

pub event_is_fit : EventIsFit
event_is_fit p h w (event.Client c) k = turn_fits p c h w (nth w.clients c) k.limits k.world k.short k.named refl
event_is_fit p h w (event.Deliver c) k = record {
  starts = can_start p h w k.world k.short;
  session = session_there p c h w k.world k.named;
  head = session_read p c h (w.services.post.lanes (lane.Session c)).given (w.services.post.lanes (lane.Session c)).waiting k.limits k.world.history (few (length h) k.short) (lane_is p h w.services.post (lane.Session c) k.world.services.post k.named);
}
event_is_fit p h w event.Leader k = (can_start p h w k.world k.short, leader_read p h w (w.services.post.lanes lane.Leader).given (w.services.post.lanes lane.Leader).waiting k.world (lane_is p h w.services.post lane.Leader k.world.services.post refl))
event_is_fit p h w event.Watch k = (can_start p h w k.world k.short, watch_read p h w (w.services.post.lanes lane.Watch).given (w.services.post.lanes lane.Watch).waiting k.world (lane_is p h w.services.post lane.Watch k.world.services.post refl))
event_is_fit p h w (event.Beat c) k = can_start p h w k.world k.short
event_is_fit p h w (event.Step n) k = step_fits p n h w (w.functions.running n) k.world k.short (k.world.functions.running n)
event_is_fit p h w (event.Crash n) k = tt
event_is_fit p h w (event.Fail n) k = step_fits p n h w (w.functions.running n) k.world k.short (k.world.functions.running n)
event_is_fit p h w (event.FailClient c) k = turn_fits p c h w (nth w.clients c) k.limits k.world k.short k.named refl
event_is_fit p h w (event.Clock moment) k = tt

-- A new engine. ------------------------------------------------------------------------------------------

pub new_engine_stands : NewEngineStands
new_engine_stands p ms a b = record {
  history = tt;
  clock = refl;
  moment = omega arith;
  lock = refl;
  beat = refl;
  functions = record { started = refl; running = λ n. refl };
  clients = record { count = a; each = λ c m q. subst (IsClient p c []) (sym (b c m q)) (new_client_stands p c) };
  services = subst (λ n. Standing p [] (new_table (length p.asks)) (new_post n) new_store new_watches) (sym a) (new_services_stand p);
  readable = record { pushes = λ t x q. absurd (none-some x q); notes = λ w x q. absurd (none-some x q); tells = λ c. tt };
}

-- A deployment. ------------------------------------------------------------------------------------------

-- what a client had seen when it sent a message is at most the length of the history
seen_short : (p : Plan) (c k : ℕ) (h : List Entry) → ReadsAreReads p → IsHistory p h → seen_with c k h ≤ length h
seen_short p c k [] v l = omega arith
seen_short p c k (e ∷ h) v l =
    let a = seen_published p c h v l.0 in
    let b = mark_pushed p h l.0 in
    let g = pushes_are_bounded h in
    let i = seen_short p c k h v l.0 in
    let j = origin_up (start.sends_of c h) k (length h) (sent_in c h e.op) (origin_of c k h) (sent_up c (length h) h e.op (omega (arith, a, b, g))) i in
    omega (arith, j)

pub deployments_are_within_limits : DeploymentsAreWithinLimits
deployments_are_within_limits d a = record {
  reads = deployments_read_by_reads d;
  requests = λ c k h l b r q. (requests_are_readable d c k h r (seen_with c k h) a q (let s = seen_short (plan_of d) c k h (deployments_read_by_reads d) l in omega (arith, s, b))).0;
  asks = λ c i r q. asks_are_limited d c i r a q;
}

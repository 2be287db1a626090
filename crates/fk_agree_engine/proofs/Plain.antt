-- Events that use no service: the clock, a crash, a heartbeat, and deliveries.
use Rattle.std.specs.Prelude.{◌==◌, if◌then◌else◌, max}
use Rattle.std.proofs.Common.{◌≡◌, ℕ, ◌+◌, Bool, true, false, List, [], ◌∷◌, length, refl, sym, ◌∙◌, ap, subst, arith, Option, Some, None}
use Rattle.std.proofs.lemmas.Bool.{eqb-true}
use Rattle.fk_print.specs.declared.entry.Entry.{Entry}
use Rattle.fk_print.specs.declared.event.Event.{Event}
use Rattle.fk_print.specs.declared.event.Event.TheVariants as event
use Rattle.fk_print.specs.declared.op.Op.{Op}
use Rattle.fk_print.specs.declared.op.Op.TheVariants as op
use Rattle.fk_queue.specs.Letters.{first_number, head_bytes, head_number}
use Rattle.fk_queue.specs.declared.lane.Lane.TheVariants as lane
use Rattle.fk_queue.specs.declared.letter.Letter.{Letter}
use Rattle.fk_base.specs.Limits.{IsNumber}
use Rattle.fk_wire.specs.NoteText.{IsNoteText}
use Rattle.fk_wire.specs.PushedText.{IsPushedText}
use Rattle.fk_wire.specs.SentText.{IsSentText}
use Rattle.fk_wire.specs.declared.message.Note.{Note}
use Rattle.fk_wire.specs.declared.message.Pushed.{Pushed}
use Rattle.fk_wire.specs.declared.message.Sent.{Sent}
use Rattle.fk_follow.specs.Meaning as follower
use Rattle.fk_lead.specs.Meaning as leader
use Rattle.fk_watch.specs.Beating as beat
use Rattle.fk_watch.specs.Telling as teller
use Rattle.fk_stand.specs.Posts.{lane_after}
use Rattle.fk_spec.specs.Plan.{Plan, is_client}
use Rattle.fk_spec.specs.Start.{Follows, Leads, Notifies, Probes, clock_of, starts_of}
use Rattle.fk_spec.specs.Lanes.{leader_head, session_head, watch_head}
use Rattle.fk_spec.specs.Client.{client_in}
use Rattle.fk_spec.specs.Function.{Absent, is_absent, place_of}
use Rattle.fk_spec.specs.Next as next
use Rattle.fk_spec.specs.Next.{IsHistory, next_entry}
use Rattle.fk_law.proofs.Starting.{own_operation_moves_it}
use Rattle.fk_agree.specs.Records.{LeavesRecords}
use Rattle.fk_agree.specs.Services.{LeavesServices}
use Rattle.fk_agree.specs.Stored.{LeavesStore}
use Rattle.fk_agree.specs.Watched.{LeavesWatches}
use Rattle.fk_agree.proofs.Counting.{heads_are_the_rules}
use Rattle.fk_agree.proofs.Serving.{LeavesPost, lane_is, lane_left, services_stay}
use Rattle.fk_engine.specs.Events.{after_start, crash_op, follower_on, leader_on, teller_on}
use Rattle.fk_engine.specs.Engine.{made}
use Rattle.fk_engine.specs.Flights as functions
use Rattle.fk_engine.specs.Flights.{with_started, without}
use Rattle.fk_engine.specs.Heads.{IsHead}
use Rattle.fk_engine.specs.Machines as machine
use Rattle.fk_engine.specs.Machines.{Follower, Leader, Teller, Beat}
use Rattle.fk_engine.specs.Parts.{Meaning, with_clock, with_functions}
use Rattle.fk_engine.specs.Reads.{Read}
use Rattle.fk_agree_follow.proofs.Starting.{follower_starts}
use Rattle.fk_agree_lead.proofs.Starting.{leader_starts}
use Rattle.fk_agree_notify.proofs.Beating.{beat_starts}
use Rattle.fk_agree_notify.proofs.Telling.{teller_starts}
use Rattle.fk_agree_engine.specs.Playing.{CanPlay}
use Rattle.fk_agree_engine.specs.World.{FunctionsStand, IsWorld, StandsAs}
use Rattle.fk_agree_engine.proofs.Flights.{functions_move, functions_start, functions_stay}
use Rattle.fk_agree_engine.proofs.Readable.{IsSilent, silent_sends, still_readable}
use Rattle.fk_agree_engine.proofs.Turning.{clients_stay}
use Rattle.fk_law.proofs.Crashing.{crashed}

-- A line that leaves the services. -----------------------------------------------------------------------

pub leaves_all : (p : Plan) (e : Entry) (h : List Entry) (o : Op) → e.op ≡ o → LeavesRecords o → LeavesPost o → LeavesStore o → LeavesWatches o → LeavesServices p e h
leaves_all p e h o g a b c d = record {
  records = subst LeavesRecords (sym g) a;
  lanes = λ l. lane_left p l h e.op (subst LeavesPost (sym g) b);
  store = subst LeavesStore (sym g) c;
  watches = subst LeavesWatches (sym g) d;
}

-- an entry of an event that an engine can play, which the rules say follows, makes a longer history
pub longer : (p : Plan) (h : List Entry) (w : Meaning) (v : Event) (r : Read) → CanPlay p h w v → made w v r ≡ next_entry p h v → IsHistory p (made w v r ∷ h)
longer p h w v r k e = (k.world.history, (e, k.named))

-- the clock, and what else a line leaves that is of no client and makes the functions stand so
pub goes_on : (p : Plan) (e : Entry) (h : List Entry) (w : Meaning) (f : functions.Meaning) → IsHistory p (e ∷ h) → client_in e.op ≡ None → IsSilent e.op → LeavesServices p e h → clock_of (e ∷ h) ≡ clock_of h → FunctionsStand p (e ∷ h) f → IsWorld p h w → IsWorld p (e ∷ h) (with_functions f w)
goes_on p e h w f l c k s t i x = record {
  history = l;
  clock = x.clock ∙ sym t;
  moment = subst IsNumber (sym t) x.moment;
  lock = x.lock;
  beat = x.beat;
  functions = i;
  clients = clients_stay p e h w.clients l c x.clients;
  services = services_stay p e h w.services.table w.services.post w.services.user w.services.watches l s x.services;
  readable = still_readable p e h l (silent_sends p h e.op k) x.readable;
}

-- The clock. ---------------------------------------------------------------------------------------------

pub clock_next : (p : Plan) (h : List Entry) (w : Meaning) (moment : ℕ) (r : Read) → IsWorld p h w → made w (event.Clock moment) r ≡ next_entry p h (event.Clock moment)
clock_next p h w moment r x = ap (λ n. record { event = event.Clock moment; op = op.Clock (max moment n); lines = [] }) x.clock

pub clock_goes_on : (p : Plan) (h : List Entry) (w : Meaning) (moment : ℕ) (r : Read) → CanPlay p h w (event.Clock moment) → IsWorld p (made w (event.Clock moment) r ∷ h) (with_clock (max moment w.times.clock) w)
clock_goes_on p h w moment r k = record {
  history = l;
  clock = later moment w.times.clock (clock_of h) x.clock;
  moment = let a = x.clock in let b = k.moment in let c = x.moment in omega (arith, a, b, c);
  lock = x.lock;
  beat = x.beat;
  functions = functions_stay p e h w.functions l refl refl x.functions;
  clients = clients_stay p e h w.clients l refl x.clients;
  services = services_stay p e h w.services.table w.services.post w.services.user w.services.watches l (leaves_all p e h (op.Clock (max moment w.times.clock)) refl tt tt tt tt) x.services;
  readable = still_readable p e h l (silent_sends p h (op.Clock (max moment w.times.clock)) tt) x.readable;
}
  where
    x : IsWorld p h w
    x = k.world

    e : Entry
    e = made w (event.Clock moment) r

    l : IsHistory p (e ∷ h)
    l = longer p h w (event.Clock moment) r k (clock_next p h w moment r x)

    later : (m a b : ℕ) → a ≡ b → max m a ≡ max (max m a) b
    later m a b q = omega (arith, q)

-- A heartbeat. -------------------------------------------------------------------------------------------

pub beat_next : (p : Plan) (h : List Entry) (w : Meaning) (c : ℕ) (r : Read) → IsWorld p h w → made w (event.Beat c) r ≡ next_entry p h (event.Beat c)
beat_next p h w c r x = ap (λ n. record { event = event.Beat c; op = op.Beat (n + 1) c; lines = [] }) x.functions.started

pub beat_goes_on : (p : Plan) (h : List Entry) (w : Meaning) (c : ℕ) (r : Read) → CanPlay p h w (event.Beat c) → IsWorld p (made w (event.Beat c) r ∷ h) (with_functions (with_started (Beat (beat.started (w.functions.started + 1) c)) w.functions) w)
beat_goes_on p h w c r k = goes_on p e h w (with_started (Beat (beat.started n c)) w.functions) l refl tt (leaves_all p e h (op.Beat n c) refl tt tt tt tt) refl (functions_start p e h w.functions (record { function = n; task = Probes c }) (Beat (beat.started n c)) l refl refl (ap (λ z. z + 1) k.world.functions.started) (beat_starts p n c e h refl) k.world.functions) k.world
  where
    n : ℕ
    n = w.functions.started + 1

    e : Entry
    e = made w (event.Beat c) r

    l : IsHistory p (e ∷ h)
    l = longer p h w (event.Beat c) r k (beat_next p h w c r k.world)

-- A crash. -----------------------------------------------------------------------------------------------

-- what stands under a number is in flight
pub is_in_flight : (p : Plan) (n : ℕ) (h : List Entry) (m : machine.Meaning) → StandsAs p n h (Some m) → is_absent (place_of p n h) ≡ false
is_in_flight p n h (Follower m) s = ap is_absent s.stands
is_in_flight p n h (Leader m) s = ap is_absent s.stands
is_in_flight p n h (Teller m) s = ap is_absent s.stands
is_in_flight p n h (Beat m) s = ap is_absent s.stands

crash_same : (p : Plan) (h : List Entry) (n : ℕ) (o : Option machine.Meaning) → StandsAs p n h o → crash_op n o ≡ next.crash_op n (place_of p n h)
crash_same p h n None s = sym (ap (next.crash_op n) s)
crash_same p h n (Some m) s = sym (ap (λ b. if b then op.Idle else op.Crash n) (is_in_flight p n h m s))

crash_quiet : (p : Plan) (h : List Entry) (n : ℕ) (o : Option machine.Meaning) → next.next_lines p h (crash_op n o) ≡ []
crash_quiet p h n None = refl
crash_quiet p h n (Some m) = refl

pub crash_next : (p : Plan) (h : List Entry) (w : Meaning) (n : ℕ) (r : Read) → IsWorld p h w → made w (event.Crash n) r ≡ next_entry p h (event.Crash n)
crash_next p h w n r x =
    ap (λ ls. record { event = event.Crash n; op = crash_op n (w.functions.running n); lines = ls }) (sym (crash_quiet p h n (w.functions.running n)))
    ∙ ap (λ o. record { event = event.Crash n; op = o; lines = next.next_lines p h o }) (crash_same p h n (w.functions.running n) (x.functions.running n))

abbrev crash_entry : ℕ → Option machine.Meaning → Entry
crash_entry n o = record { event = event.Crash n; op = crash_op n o; lines = [] }

-- a number under which nothing stands is left without
without_none : (p : Plan) (n : ℕ) (g : List Entry) (f : functions.Meaning) → place_of p n g ≡ Absent → FunctionsStand p g f → FunctionsStand p g (without n f)
without_none p n g f a s = record { started = s.started; running = λ k. by_number k (k == n) refl }
  where
    by_number : (k : ℕ) (b : Bool) → (k == n) ≡ b → StandsAs p k g (if b then None else f.running k)
    by_number k true q = ap (λ z. place_of p z g) (eqb-true k n q) ∙ a
    by_number k false q = s.running k

crash_functions : (p : Plan) (h : List Entry) (n : ℕ) (f : functions.Meaning) (o : Option machine.Meaning) → f.running n ≡ o → IsHistory p (crash_entry n o ∷ h) → FunctionsStand p h f → FunctionsStand p (crash_entry n o ∷ h) (without n f)
crash_functions p h n f None q l s =
    let i = functions_stay p (crash_entry n None) h f l refl refl s in
    without_none p n (crash_entry n None ∷ h) f (subst (StandsAs p n (crash_entry n None ∷ h)) q (i.running n)) i
crash_functions p h n f (Some m) q l s = functions_move p n (crash_entry n (Some m)) h f None l refl refl (own_operation_moves_it p n (crash_entry n (Some m)) h refl ∙ crashed p h n (place_of p n h)) s

crash_leaves : (p : Plan) (h : List Entry) (n : ℕ) (o : Option machine.Meaning) → LeavesServices p (crash_entry n o) h
crash_leaves p h n None = leaves_all p (crash_entry n None) h op.Idle refl tt tt tt tt
crash_leaves p h n (Some m) = leaves_all p (crash_entry n (Some m)) h (op.Crash n) refl tt tt tt tt

crash_rest : (p : Plan) (h : List Entry) (w : Meaning) (n : ℕ) (o : Option machine.Meaning) → w.functions.running n ≡ o → IsHistory p (crash_entry n o ∷ h) → IsWorld p h w → IsWorld p (crash_entry n o ∷ h) (with_functions (without n w.functions) w)
crash_rest p h w n None q l x = goes_on p (crash_entry n None) h w (without n w.functions) l refl tt (crash_leaves p h n None) refl (crash_functions p h n w.functions None q l x.functions) x
crash_rest p h w n (Some m) q l x = goes_on p (crash_entry n (Some m)) h w (without n w.functions) l refl tt (crash_leaves p h n (Some m)) refl (crash_functions p h n w.functions (Some m) q l x.functions) x

pub crash_goes_on : (p : Plan) (h : List Entry) (w : Meaning) (n : ℕ) (r : Read) → CanPlay p h w (event.Crash n) → IsWorld p (made w (event.Crash n) r ∷ h) (with_functions (without n w.functions) w)
crash_goes_on p h w n r k = crash_rest p h w n (w.functions.running n) refl (longer p h w (event.Crash n) r k (crash_next p h w n r k.world)) k.world

-- Deliveries. --------------------------------------------------------------------------------------------

-- an event that finds no message
pub idle_goes_on : (p : Plan) (h : List Entry) (w : Meaning) (v : Event) → IsHistory p (record { event = v; op = op.Idle; lines = [] } ∷ h) → IsWorld p h w → IsWorld p (record { event = v; op = op.Idle; lines = [] } ∷ h) w
idle_goes_on p h w v l x = goes_on p e h w w.functions l refl tt (leaves_all p e h op.Idle refl tt tt tt tt) refl (functions_stay p e h w.functions l refl refl x.functions) x
  where
    e : Entry
    e = record { event = v; op = op.Idle; lines = [] }

-- a follower starts on the head of a session's lane
follow_quiet : (p : Plan) (h : List Entry) (n c : ℕ) (o : Option ℕ) → next.next_lines p h (next.follow_op n c o) ≡ []
follow_quiet p h n c None = refl
follow_quiet p h n c (Some k) = refl

lead_quiet : (p : Plan) (h : List Entry) (n : ℕ) (o : Option ℕ) → next.next_lines p h (next.lead_op n o) ≡ []
lead_quiet p h n None = refl
lead_quiet p h n (Some k) = refl

tell_quiet : (p : Plan) (h : List Entry) (n : ℕ) (o : Option ℕ) → next.next_lines p h (next.tell_op n o) ≡ []
tell_quiet p h n None = refl
tell_quiet p h n (Some k) = refl

pub session_head_is : (p : Plan) (c : ℕ) (h : List Entry) (w : Meaning) → IsWorld p h w → is_client p c ≡ true → head_number (w.services.post.lanes (lane.Session c)) ≡ session_head c h
session_head_is p c h w x i = ap head_number (lane_is p h w.services.post (lane.Session c) x.services.post i) ∙ (heads_are_the_rules p h x.history).0 c

pub leader_head_is : (p : Plan) (h : List Entry) (w : Meaning) → IsWorld p h w → head_number (w.services.post.lanes lane.Leader) ≡ leader_head h
leader_head_is p h w x = ap head_number (lane_is p h w.services.post lane.Leader x.services.post refl) ∙ (heads_are_the_rules p h x.history).1

pub watch_head_is : (p : Plan) (h : List Entry) (w : Meaning) → IsWorld p h w → head_number (w.services.post.lanes lane.Watch) ≡ watch_head h
watch_head_is p h w x = ap head_number (lane_is p h w.services.post lane.Watch x.services.post refl) ∙ (heads_are_the_rules p h x.history).2

started_is : (p : Plan) (h : List Entry) (w : Meaning) → IsWorld p h w → w.functions.started + 1 ≡ starts_of h + 1
started_is p h w x = ap (λ z. z + 1) x.functions.started

pub deliver_next : (p : Plan) (h : List Entry) (w : Meaning) (c : ℕ) (r : Read) → IsWorld p h w → is_client p c ≡ true → made w (event.Deliver c) r ≡ next_entry p h (event.Deliver c)
deliver_next p h w c r x i =
    (λ j. record { event = event.Deliver c; op = next.follow_op ((started_is p h w x) j) c ((session_head_is p c h w x i) j); lines = [] })
    ∙ ap (λ ls. record { event = event.Deliver c; op = next.follow_op (starts_of h + 1) c (session_head c h); lines = ls }) (sym (follow_quiet p h (starts_of h + 1) c (session_head c h)))

pub lead_next : (p : Plan) (h : List Entry) (w : Meaning) (r : Read) → IsWorld p h w → made w event.Leader r ≡ next_entry p h event.Leader
lead_next p h w r x =
    (λ j. record { event = event.Leader; op = next.lead_op ((started_is p h w x) j) ((leader_head_is p h w x) j); lines = [] })
    ∙ ap (λ ls. record { event = event.Leader; op = next.lead_op (starts_of h + 1) (leader_head h); lines = ls }) (sym (lead_quiet p h (starts_of h + 1) (leader_head h)))

pub tell_next : (p : Plan) (h : List Entry) (w : Meaning) (r : Read) → IsWorld p h w → made w event.Watch r ≡ next_entry p h event.Watch
tell_next p h w r x =
    (λ j. record { event = event.Watch; op = next.tell_op ((started_is p h w x) j) ((watch_head_is p h w x) j); lines = [] })
    ∙ ap (λ ls. record { event = event.Watch; op = next.tell_op (starts_of h + 1) (watch_head h); lines = ls }) (sym (tell_quiet p h (starts_of h + 1) (watch_head h)))

follow_rest : (p : Plan) (h : List Entry) (w : Meaning) (c : ℕ) (g : ℕ) (xs : List Letter) (o : Option Sent) → (IsNumber (length h)) → CanPlay p h w (event.Deliver c) → record { given = g; waiting = xs } ≡ lane_after p (lane.Session c) h → IsHead IsSentText xs o
    → IsHistory p (record { event = event.Deliver c; op = next.follow_op (w.functions.started + 1) c (first_number xs); lines = [] } ∷ h)
    → IsWorld p (record { event = event.Deliver c; op = next.follow_op (w.functions.started + 1) c (first_number xs); lines = [] } ∷ h) (with_functions (after_start (follower_on (w.functions.started + 1) c (first_number xs) o) w.functions) w)
follow_rest p h w c g [] None b k a i l = idle_goes_on p h w (event.Deliver c) l k.world
follow_rest p h w c g [] (Some x) b k a i l = absurd i
follow_rest p h w c g (y ∷ ys) None b k a i l = absurd i
follow_rest p h w c g (y ∷ ys) (Some x) b k a i l =
    goes_on p e h w (with_started (Follower (follower.started n c y.number x)) w.functions) l refl tt (leaves_all p e h (op.Follower n c y.number) refl tt tt tt tt) refl
    (functions_start p e h w.functions (record { function = n; task = Follows c y.number }) (Follower (follower.started n c y.number x)) l refl refl (started_is p h w k.world)
    (follower_starts p n c y.number e h x l refl (k.limits.requests c y.number h k.world.history b) (subst (λ z. IsSentText (head_bytes z) x) a i)) k.world.functions) k.world
  where
    n : ℕ
    n = w.functions.started + 1

    e : Entry
    e = record { event = event.Deliver c; op = op.Follower n c y.number; lines = [] }

lead_rest : (p : Plan) (h : List Entry) (w : Meaning) (g : ℕ) (xs : List Letter) (o : Option Pushed) → CanPlay p h w event.Leader → record { given = g; waiting = xs } ≡ lane_after p lane.Leader h → IsHead IsPushedText xs o
    → IsHistory p (record { event = event.Leader; op = next.lead_op (w.functions.started + 1) (first_number xs); lines = [] } ∷ h)
    → IsWorld p (record { event = event.Leader; op = next.lead_op (w.functions.started + 1) (first_number xs); lines = [] } ∷ h) (with_functions (after_start (leader_on (w.functions.started + 1) (first_number xs) o) w.functions) w)
lead_rest p h w g [] None k a i l = idle_goes_on p h w event.Leader l k.world
lead_rest p h w g [] (Some x) k a i l = absurd i
lead_rest p h w g (y ∷ ys) None k a i l = absurd i
lead_rest p h w g (y ∷ ys) (Some x) k a i l =
    goes_on p e h w (with_started (Leader (leader.started n y.number x)) w.functions) l refl tt (leaves_all p e h (op.Leader n y.number) refl tt tt tt tt) refl
    (functions_start p e h w.functions (record { function = n; task = Leads y.number }) (Leader (leader.started n y.number x)) l refl refl (started_is p h w k.world)
    (leader_starts p n y.number e h x l refl (k.world.readable.pushes y.number) (subst (λ z. IsPushedText (head_bytes z) x) a i)) k.world.functions) k.world
  where
    n : ℕ
    n = w.functions.started + 1

    e : Entry
    e = record { event = event.Leader; op = op.Leader n y.number; lines = [] }

tell_rest : (p : Plan) (h : List Entry) (w : Meaning) (g : ℕ) (xs : List Letter) (o : Option Note) → CanPlay p h w event.Watch → record { given = g; waiting = xs } ≡ lane_after p lane.Watch h → IsHead IsNoteText xs o
    → IsHistory p (record { event = event.Watch; op = next.tell_op (w.functions.started + 1) (first_number xs); lines = [] } ∷ h)
    → IsWorld p (record { event = event.Watch; op = next.tell_op (w.functions.started + 1) (first_number xs); lines = [] } ∷ h) (with_functions (after_start (teller_on (w.functions.started + 1) (first_number xs) o) w.functions) w)
tell_rest p h w g [] None k a i l = idle_goes_on p h w event.Watch l k.world
tell_rest p h w g [] (Some x) k a i l = absurd i
tell_rest p h w g (y ∷ ys) None k a i l = absurd i
tell_rest p h w g (y ∷ ys) (Some x) k a i l =
    goes_on p e h w (with_started (Teller (teller.started n y.number x)) w.functions) l refl tt (leaves_all p e h (op.Teller n y.number) refl tt tt tt tt) refl
    (functions_start p e h w.functions (record { function = n; task = Notifies y.number }) (Teller (teller.started n y.number x)) l refl refl (started_is p h w k.world)
    (teller_starts p n y.number e h x l refl (k.world.readable.notes y.number) (subst (λ z. IsNoteText (head_bytes z) x) a i)) k.world.functions) k.world
  where
    n : ℕ
    n = w.functions.started + 1

    e : Entry
    e = record { event = event.Watch; op = op.Teller n y.number; lines = [] }

pub deliver_goes_on : (p : Plan) (h : List Entry) (w : Meaning) (c : ℕ) (r : Read) → CanPlay p h w (event.Deliver c) → IsHead IsSentText (w.services.post.lanes (lane.Session c)).waiting r.sent → IsWorld p (made w (event.Deliver c) r ∷ h) (with_functions (after_start (follower_on (w.functions.started + 1) c (head_number (w.services.post.lanes (lane.Session c))) r.sent) w.functions) w)
deliver_goes_on p h w c r k i = follow_rest p h w c (w.services.post.lanes (lane.Session c)).given (w.services.post.lanes (lane.Session c)).waiting r.sent (let b = k.short in omega (arith, b)) k (lane_is p h w.services.post (lane.Session c) k.world.services.post k.named) i (longer p h w (event.Deliver c) r k (deliver_next p h w c r k.world k.named))

pub lead_goes_on : (p : Plan) (h : List Entry) (w : Meaning) (r : Read) → CanPlay p h w event.Leader → IsHead IsPushedText (w.services.post.lanes lane.Leader).waiting r.pushed → IsWorld p (made w event.Leader r ∷ h) (with_functions (after_start (leader_on (w.functions.started + 1) (head_number (w.services.post.lanes lane.Leader)) r.pushed) w.functions) w)
lead_goes_on p h w r k i = lead_rest p h w (w.services.post.lanes lane.Leader).given (w.services.post.lanes lane.Leader).waiting r.pushed k (lane_is p h w.services.post lane.Leader k.world.services.post refl) i (longer p h w event.Leader r k (lead_next p h w r k.world))

pub tell_goes_on : (p : Plan) (h : List Entry) (w : Meaning) (r : Read) → CanPlay p h w event.Watch → IsHead IsNoteText (w.services.post.lanes lane.Watch).waiting r.note → IsWorld p (made w event.Watch r ∷ h) (with_functions (after_start (teller_on (w.functions.started + 1) (head_number (w.services.post.lanes lane.Watch)) r.note) w.functions) w)
tell_goes_on p h w r k i = tell_rest p h w (w.services.post.lanes lane.Watch).given (w.services.post.lanes lane.Watch).waiting r.note k (lane_is p h w.services.post lane.Watch k.world.services.post refl) i (longer p h w event.Watch r k (tell_next p h w r k.world))

-- A client's turn, and one whose operation fails.
use Rattle.std.specs.Prelude.{if◌then◌else◌}
use Rattle.std.proofs.Common.{◌≡◌, ℕ, Bool, true, false, List, [], ◌∷◌, refl, sym, ◌∙◌, ap, subst, arith, Option, Some, None}
use Rattle.std.proofs.lemmas.Bool.{false≢true}
use Rattle.std.proofs.lemmas.Option.{none-some}
use Rattle.fk_print.specs.declared.entry.Entry.{Entry}
use Rattle.fk_print.specs.declared.event.Event.{Event}
use Rattle.fk_print.specs.declared.event.Event.TheVariants as event
use Rattle.fk_print.specs.declared.op.Op.{Op}
use Rattle.fk_print.specs.declared.op.Op.TheVariants as op
use Rattle.fk_queue.specs.declared.lane.Lane.TheVariants as lane
use Rattle.fk_base.specs.Limits.{IsNumber}
use Rattle.fk_wire.specs.declared.message.Tell.{Tell}
use Rattle.fk_queue.specs.Meaning as post
use Rattle.fk_store.specs.Meaning as table
use Rattle.fk_user.specs.Meaning as user
use Rattle.fk_watch.specs.Meaning as watches
use Rattle.fk_watch.specs.Services.{Services}
use Rattle.fk_stand.specs.Standing.{Standing}
use Rattle.fk_spec.specs.Plan.{Plan, is_client, nth}
use Rattle.fk_spec.specs.Start.{clock_after, clock_of, started_in}
use Rattle.fk_client.specs.Shown.{lines_by}
use Rattle.fk_spec.specs.Client.{client_in, client_op, failed_op}
use Rattle.fk_spec.specs.Function.{actor}
use Rattle.fk_spec.specs.Schedule as schedule
use Rattle.fk_spec.specs.Next.{IsHistory, next_entry, next_lines}
use Rattle.fk_client.specs.Idle.{is_idle}
use Rattle.fk_client.specs.Meaning as client
use Rattle.fk_client.specs.Operation.{step_op}
use Rattle.fk_client.specs.Services.{after_step, lines_after_step}
use Rattle.fk_client.specs.Steps.{IsToldTo}
use Rattle.fk_client.specs.Told as told
use Rattle.fk_engine.specs.Engine.{made}
use Rattle.fk_engine.specs.Events.{as_it_is, turned}
use Rattle.fk_engine.specs.Fit.{IsReadAt}
use Rattle.fk_engine.specs.Parts.{Meaning}
use Rattle.fk_engine.specs.Reads.{Read}
use Rattle.fk_engine.specs.Serving.{armed, calmed}
use Rattle.fk_engine.specs.Turning as turning
use Rattle.fk_engine.specs.Turning.{IsTold, client_lines, client_services, clients_after, services_by, with_client}
use Rattle.fk_law.proofs.Operating.{client_turn, turn_is_own}
use Rattle.fk_agree.proofs.Serving.{lane_is}
use Rattle.fk_agree_client.specs.Making.{Looks}
use Rattle.fk_agree_client.specs.Serving.{IsFailed}
use Rattle.fk_agree_client.specs.Standing.{IsClient}
use Rattle.fk_agree_client.proofs.Fitting.{client_is_idle}
use Rattle.fk_agree_client.proofs.Going.{client_fails, client_goes_on, client_makes_its_op, client_prints_its_lines}
use Rattle.fk_agree_client.proofs.Inbox.{head_is_what_it_tells}
use Rattle.fk_agree_client.proofs.Written.{client_fault_is_written, client_is_written}
use Rattle.fk_agree_engine.specs.Playing.{CanPlay}
use Rattle.fk_agree_engine.specs.World.{IsWorld}
use Rattle.fk_agree_engine.proofs.Flights.{functions_stay}
use Rattle.fk_agree_engine.proofs.Plain.{idle_goes_on, longer}
use Rattle.fk_agree_engine.proofs.Readable.{IsSilent, silent_sends, still_readable}
use Rattle.fk_agree_engine.proofs.Turning.{client_there, clients_turn, same_clients}

-- The operation of a client is its own. ------------------------------------------------------------------

failed_own : (o : Op) → client_in (failed_op o) ≡ client_in o
failed_own (op.Pong c n) = refl
failed_own (op.TakeDone c k n) = refl
failed_own (op.TakeEvicted c k n) = refl
failed_own (op.TakeRefused c k) = refl
failed_own (op.TakeLost c k) = refl
failed_own (op.TakeWatch c n) = refl
failed_own (op.TakePing c n) = refl
failed_own (op.LookOk c i m) = refl
failed_own (op.LookBehind c i m) = refl
failed_own (op.LookHeld c i m n) = refl
failed_own (op.Send c i k) = refl
failed_own (op.Read c i n) = refl
failed_own (op.WatchSet c i n) = refl
failed_own (op.WatchSwept c i n) = refl
failed_own o = refl

failed_so : (o : Op) (c : ℕ) → client_in o ≡ Some c → IsFailed (failed_op o)
failed_so (op.Pong d n) c e = tt
failed_so (op.TakeDone d k n) c e = tt
failed_so (op.TakeEvicted d k n) c e = tt
failed_so (op.TakeRefused d k) c e = tt
failed_so (op.TakeLost d k) c e = tt
failed_so (op.TakeWatch d n) c e = tt
failed_so (op.TakePing d n) c e = tt
failed_so (op.LookOk d i m) c e = tt
failed_so (op.LookBehind d i m) c e = tt
failed_so (op.LookHeld d i m n) c e = tt
failed_so (op.Send d i k) c e = tt
failed_so (op.Read d i n) c e = tt
failed_so (op.WatchSet d i n) c e = tt
failed_so (op.WatchSwept d i n) c e = tt
failed_so (op.Local d i) c e = tt
failed_so (op.PongFault d) c e = tt
failed_so (op.TakeFault d) c e = tt
failed_so (op.LookFault d i) c e = tt
failed_so (op.SendFault d i) c e = tt
failed_so (op.ReadFault d i) c e = tt
failed_so (op.WatchFault d i) c e = tt
failed_so o c e = absurd (none-some c e)

is_none : (o : Op) → schedule.is_idle o ≡ true → o ≡ op.Idle
is_none op.Idle e = refl
is_none o e = absurd (false≢true e)

-- What an operation of a client leaves. ------------------------------------------------------------------

no_function : (o : Op) (c : ℕ) → client_in o ≡ Some c → actor o ≡ None
no_function o c e = grind arith

no_start : (o : Op) (c : ℕ) → client_in o ≡ Some c → started_in o ≡ None
no_start o c e = grind arith

no_clock : (o : Op) (c n : ℕ) → client_in o ≡ Some c → clock_after o n ≡ n
no_clock o c n e = grind arith

no_sending : (o : Op) (c : ℕ) → client_in o ≡ Some c → IsSilent o
no_sending (op.Push n t) c e = absurd (none-some c e)
no_sending (op.Notify n t w) c e = absurd (none-some c e)
no_sending (op.Reply n d k) c e = absurd (none-some c e)
no_sending (op.Tell n d w) c e = absurd (none-some c e)
no_sending (op.Ping n d) c e = absurd (none-some c e)
no_sending o c e = tt

-- a client's operation, which leaves its client and the services so
turn_world : (p : Plan) (c : ℕ) (e : Entry) (h : List Entry) (w : Meaning) (x : client.Meaning) (s : Services) → IsHistory p (e ∷ h) → client_in e.op ≡ Some c → is_client p c ≡ true → IsClient p c (e ∷ h) x → Standing p (e ∷ h) s.table s.post s.user s.watches → IsWorld p h w
    → IsWorld p (e ∷ h) (record w { clients = with_client c x w.clients; services = s })
turn_world p c e h w x s l o i k t z = record {
  history = l;
  clock = z.clock ∙ sym (no_clock e.op c (clock_of h) o);
  moment = subst IsNumber (sym (no_clock e.op c (clock_of h) o)) z.moment;
  lock = z.lock;
  beat = z.beat;
  functions = functions_stay p e h w.functions l (no_function e.op c o) (no_start e.op c o) z.functions;
  clients = clients_turn p c e h w.clients x l o i k z.clients;
  services = t;
  readable = still_readable p e h l (silent_sends p h e.op (no_sending e.op c o)) z.readable;
}

-- What a client reads. -----------------------------------------------------------------------------------

looks : (p : Plan) (c : ℕ) (h : List Entry) (w : Meaning) (m : client.Meaning) (o : Option Tell) → IsWorld p h w → is_client p c ≡ true → IsClient p c h m → IsToldTo w.services m o → Looks p c h o m
looks p c h w m o z i k r = record {
  history = z.history;
  client = i;
  stands = k;
  head = head_is_what_it_tells p c h o z.history (z.readable.tells c) (subst (λ y. told.IsTold y.waiting o) (lane_is p h w.services.post (lane.Inbox c) z.services.post i) (subst (λ y. told.IsTold (w.services.post.lanes (lane.Inbox y)).waiting o) (ap (λ y. y.session) k.is) r));
}

-- where it is idle the rules' client is
idle_none : (p : Plan) (c : ℕ) (h : List Entry) (w : Meaning) (m : client.Meaning) → IsWorld p h w → is_client p c ≡ true → IsClient p c h m → is_idle w.services.post m ≡ true → client_op p c h ≡ op.Idle
idle_none p c h w m z i k b = is_none (client_op p c h) (sym (client_is_idle p c h m w.services.post z.history i k z.services.post) ∙ b)

busy_own : (p : Plan) (c : ℕ) (h : List Entry) (w : Meaning) (m : client.Meaning) → IsWorld p h w → is_client p c ≡ true → IsClient p c h m → is_idle w.services.post m ≡ false → client_in (client_op p c h) ≡ Some c
busy_own p c h w m z i k b = turn_is_own c (client_op p c h) (client_turn p c h) (sym (client_is_idle p c h m w.services.post z.history i k z.services.post) ∙ b)

-- A turn. ------------------------------------------------------------------------------------------------

abbrev entry_by : Event → Services → Option Tell → client.Meaning → Bool → Entry
entry_by v s o m b = record { event = v; op = if b then op.Idle else step_op s.table s.post s.watches s.user o m; lines = if b then [] else lines_after_step s.table s.post s.watches s.user o m }

abbrev turn_entry : Event → Services → Option Tell → Option client.Meaning → Entry
turn_entry v s o m = record { event = v; op = turning.client_op s o m; lines = client_lines s o m }

-- an entry of this event, with the lines that the rules say
abbrev pub ruled : Plan → List Entry → Event → Op → Entry
ruled p h v o = record { event = v; op = o; lines = next_lines p h o }

idle_next : (p : Plan) (h : List Entry) (v : Event) (o : Op) → o ≡ op.Idle → ruled p h v op.Idle ≡ ruled p h v o
idle_next p h v o e = ap (ruled p h v) (sym e)

turn_is : (p : Plan) (c : ℕ) (h : List Entry) (w : Meaning) (m : client.Meaning) (o : Option Tell) (b : Bool) → is_idle w.services.post m ≡ b → CanPlay p h w (event.Client c) → IsClient p c h m → IsToldTo w.services m o
    → entry_by (event.Client c) w.services o m b ≡ next_entry p h (event.Client c)
turn_is p c h w m o true e k i r = idle_next p h (event.Client c) (client_op p c h) (idle_none p c h w m k.world k.named i e)
turn_is p c h w m o false e k i r =
    let a = looks p c h w m o k.world k.named i r in
    let s = w.services in
    let g = client_makes_its_op p c h o m s.table s.post s.user s.watches a k.world.services in
    let x = next_entry p h (event.Client c) in
    ap (λ z. record { event = event.Client c; op = z; lines = lines_by s.post s.watches s.user o z m }) g
    ∙ ap (λ ls. record { event = event.Client c; op = client_op p c h; lines = ls }) (client_prints_its_lines p c x h o m s.table s.post s.user s.watches k.limits.reads (k.world.history, (refl, k.named)) (busy_own p c h w m k.world k.named i e) a k.world.services)

turn_fails : (p : Plan) (c : ℕ) (h : List Entry) (w : Meaning) (m : client.Meaning) (o : Option Tell) (b : Bool) → is_idle w.services.post m ≡ b → CanPlay p h w (event.FailClient c) → IsClient p c h m → IsToldTo w.services m o
    → entry_by (event.FailClient c) (armed w.services) o m b ≡ next_entry p h (event.FailClient c)
turn_fails p c h w m o true e k i r = idle_next p h (event.FailClient c) (failed_op (client_op p c h)) (ap failed_op (idle_none p c h w m k.world k.named i e))
turn_fails p c h w m o false e k i r =
    let a = looks p c h w m o k.world k.named i r in
    let s = w.services in
    let g = client_fails p c h o m s.table s.post s.user s.watches a k.world.services in
    let x = next_entry p h (event.FailClient c) in
    ap (λ z. record { event = event.FailClient c; op = z; lines = lines_by s.post s.watches s.user o z m }) g
    ∙ ap (λ ls. record { event = event.FailClient c; op = failed_op (client_op p c h); lines = ls }) (client_prints_its_lines p c x h o m s.table s.post s.user s.watches k.limits.reads (k.world.history, (refl, k.named)) (failed_own (client_op p c h) ∙ busy_own p c h w m k.world k.named i e) a k.world.services)

-- the client that an event names
there : (p : Plan) (c : ℕ) (h : List Entry) (w : Meaning) → IsWorld p h w → is_client p c ≡ true → (m : client.Meaning) × (nth w.clients c ≡ Some m) × IsClient p c h m
there p c h w z i = let m = client_there p c h w.clients i z.clients in (m.0, m.1, z.clients.each c m.0 m.1)

pub turn_next : (p : Plan) (h : List Entry) (w : Meaning) (c : ℕ) (r : Read) → CanPlay p h w (event.Client c) → IsReadAt w (event.Client c) r → made w (event.Client c) r ≡ next_entry p h (event.Client c)
turn_next p h w c r k i =
    let m = there p c h w k.world k.named in
    ap (turn_entry (event.Client c) w.services r.told) m.1
    ∙ turn_is p c h w m.0 r.told (is_idle w.services.post m.0) refl k m.2 (subst (λ o. IsTold w.services r.told o) m.1 i)

pub fail_next : (p : Plan) (h : List Entry) (w : Meaning) (c : ℕ) (r : Read) → CanPlay p h w (event.FailClient c) → IsReadAt w (event.FailClient c) r → made w (event.FailClient c) r ≡ next_entry p h (event.FailClient c)
fail_next p h w c r k i =
    let m = there p c h w k.world k.named in
    ap (turn_entry (event.FailClient c) (armed w.services) r.told) m.1
    ∙ turn_fails p c h w m.0 r.told (is_idle w.services.post m.0) refl k m.2 (subst (λ o. IsTold w.services r.told o) m.1 i)

-- Services that are calm stay so when they are calmed.
pub calm_world : (p : Plan) (e : Entry) (h : List Entry) (w : Meaning) → IsWorld p (e ∷ h) w → IsWorld p (e ∷ h) (record w { services = calmed (armed w.services) })
calm_world p e h w z = record {
  history = z.history;
  clock = z.clock;
  moment = z.moment;
  lock = z.lock;
  beat = z.beat;
  functions = z.functions;
  clients = z.clients;
  services = record {
    table = ap (λ y. table.calmed (table.armed y)) z.services.table;
    post = ap (λ y. post.calmed (post.armed y)) z.services.post;
    user = ap (λ y. user.calmed (user.armed y)) z.services.user;
    watches = ap (λ y. watches.calmed (watches.armed y)) z.services.watches;
  };
  readable = z.readable;
}

-- After it. ----------------------------------------------------------------------------------------------

abbrev turn_by : Meaning → ℕ → (Services → Services) → Services → Option Tell → client.Meaning → Bool → Meaning
turn_by w c calm s o m b = record w {
  clients = with_client c (if b then m else after_step s.table s.post s.watches s.user o m) w.clients;
  services = calm (if b then s else services_by m (step_op s.table s.post s.watches s.user o m) s);
}

turn_case : (p : Plan) (c : ℕ) (h : List Entry) (w : Meaning) (m : client.Meaning) (o : Option Tell) (b : Bool) → is_idle w.services.post m ≡ b → nth w.clients c ≡ Some m → CanPlay p h w (event.Client c) → IsClient p c h m → IsToldTo w.services m o → IsHistory p (entry_by (event.Client c) w.services o m b ∷ h)
    → IsWorld p (entry_by (event.Client c) w.services o m b ∷ h) (turn_by w c as_it_is w.services o m b)
turn_case p c h w m o true e q k i r l = subst (λ ms. IsWorld p (entry_by (event.Client c) w.services o m true ∷ h) (record w { clients = ms })) (sym (same_clients c m w.clients q)) (idle_goes_on p h w (event.Client c) l k.world)
turn_case p c h w m o false e q k i r l =
    turn_world p c x h w (after_step s.table s.post s.watches s.user o m) (services_by m x.op s) l own k.named
    (client_goes_on p c x h o m s.table s.post s.user s.watches k.limits.reads l own a k.world.services)
    (client_is_written p c x h m s.table s.post s.user s.watches l own k.named i k.world.services) k.world
  where
    s : Services
    s = w.services

    x : Entry
    x = entry_by (event.Client c) s o m false

    a : Looks p c h o m
    a = looks p c h w m o k.world k.named i r

    own : client_in x.op ≡ Some c
    own = ap client_in (client_makes_its_op p c h o m s.table s.post s.user s.watches a k.world.services) ∙ busy_own p c h w m k.world k.named i e

fail_case : (p : Plan) (c : ℕ) (h : List Entry) (w : Meaning) (m : client.Meaning) (o : Option Tell) (b : Bool) → is_idle w.services.post m ≡ b → nth w.clients c ≡ Some m → CanPlay p h w (event.FailClient c) → IsClient p c h m → IsToldTo w.services m o → IsHistory p (entry_by (event.FailClient c) (armed w.services) o m b ∷ h)
    → IsWorld p (entry_by (event.FailClient c) (armed w.services) o m b ∷ h) (turn_by w c calmed (armed w.services) o m b)
fail_case p c h w m o true e q k i r l = subst (λ ms. IsWorld p (entry_by (event.FailClient c) (armed w.services) o m true ∷ h) (record w { clients = ms; services = calmed (armed w.services) })) (sym (same_clients c m w.clients q)) (calm_world p (entry_by (event.FailClient c) (armed w.services) o m true) h w (idle_goes_on p h w (event.FailClient c) l k.world))
fail_case p c h w m o false e q k i r l =
    turn_world p c x h w (after_step (armed s).table (armed s).post (armed s).watches (armed s).user o m) (calmed (services_by m x.op (armed s))) l own k.named
    (client_goes_on p c x h o m s.table s.post s.user s.watches k.limits.reads l own a k.world.services)
    (client_fault_is_written p x h m s.table s.post s.user s.watches l (subst IsFailed (sym g) (failed_so (client_op p c h) c (busy_own p c h w m k.world k.named i e))) k.world.services) k.world
  where
    s : Services
    s = w.services

    x : Entry
    x = entry_by (event.FailClient c) (armed s) o m false

    a : Looks p c h o m
    a = looks p c h w m o k.world k.named i r

    g : x.op ≡ failed_op (client_op p c h)
    g = client_fails p c h o m s.table s.post s.user s.watches a k.world.services

    own : client_in x.op ≡ Some c
    own = ap client_in g ∙ (failed_own (client_op p c h) ∙ busy_own p c h w m k.world k.named i e)

pub turn_goes_on : (p : Plan) (h : List Entry) (w : Meaning) (c : ℕ) (r : Read) → CanPlay p h w (event.Client c) → IsReadAt w (event.Client c) r → IsWorld p (made w (event.Client c) r ∷ h) (turned w as_it_is w.services r c)
turn_goes_on p h w c r k i =
    let m = there p c h w k.world k.named in
    let l = longer p h w (event.Client c) r k (turn_next p h w c r k i) in
    subst (λ o. IsHistory p (turn_entry (event.Client c) w.services r.told o ∷ h) → IsWorld p (turn_entry (event.Client c) w.services r.told o ∷ h) (record w { clients = clients_after w.services r.told c o w.clients; services = as_it_is (client_services w.services r.told o) })) (sym m.1)
    (λ z. turn_case p c h w m.0 r.told (is_idle w.services.post m.0) refl m.1 k m.2 (subst (λ o. IsTold w.services r.told o) m.1 i) z) l

pub fail_goes_on : (p : Plan) (h : List Entry) (w : Meaning) (c : ℕ) (r : Read) → CanPlay p h w (event.FailClient c) → IsReadAt w (event.FailClient c) r → IsWorld p (made w (event.FailClient c) r ∷ h) (turned w calmed (armed w.services) r c)
fail_goes_on p h w c r k i =
    let m = there p c h w k.world k.named in
    let l = longer p h w (event.FailClient c) r k (fail_next p h w c r k i) in
    subst (λ o. IsHistory p (turn_entry (event.FailClient c) (armed w.services) r.told o ∷ h) → IsWorld p (turn_entry (event.FailClient c) (armed w.services) r.told o ∷ h) (record w { clients = clients_after (armed w.services) r.told c o w.clients; services = calmed (client_services (armed w.services) r.told o) })) (sym m.1)
    (λ z. fail_case p c h w m.0 r.told (is_idle w.services.post m.0) refl m.1 k m.2 (subst (λ o. IsTold w.services r.told o) m.1 i) z) l

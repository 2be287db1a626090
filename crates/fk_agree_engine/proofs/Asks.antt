-- What a drain asks of an engine is what the rules say.
use Rattle.std.specs.Prelude.{◌==◌, ◌&&◌, ◌||◌, nat_le, not, if◌then◌else◌, ◌<◌, ◌^◌, is_some}
use Rattle.std.proofs.Common.{◌≡◌, ℕ, zero, suc, ◌+◌, ◌≤◌, ◌++◌, Bool, true, false, List, [], ◌∷◌, length, refl, sym, ◌∙◌, ap, subst, arith, Option, Some, None}
use Rattle.std.specs.Ordering.{nat_cmp}
use Rattle.std.proofs.lemmas.Bool.Decides.{nat_tests}
use Rattle.std.proofs.lemmas.Option.{none-some}
use Rattle.fk_tree.specs.Sorted.{is_below}
use Rattle.fk_print.specs.declared.entry.Entry.{Entry}
use Rattle.fk_print.specs.declared.event.Event.TheVariants as event
use Rattle.fk_print.specs.declared.op.Op.{Op}
use Rattle.fk_print.specs.declared.op.Op.TheVariants as op
use Rattle.fk_queue.specs.Lanes.{is_session}
use Rattle.fk_spec.specs.Plan.{Plan, Ask, is_client, item_after, nth}
use Rattle.fk_spec.specs.Start.{or_else, starts_of}
use Rattle.fk_spec.specs.Function.{Absent, Beating, Following, Leading, Place, Telling, actor, fault_op, function_op, in_flight, in_flight_to, is_absent, place_of}
use Rattle.fk_spec.specs.Follower as following
use Rattle.fk_spec.specs.Leader as leading
use Rattle.fk_spec.specs.Lanes.{leader_head, session_head, watch_head}
use Rattle.fk_spec.specs.Client.{client_op, failed_op}
use Rattle.fk_spec.specs.Next as next
use Rattle.fk_spec.specs.Schedule as schedule
use Rattle.fk_spec.specs.Schedule.{deliver_where, is_idle, lead_where, step_of_first, tell_where}
use Rattle.fk_user.specs.Ids.{has_id, ids_rise}
use Rattle.fk_law.proofs.Starting.{place_bound}
use Rattle.fk_client.specs.Idle as client_idle
use Rattle.fk_client.specs.Meaning as client
use Rattle.fk_follow.specs.Fit.{IsReadAt}
use Rattle.fk_follow.specs.Meaning as follower
use Rattle.fk_lead.specs.Meaning as leader
use Rattle.fk_lead.specs.Sweeping.{given_at}
use Rattle.fk_agree_client.specs.Standing.{IsClient}
use Rattle.fk_agree_client.proofs.Fitting.{client_is_idle}
use Rattle.fk_agree_follow.specs.Followers.{IsFollower}
use Rattle.fk_agree_lead.specs.Leaders.{IsLeader}
use Rattle.fk_engine.specs.Drain as drain
use Rattle.fk_engine.specs.Drain.{is_busy}
use Rattle.fk_engine.specs.DrainFit.{ArePosted, IsPosted, IsPostedAt}
use Rattle.fk_engine.specs.Flights.{AreInFlight}
use Rattle.fk_engine.specs.Machines as machine
use Rattle.fk_engine.specs.Machines.{Beat, Follower, Leader, Teller}
use Rattle.fk_engine.specs.Parts.{Meaning}
use Rattle.fk_engine.specs.Reads.{nothing_read}
use Rattle.fk_engine.proofs.Listing.{one_list}
use Rattle.fk_agree.proofs.Sweeping.{UpTo}
use Rattle.fk_agree_engine.specs.Asking.{DrainIsFit, FlightIsTheRules, NextOfDrainIsTheRules, ReadyIsFit, ReadyIsTheRules}
use Rattle.fk_agree_engine.specs.World.{IsWorld, StandsAs}
use Rattle.fk_agree_engine.proofs.Plain.{is_in_flight, leader_head_is, session_head_is, watch_head_is}
use Rattle.fk_agree_engine.proofs.Steps.{beat_steps, follower_steps, leader_steps, teller_steps}
use Rattle.fk_agree_engine.proofs.Turning.{client_there}
use Rattle.fk_base.proofs.Logic.{and_left, and_right}
use Rattle.fk_engine.proofs.Flying.{below_pushed}

-- The functions in flight. -------------------------------------------------------------------------------

up_to_more : (k : ℕ) (ns : List ℕ) → UpTo k ns → UpTo (suc k) ns
up_to_more k [] i = tt
up_to_more k (n ∷ ns) i = let a = i.0 in (omega (arith, a), up_to_more k ns i.1)

up_to_end : (k : ℕ) (ns : List ℕ) → UpTo k ns → UpTo (suc k) (ns ++ suc k ∷ [])
up_to_end k [] i = (omega arith, tt)
up_to_end k (n ∷ ns) i = let a = i.0 in (omega (arith, a), up_to_end k ns i.1)

has_end : (n k : ℕ) (ns : List ℕ) → has_id n (ns ++ k ∷ []) ≡ ((n == k) || has_id n ns)
has_end n k [] = grind (arith, nat_tests)
has_end n k (m ∷ ns) = let rest = has_end n k ns in grind (arith, nat_tests, rest)

rises_end : (k : ℕ) (ns : List ℕ) → UpTo k ns → ids_rise ns ≡ true → ids_rise (ns ++ suc k ∷ []) ≡ true
rises_end k [] i r = refl
rises_end k (n ∷ ns) i r =
    let low : n ≤ k = i.0 in
    let first : is_below nat_cmp n (ns ++ suc k ∷ []) ≡ true = below_pushed n (suc k) ns (omega (arith, low)) (and_left (is_below nat_cmp n ns) (ids_rise ns) r) in
    let rest : ids_rise (ns ++ suc k ∷ []) ≡ true = rises_end k ns i.1 (and_right (is_below nat_cmp n ns) (ids_rise ns) r) in
    rw first rest

are_up_to : (p : Plan) (n : ℕ) (h : List Entry) → UpTo n (in_flight_to p n h)
are_up_to p zero h = tt
are_up_to p (suc n) h = by_place (is_absent (place_of p (suc n) h)) (are_up_to p n h)
  where
    by_place : (b : Bool) → UpTo n (in_flight_to p n h) → UpTo (suc n) (if b then in_flight_to p n h else in_flight_to p n h ++ suc n ∷ [])
    by_place true i = up_to_more n (in_flight_to p n h) i
    by_place false i = up_to_end n (in_flight_to p n h) i

all_rise : (p : Plan) (n : ℕ) (h : List Entry) → ids_rise (in_flight_to p n h) ≡ true
all_rise p zero h = refl
all_rise p (suc n) h = by_place (is_absent (place_of p (suc n) h)) (all_rise p n h)
  where
    by_place : (b : Bool) → ids_rise (in_flight_to p n h) ≡ true → ids_rise (if b then in_flight_to p n h else in_flight_to p n h ++ suc n ∷ []) ≡ true
    by_place true i = i
    by_place false i = rises_end n (in_flight_to p n h) (are_up_to p n h) i

-- one more number, where `a` is whether k is absent, and `b` whether the further one is
one_more : (k n : ℕ) (a b : Bool) (ns : List ℕ) → (k ≡ suc n → a ≡ b) → has_id k ns ≡ (nat_le 1 k && nat_le k n && not a) → has_id k (if b then ns else ns ++ suc n ∷ []) ≡ (nat_le 1 k && nat_le k (suc n) && not a)
one_more k n a true ns f i = i ∙ further (k == suc n) refl
  where
    further : (z : Bool) → (k == suc n) ≡ z → (nat_le 1 k && nat_le k n && not a) ≡ (nat_le 1 k && nat_le k (suc n) && not a)
    further true e = let same : k ≡ suc n = grind (arith, nat_tests) in let g = f same in grind (arith, nat_tests, g)
    further false e = grind (arith, nat_tests)
one_more k n a false ns f i = has_end k (suc n) ns ∙ (ap (λ z. (k == suc n) || z) i ∙ further (k == suc n) refl)
  where
    further : (z : Bool) → (k == suc n) ≡ z → ((k == suc n) || (nat_le 1 k && nat_le k n && not a)) ≡ (nat_le 1 k && nat_le k (suc n) && not a)
    further true e = let same : k ≡ suc n = grind (arith, nat_tests) in let g = f same in grind (arith, nat_tests, g)
    further false e = grind (arith, nat_tests)

all_exact : (p : Plan) (k n : ℕ) (h : List Entry) → has_id k (in_flight_to p n h) ≡ (nat_le 1 k && nat_le k n && not (is_absent (place_of p k h)))
all_exact p k zero h = let a = is_absent (place_of p k h) in none a
  where
    none : (a : Bool) → false ≡ (nat_le 1 k && nat_le k 0 && not a)
    none a = grind (arith, nat_tests)
all_exact p k (suc n) h = one_more k n (is_absent (place_of p k h)) (is_absent (place_of p (suc n) h)) (in_flight_to p n h) (λ e. ap (λ z. is_absent (place_of p z h)) e) (all_exact p k n h)

flies : (p : Plan) (n : ℕ) (h : List Entry) (w : Meaning) (o : Option machine.Meaning) → IsWorld p h w → StandsAs p n h o → (nat_le 1 n && nat_le n (starts_of h) && not (is_absent (place_of p n h))) ≡ is_some o
flies p n h w None x s = ap (λ z. nat_le 1 n && nat_le n (starts_of h) && not (is_absent z)) s ∙ none (nat_le 1 n) (nat_le n (starts_of h))
  where
    none : (a b : Bool) → (a && b && false) ≡ false
    none a b = grind arith
flies p n h w (Some m) x s =
    let a = is_in_flight p n h m s in
    let b = place_bound p n h x.history a in
    ap (λ z. nat_le 1 n && nat_le n (starts_of h) && not z) a ∙ within b.0 b.1
  where
    within : 1 ≤ n → n ≤ starts_of h → (nat_le 1 n && nat_le n (starts_of h) && true) ≡ true
    within a b = grind (arith, nat_tests)

pub are_in_flight : (p : Plan) (h : List Entry) (w : Meaning) → IsWorld p h w → AreInFlight w.functions (in_flight p h)
are_in_flight p h w x = record {
  rising = all_rise p (starts_of h) h;
  exact = λ n. all_exact p n (starts_of h) h ∙ flies p n h w (w.functions.running n) x (x.functions.running n);
}

pub flight_is_the_rules : FlightIsTheRules
flight_is_the_rules p h w ns x a = one_list w.functions ns (in_flight p h) a (are_in_flight p h w x)

-- What a drain does next. --------------------------------------------------------------------------------

pub is_within : (p : Plan) (c : ℕ) → 1 ≤ c → c ≤ length p.asks → is_client p c ≡ true
is_within p c a b = within (length p.asks) b
  where
    within : (k : ℕ) → c ≤ k → (nat_le 1 c && nat_le c k) ≡ true
    within k b = grind (arith, nat_tests)

delivers : (p : Plan) (h : List Entry) (w : Meaning) (ms : List client.Meaning) (xs : List (List Ask)) (c : ℕ) → IsWorld p h w → length ms ≡ length xs → 1 ≤ c → c + length xs ≤ 1 + length p.asks → drain.deliver_first ms c w.services.post ≡ schedule.deliver_first xs c h
delivers p h w [] [] c x l a b = refl
delivers p h w [] (y ∷ ys) c x l a b = absurd (omega (arith, l))
delivers p h w (m ∷ ms) [] c x l a b = absurd (omega (arith, l))
delivers p h w (m ∷ ms) (y ∷ ys) c x l a b =
    let i : is_client p c ≡ true = is_within p c a (omega (arith, b)) in
    let rest : drain.deliver_first ms (suc c) w.services.post ≡ schedule.deliver_first ys (suc c) h = delivers p h w ms ys (suc c) x (omega (arith, l)) (omega (arith, a)) (omega (arith, b)) in
    λ j. or_else (deliver_where c ((session_head_is p c h w x i) j)) (rest j)

-- these are the clients from c on
abbrev pub AreFrom : Plan → ℕ → List Entry → List client.Meaning → Type 0
AreFrom p c h ms = (i : ℕ) (m : client.Meaning) → item_after ms i ≡ Some m → IsClient p (c + i) h m

pub first_of : (p : Plan) (c : ℕ) (h : List Entry) (m : client.Meaning) (ms : List client.Meaning) → AreFrom p c h (m ∷ ms) → IsClient p c h m
first_of p c h m ms f = subst (λ z. IsClient p z h m) (omega arith) (f 0 m refl)

pub rest_of : (p : Plan) (c : ℕ) (h : List Entry) (m : client.Meaning) (ms : List client.Meaning) → AreFrom p c h (m ∷ ms) → AreFrom p (suc c) h ms
rest_of p c h m ms f i n q = subst (λ z. IsClient p z h n) (omega arith) (f (suc i) n q)

pub all_clients : (p : Plan) (h : List Entry) (w : Meaning) → IsWorld p h w → AreFrom p 1 h w.clients
all_clients p h w x i m q = subst (λ z. IsClient p z h m) (omega arith) (x.clients.each (suc i) m q)

turns : (p : Plan) (h : List Entry) (w : Meaning) (ms : List client.Meaning) (xs : List (List Ask)) (c : ℕ) → IsWorld p h w → AreFrom p c h ms → length ms ≡ length xs → 1 ≤ c → c + length xs ≤ 1 + length p.asks → drain.turn_first ms c w.services.post ≡ schedule.client_first p xs c h
turns p h w [] [] c x f l a b = refl
turns p h w [] (y ∷ ys) c x f l a b = absurd (omega (arith, l))
turns p h w (m ∷ ms) [] c x f l a b = absurd (omega (arith, l))
turns p h w (m ∷ ms) (y ∷ ys) c x f l a b =
    let i : is_client p c ≡ true = is_within p c a (omega (arith, b)) in
    let e : client_idle.is_idle w.services.post m ≡ is_idle (client_op p c h) = client_is_idle p c h m w.services.post x.history i (first_of p c h m ms f) x.services.post in
    let rest : drain.turn_first ms (suc c) w.services.post ≡ schedule.client_first p ys (suc c) h = turns p h w ms ys (suc c) x (rest_of p c h m ms f) (omega (arith, l)) (omega (arith, a)) (omega (arith, b)) in
    λ j. if (e j) then (rest j) else (Some (event.Client c))

pub next_of_drain_is_the_rules : NextOfDrainIsTheRules
next_of_drain_is_the_rules p h w ns x a =
    let n : ns ≡ in_flight p h = flight_is_the_rules p h w ns x a in
    let d : drain.deliver_first w.clients 1 w.services.post ≡ schedule.deliver_first p.asks 1 h = delivers p h w w.clients p.asks 1 x x.clients.count (omega arith) (omega arith) in
    let t : drain.turn_first w.clients 1 w.services.post ≡ schedule.client_first p p.asks 1 h = turns p h w w.clients p.asks 1 x (all_clients p h w x) x.clients.count (omega arith) (omega arith) in
    λ j. or_else (step_of_first (n j)) (or_else (tell_where ((watch_head_is p h w x) j)) (or_else (lead_where ((leader_head_is p h w x) j)) (or_else (d j) (t j))))

-- What would make an operation. --------------------------------------------------------------------------

busy : (n : ℕ) (o : Op) → actor o ≡ Some n → is_idle o ≡ false
busy n op.Idle e = absurd (none-some n e)
busy n o e = refl

failed_idle : (o : Op) → is_idle (failed_op o) ≡ is_idle o
failed_idle o = grind arith

fault_busy : (n : ℕ) (x : Place) → is_idle (fault_op n x) ≡ is_absent x
fault_busy n Absent = refl
fault_busy n (Following f) = refl
fault_busy n (Leading t s) = refl
fault_busy n (Telling v t s) = refl
fault_busy n (Beating c s) = refl

follower_acts : (p : Plan) (n : ℕ) (h : List Entry) (w : Meaning) (m : follower.Meaning) (s : following.Stage) → m.follower.stage ≡ s → IsWorld p h w → IsFollower p n h m → actor (function_op p h n (place_of p n h)) ≡ Some n
follower_acts p n h w m following.Owned e x i = ap (λ z. actor (function_op p h n z)) i.stands ∙ ap (λ z. actor (following.follower_op p h n i.whole z)) (ap (λ z. z.stage) (sym i.sketched) ∙ e)
follower_acts p n h w m s e x i =
    let y = follower_steps p n h w.services nothing_read m x.history x.services i (subst (IsReadAt w.services.table m.follower.session nothing_read.owned) (sym e) tt) in
    ap actor (sym y.rule) ∙ y.own

leader_acts : (p : Plan) (n : ℕ) (h : List Entry) (w : Meaning) (m : leader.Meaning) (s : leading.Stage) → m.stage ≡ s → IsWorld p h w → IsLeader p n h m → actor (function_op p h n (place_of p n h)) ≡ Some n
leader_acts p n h w m leading.Sweep e x i = ap (λ z. actor (function_op p h n z)) i.stands ∙ (ap (λ z. actor (leading.leader_op p h n m.tx z)) e ∙ sweeps)
  where
    sweeps : actor (leading.sweep_op p h n m.tx) ≡ Some n
    sweeps = grind arith
leader_acts p n h w m s e x i =
    let y = leader_steps p n h w.services nothing_read m x.history x.services i (subst (given_at w.services.watches m nothing_read.swept) (sym e) tt) in
    ap actor (sym y.rule) ∙ y.own

acts : (p : Plan) (n : ℕ) (h : List Entry) (w : Meaning) (m : machine.Meaning) → IsWorld p h w → StandsAs p n h (Some m) → actor (function_op p h n (place_of p n h)) ≡ Some n
acts p n h w (Follower m) x s = follower_acts p n h w m m.follower.stage refl x s
acts p n h w (Leader m) x s = leader_acts p n h w m m.stage refl x s
acts p n h w (Teller m) x s = let y = teller_steps p n h w.services nothing_read m x.history x.services s in ap actor (sym y.rule) ∙ y.own
acts p n h w (Beat m) x s = let y = beat_steps p n h w.services nothing_read m x.history x.services s in ap actor (sym y.rule) ∙ y.own

step_ready : (p : Plan) (n : ℕ) (h : List Entry) (w : Meaning) (o : Option machine.Meaning) → IsWorld p h w → StandsAs p n h o → is_some o ≡ not (is_idle (function_op p h n (place_of p n h)))
step_ready p n h w None x s = sym (ap (λ z. not (is_idle (function_op p h n z))) s)
step_ready p n h w (Some m) x s = sym (ap not (busy n (function_op p h n (place_of p n h)) (acts p n h w m x s)))

stands_where : (p : Plan) (n : ℕ) (h : List Entry) (o : Option machine.Meaning) → StandsAs p n h o → is_some o ≡ not (is_absent (place_of p n h))
stands_where p n h None s = sym (ap (λ z. not (is_absent z)) s)
stands_where p n h (Some m) s = sym (ap not (is_in_flight p n h m s))

crash_busy : (n : ℕ) (b : Bool) → b ≡ is_idle (if b then op.Idle else op.Crash n)
crash_busy n true = refl
crash_busy n false = refl

follows_where : (n c : ℕ) (o : Option ℕ) → is_some o ≡ not (is_idle (next.follow_op n c o))
follows_where n c None = refl
follows_where n c (Some k) = refl

leads_where : (n : ℕ) (o : Option ℕ) → is_some o ≡ not (is_idle (next.lead_op n o))
leads_where n None = refl
leads_where n (Some k) = refl

tells_where : (n : ℕ) (o : Option ℕ) → is_some o ≡ not (is_idle (next.tell_op n o))
tells_where n None = refl
tells_where n (Some k) = refl

client_busy : (p : Plan) (c : ℕ) (h : List Entry) (w : Meaning) → is_client p c ≡ true → IsWorld p h w → is_busy w.services.post (nth w.clients c) ≡ not (is_idle (client_op p c h))
client_busy p c h w i x =
    let m = client_there p c h w.clients i x.clients in
    ap (is_busy w.services.post) m.1 ∙ ap not (client_is_idle p c h m.0 w.services.post x.history i (x.clients.each c m.0 m.1) x.services.post)

pub ready_is_the_rules : ReadyIsTheRules
ready_is_the_rules p h w (event.Client c) i x = client_busy p c h w i x
ready_is_the_rules p h w (event.Deliver c) i x = ap is_some (session_head_is p c h w x i) ∙ follows_where (starts_of h + 1) c (session_head c h)
ready_is_the_rules p h w event.Leader i x = ap is_some (leader_head_is p h w x) ∙ leads_where (starts_of h + 1) (leader_head h)
ready_is_the_rules p h w event.Watch i x = ap is_some (watch_head_is p h w x) ∙ tells_where (starts_of h + 1) (watch_head h)
ready_is_the_rules p h w (event.Beat c) i x = refl
ready_is_the_rules p h w (event.Step n) i x = step_ready p n h w (w.functions.running n) x (x.functions.running n)
ready_is_the_rules p h w (event.Crash n) i x = stands_where p n h (w.functions.running n) (x.functions.running n) ∙ ap not (crash_busy n (is_absent (place_of p n h)))
ready_is_the_rules p h w (event.Fail n) i x = stands_where p n h (w.functions.running n) (x.functions.running n) ∙ ap not (sym (fault_busy n (place_of p n h)))
ready_is_the_rules p h w (event.FailClient c) i x = client_busy p c h w i x ∙ ap not (sym (failed_idle (client_op p c h)))
ready_is_the_rules p h w (event.Clock moment) i x = refl

-- What is needed. ----------------------------------------------------------------------------------------

sessions_are : (p : Plan) (h : List Entry) (w : Meaning) → IsWorld p h w → w.services.post.sessions ≡ length p.asks
sessions_are p h w x = ap (λ q. q.sessions) x.services.post

posted : (p : Plan) (c : ℕ) (h : List Entry) (w : Meaning) (m : client.Meaning) → IsWorld p h w → is_client p c ≡ true → IsClient p c h m → IsPosted w.services.post m
posted p c h w m x i k = (λ j. is_session ((sessions_are p h w x) j) ((ap (λ y. y.session) k.is) j)) ∙ i

client_posted : (p : Plan) (c : ℕ) (h : List Entry) (w : Meaning) → IsWorld p h w → is_client p c ≡ true → IsPostedAt w.services.post (nth w.clients c)
client_posted p c h w x i =
    let m = client_there p c h w.clients i x.clients in
    subst (IsPostedAt w.services.post) (sym m.1) (posted p c h w m.0 x i (x.clients.each c m.0 m.1))

are_posted : (p : Plan) (c : ℕ) (h : List Entry) (w : Meaning) (ms : List client.Meaning) → IsWorld p h w → AreFrom p c h ms → 1 ≤ c → c + length ms ≤ 1 + length p.asks → ArePosted w.services.post ms
are_posted p c h w [] x f a b = tt
are_posted p c h w (m ∷ ms) x f a b = (posted p c h w m x (is_within p c a (omega (arith, b))) (first_of p c h m ms f), are_posted p (suc c) h w ms x (rest_of p c h m ms f) (omega (arith, a)) (omega (arith, b)))

pub drain_is_fit : DrainIsFit
drain_is_fit p h w x b =
    let n : length w.clients ≡ length p.asks = x.clients.count in
    let s : w.services.post.sessions ≡ length p.asks = sessions_are p h w x in
    record {
      few = subst (λ z. 1 + z < 2 ^ 32) (sym n) b;
      sessions = omega (arith, n, s);
      posted = are_posted p 1 h w w.clients x (all_clients p h w x) (omega arith) (omega (arith, n));
    }

pub ready_is_fit : ReadyIsFit
ready_is_fit p h w (event.Client c) x i = client_posted p c h w x i
ready_is_fit p h w (event.Deliver c) x i = ap (λ z. is_session z c) (sessions_are p h w x) ∙ i
ready_is_fit p h w event.Leader x i = tt
ready_is_fit p h w event.Watch x i = tt
ready_is_fit p h w (event.Beat c) x i = tt
ready_is_fit p h w (event.Step n) x i = tt
ready_is_fit p h w (event.Crash n) x i = tt
ready_is_fit p h w (event.Fail n) x i = tt
ready_is_fit p h w (event.FailClient c) x i = client_posted p c h w x i
ready_is_fit p h w (event.Clock moment) x i = tt

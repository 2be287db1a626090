-- What a drain asks of a world, and what it plays.
use Rattle.std.specs.Prelude.{not, take, drop, Result, Ok, Err, OnErr}
use Rattle.std.proofs.Math.ListN.{get_or}
use Rattle.std.proofs.Common.{◌≡◌, ℕ, suc, ◌+◌, ◌-◌, ◌≤◌, length, Bool, true, false, if◌then◌else◌, List, [], ◌∷◌, ◌++◌, refl, sym, ◌∙◌, ap, subst, arith, Option, Some, None}
use Rattle.std.proofs.lemmas.List.{append-nil, append_assoc}
use Rattle.std.proofs.Math.Seq.{take-length}
use Rattle.fk_print.specs.declared.entry.Entry.{Entry}
use Rattle.fk_print.specs.declared.event.Event.{Event}
use Rattle.fk_print.specs.declared.event.Event.TheVariants as event
use Rattle.fk_script.specs.declared.deployment.Deployment.{Deployment}
use Rattle.fk_spec.specs.Plan.{Ask, Plan, plan_of}
use Rattle.fk_spec.specs.Start.{clock_of, or_else}
use Rattle.fk_spec.specs.Function.{in_flight}
use Rattle.fk_spec.specs.Lanes.{leader_head, session_head, watch_head}
use Rattle.fk_spec.specs.Next.{names_client, next_entry, next_op}
use Rattle.fk_spec.specs.Client.{client_op}
use Rattle.fk_spec.specs.Schedule.{Drains, Empties, Emptied, Goes, Plays, client_first, crashes, deliver_first, deliver_where, drain_begin, is_idle, lead_where, next_of_drain, step_of_first, tell_where}
use Rattle.fk_law.proofs.Draining.{drains_name_clients}
use Rattle.fk_limits.proofs.Deployments.{clients_are_few}
use Rattle.fk_engine.specs.Drain as drain
use Rattle.fk_engine.specs.DrainFit.{FitsDrain, FitsReady}
use Rattle.fk_engine.specs.Engine as engine
use Rattle.fk_engine.specs.Flights.{AreInFlight}
use Rattle.fk_agree_engine.specs.Playing.{IsMoment}
use Rattle.fk_agree_engine.proofs.Asks.{are_in_flight, drain_is_fit, flight_is_the_rules, next_of_drain_is_the_rules, ready_is_fit, ready_is_the_rules}
use Rattle.fk_world.specs.Clocks.{clock_shown}
use Rattle.fk_world.specs.Draining as draining
use Rattle.fk_world.specs.Draining.{Begins, DrainsTo, GoesTo, PlaysSome}
use Rattle.fk_world.specs.World.{IsSound}

-- What a drain asks. --------------------------------------------------------------------------------------

pub drain_fits : (d : Deployment) (m : engine.Meaning) → IsSound d m → m.spent ≡ false → FitsDrain m.parts
drain_fits d m a s = let f = clients_are_few d a.meant in drain_is_fit (plan_of d) m.past m.parts (a.stands s) (omega (arith, f))

pub next_is : (d : Deployment) (m : engine.Meaning) (o : Option Event) → IsSound d m → m.spent ≡ false → ((ns : List ℕ) → AreInFlight m.parts.functions ns → o ≡ drain.next_of_drain ns m.parts) → o ≡ next_of_drain (plan_of d) m.past
next_is d m o a s f =
    let w = a.stands s in
    let i = are_in_flight (plan_of d) m.past m.parts w in
    f (in_flight (plan_of d) m.past) i ∙ next_of_drain_is_the_rules (plan_of d) m.past m.parts (in_flight (plan_of d) m.past) w i

pub flight_is : (d : Deployment) (m : engine.Meaning) (ns : List ℕ) → IsSound d m → m.spent ≡ false → AreInFlight m.parts.functions ns → ns ≡ in_flight (plan_of d) m.past
flight_is d m ns a s f = flight_is_the_rules (plan_of d) m.past m.parts ns (a.stands s) f

pub ready_fits : (d : Deployment) (m : engine.Meaning) (e : Event) → IsSound d m → m.spent ≡ false → names_client (plan_of d) e ≡ true → FitsReady m.parts e
ready_fits d m e a s n = ready_is_fit (plan_of d) m.past m.parts e (a.stands s) n

pub ready_is : (d : Deployment) (m : engine.Meaning) (e : Event) (b : Bool) → IsSound d m → m.spent ≡ false → names_client (plan_of d) e ≡ true → b ≡ drain.is_ready m.parts e → b ≡ not (is_idle (next_op (plan_of d) m.past e))
ready_is d m e b a s n q = q ∙ ready_is_the_rules (plan_of d) m.past m.parts e n (a.stands s)

-- What it does next is no clock's event. ------------------------------------------------------------------

-- the clock stands still at an event
abbrev StandsStill : Event → Type 0
StandsStill e = (now : ℕ) → clock_shown e now ≡ now

-- an event that an engine can play, and that leaves the clock alone
pub record IsPlayable (p : Plan) (e : Event) : Type 0 where
  pub named : names_client p e ≡ true
  pub moment : IsMoment e
  pub still : StandsStill e

abbrev MayPlay : Option Event → Type 0
MayPlay None = Unit {0}
MayPlay (Some e) = IsMoment e × StandsStill e

or_may : (o q : Option Event) → MayPlay o → MayPlay q → MayPlay (or_else o q)
or_may None q a b = b
or_may (Some e) q a b = a

step_may : (ns : List ℕ) → MayPlay (step_of_first ns)
step_may [] = tt
step_may (n ∷ ns) = (tt, λ m. refl)

tell_may : (o : Option ℕ) → MayPlay (tell_where o)
tell_may None = tt
tell_may (Some w) = (tt, λ m. refl)

lead_may : (o : Option ℕ) → MayPlay (lead_where o)
lead_may None = tt
lead_may (Some t) = (tt, λ m. refl)

deliver_may : (c : ℕ) (o : Option ℕ) → MayPlay (deliver_where c o)
deliver_may c None = tt
deliver_may c (Some k) = (tt, λ m. refl)

delivers_may : (xs : List (List Ask)) (c : ℕ) (h : List Entry) → MayPlay (deliver_first xs c h)
delivers_may [] c h = tt
delivers_may (x ∷ xs) c h = or_may (deliver_where c (session_head c h)) (deliver_first xs (suc c) h) (deliver_may c (session_head c h)) (delivers_may xs (suc c) h)

turn_may : (c : ℕ) (b : Bool) (o : Option Event) → MayPlay o → MayPlay (if b then o else Some (event.Client c))
turn_may c true o m = m
turn_may c false o m = (tt, λ n. refl)

turns_may : (p : Plan) (xs : List (List Ask)) (c : ℕ) (h : List Entry) → MayPlay (client_first p xs c h)
turns_may p [] c h = tt
turns_may p (x ∷ xs) c h = turn_may c (is_idle (client_op p c h)) (client_first p xs (suc c) h) (turns_may p xs (suc c) h)

next_may : (p : Plan) (h : List Entry) → MayPlay (next_of_drain p h)
next_may p h =
    or_may (step_of_first (in_flight p h)) (or_else (tell_where (watch_head h)) (or_else (lead_where (leader_head h)) (or_else (deliver_first p.asks 1 h) (client_first p p.asks 1 h)))) (step_may (in_flight p h))
    (or_may (tell_where (watch_head h)) (or_else (lead_where (leader_head h)) (or_else (deliver_first p.asks 1 h) (client_first p p.asks 1 h))) (tell_may (watch_head h))
    (or_may (lead_where (leader_head h)) (or_else (deliver_first p.asks 1 h) (client_first p p.asks 1 h)) (lead_may (leader_head h))
    (or_may (deliver_first p.asks 1 h) (client_first p p.asks 1 h) (delivers_may p.asks 1 h) (turns_may p p.asks 1 h))))

pub next_is_playable : (p : Plan) (h : List Entry) (e : Event) → Some e ≡ next_of_drain p h → IsPlayable p e
next_is_playable p h e q =
    let m = subst MayPlay (sym q) (next_may p h) in
    record { named = drains_name_clients p h e (sym q); moment = m.0; still = m.1 }

-- What it plays. ------------------------------------------------------------------------------------------

-- those of these events that aren't left lead from h to k
pub record HasMade (left es : List Event) (h k : List Entry) : Type 0 where
  pub made : List Event
  pub whole : made ++ left ≡ es
  pub plays : Plays made h k

plays_more : (es : List Event) (h k : List Entry) (x : Entry) → Plays es h k → Plays (es ++ x.event ∷ []) h (x ∷ k)
plays_more [] h k x e = (x, refl, ap (λ z. x ∷ z) e)
plays_more (e ∷ es) h k x (y, q, r) = (y, q, plays_more es (y ∷ h) k x r)

pub none_made : (es : List Event) (h k : List Entry) → k ≡ h → HasMade es es h k
none_made es h k q = record { made = []; whole = refl; plays = sym q }

one_made : (p : Plan) (e : Event) (left es : List Event) (h k j : List Entry) → j ≡ next_entry p k e ∷ k → HasMade (e ∷ left) es h k → HasMade left es h j
one_made p e left es h k j q m = record {
  made = m.made ++ e ∷ [];
  whole = append_assoc m.made (e ∷ []) left ∙ m.whole;
  plays = subst (Plays (m.made ++ e ∷ []) h) (sym q) (plays_more m.made h k (next_entry p k e) m.plays);
}

-- the first function that is left crashes
pub crash_made : (p : Plan) (ns : List ℕ) (es : List Event) (h k j : List Entry) → 1 ≤ length ns → j ≡ next_entry p k (event.Crash (get_or ns 0 0)) ∷ k → HasMade (crashes ns) es h k
    → HasMade (crashes (take (length ns - 1) (drop 1 ns))) es h j
crash_made p [] es h k j l q m = absurd (omega (arith, l))
crash_made p (n ∷ ns) es h k j l q m =
    let e : suc (length ns) - 1 ≡ length ns = omega arith in
    subst (λ zs. HasMade (crashes zs) es h j) (sym (ap (λ (i : ℕ). take i ns) e ∙ take-length ns)) (one_made p (event.Crash n) (crashes ns) es h k j q m)

pub all_made : (es : List Event) (h k : List Entry) → HasMade [] es h k → Plays es h k
all_made es h k m = subst (λ z. Plays z h k) (sym (append-nil m.made) ∙ m.whole) m.plays

pub some_made : (left es : List Event) (h k j : List Entry) → j ≡ k → HasMade left es h k → PlaysSome es h j
some_made left es h k j q m = record { made = m.made; left = left; whole = m.whole; plays = subst (Plays m.made h) (sym q) m.plays }

more_left : (es fs : List Event) (h k : List Entry) → PlaysSome es h k → PlaysSome (es ++ fs) h k
more_left es fs h k m = record { made = m.made; left = m.left ++ fs; whole = sym (append_assoc m.made m.left fs) ∙ ap (λ z. z ++ fs) m.whole; plays = m.plays }

pub empties_more : (p : Plan) (e : Event) (h g k : List Entry) → Some e ≡ next_of_drain p h → g ≡ next_entry p h e ∷ h → Empties p g k → Empties p h k
empties_more p e h g k n q a = Goes h k (next_entry p h e) (sym n) (subst (λ z. Empties p z k) q a)

pub goes_more : (p : Plan) (h k j : List Entry) (x : Entry) → Some x.event ≡ next_of_drain p k → j ≡ x ∷ k → GoesTo p h k → GoesTo p h j
goes_more p h k j x n q a = subst (GoesTo p h) (sym q) (draining.Goes k x a (sym n))

pub empties_here : (p : Plan) (h : List Entry) → None ≡ next_of_drain p h → Empties p h h
empties_here p h n = Emptied h (sym n)

-- a drain that begins by ending these functions and letting the clock show this moment
pub begins : (p : Plan) (h g b : List Entry) (ns : List ℕ) (m : ℕ) → ns ≡ in_flight p h → m ≡ clock_of h + p.lock + 1
    → Plays (crashes ns) h g → b ≡ next_entry p g (event.Clock m) ∷ g → Plays (drain_begin p h) h b
begins p h g b ns m i c f q =
    subst (λ (z : ℕ). Plays (crashes (in_flight p h) ++ event.Clock z ∷ []) h b) c
    (subst (λ (zs : List ℕ). Plays (crashes zs ++ event.Clock m ∷ []) h b) i
    (subst (Plays (crashes ns ++ event.Clock m ∷ []) h) (sym q) (plays_more (crashes ns) h g (next_entry p g (event.Clock m)) f)))

pub drains_whole : (p : Plan) (h b k : List Entry) → Plays (drain_begin p h) h b → Empties p b k → Drains p h k
drains_whole p h b k f a = record { begun = b; begins = f; empties = a }

-- Where it wants memory. ----------------------------------------------------------------------------------

pub err_always : {T E A : Type 0} (r : Result T E) → A → OnErr r A
err_always (Ok x) a = tt
err_always (Err x) a = a

pub none_begun : (p : Plan) (h k : List Entry) → k ≡ h → PlaysSome (drain_begin p h) h k
none_begun p h k q = record { made = []; left = drain_begin p h; whole = refl; plays = sym q }

pub some_crashed : (p : Plan) (h k : List Entry) (ns : List ℕ) → ns ≡ in_flight p h → PlaysSome (crashes ns) h k → PlaysSome (drain_begin p h) h k
some_crashed p h k ns i m = more_left (crashes (in_flight p h)) (event.Clock (clock_of h + p.lock + 1) ∷ []) h k (subst (λ zs. PlaysSome (crashes zs) h k) i m)

pub all_crashed : (p : Plan) (h g k : List Entry) (ns : List ℕ) → ns ≡ in_flight p h → k ≡ g → Plays (crashes ns) h g → PlaysSome (drain_begin p h) h k
all_crashed p h g k ns i q f = some_crashed p h k ns i (record { made = crashes ns; left = []; whole = append-nil (crashes ns); plays = subst (Plays (crashes ns) h) (sym q) f })

-- a drain that a spent world is asked for, that began, and that went on
pub not_drained : (p : Plan) (h k : List Entry) → k ≡ h → DrainsTo p h k
not_drained p h k q = Begins (none_begun p h k q)

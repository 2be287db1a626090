-- What a drain does next.
use Rattle.std.specs.Prelude.{◌==◌, if◌then◌else◌}
use Rattle.std.proofs.Common.{◌≡◌, ℕ, zero, suc, ◌≤◌, ◌++◌, Bool, true, false, List, [], ◌∷◌, refl, sym, ◌∙◌, subst, arith, Option, Some, None}
use Rattle.std.proofs.lemmas.Bool.Decides.{nat_tests}
use Rattle.std.proofs.lemmas.Option.{same_Some, none-some}
use Rattle.fk_print.specs.declared.entry.Entry.{Entry}
use Rattle.fk_print.specs.declared.event.Event.{Event}
use Rattle.fk_print.specs.declared.event.Event.TheVariants as event
use Rattle.fk_spec.specs.Plan.{Plan, Ask}
use Rattle.fk_spec.specs.Start.{or_else, starts_of}
use Rattle.fk_spec.specs.Lanes.{leader_head, session_head, watch_head}
use Rattle.fk_spec.specs.Client.{client_op}
use Rattle.fk_spec.specs.Function.{in_flight, in_flight_to, is_absent, place_of}
use Rattle.fk_spec.specs.Schedule.{client_first, deliver_first, deliver_where, is_idle, lead_where, next_of_drain, step_of_first, tell_where}
use Rattle.fk_spec.specs.Next.{IsHistory}
use Rattle.fk_law.proofs.Starting.{place_bound}
use Rattle.fk_law_drain.proofs.Drained.{no_note, no_push, no_step}

-- a step of a function in flight, which is the first one
-- a delivery to each lane while no function is in flight, or the turn of a client while all lanes are empty
pub data Chooses (p : Plan) (h : List Entry) : Event → Type 0 where
  Steps : (n : ℕ) → is_absent (place_of p n h) ≡ false → Chooses p h (event.Step n)
  Tells : (w : ℕ) → in_flight p h ≡ [] → watch_head h ≡ Some w → Chooses p h event.Watch
  Leads : (t : ℕ) → in_flight p h ≡ [] → leader_head h ≡ Some t → Chooses p h event.Leader
  Delivers : (c k : ℕ) → in_flight p h ≡ [] → session_head c h ≡ Some k → Chooses p h (event.Deliver c)
  Turns : (c : ℕ) → in_flight p h ≡ [] → watch_head h ≡ None → leader_head h ≡ None → is_idle (client_op p c h) ≡ false → Chooses p h (event.Client c)

-- Functions in flight. ---------------------------------------------------------------------------------

abbrev AllStand : Plan → List Entry → List ℕ → Type 0
AllStand p h [] = Unit {0}
AllStand p h (n ∷ ns) = (is_absent (place_of p n h) ≡ false) × AllStand p h ns

one_stands : (p : Plan) (h : List Entry) (ns : List ℕ) (n : ℕ) → AllStand p h ns → is_absent (place_of p n h) ≡ false → AllStand p h (ns ++ n ∷ [])
one_stands p h [] n i a = (a, tt)
one_stands p h (m ∷ ns) n i a = (i.0, one_stands p h ns n i.1 a)

all_stand : (p : Plan) (m : ℕ) (h : List Entry) → AllStand p h (in_flight_to p m h)
all_stand p zero h = tt
all_stand p (suc m) h = by_place (is_absent (place_of p (suc m) h)) refl (all_stand p m h)
  where
    by_place : (b : Bool) → is_absent (place_of p (suc m) h) ≡ b → AllStand p h (in_flight_to p m h) → AllStand p h (if b then in_flight_to p m h else in_flight_to p m h ++ (suc m) ∷ [])
    by_place true e i = i
    by_place false e i = one_stands p h (in_flight_to p m h) (suc m) i e

not_appended : (ns : List ℕ) (n : ℕ) → ns ++ n ∷ [] ≡ [] → ⊥
not_appended [] n e = grind arith
not_appended (m ∷ ns) n e = grind arith

none_to : (p : Plan) (m n : ℕ) (h : List Entry) → in_flight_to p m h ≡ [] → 1 ≤ n → n ≤ m → is_absent (place_of p n h) ≡ true
none_to p zero n h e a b = absurd (omega (arith, a, b))
none_to p (suc m) n h e a b = by_place (λ f c. none_to p m n h f a c) (is_absent (place_of p (suc m) h)) refl e
  where
    by_number : (in_flight_to p m h ≡ [] → n ≤ m → is_absent (place_of p n h) ≡ true) → (d : Bool) → (n == suc m) ≡ d → in_flight_to p m h ≡ [] → is_absent (place_of p (suc m) h) ≡ true → is_absent (place_of p n h) ≡ true
    by_number f true q i g = subst (λ z. is_absent (place_of p z h) ≡ true) (same q) g
      where
        same : (n == suc m) ≡ true → suc m ≡ n
        same q = grind (arith, nat_tests)
    by_number f false q i g = f i (below q)
      where
        below : (n == suc m) ≡ false → n ≤ m
        below q = grind (arith, nat_tests)

    by_place : (in_flight_to p m h ≡ [] → n ≤ m → is_absent (place_of p n h) ≡ true) → (d : Bool) → is_absent (place_of p (suc m) h) ≡ d → (if d then in_flight_to p m h else in_flight_to p m h ++ (suc m) ∷ []) ≡ [] → is_absent (place_of p n h) ≡ true
    by_place f true g i = by_number f (n == suc m) refl i g
    by_place f false g i = absurd (not_appended (in_flight_to p m h) (suc m) i)

-- where no function is in flight, each is absent
pub none_stands : (p : Plan) (n : ℕ) (h : List Entry) → IsHistory p h → in_flight p h ≡ [] → is_absent (place_of p n h) ≡ true
none_stands p n h l e = by_place (is_absent (place_of p n h)) refl
  where
    by_place : (b : Bool) → is_absent (place_of p n h) ≡ b → b ≡ true
    by_place true f = refl
    by_place false f = let a = place_bound p n h l f in f2 (none_to p (starts_of h) n h e a.0 a.1) f
      where
        f2 : is_absent (place_of p n h) ≡ true → is_absent (place_of p n h) ≡ false → false ≡ true
        f2 x y = sym y ∙ x

pub none_to_stand : (p : Plan) (m : ℕ) (h : List Entry) → ((n : ℕ) → is_absent (place_of p n h) ≡ true) → in_flight_to p m h ≡ []
none_to_stand p zero h f = refl
none_to_stand p (suc m) h f = subst (λ b. (if b then in_flight_to p m h else in_flight_to p m h ++ (suc m) ∷ []) ≡ []) (sym (f (suc m))) (none_to_stand p m h f)

-- The next event. --------------------------------------------------------------------------------------

either_event : (p : Plan) (h : List Entry) (v : Event) (o q : Option Event) → ((w : Event) → o ≡ Some w → Chooses p h w) → (o ≡ None → (w : Event) → q ≡ Some w → Chooses p h w) → or_else o q ≡ Some v → Chooses p h v
either_event p h v None q f g e = g refl v e
either_event p h v (Some w) q f g e = subst (Chooses p h) (same_Some w v e) (f w refl)

steps_first : (p : Plan) (h : List Entry) (ns : List ℕ) (v : Event) → AllStand p h ns → step_of_first ns ≡ Some v → Chooses p h v
steps_first p h [] v i e = absurd (none-some v e)
steps_first p h (n ∷ ns) v i e = subst (Chooses p h) (same_Some (event.Step n) v e) (Steps n i.0)

tells_first : (p : Plan) (h : List Entry) (o : Option ℕ) (v : Event) → in_flight p h ≡ [] → watch_head h ≡ o → tell_where o ≡ Some v → Chooses p h v
tells_first p h None v i q e = absurd (none-some v e)
tells_first p h (Some w) v i q e = subst (Chooses p h) (same_Some event.Watch v e) (Tells w i q)

leads_first : (p : Plan) (h : List Entry) (o : Option ℕ) (v : Event) → in_flight p h ≡ [] → leader_head h ≡ o → lead_where o ≡ Some v → Chooses p h v
leads_first p h None v i q e = absurd (none-some v e)
leads_first p h (Some t) v i q e = subst (Chooses p h) (same_Some event.Leader v e) (Leads t i q)

delivers_one : (p : Plan) (h : List Entry) (c : ℕ) (o : Option ℕ) (v : Event) → in_flight p h ≡ [] → session_head c h ≡ o → deliver_where c o ≡ Some v → Chooses p h v
delivers_one p h c None v i q e = absurd (none-some v e)
delivers_one p h c (Some k) v i q e = subst (Chooses p h) (same_Some (event.Deliver c) v e) (Delivers c k i q)

delivers_first : (p : Plan) (h : List Entry) (xs : List (List Ask)) (c : ℕ) (v : Event) → in_flight p h ≡ [] → deliver_first xs c h ≡ Some v → Chooses p h v
delivers_first p h [] c v i e = absurd (none-some v e)
delivers_first p h (x ∷ xs) c v i e = either_event p h v (deliver_where c (session_head c h)) (deliver_first xs (suc c) h) (λ w f. delivers_one p h c (session_head c h) w i refl f) (λ _ w f. delivers_first p h xs (suc c) w i f) e

turns_first : (p : Plan) (h : List Entry) (xs : List (List Ask)) (c : ℕ) (v : Event) → in_flight p h ≡ [] → watch_head h ≡ None → leader_head h ≡ None → client_first p xs c h ≡ Some v → Chooses p h v
turns_first p h [] c v i a b e = absurd (none-some v e)
turns_first p h (x ∷ xs) c v i a b e = by_idle (λ f. turns_first p h xs (suc c) v i a b f) (is_idle (client_op p c h)) refl e
  where
    by_idle : (client_first p xs (suc c) h ≡ Some v → Chooses p h v) → (d : Bool) → is_idle (client_op p c h) ≡ d → (if d then client_first p xs (suc c) h else Some (event.Client c)) ≡ Some v → Chooses p h v
    by_idle f true g w = f w
    by_idle f false g w = subst (Chooses p h) (same_Some (event.Client c) v w) (Turns c i a b g)

pub drain_chooses : (p : Plan) (h : List Entry) (v : Event) → next_of_drain p h ≡ Some v → Chooses p h v
drain_chooses p h v e =
    either_event p h v (step_of_first (in_flight p h)) (or_else (tell_where (watch_head h)) (or_else (lead_where (leader_head h)) (or_else (deliver_first p.asks 1 h) (client_first p p.asks 1 h))))
    (λ w f. steps_first p h (in_flight p h) w (all_stand p (starts_of h) h) f)
    (λ a w f. lanes (no_step (in_flight p h) a) w f) e
  where
    clients : in_flight p h ≡ [] → watch_head h ≡ None → leader_head h ≡ None → (w : Event) → or_else (deliver_first p.asks 1 h) (client_first p p.asks 1 h) ≡ Some w → Chooses p h w
    clients i a b w f = either_event p h w (deliver_first p.asks 1 h) (client_first p p.asks 1 h) (λ u g. delivers_first p h p.asks 1 u i g) (λ _ u g. turns_first p h p.asks 1 u i a b g) f

    pushes : in_flight p h ≡ [] → watch_head h ≡ None → (w : Event) → or_else (lead_where (leader_head h)) (or_else (deliver_first p.asks 1 h) (client_first p p.asks 1 h)) ≡ Some w → Chooses p h w
    pushes i a w f = either_event p h w (lead_where (leader_head h)) (or_else (deliver_first p.asks 1 h) (client_first p p.asks 1 h)) (λ u g. leads_first p h (leader_head h) u i refl g) (λ b u g. clients i a (no_push (leader_head h) b) u g) f

    lanes : in_flight p h ≡ [] → (w : Event) → or_else (tell_where (watch_head h)) (or_else (lead_where (leader_head h)) (or_else (deliver_first p.asks 1 h) (client_first p p.asks 1 h))) ≡ Some w → Chooses p h w
    lanes i w f = either_event p h w (tell_where (watch_head h)) (or_else (lead_where (leader_head h)) (or_else (deliver_first p.asks 1 h) (client_first p p.asks 1 h))) (λ u g. tells_first p h (watch_head h) u i refl g) (λ a u g. pushes i (no_note (watch_head h) a) u g) f

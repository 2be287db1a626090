-- Each event of a drain lowers a rank.
use Rattle.std.specs.Prelude.{◌==◌, ◌-◌, if◌then◌else◌}
use Rattle.std.proofs.Common.{◌≡◌, ℕ, ◌+◌, ◌≤◌, inl, Bool, true, false, List, [], ◌∷◌, length, refl, sym, ◌∙◌, ap, subst, arith, Option, Some, None}
use Rattle.std.proofs.lemmas.Bool.Decides.{nat_tests}
use Rattle.std.proofs.lemmas.Option.{none-some}
use Rattle.fk_print.specs.declared.entry.Entry.{Entry}
use Rattle.fk_print.specs.declared.event.Event.{Event}
use Rattle.fk_print.specs.declared.event.Event.TheVariants as event
use Rattle.fk_print.specs.declared.op.Op.{Op}
use Rattle.fk_print.specs.declared.op.Op.TheVariants as op
use Rattle.fk_spec.specs.Plan.{Plan, asks_in, is_client}
use Rattle.fk_spec.specs.Start as start
use Rattle.fk_spec.specs.Start.{Follows, Notifies, Task, count_start, or_else, pushes_of, starts_of}
use Rattle.fk_spec.specs.Lanes.{follows_session, head_among, leads, note_count, notes_of, notifies, removed_by}
use Rattle.fk_spec.specs.Follower.{begin}
use Rattle.fk_spec.specs.Leader as leader
use Rattle.fk_spec.specs.Teller.{Note, note_in, note_of}
use Rattle.fk_spec.specs.Watches.{swept_by}
use Rattle.fk_spec.specs.Client.{client_in}
use Rattle.fk_spec.specs.Function.{Place, Absent, Following, Leading, in_flight, place_of, placed, telling}
use Rattle.fk_spec.specs.Next.{IsHistory, names_client}
use Rattle.fk_law.specs.Due.{IsDue}
use Rattle.fk_law.proofs.Due.{client_operations_say, due}
use Rattle.fk_law_reply.specs.Plans.{HasFittingVerbs}
use Rattle.fk_law_drain.specs.Draining.{IsCalm, WorksOnTheHead}
use Rattle.fk_law_drain.specs.Falling.{DrainFalls, IsLower, client_sum, client_weight, commands_left, rank, requests_left}
use Rattle.fk_law_drain.proofs.Choosing.{Chooses, Delivers, Leads, Steps, Tells, Turns, drain_chooses, none_stands}
use Rattle.fk_law_drain.proofs.ClientsFall.{BeginsMore, HasLess, NoSend, TurnFalls, other_client, turn_falls, weight_other}
use Rattle.fk_law_drain.proofs.Draining.{absent_is, IsIdleOp, StartsIt, client_acts, drains_are_calm, follower_starts, leader_starts, op_at, started_place, steps_on, teller_starts, turns_own, unmoved}
use Rattle.fk_law_drain.proofs.Stepping.{not_removed, same_starts}
use Rattle.fk_law_drain.proofs.Summing.{sum_falls, sum_same}
use Rattle.fk_law.specs.Operations.{IsTurnOf}
use Rattle.fk_law.proofs.Operating.{client_turn}
use Rattle.fk_law_drain.proofs.StepsFall.{ByClients, ByCommands, ByFollower, ByLeader, ByTeller, Falls, NoNote, NoPush, falls, in_range, not_noted, not_pushed, parts, same_commands, same_requests, starts_no_client, step_falls, whole}

-- Starts. ----------------------------------------------------------------------------------------------

start_sends_none : (o : Op) (n : ℕ) (t : Task) → StartsIt o n t → NoSend o
start_sends_none (op.Send d i k) n t s = absurd (none-some _ s.started)
start_sends_none (op.Evict m k) n t s = absurd (none-some _ s.started)
start_sends_none o n t s = tt

start_pushes_none : (o : Op) (n : ℕ) (t : Task) → StartsIt o n t → NoPush o
start_pushes_none (op.Push m k) n t s = absurd (none-some _ s.started)
start_pushes_none o n t s = tt

start_notes_none : (o : Op) (n : ℕ) (t : Task) → StartsIt o n t → NoNote o
start_notes_none (op.Notify m k w) n t s = absurd (none-some _ s.started)
start_notes_none o n t s = tt

record Same (p : Plan) (e : Entry) (h : List Entry) : Type 0 where
  pub commands : client_sum (commands_left p (e ∷ h)) p.asks 1 ≡ client_sum (commands_left p h) p.asks 1
  pub requests : client_sum (requests_left (e ∷ h)) p.asks 1 ≡ client_sum (requests_left h) p.asks 1
  pub pushes : pushes_of (e ∷ h) - removed_by leads (e ∷ h) ≡ pushes_of h - removed_by leads h
  pub notes : notes_of (e ∷ h) - removed_by notifies (e ∷ h) ≡ notes_of h - removed_by notifies h

start_same : (p : Plan) (n : ℕ) (t : Task) (e : Entry) (h : List Entry) → StartsIt e.op n t → Same p e h
start_same p n t e h s = record {
  commands = same_commands p e h (starts_no_client e.op (record { function = n; task = t }) s.started);
  requests = same_requests p e h (start_sends_none e.op n t s) (λ c. not_removed (follows_session c) h e.op (removed_by (follows_session c) h) s.acks);
  pushes = ap (λ z. z - removed_by leads (e ∷ h)) (not_pushed e.op (pushes_of h) (start_pushes_none e.op n t s)) ∙ ap (λ z. pushes_of h - z) (not_removed leads h e.op (removed_by leads h) s.acks);
  notes = ap (λ z. z - removed_by notifies (e ∷ h)) (not_noted e.op (notes_of h) (start_notes_none e.op n t s)) ∙ ap (λ z. notes_of h - z) (not_removed notifies h e.op (removed_by notifies h) s.acks);
}

-- each note up to their count is there
note_there : (p : Plan) (w : ℕ) (h : List Entry) → IsHistory p h → 1 ≤ w → w ≤ notes_of h → (x : Note) × (note_of p w h ≡ Some x)
note_there p w [] l a b = absurd (omega (arith, a, b))
note_there p w (e ∷ h) l a b = by_op (λ c. note_there p w h l.0 a c) e.op refl (due p e h l) b
  where
    old : (o : Option Note) → (x : Note) × (note_of p w h ≡ Some x) → (x : Note) × (or_else o (note_of p w h) ≡ Some x)
    old None x = x
    old (Some y) x = (y, refl)

    now : (n t k : ℕ) → (d : Bool) → (k == w) ≡ d → k ≡ notes_of h + 1 → w ≤ notes_of h + 1 → (w ≤ notes_of h → (x : Note) × (note_of p w h ≡ Some x)) → (x : Note) × (or_else (if d then Some (record { tx = t; fired = (swept_by p n h).fired }) else None) (note_of p w h) ≡ Some x)
    now n t k true f g c i = (record { tx = t; fired = (swept_by p n h).fired }, refl)
    now n t k false f g c i = i (below f g c)
      where
        below : (k == w) ≡ false → k ≡ notes_of h + 1 → w ≤ notes_of h + 1 → w ≤ notes_of h
        below f g c = grind (arith, nat_tests)

    by_op : (w ≤ notes_of h → (x : Note) × (note_of p w h ≡ Some x)) → (o : Op) → e.op ≡ o → IsDue p h o → w ≤ notes_of (e ∷ h) → (x : Note) × (note_of p w (e ∷ h) ≡ Some x)
    by_op i (op.Notify n t k) q d b = subst (λ o. (x : Note) × (or_else (note_in p w h o) (note_of p w h) ≡ Some x)) (sym q) (now n t k (k == w) refl d.1 (subst (λ o. w ≤ note_count o (notes_of h)) q b) i)
    by_op i o q d b = subst (λ o. (x : Note) × (or_else (note_in p w h o) (note_of p w h) ≡ Some x)) (sym q) (old (note_in p w h o) (i (subst (λ o. w ≤ note_count o (notes_of h)) q b)))

head_given : (given removed k : ℕ) → head_among given removed ≡ Some k → (1 ≤ k) × (k ≤ given)
head_given given removed k e = (grind (arith, nat_tests), grind (arith, nat_tests))

deliver_falls : (p : Plan) (c k : ℕ) (e : Entry) (h : List Entry) → Same p e h → Falls (parts p (e ∷ h) (Following (begin c k))) (parts p h Absent)
deliver_falls p c k e h s = ByFollower s.commands s.requests (inl (omega arith))

lead_falls : (p : Plan) (t : ℕ) (e : Entry) (h : List Entry) → Same p e h → Falls (parts p (e ∷ h) (Leading t leader.Commit)) (parts p h Absent)
lead_falls p t e h s = ByLeader s.commands s.requests refl s.pushes (inl (omega arith))

tell_falls : (p : Plan) (w : ℕ) (e : Entry) (h : List Entry) (x : Note) → Same p e h → Falls (parts p (e ∷ h) (telling w (Some x))) (parts p h Absent)
tell_falls p w e h x s = ByTeller s.commands s.requests refl s.pushes refl s.notes (inl (omega arith))

-- Turns. -----------------------------------------------------------------------------------------------

turn_pushes_none : (c : ℕ) (o : Op) → client_in o ≡ Some c → NoPush o
turn_pushes_none c (op.Push n t) q = absurd (none-some c q)
turn_pushes_none c o q = tt

turn_notes_none : (c : ℕ) (o : Op) → client_in o ≡ Some c → NoNote o
turn_notes_none c (op.Notify n t w) q = absurd (none-some c q)
turn_notes_none c o q = tt

turned : (p : Plan) (c : ℕ) (e : Entry) (h : List Entry) → is_client p c ≡ true → client_in e.op ≡ Some c → TurnFalls p c e h → Falls (parts p (e ∷ h) Absent) (parts p h Absent)
turned p c e h r q (BeginsMore a b) = let s = in_range p c r in ByCommands (sum_falls (commands_left p (e ∷ h)) (commands_left p h) p.asks 1 c s.0 s.1 (λ d. most d (c == d) refl) (omega (arith, a, b)))
  where
    most : (d : ℕ) (x : Bool) → (c == d) ≡ x → commands_left p (e ∷ h) d ≤ commands_left p h d
    most d true f = subst (λ z. commands_left p (e ∷ h) z ≤ commands_left p h z) (same f) (omega (arith, b))
      where
        same : (c == d) ≡ true → c ≡ d
        same f = grind (arith, nat_tests)
    most d false f = let y = ap (λ z. z.begun) (other_client p d c e h q f) in omega (arith, y)
turned p c e h r q (HasLess k b w) = ByClients (sum_same (commands_left p (e ∷ h)) (commands_left p h) p.asks 1 (λ d. even d (c == d) refl)) (same_requests p e h k (λ d. not_removed (follows_session d) h e.op (removed_by (follows_session d) h) i.acks)) refl pushes refl notes refl (let s = in_range p c r in sum_falls (client_weight p (e ∷ h)) (client_weight p h) p.asks 1 c s.0 s.1 (λ d. most d (c == d) refl) w)
  where
    i : IsIdleOp e.op
    i = client_acts e.op c q

    same : (d : ℕ) → (c == d) ≡ true → c ≡ d
    same d f = grind (arith, nat_tests)

    even : (d : ℕ) (x : Bool) → (c == d) ≡ x → commands_left p (e ∷ h) d ≡ commands_left p h d
    even d true f = subst (λ z. commands_left p (e ∷ h) z ≡ commands_left p h z) (same d f) (ap (λ z. length (asks_in p c) - z) b)
    even d false f = ap (λ z. length (asks_in p d) - z.begun) (other_client p d c e h q f)

    most : (d : ℕ) (x : Bool) → (c == d) ≡ x → client_weight p (e ∷ h) d ≤ client_weight p h d
    most d true f = subst (λ z. client_weight p (e ∷ h) z ≤ client_weight p h z) (same d f) (omega (arith, w))
    most d false f = weight_other p d c e h q f

    pushes : pushes_of (e ∷ h) - removed_by leads (e ∷ h) ≡ pushes_of h - removed_by leads h
    pushes = ap (λ z. z - removed_by leads (e ∷ h)) (not_pushed e.op (pushes_of h) (turn_pushes_none c e.op q)) ∙ ap (λ z. pushes_of h - z) (not_removed leads h e.op (removed_by leads h) i.acks)

    notes : notes_of (e ∷ h) - removed_by notifies (e ∷ h) ≡ notes_of h - removed_by notifies h
    notes = ap (λ z. z - removed_by notifies (e ∷ h)) (not_noted e.op (notes_of h) (turn_notes_none c e.op q)) ∙ ap (λ z. notes_of h - z) (not_removed notifies h e.op (removed_by notifies h) i.acks)

-- The law. ---------------------------------------------------------------------------------------------

-- the rank, given the function that may be in flight and where it stands
lower_rank : (p : Plan) (n m : ℕ) (x y : Place) (e : Entry) (h : List Entry) → starts_of (e ∷ h) ≡ n → place_of p n (e ∷ h) ≡ x → starts_of h ≡ m → place_of p m h ≡ y → Falls (parts p (e ∷ h) x) (parts p h y) → IsLower (rank p (e ∷ h)) (rank p h)
lower_rank p n m x y e h a b c d f =
    subst (λ z. IsLower (whole (parts p (e ∷ h) z)) (rank p h)) (sym (ap (λ z. place_of p z (e ∷ h)) a ∙ b))
    (subst (λ z. IsLower (whole (parts p (e ∷ h) x)) (whole (parts p h z))) (sym (ap (λ z. place_of p z h) c ∙ d)) (falls (parts p (e ∷ h) x) (parts p h y) f))

none_is : (p : Plan) (n : ℕ) (h : List Entry) → IsHistory p h → in_flight p h ≡ [] → place_of p n h ≡ Absent
none_is p n h l a = absent_is (place_of p n h) (none_stands p n h l a)

begins_lower : (p : Plan) (t : Task) (e : Entry) (h : List Entry) (x : Place) → IsHistory p (e ∷ h) → in_flight p h ≡ [] → StartsIt e.op (starts_of h + 1) t → placed p h t ≡ x → Falls (parts p (e ∷ h) x) (parts p h Absent) → IsLower (rank p (e ∷ h)) (rank p h)
begins_lower p t e h x l a s q f = lower_rank p (starts_of h + 1) (starts_of h) x Absent e h (ap (λ z. count_start z (starts_of h)) s.started) (started_place p (starts_of h + 1) t e h s ∙ q) refl (none_is p (starts_of h) h l.0 a) f

chosen_falls : (p : Plan) (e : Entry) (h : List Entry) (v : Event) → HasFittingVerbs p → IsHistory p (e ∷ h) → IsCalm p (starts_of h) h → e.event ≡ v → Chooses p h v → IsLower (rank p (e ∷ h)) (rank p h)
chosen_falls p e h _ v l i q (Steps n a) =
    let g = steps_on p n e h l i q a in
    let m = i.one n a in
    lower_rank p n n (place_of p n (e ∷ h)) (place_of p n h) e h (same_starts p n e h g.1 ∙ sym m) refl (sym m) refl (step_falls p n e h l a g (subst (λ z. WorksOnTheHead h (place_of p z h)) (sym m) i.works))
chosen_falls p e h _ v l i q (Delivers c k a b) = let s = follower_starts p c k e h l q b in begins_lower p (Follows c k) e h (Following (begin c k)) l a s refl (deliver_falls p c k e h (start_same p (starts_of h + 1) (Follows c k) e h s))
chosen_falls p e h _ v l i q (Leads t a b) = let s = leader_starts p t e h l q b in begins_lower p (start.Leads t) e h (Leading t leader.Commit) l a s refl (lead_falls p t e h (start_same p (starts_of h + 1) (start.Leads t) e h s))
chosen_falls p e h _ v l i q (Tells w a b) =
    let s = teller_starts p w e h l q b in
    let g = head_given (notes_of h) (removed_by notifies h) w b in
    let x = note_there p w h l.0 g.0 g.1 in
    begins_lower p (Notifies w) e h (telling w (Some x.0)) l a s (ap (telling w) x.1) (tell_falls p w e h x.0 (start_same p (starts_of h + 1) (Notifies w) e h s))
chosen_falls p e h _ v l i q (Turns c a b d f) = by_turn (turned p c e h (subst (λ z. names_client p z ≡ true) q l.1.1) own (turn_falls p c e h e.op v l d b refl own turn (due p e h l) (client_operations_say p c e h l own)))
  where
    own : client_in e.op ≡ Some c
    own = turns_own p c e h l q f

    turn : IsTurnOf c e.op
    turn = subst (IsTurnOf c) (sym (op_at p e h (event.Client c) l q)) (client_turn p c h)

    o : IsIdleOp e.op
    o = client_acts e.op c own

    by_turn : Falls (parts p (e ∷ h) Absent) (parts p h Absent) → IsLower (rank p (e ∷ h)) (rank p h)
    by_turn k = lower_rank p (starts_of h) (starts_of h) Absent Absent e h (ap (λ z. count_start z (starts_of h)) o.starts) (unmoved p (starts_of h) e h o ∙ none_is p (starts_of h) h l.0 a) refl (none_is p (starts_of h) h l.0 a) k

pub drain_falls : DrainFalls
drain_falls p h x v l d e = chosen_falls p x h x.event v l (drains_are_calm p h l.0 d) refl (drain_chooses p h x.event e)

-- What is computed of a schedule is what a schedule is.
use Rattle.std.specs.Prelude.{if◌then◌else◌}
use Rattle.std.proofs.Common.{◌≡◌, Bool, true, false, List, [], ◌∷◌, ◌++◌, refl, sym, ◌∙◌, ap, subst, arith, Option, Some, None}
use Rattle.std.proofs.lemmas.Option.{none-some, same_Some}
use Rattle.std.proofs.lemmas.Bool.{false≢true}
use Rattle.std.proofs.lemmas.Bool.Decides.{nat_tests}
use Rattle.std.proofs.lemmas.List.{append_assoc}
use Rattle.fk_print.specs.declared.entry.Entry.{Entry}
use Rattle.fk_print.specs.declared.event.Event.{Event}
use Rattle.fk_print.specs.declared.event.Event.TheVariants as event
use Rattle.fk_script.specs.declared.deployment.Turn.{Turn}
use Rattle.fk_script.specs.declared.deployment.Turn.TheVariants as turn
use Rattle.fk_spec.specs.Plan.{Plan, plan_of}
use Rattle.fk_spec.specs.Schedule.{drain_begin, next_of_drain, Drains, Emptied, Empties, Goes, Plays, TakesTurn, TakesTurns}
use Rattle.fk_law_schedule.specs.Computed.{drains_on, empties_on, goes_on, none_left, onto, plays_on, same_event, stops_here, then_cut, turn_on, turns_on, Cut, ScheduleIsComputed}
use Rattle.fk_base.proofs.Logic.{itself}

-- Events. ------------------------------------------------------------------------------------------

pub same_is_equal : (a b : Event) → same_event a b ≡ true → a ≡ b
same_is_equal a b e = grind (arith, nat_tests)

event_itself : (a : Event) → same_event a a ≡ true
event_itself (event.Client c) = itself c
event_itself (event.Deliver c) = itself c
event_itself event.Leader = refl
event_itself event.Watch = refl
event_itself (event.Beat c) = itself c
event_itself (event.Step n) = itself n
event_itself (event.Crash n) = itself n
event_itself (event.Fail n) = itself n
event_itself (event.FailClient c) = itself c
event_itself (event.Clock t) = itself t

pub equal_is_same : (a b : Event) → a ≡ b → same_event a b ≡ true
equal_is_same a b e = subst (λ x. same_event a x ≡ true) e (event_itself a)

-- Cuts. --------------------------------------------------------------------------------------------

-- what is left of a history that was cut before
abbrev IsCutOf : List Entry → List Entry → Cut → Type 0
IsCutOf h rest c = onto h rest ≡ onto c.past c.rest

-- What is computed is so. --------------------------------------------------------------------------

plays_so : (es : List Event) (h rest : List Entry) (c : Cut) → plays_on es h rest ≡ Some c → Plays es h c.past × IsCutOf h rest c
plays_so [] h rest c e = (ap (λ x. x.past) (same_Some (record { past = h; rest = rest }) c e), ap (λ x. onto x.past x.rest) (same_Some (record { past = h; rest = rest }) c e))
plays_so (v ∷ es) h [] c e = absurd (none-some c e)
plays_so (v ∷ es) h (x ∷ rest) c e = by_test (plays_so es (x ∷ h) rest c) (same_event x.event v) refl e
  where
    by_test : (plays_on es (x ∷ h) rest ≡ Some c → Plays es (x ∷ h) c.past × IsCutOf (x ∷ h) rest c) → (b : Bool) → same_event x.event v ≡ b → (if b then plays_on es (x ∷ h) rest else None) ≡ Some c → Plays (v ∷ es) h c.past × IsCutOf h (x ∷ rest) c
    by_test i false s f = absurd (none-some c f)
    by_test i true s f = let r = i f in ((x, same_is_equal x.event v s, r.0), r.1)

stops_so : (p : Plan) (h : List Entry) (c : Cut) (o : Option Event) → next_of_drain p h ≡ o → stops_here o (Some (record { past = h; rest = [] })) ≡ Some c → Empties p h c.past × IsCutOf h [] c
stops_so p h c (Some v) n e = absurd (none-some c e)
stops_so p h c None n e = subst (λ x. Empties p h x.past × IsCutOf h [] x) (same_Some (record { past = h; rest = [] }) c e) (Emptied h n, refl)

empties_so : (p : Plan) (h rest : List Entry) (c : Cut) → empties_on p h rest ≡ Some c → Empties p h c.past × IsCutOf h rest c
empties_so p h [] c e = stops_so p h c (next_of_drain p h) refl e
empties_so p h (x ∷ rest) c e = by_next (empties_so p (x ∷ h) rest c) (next_of_drain p h) refl e
  where
    by_test : (empties_on p (x ∷ h) rest ≡ Some c → Empties p (x ∷ h) c.past × IsCutOf (x ∷ h) rest c) → (v : Event) → next_of_drain p h ≡ Some v → (b : Bool) → same_event x.event v ≡ b → (if b then empties_on p (x ∷ h) rest else None) ≡ Some c → Empties p h c.past × IsCutOf h (x ∷ rest) c
    by_test i v n false s g = absurd (none-some c g)
    by_test i v n true s g = let r = i g in (Goes h c.past x (n ∙ ap (λ y. Some y) (sym (same_is_equal x.event v s))) r.0, r.1)

    by_next : (empties_on p (x ∷ h) rest ≡ Some c → Empties p (x ∷ h) c.past × IsCutOf (x ∷ h) rest c) → (o : Option Event) → next_of_drain p h ≡ o → goes_on o x.event (Some (record { past = h; rest = x ∷ rest })) (empties_on p (x ∷ h) rest) ≡ Some c → Empties p h c.past × IsCutOf h (x ∷ rest) c
    by_next i None n f = subst (λ y. Empties p h y.past × IsCutOf h (x ∷ rest) y) (same_Some (record { past = h; rest = x ∷ rest }) c f) (Emptied h n, refl)
    by_next i (Some v) n f = by_test i v n (same_event x.event v) refl f

-- one after the other
record IsBoth (o : Option Cut) (f : List Entry → List Entry → Option Cut) (c : Cut) : Type 0 where
  pub middle : Cut
  pub first : o ≡ Some middle
  pub second : f middle.past middle.rest ≡ Some c

both : (o : Option Cut) (f : List Entry → List Entry → Option Cut) (c : Cut) → then_cut o f ≡ Some c → IsBoth o f c
both None f c e = absurd (none-some c e)
both (Some m) f c e = record { middle = m; first = refl; second = e }

drains_so : (p : Plan) (h rest : List Entry) (c : Cut) → drains_on p h rest ≡ Some c → Drains p h c.past × IsCutOf h rest c
drains_so p h rest c e =
    let b = both (plays_on (drain_begin p h) h rest) (empties_on p) c e in
    let r = plays_so (drain_begin p h) h rest b.middle b.first in
    let s = empties_so p b.middle.past b.middle.rest c b.second in
    (record { begun = b.middle.past; begins = r.0; empties = s.0 }, r.1 ∙ s.1)

turn_so : (p : Plan) (t : Turn) (h rest : List Entry) (c : Cut) → turn_on p t h rest ≡ Some c → TakesTurn p t h c.past × IsCutOf h rest c
turn_so p (turn.One v) h rest c e = plays_so (v ∷ []) h rest c e
turn_so p turn.Drain h rest c e = drains_so p h rest c e

turns_so : (p : Plan) (ts : List Turn) (h rest : List Entry) (c : Cut) → turns_on p ts h rest ≡ Some c → TakesTurns p ts h c.past × IsCutOf h rest c
turns_so p [] h rest c e = drains_so p h rest c e
turns_so p (t ∷ ts) h rest c e =
    let b = both (turn_on p t h rest) (turns_on p ts) c e in
    let r = turn_so p t h rest b.middle b.first in
    let s = turns_so p ts b.middle.past b.middle.rest c b.second in
    ((b.middle.past, r.0, s.0), r.1 ∙ s.1)

-- What is so is computed. --------------------------------------------------------------------------

-- these entries lead from h to k, and `f` finds them
record Leads (f : List Entry → List Entry → Option Cut) (h k : List Entry) : Type 0 where
  pub fresh : List Entry
  pub reached : k ≡ onto h fresh
  pub found : (rest : List Entry) → f h (fresh ++ rest) ≡ Some (record { past = k; rest = rest })

plays_found : (es : List Event) (h k : List Entry) → Plays es h k → Leads (plays_on es) h k
plays_found [] h k e = record { fresh = []; reached = sym e; found = λ rest. ap (λ x. Some (record { past = x; rest = rest })) e }
plays_found (v ∷ es) h k (x, e, r) =
    let s = plays_found es (x ∷ h) k r in
    record { fresh = x ∷ s.fresh; reached = s.reached; found = λ rest. rw (equal_is_same x.event v e) (s.found rest) }

empties_found : (p : Plan) (h k : List Entry) → Empties p h k → Leads (empties_on p) h k
empties_found p h _ (Emptied _ e) = record { fresh = []; reached = refl; found = found }
  where
    found : (rest : List Entry) → empties_on p h rest ≡ Some (record { past = h; rest = rest })
    found [] = rw e refl
    found (x ∷ rest) = rw e refl
empties_found p h k (Goes _ _ x e r) =
    let s = empties_found p (x ∷ h) k r in
    record { fresh = x ∷ s.fresh; reached = s.reached; found = λ rest. rw (e, event_itself x.event) (s.found rest) }

then_found : (f g : List Entry → List Entry → Option Cut) (h m k : List Entry) → Leads f h m → Leads g m k → Leads (λ a b. then_cut (f a b) g) h k
then_found f g h m k r s = record {
  fresh = r.fresh ++ s.fresh;
  reached = s.reached ∙ ap (λ x. onto x s.fresh) r.reached ∙ sym (onto_append h r.fresh s.fresh);
  found = λ rest. rw (append_assoc r.fresh s.fresh rest, r.found (s.fresh ++ rest)) (s.found rest);
}
  where
    onto_append : (h xs ys : List Entry) → onto h (xs ++ ys) ≡ onto (onto h xs) ys
    onto_append h [] ys = refl
    onto_append h (x ∷ xs) ys = onto_append (x ∷ h) xs ys

drains_found : (p : Plan) (h k : List Entry) → Drains p h k → Leads (drains_on p) h k
drains_found p h k r =
    let s = then_found (plays_on (drain_begin p h)) (empties_on p) h r.begun k (plays_found (drain_begin p h) h r.begun r.begins) (empties_found p r.begun k r.empties) in
    record { fresh = s.fresh; reached = s.reached; found = s.found }

turn_found : (p : Plan) (t : Turn) (h k : List Entry) → TakesTurn p t h k → Leads (turn_on p t) h k
turn_found p (turn.One v) h k r = plays_found (v ∷ []) h k r
turn_found p turn.Drain h k r = drains_found p h k r

turns_found : (p : Plan) (ts : List Turn) (h k : List Entry) → TakesTurns p ts h k → Leads (turns_on p ts) h k
turns_found p [] h k r = drains_found p h k r
turns_found p (t ∷ ts) h k (m, r, s) = then_found (turn_on p t) (turns_on p ts) h m k (turn_found p t h m r) (turns_found p ts m k s)

-- Both. --------------------------------------------------------------------------------------------

turned : (h xs : List Entry) → onto [] (onto h xs) ≡ onto xs h
turned h [] = refl
turned h (x ∷ xs) = turned (x ∷ h) xs

record IsWhole (o : Option Cut) : Type 0 where
  pub past : List Entry
  pub all : o ≡ Some (record { past = past; rest = [] })

whole : (o : Option Cut) → none_left o ≡ true → IsWhole o
whole None e = absurd (false≢true e)
whole (Some c) e = by_rest c.rest refl e
  where
    by_rest : (xs : List Entry) → c.rest ≡ xs → none_left (Some (record { past = c.past; rest = xs })) ≡ true → IsWhole (Some c)
    by_rest [] f g = record { past = c.past; all = ap (λ x. Some (record { past = c.past; rest = x })) f }
    by_rest (x ∷ xs) f g = absurd (false≢true g)

append_none : (xs : List Entry) → xs ++ [] ≡ xs
append_none [] = refl
append_none (x ∷ xs) = ap (λ ys. x ∷ ys) (append_none xs)

pub schedule_is_computed : ScheduleIsComputed
schedule_is_computed d h = (so, found)
  where
    so : none_left (turns_on (plan_of d) d.turns [] (onto [] h)) ≡ true → TakesTurns (plan_of d) d.turns [] h
    so e =
        let w = whole (turns_on (plan_of d) d.turns [] (onto [] h)) e in
        let r = turns_so (plan_of d) d.turns [] (onto [] h) (record { past = w.past; rest = [] }) w.all in
        subst (λ x. TakesTurns (plan_of d) d.turns [] x) (sym r.1 ∙ turned [] h) r.0

    found : TakesTurns (plan_of d) d.turns [] h → none_left (turns_on (plan_of d) d.turns [] (onto [] h)) ≡ true
    found r =
        let s = turns_found (plan_of d) d.turns [] h r in
        let e : onto [] h ≡ s.fresh ++ [] = ap (onto []) s.reached ∙ turned [] s.fresh ∙ sym (append_none s.fresh) in
        rw (e, s.found []) refl

-- The watches that a watch function tells have fired at its push, and are of clients.
use Rattle.std.specs.Prelude.{◌==◌, is_some}
use Rattle.std.proofs.Common.{◌≡◌, ℕ, ◌++◌, Bool, true, false, cond, List, [], ◌∷◌, refl, sym, ◌∙◌, ap, subst, arith, Option, Some, None}
use Rattle.std.proofs.lemmas.Bool.{false≢true}
use Rattle.std.proofs.lemmas.Bool.Decides.{nat_tests}
use Rattle.std.proofs.lemmas.Option.{same_Some}
use Rattle.fk_tree.specs.Watch.{first_taken}
use Rattle.fk_tree.specs.declared.change.Change.{Change}
use Rattle.fk_tree.specs.declared.change.Touch.{Touch}
use Rattle.fk_print.specs.declared.entry.Entry.{Entry}
use Rattle.fk_print.specs.declared.op.Op.{Op}
use Rattle.fk_print.specs.declared.op.Op.TheVariants as op
use Rattle.fk_spec.specs.Plan.{Plan, Ask, Reads, Want, asked, is_client}
use Rattle.fk_spec.specs.Start.{or_else}
use Rattle.fk_spec.specs.Function.{Telling, place_of}
use Rattle.fk_spec.specs.Teller.{Note, Stage, next_teller, note_of, to_tell}
use Rattle.fk_spec.specs.Teller as teller
use Rattle.fk_spec.specs.Watches.{Firing, Watch, firing_in, firing_of, firing_with, firings, has_id, kept_unless, not_fired, set_after, set_watches, touches_of_push, watch_asked, watch_wanted, with_watch}
use Rattle.fk_spec.specs.Next.{IsHistory}
use Rattle.fk_spec.specs.WatchNumbers.{watch_with}
use Rattle.fk_law.proofs.Clients.{none_asked}
use Rattle.fk_law_watch.specs.Noting.{fired_at, fired_at_in}
use Rattle.fk_law_watch.proofs.Handing.{note_tells_what_its_push_fired}
use Rattle.fk_law_watch.proofs.Listing.{fired_of}
use Rattle.fk_law_watch.proofs.Noting.{OnTeller, fired_of_a_push, teller_step}
use Rattle.fk_law_watch.proofs.SetWatches.{firing_never_changes, watches_unique}
use Rattle.fk_agree.proofs.Firing.{FireOnce, firings_once}
use Rattle.fk_base.proofs.Logic.{by_test}

-- What a note tells has fired. --------------------------------------------------------------------------

-- each of these watches has fired at push t
abbrev pub AllFired : Plan → List Entry → ℕ → List Firing → Type 0
AllFired p h t [] = Unit {0}
AllFired p h t (f ∷ fs) = ((firing_of p f.watch.id h ≡ Some f) × (f.tx ≡ t)) × AllFired p h t fs

abbrev pub StageFired : Plan → List Entry → ℕ → Stage → Type 0
StageFired p h t (teller.Tell f fs) = AllFired p h t (f ∷ fs)
StageFired p h t _ = Unit {0}

fired_more : (p : Plan) (e : Entry) (h : List Entry) (t : ℕ) (fs : List Firing) → IsHistory p (e ∷ h) → AllFired p h t fs → AllFired p (e ∷ h) t fs
fired_more p e h t [] l i = tt
fired_more p e h t (f ∷ fs) l i = ((firing_never_changes p f.watch.id h (e ∷ []) f l i.0.0, i.0.1), fired_more p e h t fs l i.1)

own_firing : (f : Firing) (fs : List Firing) → firing_with f.watch.id (f ∷ fs) ≡ Some f
own_firing f fs = by_test (f.watch.id == f.watch.id) (λ b. cond b (Some f) (firing_with f.watch.id fs) ≡ Some f) (λ _. refl) (λ e. absurd (grind (arith, nat_tests)))

later_firing : (id : ℕ) (f g : Firing) (fs : List Firing) → firing_with f.watch.id fs ≡ None → firing_with id fs ≡ Some g → firing_with id (f ∷ fs) ≡ Some g
later_firing id f g fs u e = one (f.watch.id == id) refl
  where
    some_none : Some g ≡ None → ⊥
    some_none a = grind arith

    same : (f.watch.id == id) ≡ true → f.watch.id ≡ id
    same a = grind (arith, nat_tests)

    one : (b : Bool) → (f.watch.id == id) ≡ b → cond b (Some f) (firing_with id fs) ≡ Some g
    one true a = absurd (some_none (sym e ∙ subst (λ x. firing_with x fs ≡ None) (same a) u))
    one false a = e

all_of : (p : Plan) (h : List Entry) (t : ℕ) (fs : List Firing) → FireOnce fs → ((id : ℕ) (f : Firing) → firing_with id fs ≡ Some f → (firing_of p id h ≡ Some f) × (f.tx ≡ t)) → AllFired p h t fs
all_of p h t [] u k = tt
all_of p h t (f ∷ fs) u k = (k f.watch.id f (own_firing f fs), all_of p h t fs u.1 (λ id g e. k id g (later_firing id f g fs u.0 e)))

at_once_step : (p : Plan) (t : ℕ) (h : List Entry) (o : Op) → IsHistory p h → FireOnce (fired_at p t h) → FireOnce (fired_at_in p t h o (fired_at p t h))
at_once_step p t h (op.SweepOk n s k) l i = by_test (s == t) (λ b. FireOnce (cond b (firings s (touches_of_push p s h) (set_watches p h)) (fired_at p t h))) (λ _. firings_once s (touches_of_push p s h) (set_watches p h) (watches_unique p h l)) (λ _. i)
at_once_step p t h o l i = i

at_once : (p : Plan) (t : ℕ) (h : List Entry) → IsHistory p h → FireOnce (fired_at p t h)
at_once p t [] l = tt
at_once p t (e ∷ h) l = at_once_step p t h e.op l.0 (at_once p t h l.0)

pub note_all : (p : Plan) (w : ℕ) (h : List Entry) (x : Note) → IsHistory p h → note_of p w h ≡ Some x → AllFired p h x.tx x.fired
note_all p w h x l e = subst (AllFired p h x.tx) (sym (note_tells_what_its_push_fired p w h x l e).all) (all_of p h x.tx (fired_at p x.tx h) (at_once p x.tx h l) (λ id f a. fired_of_a_push p id x.tx h f l a))

first_fired : (p : Plan) (h : List Entry) (t : ℕ) (fs : List Firing) → AllFired p h t fs → StageFired p h t (to_tell fs)
first_fired p h t [] i = tt
first_fired p h t (f ∷ fs) i = i

next_fired : (p : Plan) (h : List Entry) (t : ℕ) (o : Op) (s : Stage) → StageFired p h t s → StageFired p h t (next_teller o s)
next_fired p h t (op.Tell n c id) (teller.Tell f fs) i = first_fired p h t fs i.1
next_fired p h t (op.Tell n c id) teller.Told i = tt
next_fired p h t (op.Tell n c id) teller.Ack i = tt
next_fired p h t (op.Tell n c id) teller.Ended i = tt
next_fired p h t (op.Told n u) s i = tt
next_fired p h t o s i = tt

stage_more : (p : Plan) (e : Entry) (h : List Entry) (t : ℕ) (s : Stage) → IsHistory p (e ∷ h) → StageFired p h t s → StageFired p (e ∷ h) t s
stage_more p e h t (teller.Tell f fs) l i = fired_more p e h t (f ∷ fs) l i
stage_more p e h t teller.Told l i = tt
stage_more p e h t teller.Ack l i = tt
stage_more p e h t teller.Ended l i = tt

teller_fired : (p : Plan) (n : ℕ) (h : List Entry) → IsHistory p h → OnTeller (λ w t s. StageFired p h t s) (place_of p n h)
teller_fired p n [] l = tt
teller_fired p n (e ∷ h) l =
    let i = teller_fired p n h l.0 in
    teller_step p n h e.op (place_of p n h) (λ w t s. StageFired p (e ∷ h) t s)
    (λ w t s b. stage_more p e h t s l (subst (OnTeller (λ w t s. StageFired p h t s)) b i))
    (λ w y b. stage_more p e h y.tx (to_tell y.fired) l (first_fired p h y.tx y.fired (note_all p w h y l.0 b)))
    (λ w t s b a. next_fired p (e ∷ h) t e.op s (stage_more p e h t s l (subst (OnTeller (λ w t s. StageFired p h t s)) b i)))

pub fired_where_it_stands : (p : Plan) (n w t : ℕ) (s : Stage) (h : List Entry) → IsHistory p h → place_of p n h ≡ Telling w t s → StageFired p h t s
fired_where_it_stands p n w t s h l b = subst (OnTeller (λ w t s. StageFired p h t s)) b (teller_fired p n h l)

-- Watches are of clients. -------------------------------------------------------------------------------

abbrev AreOfClients : Plan → List Watch → Type 0
AreOfClients p [] = Unit {0}
AreOfClients p (w ∷ ws) = (is_client p w.session ≡ true) × AreOfClients p ws

wanted_by : (id c : ℕ) (a : Want) (w : Watch) → watch_wanted id c a ≡ Some w → w.session ≡ c
wanted_by id c (Reads q b) w e = sym (ap (λ x. x.session) (same_Some _ w e))
wanted_by id c a w e = absurd (grind arith)

asked_by : (id c : ℕ) (a : Option Ask) (w : Watch) → watch_asked id c a ≡ Some w → (w.session ≡ c) × (is_some a ≡ true)
asked_by id c None w e = absurd (grind arith)
asked_by id c (Some a) w e = (wanted_by id c a.want w e, refl)

-- who asks is a client
asker : (p : Plan) (id c i : ℕ) (w : Watch) → watch_asked id c (asked p c i) ≡ Some w → is_client p w.session ≡ true
asker p id c i w e =
    let r = asked_by id c (asked p c i) w e in
    by_test (is_client p c) (λ b. is_client p c ≡ b → is_client p w.session ≡ true) (λ _ f. ap (is_client p) r.0 ∙ f) (λ _ f. absurd (false≢true (sym (ap is_some (none_asked p c i f)) ∙ r.1))) refl

append_clients : (p : Plan) (ws : List Watch) (w : Watch) → AreOfClients p ws → is_client p w.session ≡ true → AreOfClients p (ws ++ w ∷ [])
append_clients p [] w i c = (c, tt)
append_clients p (v ∷ ws) w i c = (i.0, append_clients p ws w i.1 c)

with_clients : (p : Plan) (o : Option Watch) (ws : List Watch) → AreOfClients p ws → ((w : Watch) → o ≡ Some w → is_client p w.session ≡ true) → AreOfClients p (with_watch o ws)
with_clients p None ws i c = i
with_clients p (Some w) ws i c = by_test (has_id w.id ws) (λ b. AreOfClients p (cond b ws (ws ++ w ∷ []))) (λ _. i) (λ _. append_clients p ws w i (c w refl))

kept_clients : (p : Plan) (o : Option Change) (w : Watch) (ws : List Watch) → is_client p w.session ≡ true → AreOfClients p ws → AreOfClients p (kept_unless o w ws)
kept_clients p None w ws c i = (c, i)
kept_clients p (Some x) w ws c i = i

unfired_clients : (p : Plan) (ts : List Touch) (ws : List Watch) → AreOfClients p ws → AreOfClients p (not_fired ts ws)
unfired_clients p ts [] i = tt
unfired_clients p ts (w ∷ ws) i = kept_clients p (first_taken w.path w.kind ts) w (not_fired ts ws) i.0 (unfired_clients p ts ws i.1)

set_clients_step : (p : Plan) (h : List Entry) (o : Op) → AreOfClients p (set_watches p h) → AreOfClients p (set_after p h o (set_watches p h))
set_clients_step p h (op.WatchSet c i id) a = with_clients p (watch_asked id c (asked p c i)) (set_watches p h) a (λ w e. asker p id c i w e)
set_clients_step p h (op.SweepOk n t k) a = unfired_clients p (touches_of_push p t h) (set_watches p h) a
set_clients_step p h o a = a

set_clients : (p : Plan) (h : List Entry) → AreOfClients p (set_watches p h)
set_clients p [] = tt
set_clients p (e ∷ h) = set_clients_step p h e.op (set_clients p h)

client_with : (p : Plan) (id : ℕ) (ws : List Watch) (w : Watch) → AreOfClients p ws → watch_with id ws ≡ Some w → is_client p w.session ≡ true
client_with p id [] w i e = absurd (grind arith)
client_with p id (v ∷ ws) w i e = one (v.id == id) e (client_with p id ws w i.1)
  where
    one : (b : Bool) → cond b (Some v) (watch_with id ws) ≡ Some w → (watch_with id ws ≡ Some w → is_client p w.session ≡ true) → is_client p w.session ≡ true
    one true f k = subst (λ x. is_client p x.session ≡ true) (same_Some v w f) i.0
    one false f k = k f

client_step : (p : Plan) (id : ℕ) (h : List Entry) (o : Op) (f : Firing) → IsHistory p h → (firing_of p id h ≡ Some f → is_client p f.watch.session ≡ true) → or_else (firing_in p id h o) (firing_of p id h) ≡ Some f → is_client p f.watch.session ≡ true
client_step p id h (op.SweepOk n t k) f l i e = by_new (firing_with id (firings t (touches_of_push p t h) (set_watches p h))) refl e
  where
    by_new : (o : Option Firing) → firing_with id (firings t (touches_of_push p t h) (set_watches p h)) ≡ o → or_else o (firing_of p id h) ≡ Some f → is_client p f.watch.session ≡ true
    by_new None a b = i b
    by_new (Some g) a b = client_with p id (set_watches p h) f.watch (set_clients p h) (fired_of id t (touches_of_push p t h) (set_watches p h) f (watches_unique p h l) (a ∙ b)).0
client_step p id h o f l i e = i e

-- a watch that fired is of a client
pub fired_of_client : (p : Plan) (id : ℕ) (h : List Entry) (f : Firing) → IsHistory p h → firing_of p id h ≡ Some f → is_client p f.watch.session ≡ true
fired_of_client p id [] f l e = absurd (grind arith)
fired_of_client p id (x ∷ h) f l e = client_step p id h x.op f l.0 (fired_of_client p id h f l.0) e

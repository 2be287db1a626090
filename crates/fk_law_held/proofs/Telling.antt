-- A watch function tells the client of a watch that it has fired.
use Rattle.std.specs.Prelude.{◌==◌}
use Rattle.std.proofs.Common.{◌≡◌, ℕ, if◌then◌else◌, Bool, true, false, List, [], ◌∷◌, refl, sym, ◌∙◌, subst, Option, Some, None}
use Rattle.std.proofs.lemmas.Option.{none-some}
use Rattle.std.proofs.lemmas.Bool.{eqb-true}
use Rattle.fk_tree.specs.Watch.{first_taken}
use Rattle.fk_tree.specs.declared.change.Change.{Change}
use Rattle.fk_tree.specs.declared.change.Touch.{Touch}
use Rattle.fk_print.specs.declared.entry.Entry.{Entry}
use Rattle.fk_print.specs.declared.op.Op.{Op}
use Rattle.fk_print.specs.declared.op.Op.TheVariants as op
use Rattle.fk_spec.specs.Plan.{Plan}
use Rattle.fk_spec.specs.Start.{Task, Follows, Leads, Notifies, Probes, or_else}
use Rattle.fk_spec.specs.Watches.{Firing, Watch, fired_as, firing_in, firing_of, firing_with, firings, has_id, set_watches, touches_of_push}
use Rattle.fk_spec.specs.Teller.{Note, after_tell, next_teller, note_of, to_tell}
use Rattle.fk_spec.specs.Teller as teller
use Rattle.fk_spec.specs.Heartbeat as heartbeat
use Rattle.fk_spec.specs.Heartbeat.{next_beat}
use Rattle.fk_spec.specs.Function.{Place, Absent, Following, Leading, Telling, Beating, beat_on, moved, place_of, placed, tell_on, telling}
use Rattle.fk_spec.specs.Next.{IsHistory}
use Rattle.fk_law.specs.Due.{Tells}
use Rattle.fk_law.proofs.Moving.{moved_follower, moved_leader, place_step}
use Rattle.fk_law_watch.specs.Noting.{fired_at, fired_at_in}
use Rattle.fk_law_watch.proofs.Handing.{note_tells_what_its_push_fired}
use Rattle.fk_law_watch.proofs.Listing.{AreUnique, fires_none}
use Rattle.fk_law_watch.proofs.SetWatches.{firing_never_changes, or_stays, watches_unique}
use Rattle.fk_law_held.specs.Announced.{ToldWatchIsOfItsClient}
use Rattle.fk_base.proofs.Logic.{itself}

-- Firings by their numbers. ----------------------------------------------------------------------------

-- each of these is found by its number
abbrev AllWith : List Firing → List Firing → Type 0
AllWith whole [] = Unit {0}
AllWith whole (f ∷ fs) = (firing_with f.watch.id whole ≡ Some f) × AllWith whole fs

more_with : (x : Firing) (whole fs : List Firing) → ((f : Firing) → firing_with f.watch.id whole ≡ Some f → (x.watch.id == f.watch.id) ≡ false) → AllWith whole fs → AllWith (x ∷ whole) fs
more_with x whole [] n i = tt
more_with x whole (f ∷ fs) n i = (rw (n f i.0) i.0, more_with x whole fs n i.1)

firings_with : (t : ℕ) (ts : List Touch) (ws : List Watch) → AreUnique ws → AllWith (firings t ts ws) (firings t ts ws)
firings_with t ts [] u = tt
firings_with t ts (w ∷ ws) u = by_change (first_taken w.path w.kind ts) (firings_with t ts ws u.1)
  where
    apart : (f : Firing) → firing_with f.watch.id (firings t ts ws) ≡ Some f → (w.id == f.watch.id) ≡ false
    apart f q = by_eq (w.id == f.watch.id) refl
      where
        by_eq : (b : Bool) → (w.id == f.watch.id) ≡ b → b ≡ false
        by_eq true g = absurd (none-some f (sym (fires_none f.watch.id t ts ws (subst (λ z. has_id z ws ≡ false) (eqb-true w.id f.watch.id g) u.0)) ∙ q))
        by_eq false g = refl

    by_change : (o : Option Change) → AllWith (firings t ts ws) (firings t ts ws) → AllWith (fired_as t w o (firings t ts ws)) (fired_as t w o (firings t ts ws))
    by_change None i = i
    by_change (Some x) i = (rw (itself w.id) refl, more_with (record { watch = w; tx = t; change = x }) (firings t ts ws) (firings t ts ws) apart i)

-- each of these is how its watch fired
abbrev AllFire : Plan → List Entry → List Firing → Type 0
AllFire p h [] = Unit {0}
AllFire p h (f ∷ fs) = (firing_of p f.watch.id h ≡ Some f) × AllFire p h fs

fire_stays : (p : Plan) (e : Entry) (h : List Entry) (fs : List Firing) → IsHistory p (e ∷ h) → AllFire p h fs → AllFire p (e ∷ h) fs
fire_stays p e h [] l i = tt
fire_stays p e h (f ∷ fs) l i = (firing_never_changes p f.watch.id h (e ∷ []) f l i.0, fire_stays p e h fs l i.1)

fire_now : (p : Plan) (n t k : ℕ) (e : Entry) (h : List Entry) (fs : List Firing) → e.op ≡ op.SweepOk n t k → AllWith (firings t (touches_of_push p t h) (set_watches p h)) fs → AllFire p (e ∷ h) fs
fire_now p n t k e h [] q i = tt
fire_now p n t k e h (f ∷ fs) q i = (subst (λ o. or_else (firing_in p f.watch.id h o) (firing_of p f.watch.id h) ≡ Some f) (sym q) (or_stays (firing_with f.watch.id (firings t (touches_of_push p t h) (set_watches p h))) (firing_of p f.watch.id h) f i.0), fire_now p n t k e h fs q i.1)

fired_step : (p : Plan) (t : ℕ) (e : Entry) (h : List Entry) (o : Op) → e.op ≡ o → IsHistory p (e ∷ h) → AllFire p (e ∷ h) (fired_at p t h) → AllFire p (e ∷ h) (fired_at_in p t h o (fired_at p t h))
fired_step p t e h (op.SweepOk n u k) q l i = by_push (u == t) refl
  where
    by_push : (b : Bool) → (u == t) ≡ b → AllFire p (e ∷ h) (if b then firings u (touches_of_push p u h) (set_watches p h) else fired_at p t h)
    by_push true g = fire_now p n u k e h (firings u (touches_of_push p u h) (set_watches p h)) q (firings_with u (touches_of_push p u h) (set_watches p h) (watches_unique p h l.0))
    by_push false g = i
fired_step p t e h o q l i = i

fired_fire : (p : Plan) (t : ℕ) (h : List Entry) → IsHistory p h → AllFire p h (fired_at p t h)
fired_fire p t [] l = tt
fired_fire p t (e ∷ h) l = fired_step p t e h e.op refl l (fire_stays p e h (fired_at p t h) l (fired_fire p t h l.0))

-- What a watch function has in hand. -------------------------------------------------------------------

abbrev HasFirings : Plan → List Entry → Place → Type 0
HasFirings p h (Telling w t (teller.Tell f fs)) = AllFire p h (f ∷ fs)
HasFirings p h _ = Unit {0}

to_tell_has : (p : Plan) (h : List Entry) (w t : ℕ) (fs : List Firing) → AllFire p h fs → HasFirings p h (Telling w t (to_tell fs))
to_tell_has p h w t [] i = tt
to_tell_has p h w t (f ∷ fs) i = i

has_stays : (p : Plan) (e : Entry) (h : List Entry) (x : Place) → IsHistory p (e ∷ h) → HasFirings p h x → HasFirings p (e ∷ h) x
has_stays p e h (Telling w t (teller.Tell f fs)) l i = fire_stays p e h (f ∷ fs) l i
has_stays p e h (Telling w t teller.Told) l i = tt
has_stays p e h (Telling w t teller.Ack) l i = tt
has_stays p e h (Telling w t teller.Ended) l i = tt
has_stays p e h Absent l i = tt
has_stays p e h (Following f) l i = tt
has_stays p e h (Leading t s) l i = tt
has_stays p e h (Beating c s) l i = tt

telling_has : (p : Plan) (e : Entry) (h : List Entry) (w : ℕ) (o : Option Note) → IsHistory p (e ∷ h) → note_of p w h ≡ o → HasFirings p (e ∷ h) (telling w o)
telling_has p e h w None l q = tt
telling_has p e h w (Some x) l q = has_stays p e h (Telling w x.tx (to_tell x.fired)) l (to_tell_has p h w x.tx x.fired (subst (AllFire p h) (sym (note_tells_what_its_push_fired p w h x l.0 q).all) (fired_fire p x.tx h l.0)))

placed_has : (p : Plan) (e : Entry) (h : List Entry) (t : Task) → IsHistory p (e ∷ h) → HasFirings p (e ∷ h) (placed p h t)
placed_has p e h (Follows c k) l = tt
placed_has p e h (Leads t) l = tt
placed_has p e h (Notifies w) l = telling_has p e h w (note_of p w h) l refl
placed_has p e h (Probes c) l = tt

tell_has : (p : Plan) (h : List Entry) (w t : ℕ) (s : teller.Stage) → HasFirings p h (Telling w t s) → HasFirings p h (tell_on w t s)
tell_has p h w t (teller.Tell f fs) i = i
tell_has p h w t teller.Told i = tt
tell_has p h w t teller.Ack i = tt
tell_has p h w t teller.Ended i = tt

after_has : (p : Plan) (h : List Entry) (w t : ℕ) (s : teller.Stage) → HasFirings p h (Telling w t s) → HasFirings p h (Telling w t (after_tell s))
after_has p h w t (teller.Tell f fs) i = to_tell_has p h w t fs i.1
after_has p h w t teller.Told i = tt
after_has p h w t teller.Ack i = tt
after_has p h w t teller.Ended i = tt

next_has : (p : Plan) (h : List Entry) (w t : ℕ) (o : Op) (s : teller.Stage) → HasFirings p h (Telling w t s) → HasFirings p h (Telling w t (next_teller o s))
next_has p h w t (op.Tell n c id) s i = after_has p h w t s i
next_has p h w t (op.Told n u) s i = tt
next_has p h w t o s i = tt

beat_has : (p : Plan) (h : List Entry) (c : ℕ) (s : heartbeat.Stage) → HasFirings p h (beat_on c s)
beat_has p h c heartbeat.Ended = tt
beat_has p h c s = tt

moved_has : (p : Plan) (e : Entry) (h : List Entry) (x : Place) → HasFirings p (e ∷ h) x → HasFirings p (e ∷ h) (moved p h e.op x)
moved_has p e h Absent i = tt
moved_has p e h (Following f) i = moved_follower p h e.op f (HasFirings p (e ∷ h)) tt (λ g a. tt)
moved_has p e h (Leading t s) i = moved_leader p h e.op t s (HasFirings p (e ∷ h)) tt tt
moved_has p e h (Telling w t s) i = tell_has p (e ∷ h) w t (next_teller e.op s) (next_has p (e ∷ h) w t e.op s i)
moved_has p e h (Beating c s) i = beat_has p (e ∷ h) c (next_beat e.op)

has_firings : (p : Plan) (n : ℕ) (h : List Entry) → IsHistory p h → HasFirings p h (place_of p n h)
has_firings p n [] l = tt
has_firings p n (e ∷ h) l =
    let i = has_stays p e h (place_of p n h) l (has_firings p n h l.0) in
    place_step p n h e.op (place_of p n h) (HasFirings p (e ∷ h)) (λ _. i) (λ s _ _. placed_has p e h s.task l) (λ _. moved_has p e h (place_of p n h) i)

told_of : (p : Plan) (c id : ℕ) (h : List Entry) (x : Place) → Tells c id x → HasFirings p h x → (f : Firing) × (firing_of p id h ≡ Some f) × (f.watch.session ≡ c)
told_of p c id h (Telling w t (teller.Tell f fs)) d i = (f, subst (λ z. firing_of p z h ≡ Some f) d.1 i.0, d.0)
told_of p c id h (Telling w t teller.Told) d i = absurd d
told_of p c id h (Telling w t teller.Ack) d i = absurd d
told_of p c id h (Telling w t teller.Ended) d i = absurd d
told_of p c id h Absent d i = absurd d
told_of p c id h (Following f) d i = absurd d
told_of p c id h (Leading t s) d i = absurd d
told_of p c id h (Beating b s) d i = absurd d

pub told_watch_is_of_its_client : ToldWatchIsOfItsClient
told_watch_is_of_its_client p n c id h l d = told_of p c id h (place_of p n h) d (has_firings p n h l)

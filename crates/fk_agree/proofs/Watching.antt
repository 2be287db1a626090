-- The table of watches at its start, where nothing changes it, after a registration, a sweep and a telling.
use Rattle.std.specs.Prelude.{◌==◌, max, option_map, is_some}
use Rattle.std.proofs.Common.{◌≡◌, ℕ, ◌+◌, ◌≤◌, ◌<◌, inl, inr, Bool, true, false, cond, List, [], ◌∷◌, ◌++◌, refl, sym, ◌∙◌, ap, subst, arith, Option, Some, None}
use Rattle.std.proofs.lemmas.Bool.{false≢true}
use Rattle.std.proofs.lemmas.Bool.Decides.{nat_tests}
use Rattle.std.proofs.lemmas.Option.{same_Some}
use Rattle.fk_base.specs.Path.{PathNames}
use Rattle.fk_tree.specs.Watch.{has_touch}
use Rattle.fk_print.specs.declared.entry.Entry.{Entry}
use Rattle.fk_print.specs.declared.event.Event.{Event}
use Rattle.fk_print.specs.declared.line.Line.{Line}
use Rattle.fk_print.specs.declared.op.Op.{Op}
use Rattle.fk_print.specs.declared.op.Op.TheVariants as op
use Rattle.fk_watch.specs.Meaning.{Watches}
use Rattle.fk_watch.specs.Registering as registering
use Rattle.fk_watch.specs.Registering.{registered}
use Rattle.fk_watch.specs.Sweeping as table
use Rattle.fk_watch.specs.Sweeping.{swept_for, told_for, unless}
use Rattle.fk_watch.specs.declared.watch.Watch as kept
use Rattle.fk_stand.specs.Stores.{firing_as, watch_as, watches_after}
use Rattle.fk_spec.specs.Plan.{Plan, asked}
use Rattle.fk_spec.specs.Start.{or_else}
use Rattle.fk_spec.specs.Settling.{swept_in, swept_of}
use Rattle.fk_spec.specs.Watches.{Watch, fired_watches, firing_with, firings, given_of, has_id, last_sweep, not_fired, set_after, set_watches, sweep_of_path, touches_of_push, watch_asked}
use Rattle.fk_spec.specs.Next.{IsHistory}
use Rattle.fk_spec.specs.WatchNumbers.{watch_with}
use Rattle.fk_law.specs.Due.{IsDue}
use Rattle.fk_law.proofs.Due.{due}
use Rattle.fk_law_watch.specs.Registering.{IsRegistration, Registers}
use Rattle.fk_law_watch.proofs.Listing.{append_with, has_is}
use Rattle.fk_law_watch.proofs.Registering.{watches_are_registered}
use Rattle.fk_law_watch.proofs.SetWatches.{IsNewWatch, or_none, set_cases, set_or_fired_were_given, watches_unique}
use Rattle.fk_agree.specs.Watched.{LeavesWatches, NewWatchesStand, RegistrationIsWritten, SweepIsWritten, ToldIsWritten, WatchesStay}
use Rattle.fk_agree.proofs.Firing.{fired_as_before, fired_once, fires_as, fires_no_more, firing_append, stays_as, told_with}
use Rattle.fk_base.proofs.Logic.{by_test}

-- At the start, and where nothing changes it. -----------------------------------------------------------

pub new_watches_stand : NewWatchesStand
new_watches_stand p = refl

stays : (p : Plan) (faults : ℕ) (v : Event) (o : Op) (ls : List Line) (h : List Entry) → LeavesWatches o → watches_after p (record { event = v; op = o; lines = ls } ∷ h) faults ≡ watches_after p h faults
stays p faults v (op.WatchSet c i id) ls h k = absurd k
stays p faults v (op.SweepOk n t fired) ls h k = absurd k
stays p faults v (op.Told n t) ls h k = absurd k
stays p faults v o ls h k = refl

pub watches_stay : WatchesStay
watches_stay p faults e h k = stays p faults e.event e.op e.lines h k

-- A sweep. ----------------------------------------------------------------------------------------------

last_step : (p : Plan) (path : PathNames) (h : List Entry) (o : Op) → last_sweep p path h ≤ swept_of h → sweep_of_path p path h o (last_sweep p path h) ≤ swept_in o (swept_of h)
last_step p path h (op.SweepOk n t k) i = by_test (has_touch path (touches_of_push p t h)) (λ b. cond b (max t (last_sweep p path h)) (last_sweep p path h) ≤ max t (swept_of h)) (λ _. omega (arith, i)) (λ _. omega (arith, i))
last_step p path h o i = i

-- no path was swept beyond the last sweep
last_at_most_swept : (p : Plan) (path : PathNames) (h : List Entry) → last_sweep p path h ≤ swept_of h
last_at_most_swept p path [] = omega arith
last_at_most_swept p path (e ∷ h) = last_step p path h e.op (last_at_most_swept p path h)

abbrev sweeping : Event → List Line → ℕ → ℕ → ℕ → List Entry → List Entry
sweeping v ls n t k h = record { event = v; op = op.SweepOk n t k; lines = ls } ∷ h

beyond : (t m : ℕ) → m < t → t ≡ max t m
beyond t m b = omega (arith, b)

swept_last : (p : Plan) (t : ℕ) (path : PathNames) (h : List Entry) → swept_of h < t → cond (has_touch path (touches_of_push p t h)) t (last_sweep p path h) ≡ cond (has_touch path (touches_of_push p t h)) (max t (last_sweep p path h)) (last_sweep p path h)
swept_last p t path h b =
    let a = last_at_most_swept p path h in
    ap (λ m. cond (has_touch path (touches_of_push p t h)) m (last_sweep p path h)) (beyond t (last_sweep p path h) (omega (arith, a, b)))

swept_set : (p : Plan) (t id : ℕ) (h : List Entry) → IsHistory p h → (swept_for t (touches_of_push p t h) (watches_after p h 0)).set id ≡ option_map watch_as (watch_with id (not_fired (touches_of_push p t h) (set_watches p h)))
swept_set p t id h l =
    let ts = touches_of_push p t h in
    let ws = set_watches p h in
    ap (λ f. unless f (option_map watch_as (watch_with id ws))) (fires_as id t ts ws (watches_unique p h l))
    ∙ stays_as id t ts ws (watches_unique p h l)

swept_fired : (p : Plan) (n t k id : ℕ) (h : List Entry) → IsHistory p h → IsDue p h (op.SweepOk n t k) → (swept_for t (touches_of_push p t h) (watches_after p h 0)).fired id ≡ option_map firing_as (firing_with id (fired_watches p h ++ firings t (touches_of_push p t h) (set_watches p h)))
swept_fired p n t k id h l d =
    let ts = touches_of_push p t h in
    let ws = set_watches p h in
    let fs = fired_watches p h in
    ap (λ f. table.or_else f (option_map firing_as (firing_with id fs))) (fires_as id t ts ws (watches_unique p h l))
    ∙ (fired_as_before (firing_with id (firings t ts ws)) (firing_with id fs) (fires_no_more p id n t k h l d) ∙ ap (option_map firing_as) (sym (firing_append id fs (firings t ts ws))))

swept_watches : (p : Plan) (v : Event) (ls : List Line) (n t k faults : ℕ) (h : List Entry) → IsHistory p h → IsDue p h (op.SweepOk n t k) → swept_for t (touches_of_push p t h) (watches_after p h faults) ≡ watches_after p (sweeping v ls n t k h) faults
swept_watches p v ls n t k faults h l d = λ j. record {
  given = given_of h;
  set = λ id. (swept_set p t id h l) j;
  fired = λ id. (swept_fired p n t k id h l d) j;
  swept = (beyond t (swept_of h) d.1) j;
  last = λ path. (swept_last p t path h d.1) j;
  armed = false;
  faults = faults;
}

pub sweep_is_written : SweepIsWritten
sweep_is_written p n t k faults e h l g =
    swept_watches p e.event e.lines n t k faults h l.0 (subst (IsDue p h) g (due p e h l))
    ∙ ap (λ o. watches_after p (record { event = e.event; op = o; lines = e.lines } ∷ h) faults) (sym g)

-- A telling. --------------------------------------------------------------------------------------------

abbrev telling : Event → List Line → ℕ → ℕ → List Entry → List Entry
telling v ls n t h = record { event = v; op = op.Told n t; lines = ls } ∷ h

told_watches : (p : Plan) (v : Event) (ls : List Line) (n t faults : ℕ) (h : List Entry) → IsHistory p h → told_for t (watches_after p h faults) ≡ watches_after p (telling v ls n t h) faults
told_watches p v ls n t faults h l = λ j. record {
  given = given_of h;
  set = (watches_after p h faults).set;
  fired = λ id. (told_with id t (fired_watches p h) (fired_once p h l)) j;
  swept = swept_of h;
  last = (watches_after p h faults).last;
  armed = false;
  faults = faults;
}

pub told_is_written : ToldIsWritten
told_is_written p n t faults e h l g = told_watches p e.event e.lines n t faults h l.0 ∙ ap (λ o. watches_after p (record { event = e.event; op = o; lines = e.lines } ∷ h) faults) (sym g)

-- A registration. ---------------------------------------------------------------------------------------

abbrev setting : Event → List Line → ℕ → ℕ → ℕ → List Entry → List Entry
setting v ls c i id h = record { event = v; op = op.WatchSet c i id; lines = ls } ∷ h

abbrev register : Bool → kept.Watch → ℕ → Watches → Watches
register b w id m = cond b m (registering.with_watch w id m)

-- a watch that is set keeps its number
old_watch : (p : Plan) (v : Event) (ls : List Line) (c i id faults : ℕ) (h : List Entry) (w : kept.Watch) → IsHistory p h → has_id id (set_watches p h) ≡ true → set_after p h (op.WatchSet c i id) (set_watches p h) ≡ set_watches p h → registered w id (watches_after p h faults) ≡ watches_after p (setting v ls c i id h) faults
old_watch p v ls c i id faults h w l a b = ap (λ x. register x w id (watches_after p h faults)) there ∙ same
  where
    is_there : (o : Option Watch) → is_some (option_map watch_as o) ≡ is_some o
    is_there None = refl
    is_there (Some x) = refl

    there : is_some (option_map watch_as (watch_with id (set_watches p h))) ≡ true
    there = is_there (watch_with id (set_watches p h)) ∙ (sym (has_is id (set_watches p h)) ∙ a)

    most : (m : ℕ) → id ≤ m → m ≡ max id m
    most m c = omega (arith, c)

    same : watches_after p h faults ≡ watches_after p (setting v ls c i id h) faults
    same = λ j. record {
      given = (most (given_of h) (set_or_fired_were_given p id h l (inl (sym (has_is id (set_watches p h)) ∙ a))).1) j;
      set = λ x. option_map watch_as (watch_with x ((sym b) j));
      fired = (watches_after p h faults).fired;
      swept = swept_of h;
      last = (watches_after p h faults).last;
      armed = false;
      faults = faults;
    }

-- one that isn't gets the next number
new_at : (p : Plan) (id x : ℕ) (h : List Entry) (w : Watch) (ws : List Watch) → w.id ≡ id → IsNewWatch p h w ws → cond (x == id) (Some (watch_as w)) (option_map watch_as (watch_with x (set_watches p h))) ≡ option_map watch_as (watch_with x ws)
new_at p id x h w ws m y =
    one (x == id) (w.id == x) refl refl
    ∙ ap (option_map watch_as) (sym (append_with x (set_watches p h) w) ∙ ap (watch_with x) (sym y.appended))
  where
    absent : x ≡ w.id → watch_with x (set_watches p h) ≡ None
    absent e = none (watch_with x (set_watches p h)) (sym (has_is x (set_watches p h)) ∙ (ap (λ z. has_id z (set_watches p h)) e ∙ y.absent))
      where
        none : (o : Option Watch) → is_some o ≡ false → o ≡ None
        none None f = refl
        none (Some v) f = absurd (false≢true (sym f))

    same : (x == id) ≡ true → x ≡ w.id
    same f = let g = m in grind (arith, nat_tests)

    clash : (b c : Bool) → (x == id) ≡ b → (w.id == x) ≡ c → b ≡ c
    clash b c f g = let k = m in grind (arith, nat_tests)

    one : (b c : Bool) → (x == id) ≡ b → (w.id == x) ≡ c → cond b (Some (watch_as w)) (option_map watch_as (watch_with x (set_watches p h))) ≡ option_map watch_as (or_else (watch_with x (set_watches p h)) (cond c (Some w) None))
    one true true f g = sym (ap (λ o. option_map watch_as (or_else o (Some w))) (absent (same f)))
    one true false f g = absurd (false≢true (sym (clash true false f g)))
    one false true f g = absurd (false≢true (clash false true f g))
    one false false f g = ap (option_map watch_as) (sym (or_none (watch_with x (set_watches p h))))

new_watch : (p : Plan) (v : Event) (ls : List Line) (c i id faults : ℕ) (h : List Entry) (w : Watch) → w.id ≡ id → IsNewWatch p h w (set_after p h (op.WatchSet c i id) (set_watches p h)) → registered (watch_as w) id (watches_after p h faults) ≡ watches_after p (setting v ls c i id h) faults
new_watch p v ls c i id faults h w m y = ap (λ x. register x (watch_as w) id (watches_after p h faults)) absent ∙ set
  where
    is_there : (o : Option Watch) → is_some (option_map watch_as o) ≡ is_some o
    is_there None = refl
    is_there (Some x) = refl

    absent : is_some (option_map watch_as (watch_with id (set_watches p h))) ≡ false
    absent = is_there (watch_with id (set_watches p h)) ∙ (sym (has_is id (set_watches p h)) ∙ (ap (λ x. has_id x (set_watches p h)) (sym m) ∙ y.absent))

    next : (j m : ℕ) → j ≡ m + 1 → j ≡ max j m
    next j m e = omega (arith, e)

    set : register false (watch_as w) id (watches_after p h faults) ≡ watches_after p (setting v ls c i id h) faults
    set = λ j. record {
      given = (next id (given_of h) (sym m ∙ y.next)) j;
      set = λ x. (new_at p id x h w (set_after p h (op.WatchSet c i id) (set_watches p h)) m y) j;
      fired = (watches_after p h faults).fired;
      swept = swept_of h;
      last = (watches_after p h faults).last;
      armed = false;
      faults = faults;
    }

set_watch : (p : Plan) (v : Event) (ls : List Line) (c i id faults : ℕ) (h : List Entry) (w : Watch) → IsHistory p h → IsRegistration p h c i id → watch_asked id c (asked p c i) ≡ Some w → registered (watch_as w) id (watches_after p h faults) ≡ watches_after p (setting v ls c i id h) faults
set_watch p v ls c i id faults h w l r e = subst (λ x. registered (watch_as x) id (watches_after p h faults) ≡ watches_after p (setting v ls c i id h) faults) (same_Some r.watch w (sym r.wanted ∙ e)) (elim (set_cases p h c i id r) [
  | inl x ↦ old_watch p v ls c i id faults h (watch_as r.watch) l x.0 x.1
  | inr y ↦ new_watch p v ls c i id faults h r.watch r.its_id y
])

pub registration_is_written : RegistrationIsWritten
registration_is_written p c i id faults e h w l g a =
    set_watch p e.event e.lines c i id faults h w l.0 (subst (Registers p h) g (watches_are_registered p e h l)) a
    ∙ ap (λ o. watches_after p (record { event = e.event; op = o; lines = e.lines } ∷ h) faults) (sym g)

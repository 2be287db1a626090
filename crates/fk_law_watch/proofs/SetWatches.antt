-- The watches that are set, and how they fire.
use Rattle.std.specs.Prelude.{◌==◌, ◌||◌, ◌&&◌, nat_le, if◌then◌else◌, is_some, max}
use Rattle.std.proofs.Common.{◌≡◌, ℕ, ◌+◌, ◌<◌, ◌≤◌, ◌++◌, ◌⊎◌, inl, inr, Bool, true, false, List, [], ◌∷◌, refl, sym, ◌∙◌, ap, subst, arith, Option, Some, None}
use Rattle.std.proofs.lemmas.Bool.{false≢true, false_from_ne_true, or_right}
use Rattle.std.proofs.lemmas.Bool.Decides.{nat_tests}
use Rattle.std.proofs.Math.Nat.{max-le}
use Rattle.std.proofs.lemmas.Option.{same_Some, none-some}
use Rattle.fk_base.specs.Path.{PathNames}
use Rattle.fk_tree.specs.Watch.{first_taken, has_touch}
use Rattle.fk_tree.specs.declared.change.Change.{Change}
use Rattle.fk_tree.specs.declared.change.Kind.{Kind}
use Rattle.fk_tree.specs.declared.change.Touch.{Touch}
use Rattle.fk_print.specs.declared.entry.Entry.{Entry}
use Rattle.fk_print.specs.declared.op.Op.{Op}
use Rattle.fk_print.specs.declared.op.Op.TheVariants as op
use Rattle.fk_spec.specs.Plan.{Plan}
use Rattle.fk_spec.specs.Start.{or_else, when}
use Rattle.fk_spec.specs.Settling.{is_committed, swept_of}
use Rattle.fk_spec.specs.Watches.{Watch, Firing, has_id, with_watch, set_after, set_watches, set_number, not_fired, firings, firing_with, firing_in, firing_of, given_of, given_in, touches_of_push}
use Rattle.fk_spec.specs.Sight.{number_or_next}
use Rattle.fk_spec.specs.Next.{IsHistory}
use Rattle.fk_spec.specs.WatchNumbers.{watch_with}
use Rattle.fk_law.specs.Due.{IsDue}
use Rattle.fk_law.specs.LeaderLane.{sweeps, is_swept}
use Rattle.fk_law.proofs.Due.{due}
use Rattle.fk_law.proofs.Leading.{swept_are_committed}
use Rattle.fk_law_watch.specs.Counts.{GivenAreBounded}
use Rattle.fk_law_watch.specs.Registering.{number_of_read, IsRegistration, Registers}
use Rattle.fk_law_watch.specs.SetWatches.{set_watch, registered_in, first_of, taken_of, IsOneOfTwo, WatchIsSetOrFired, SetOrFiredWereGiven, FiresOnce, FiringNeverChanges, SetWatchesDiffer, SawNoChange, SetWatchSawNoChange, FiredAtItsFirst, FiredWatchFiredAtItsFirstChange}
use Rattle.fk_law_watch.proofs.Listing.{AreUnique, AreApart, has_is, not_fired_has, not_fired_unique, append_unique, append_with, kept_watch, stays_set, fired_one, fires_none, fires_watch, IsFiredOf, fired_of, not_fired_apart, append_apart, set_number_has, same_differ}
use Rattle.fk_law_watch.proofs.Registering.{watches_are_registered}
use Rattle.fk_law_watch.proofs.Sweeps.{touches_stay, swept_committed, swept_was_committed, swept_most, last_most}

pub by_or : {C : Type 0} → (a b : Bool) → (a || b) ≡ true → (a ≡ true → C) → (b ≡ true → C) → C
by_or true b e f g = f refl
by_or false b e f g = g e

pub or_stays : {A : Type 0} → (o x : Option A) (n : A) → o ≡ Some n → or_else o x ≡ Some n
or_stays None x n e = absurd (grind arith)
or_stays (Some m) x n e = e

pub or_none : {A : Type 0} → (o : Option A) → or_else o None ≡ o
or_none None = refl
or_none (Some x) = refl

-- a new sweep is beyond the old ones
beyond_step : (p : Plan) (t s : ℕ) (h : List Entry) (o : Op) → IsDue p h o → s ≤ swept_of h → sweeps t o ≡ true → s < t
beyond_step p t s h o d a e = grind (arith, nat_tests)

pub new_sweep_beyond : (p : Plan) (t s : ℕ) (e : Entry) (h : List Entry) → IsHistory p (e ∷ h) → is_swept s h ≡ true → sweeps t e.op ≡ true → s < t
new_sweep_beyond p t s e h l a b = beyond_step p t s h e.op (due p e h l) (swept_most s h a) b

-- What a longer history keeps. ------------------------------------------------------------------------

saw_more : (p : Plan) (id : ℕ) (e : Entry) (h : List Entry) (w : Watch) → IsHistory p (e ∷ h) → SawNoChange p id h w → ((t : ℕ) → sweeps t e.op ≡ true → taken_of p w t h ≡ None) → SawNoChange p id (e ∷ h) w
saw_more p id e h w l i n = record {
  number = i.number;
  first = i.first;
  registered = or_stays (first_of p id h) (registered_in p id h e.op) i.first i.registered;
  none_since = λ t a b. ap (first_taken w.path w.kind) (touches_stay p t e h l (swept_was_committed p t e h l a)) ∙ by_or (sweeps t e.op) (is_swept t h) a (n t) (λ c. i.none_since t c b);
}

fired_more : (p : Plan) (id : ℕ) (e : Entry) (h : List Entry) (f : Firing) → IsHistory p (e ∷ h) → FiredAtItsFirst p id h f → FiredAtItsFirst p id (e ∷ h) f
fired_more p id e h f l i = record {
  number = i.number;
  swept = or_right (sweeps f.tx e.op) (is_swept f.tx h) i.swept;
  shows = ap (first_taken f.watch.path f.watch.kind) (touches_stay p f.tx e h l (swept_committed p f.tx h l.0 i.swept)) ∙ i.shows;
  first = i.first;
  registered = or_stays (first_of p id h) (registered_in p id h e.op) i.first i.registered;
  none_before = λ t a b c. ap (first_taken f.watch.path f.watch.kind) (touches_stay p t e h l (swept_was_committed p t e h l a)) ∙ by_or (sweeps t e.op) (is_swept t h) a (λ x. let y = new_sweep_beyond p t f.tx e h l i.swept x in absurd (omega (arith, y, c))) (λ x. i.none_before t x b c);
}

-- What holds of all watches. --------------------------------------------------------------------------

abbrev is_given : ℕ → ℕ → Bool
is_given id given = nat_le 1 id && nat_le id given

-- A number that was given is of a watch that is set or has fired, and was registered; no other is.
abbrev Status : Bool → Option Watch → Option Firing → Option ℕ → Type 0
Status false None None None = Unit {0}
Status true (Some w) None (Some n) = Unit {0}
Status true None (Some f) (Some n) = Unit {0}
Status _ _ _ _ = ⊥

record AreSound (p : Plan) (h : List Entry) : Type 0 where
  pub unique : AreUnique (set_watches p h)
  pub apart : AreApart (set_watches p h)
  pub status : (id : ℕ) → Status (is_given id (given_of h)) (set_watch p id h) (firing_of p id h) (first_of p id h)
  pub set : (id : ℕ) (w : Watch) → set_watch p id h ≡ Some w → SawNoChange p id h w
  pub fired : (id : ℕ) (f : Firing) → firing_of p id h ≡ Some f → FiredAtItsFirst p id h f

-- A registration finds its watch set, or it is a new one.
pub record IsNewWatch (p : Plan) (h : List Entry) (w : Watch) (ws : List Watch) : Type 0 where
  pub next : w.id ≡ given_of h + 1
  pub alone : set_number w.session w.path w.kind (set_watches p h) ≡ None
  pub absent : has_id w.id (set_watches p h) ≡ false
  pub appended : ws ≡ set_watches p h ++ w ∷ []

pub set_cases : (p : Plan) (h : List Entry) (c i j : ℕ) → (r : IsRegistration p h c i j) → ((has_id j (set_watches p h) ≡ true) × (set_after p h (op.WatchSet c i j) (set_watches p h) ≡ set_watches p h)) ⊎ IsNewWatch p h r.watch (set_after p h (op.WatchSet c i j) (set_watches p h))
set_cases p h c i j r = by_had (has_id r.watch.id (set_watches p h)) refl
  where
    asked_is : set_after p h (op.WatchSet c i j) (set_watches p h) ≡ (if has_id r.watch.id (set_watches p h) then set_watches p h else set_watches p h ++ r.watch ∷ [])
    asked_is = ap (λ o. with_watch o (set_watches p h)) r.wanted

    by_number : (o : Option ℕ) → set_number c r.watch.path r.watch.kind (set_watches p h) ≡ o → has_id r.watch.id (set_watches p h) ≡ false → (o ≡ None) × (r.watch.id ≡ given_of h + 1)
    by_number None e f = (refl, r.its_id ∙ r.numbered ∙ ap (number_or_next (given_of h)) e)
    by_number (Some k) e f = absurd (false≢true (sym f ∙ ap (λ x. has_id x (set_watches p h)) (r.its_id ∙ r.numbered ∙ ap (number_or_next (given_of h)) e) ∙ set_number_has c r.watch.path r.watch.kind (set_watches p h) k e))

    by_had : (b : Bool) → has_id r.watch.id (set_watches p h) ≡ b → ((has_id j (set_watches p h) ≡ true) × (set_after p h (op.WatchSet c i j) (set_watches p h) ≡ set_watches p h)) ⊎ IsNewWatch p h r.watch (set_after p h (op.WatchSet c i j) (set_watches p h))
    by_had true e = inl (subst (λ x. has_id x (set_watches p h) ≡ true) r.its_id e, asked_is ∙ ap (λ b. if b then set_watches p h else set_watches p h ++ r.watch ∷ []) e)
    by_had false e =
        let n = by_number (set_number c r.watch.path r.watch.kind (set_watches p h)) refl e in
        inr (record { next = n.1; alone = subst (λ x. set_number x r.watch.path r.watch.kind (set_watches p h) ≡ None) (sym r.its_session) n.0; absent = e; appended = asked_is ∙ ap (λ b. if b then set_watches p h else set_watches p h ++ r.watch ∷ []) e })

-- Numbers, paths and kinds. ---------------------------------------------------------------------------

unique_step : (p : Plan) (h : List Entry) (o : Op) → Registers p h o → AreUnique (set_watches p h) → AreUnique (set_after p h o (set_watches p h))
unique_step p h (op.WatchSet c i j) r u = elim (set_cases p h c i j r) [ inl x ↦ subst AreUnique (sym x.1) u | inr y ↦ subst AreUnique (sym y.appended) (append_unique (set_watches p h) r.watch u y.absent) ]
unique_step p h (op.SweepOk n t fired) r u = not_fired_unique (touches_of_push p t h) (set_watches p h) u
unique_step p h o r u = u

apart_step : (p : Plan) (h : List Entry) (o : Op) → Registers p h o → AreApart (set_watches p h) → AreApart (set_after p h o (set_watches p h))
apart_step p h (op.WatchSet c i j) r u = elim (set_cases p h c i j r) [ inl x ↦ subst AreApart (sym x.1) u | inr y ↦ subst AreApart (sym y.appended) (append_apart (set_watches p h) r.watch u y.alone) ]
apart_step p h (op.SweepOk n t fired) r u = not_fired_apart (touches_of_push p t h) (set_watches p h) u
apart_step p h o r u = u

kept_status : (id j given m : ℕ) (s : Option Watch) (f : Option Firing) (n : Option ℕ) → Status (nat_le 1 id && nat_le id given) s f n → (nat_le 1 j && nat_le j given) ≡ true → (n ≡ None → (j == id) ≡ false) → Status (nat_le 1 id && nat_le id (max j given)) s f (or_else n (when (j == id) m))
kept_status id j given m s f None i g a = grind (arith, nat_tests)
kept_status id j given m s f (Some n) i g a = grind (arith, nat_tests)

new_status : (id j given m : ℕ) (w : Watch) (s : Option Watch) (f : Option Firing) (n : Option ℕ) → j ≡ given + 1 → Status (nat_le 1 id && nat_le id given) s f n → Status (nat_le 1 id && nat_le id (max j given)) (or_else s (if j == id then Some w else None)) f (or_else n (when (j == id) m))
new_status id j given m w None f n e i = grind (arith, nat_tests)
new_status id j given m w (Some v) f n e i = grind (arith, nat_tests)

none_status : (b : Bool) (w : Watch) (f : Option Firing) (n : Option ℕ) → Status b (Some w) f n → (b ≡ true) × (f ≡ None)
none_status b w f n i = grind arith

absent_status : (b : Bool) (s : Option Watch) (f : Option Firing) → Status b s f None → (b ≡ false) × (s ≡ None) × (f ≡ None)
absent_status b s f i = grind arith

some_of : (o : Option Watch) → is_some o ≡ true → (w : Watch) × (o ≡ Some w)
some_of None e = absurd (false≢true e)
some_of (Some w) e = (w, refl)

fires_status : (b : Bool) (w : Watch) (f : Option Firing) (n : Option ℕ) (x : Firing) → Status b (Some w) f n → Status b None (Some x) n
fires_status b w f n x i = grind arith

swept_status : (b : Bool) (s k : Option Watch) (f g : Option Firing) (n : Option ℕ) → Status b s f n → (s ≡ None → (k ≡ None) × (g ≡ None)) → ((w : Watch) → s ≡ Some w → ((k ≡ Some w) × (g ≡ None)) ⊎ ((k ≡ None) × (x : Firing) × (g ≡ Some x))) → Status b k (or_else g f) (or_else n None)
swept_status b None k f g n i a c = let r = a refl in rw (r.0, r.1, or_none n) i
swept_status b (Some w) k f g n i a c = elim (c w refl) [ inl x ↦ rw (x.0, x.1, or_none n) i | inr y ↦ rw (y.0, y.2, or_none n) (fires_status b w f n y.1 i) ]

-- what a sweep makes of a number's watch
pub sweep_leaves_none : (id t : ℕ) (ts : List Touch) (ws : List Watch) → watch_with id ws ≡ None → (watch_with id (not_fired ts ws) ≡ None) × (firing_with id (firings t ts ws) ≡ None)
sweep_leaves_none id t ts ws e = (by_left (watch_with id (not_fired ts ws)) refl, fires_none id t ts ws absent)
  where
    absent : has_id id ws ≡ false
    absent = has_is id ws ∙ ap is_some e

    by_left : (o : Option Watch) → watch_with id (not_fired ts ws) ≡ o → watch_with id (not_fired ts ws) ≡ None
    by_left None f = f
    by_left (Some w) f = absurd (false≢true (sym absent ∙ not_fired_has id ts ws (has_is id (not_fired ts ws) ∙ ap is_some f)))

pub sweep_of_set : (id t : ℕ) (ts : List Touch) (ws : List Watch) (w : Watch) → AreUnique ws → watch_with id ws ≡ Some w → ((watch_with id (not_fired ts ws) ≡ Some w) × (firing_with id (firings t ts ws) ≡ None)) ⊎ ((watch_with id (not_fired ts ws) ≡ None) × (x : Firing) × (firing_with id (firings t ts ws) ≡ Some x))
sweep_of_set id t ts ws w u e = by_taken (first_taken w.path w.kind ts) refl
  where
    taken_not : (c : Change) → first_taken w.path w.kind ts ≡ Some c → (o : Option Watch) → watch_with id (not_fired ts ws) ≡ o → watch_with id (not_fired ts ws) ≡ None
    taken_not c f None g = g
    taken_not c f (Some v) g = let k = kept_watch id ts ws v u g in absurd (two v k.0 k.1)
      where
        two : (v : Watch) → watch_with id ws ≡ Some v → first_taken v.path v.kind ts ≡ None → ⊥
        two v a b = grind arith

    by_taken : (o : Option Change) → first_taken w.path w.kind ts ≡ o → ((watch_with id (not_fired ts ws) ≡ Some w) × (firing_with id (firings t ts ws) ≡ None)) ⊎ ((watch_with id (not_fired ts ws) ≡ None) × (x : Firing) × (firing_with id (firings t ts ws) ≡ Some x))
    by_taken None f = inl (stays_set id ts ws w e f, fires_watch id t ts ws w u e ∙ ap (fired_one t w) f)
    by_taken (Some c) f = inr (taken_not c f (watch_with id (not_fired ts ws)) refl, record { watch = w; tx = t; change = c }, fires_watch id t ts ws w u e ∙ ap (fired_one t w) f)

status_step : (p : Plan) (id : ℕ) (h : List Entry) (o : Op) → Registers p h o → AreSound p h → Status (is_given id (given_in o (given_of h))) (watch_with id (set_after p h o (set_watches p h))) (or_else (firing_in p id h o) (firing_of p id h)) (or_else (first_of p id h) (registered_in p id h o))
status_step p id h (op.WatchSet c i j) r s = elim (set_cases p h c i j r) [ inl x ↦ old x.0 x.1 | inr y ↦ new y ]
  where
    old : has_id j (set_watches p h) ≡ true → set_after p h (op.WatchSet c i j) (set_watches p h) ≡ set_watches p h → Status (is_given id (max j (given_of h))) (watch_with id (set_after p h (op.WatchSet c i j) (set_watches p h))) (firing_of p id h) (or_else (first_of p id h) (when (j == id) (number_of_read p c h)))
    old a b =
        let w = some_of (set_watch p j h) (sym (has_is j (set_watches p h)) ∙ a) in
        let g = none_status (is_given j (given_of h)) w.0 (firing_of p j h) (first_of p j h) (subst (λ x. Status (is_given j (given_of h)) x (firing_of p j h) (first_of p j h)) w.1 (s.status j)) in
        subst (λ ws. Status (is_given id (max j (given_of h))) (watch_with id ws) (firing_of p id h) (or_else (first_of p id h) (when (j == id) (number_of_read p c h)))) (sym b)
        (kept_status id j (given_of h) (number_of_read p c h) (set_watch p id h) (firing_of p id h) (first_of p id h) (s.status id) g.0 (λ n. false_from_ne_true (j == id) (λ f. unseen n f g.0)))
      where
        unseen : first_of p id h ≡ None → (j == id) ≡ true → is_given j (given_of h) ≡ true → ⊥
        unseen n f g =
            let z = absent_status (is_given id (given_of h)) (set_watch p id h) (firing_of p id h) (subst (λ x. Status (is_given id (given_of h)) (set_watch p id h) (firing_of p id h) x) n (s.status id)) in
            clash f g z.0
          where
            clash : (j == id) ≡ true → is_given j (given_of h) ≡ true → is_given id (given_of h) ≡ false → ⊥
            clash a b c = grind (arith, nat_tests)

    new : IsNewWatch p h r.watch (set_after p h (op.WatchSet c i j) (set_watches p h)) → Status (is_given id (max j (given_of h))) (watch_with id (set_after p h (op.WatchSet c i j) (set_watches p h))) (firing_of p id h) (or_else (first_of p id h) (when (j == id) (number_of_read p c h)))
    new y =
        subst (λ ws. Status (is_given id (max j (given_of h))) (watch_with id ws) (firing_of p id h) (or_else (first_of p id h) (when (j == id) (number_of_read p c h)))) (sym y.appended)
        (rw (append_with id (set_watches p h) r.watch) (subst (λ k. Status (is_given id (max j (given_of h))) (or_else (set_watch p id h) (if k == id then Some r.watch else None)) (firing_of p id h) (or_else (first_of p id h) (when (j == id) (number_of_read p c h)))) (sym r.its_id) (new_status id j (given_of h) (number_of_read p c h) r.watch (set_watch p id h) (firing_of p id h) (first_of p id h) (sym r.its_id ∙ y.next) (s.status id))))
status_step p id h (op.SweepOk n t fired) r s =
    let ts = touches_of_push p t h in
    let ws = set_watches p h in
    swept_status (is_given id (given_of h)) (set_watch p id h) (watch_with id (not_fired ts ws)) (firing_of p id h) (firing_with id (firings t ts ws)) (first_of p id h) (s.status id) (sweep_leaves_none id t ts ws) (λ w. sweep_of_set id t ts ws w s.unique)
status_step p id h o r s = rw (or_none (first_of p id h)) (s.status id)

-- Set watches. -----------------------------------------------------------------------------------------

untouched : (path : PathNames) (k : Kind) (ts : List Touch) → has_touch path ts ≡ false → first_taken path k ts ≡ None
untouched path k [] e = refl
untouched path k (t ∷ ts) e = grind (arith, untouched path k ts)

set_new : (p : Plan) (id : ℕ) (e : Entry) (h : List Entry) (c i : ℕ) → (r : IsRegistration p h c i id) → e.op ≡ op.WatchSet c i id → IsHistory p (e ∷ h) → first_of p id h ≡ None → SawNoChange p id (e ∷ h) r.watch
set_new p id e h c i r q l f = record {
  number = r.its_id;
  first = number_of_read p c h;
  registered = ap (λ o. or_else o (registered_in p id h e.op)) f ∙ ap (registered_in p id h) q ∙ its_own;
  none_since = λ t a b. ap (first_taken r.watch.path r.watch.kind) (touches_stay p t e h l (swept_was_committed p t e h l a)) ∙ untouched r.watch.path r.watch.kind (touches_of_push p t h) (false_from_ne_true (has_touch r.watch.path (touches_of_push p t h)) (λ x. let y = last_most p r.watch.path t h l.0 (old t a) x in let z = r.unswept in omega (arith, y, z, b)));
}
  where
    its_own : registered_in p id h (op.WatchSet c i id) ≡ Some (number_of_read p c h)
    its_own = grind (arith, nat_tests)

    old : (t : ℕ) → is_swept t (e ∷ h) ≡ true → is_swept t h ≡ true
    old t a = subst (λ o. (sweeps t o || is_swept t h) ≡ true) q a

set_step : (p : Plan) (id : ℕ) (w : Watch) (e : Entry) (h : List Entry) (o : Op) → e.op ≡ o → IsHistory p (e ∷ h) → Registers p h o → AreSound p h → watch_with id (set_after p h o (set_watches p h)) ≡ Some w → SawNoChange p id (e ∷ h) w
set_step p id w e h (op.WatchSet c i j) q l r s a = elim (set_cases p h c i j r) [ inl x ↦ old (ap (watch_with id) (sym x.1) ∙ a) | inr y ↦ by_old y (set_watch p id h) refl (sym (append_with id (set_watches p h) r.watch) ∙ ap (watch_with id) (sym y.appended) ∙ a) ]
  where
    no_sweep : (t : ℕ) → sweeps t e.op ≡ true → taken_of p w t h ≡ None
    no_sweep t x = absurd (false≢true (subst (λ o. sweeps t o ≡ true) q x))

    old : set_watch p id h ≡ Some w → SawNoChange p id (e ∷ h) w
    old x = saw_more p id e h w l (s.set id w x) no_sweep

    new : IsNewWatch p h r.watch (set_after p h (op.WatchSet c i j) (set_watches p h)) → set_watch p id h ≡ None → (b : Bool) → (r.watch.id == id) ≡ b → (if b then Some r.watch else None) ≡ Some w → SawNoChange p id (e ∷ h) w
    new y n true f x =
        let g : j ≡ id = same_number f in
        subst (SawNoChange p id (e ∷ h)) (same_Some r.watch w x) (at_id j g r q y)
      where
        same_number : (r.watch.id == id) ≡ true → j ≡ id
        same_number f = let k = r.its_id in grind (arith, nat_tests)

        fresh : (j given : ℕ) (o : Option Watch) (g : Option Firing) (n : Option ℕ) → Status (is_given j given) o g n → j ≡ given + 1 → n ≡ None
        fresh j given o g n i k = grind (arith, nat_tests)

        at_id : (j : ℕ) → j ≡ id → (r : IsRegistration p h c i j) → e.op ≡ op.WatchSet c i j → IsNewWatch p h r.watch (set_after p h (op.WatchSet c i j) (set_watches p h)) → SawNoChange p id (e ∷ h) r.watch
        at_id j g r q y = subst (λ z. SawNoChange p z (e ∷ h) r.watch) g (set_new p j e h c i r q l (fresh j (given_of h) (set_watch p j h) (firing_of p j h) (first_of p j h) (s.status j) (sym r.its_id ∙ y.next)))
    new y n false f x = absurd (none-some w x)

    by_old : IsNewWatch p h r.watch (set_after p h (op.WatchSet c i j) (set_watches p h)) → (o : Option Watch) → set_watch p id h ≡ o → or_else o (if r.watch.id == id then Some r.watch else None) ≡ Some w → SawNoChange p id (e ∷ h) w
    by_old y None n x = new y n (r.watch.id == id) refl x
    by_old y (Some v) n x = old (n ∙ x)
set_step p id w e h (op.SweepOk n t fired) q l r s a =
    let k = kept_watch id (touches_of_push p t h) (set_watches p h) w s.unique a in
    saw_more p id e h w l (s.set id w k.0) (λ u x. subst (λ z. taken_of p w z h ≡ None) (now u (subst (λ o. sweeps u o ≡ true) q x)) k.1)
  where
    now : (u : ℕ) → (t == u) ≡ true → t ≡ u
    now u x = grind (arith, nat_tests)
set_step p id w e h o q l r s a = saw_more p id e h w l (s.set id w a) (λ t x. absurd (false≢true (subst (λ y. sweeps t y ≡ true) q x)))

-- Fired watches. ---------------------------------------------------------------------------------------

fired_new : (p : Plan) (id n t fired : ℕ) (e : Entry) (h : List Entry) (f : Firing) → e.op ≡ op.SweepOk n t fired → IsHistory p (e ∷ h) → AreSound p h → IsFiredOf id t (touches_of_push p t h) (set_watches p h) f → FiredAtItsFirst p id (e ∷ h) f
fired_new p id n t fired e h f q l s i = record {
  number = w.number;
  swept = subst (λ o. (sweeps f.tx o || is_swept f.tx h) ≡ true) (sym q) its_own;
  shows = ap (first_taken f.watch.path f.watch.kind) (ap (λ u. touches_of_push p u (e ∷ h)) i.1 ∙ touches_stay p t e h l committed) ∙ i.2;
  first = w.first;
  registered = or_stays (first_of p id h) (registered_in p id h e.op) w.first w.registered;
  none_before = λ u a b c. ap (first_taken f.watch.path f.watch.kind) (touches_stay p u e h l (swept_was_committed p u e h l a)) ∙ w.none_since u (old u c (subst (λ o. (sweeps u o || is_swept u h) ≡ true) q a)) b;
}
  where
    w : SawNoChange p id h f.watch
    w = s.set id f.watch i.0

    committed : is_committed t h ≡ true
    committed = swept_are_committed p n t fired h l.0 (subst (IsDue p h) q (due p e h l))

    its_own : ((t == f.tx) || is_swept f.tx h) ≡ true
    its_own = let k = i.1 in grind (arith, nat_tests)

    old : (u : ℕ) → u < f.tx → ((t == u) || is_swept u h) ≡ true → is_swept u h ≡ true
    old u c a = let k = i.1 in grind (arith, nat_tests)

fired_step : (p : Plan) (id : ℕ) (f : Firing) (e : Entry) (h : List Entry) (o : Op) → e.op ≡ o → IsHistory p (e ∷ h) → AreSound p h → or_else (firing_in p id h o) (firing_of p id h) ≡ Some f → FiredAtItsFirst p id (e ∷ h) f
fired_step p id f e h (op.SweepOk n t fired) q l s a = by_new (firing_with id (firings t (touches_of_push p t h) (set_watches p h))) refl a
  where
    by_new : (o : Option Firing) → firing_with id (firings t (touches_of_push p t h) (set_watches p h)) ≡ o → or_else o (firing_of p id h) ≡ Some f → FiredAtItsFirst p id (e ∷ h) f
    by_new None b a = fired_more p id e h f l (s.fired id f a)
    by_new (Some g) b a = fired_new p id n t fired e h f q l s (fired_of id t (touches_of_push p t h) (set_watches p h) f s.unique (b ∙ a))
fired_step p id f e h o q l s a = fired_more p id e h f l (s.fired id f a)

sound : (p : Plan) (h : List Entry) → IsHistory p h → AreSound p h
sound p [] l = record { unique = tt; apart = tt; status = λ id. none_given id; set = λ id w e. absurd (none-some w e); fired = λ id f e. absurd (none-some f e) }
  where
    none_given : (id : ℕ) → Status (is_given id 0) None None None
    none_given id = grind (arith, nat_tests)
sound p (e ∷ h) l =
    let s = sound p h l.0 in
    let r = watches_are_registered p e h l in
    record {
      unique = unique_step p h e.op r s.unique;
      apart = apart_step p h e.op r s.apart;
      status = λ id. status_step p id h e.op r s;
      set = λ id w a. set_step p id w e h e.op refl l r s a;
      fired = λ id f a. fired_step p id f e h e.op refl l s a;
    }

pub watches_unique : (p : Plan) (h : List Entry) → IsHistory p h → AreUnique (set_watches p h)
watches_unique p h l = (sound p h l).unique

-- The laws. --------------------------------------------------------------------------------------------

one_of_two : (b : Bool) (s : Option Watch) (f : Option Firing) (n : Option ℕ) → Status b s f n → b ≡ true → IsOneOfTwo s f
one_of_two b s f n i e = grind arith

pub watch_is_set_or_fired : WatchIsSetOrFired
watch_is_set_or_fired p id h l a b = one_of_two (is_given id (given_of h)) (set_watch p id h) (firing_of p id h) (first_of p id h) ((sound p h l).status id) (grind (arith, nat_tests))

was_given : (id given : ℕ) (s : Option Watch) (f : Option Firing) (n : Option ℕ) → Status (is_given id given) s f n → (is_some s ≡ true) ⊎ (is_some f ≡ true) → (1 ≤ id) × (id ≤ given)
was_given id given s f n i e = grind (arith, nat_tests)

pub set_or_fired_were_given : SetOrFiredWereGiven
set_or_fired_were_given p id h l e = was_given id (given_of h) (set_watch p id h) (firing_of p id h) (first_of p id h) ((sound p h l).status id) e

fired_unset : (b : Bool) (s : Option Watch) (f : Firing) (n : Option ℕ) → Status b s (Some f) n → s ≡ None
fired_unset b s f n i = grind arith

pub fires_once : FiresOnce
fires_once p id n t fired h f l d e =
    let s = (sound p h l).status id in
    (sweep_leaves_none id t (touches_of_push p t h) (set_watches p h) (fired_unset (is_given id (given_of h)) (set_watch p id h) f (first_of p id h) (subst (λ x. Status (is_given id (given_of h)) (set_watch p id h) x (first_of p id h)) e s))).1

firing_stays_step : (p : Plan) (id : ℕ) (h : List Entry) (o : Op) (f : Firing) → IsHistory p h → IsDue p h o → firing_of p id h ≡ Some f → or_else (firing_in p id h o) (firing_of p id h) ≡ Some f
firing_stays_step p id h (op.SweepOk n t fired) f l d e = ap (λ x. or_else x (firing_of p id h)) (fires_once p id n t fired h f l d e) ∙ e
firing_stays_step p id h o f l d e = e

pub firing_never_changes : FiringNeverChanges
firing_never_changes p id h [] f l e = e
firing_never_changes p id h (x ∷ more) f l e = firing_stays_step p id (more ++ h) x.op f l.0 (due p x (more ++ h) l) (firing_never_changes p id h more f l.0 e)

pub set_watches_differ : SetWatchesDiffer
set_watches_differ p i j h v w l a b c d e = same_differ i j (set_watches p h) v w (sound p h l).apart a b c d e

pub set_watch_saw_no_change : SetWatchSawNoChange
set_watch_saw_no_change p id h w l e = (sound p h l).set id w e

pub fired_watch_fired_at_its_first_change : FiredWatchFiredAtItsFirstChange
fired_watch_fired_at_its_first_change p id h f l e = (sound p h l).fired id f e

-- ---- how many numbers were given

given_step : (p : Plan) (h : List Entry) (o : Op) → IsHistory p h → Registers p h o → given_in o (given_of h) ≤ given_of h + 1
given_step p h (op.WatchSet c i j) l r = elim (set_cases p h c i j r) [ inl x ↦ old x.0 | inr y ↦ new y.next ]
  where
    old : has_id j (set_watches p h) ≡ true → max j (given_of h) ≤ given_of h + 1
    old a = let b = set_or_fired_were_given p j h l (inl (sym (has_is j (set_watches p h)) ∙ a)) in max-le (omega (arith, b.1)) (omega arith)

    new : r.watch.id ≡ given_of h + 1 → max j (given_of h) ≤ given_of h + 1
    new e = max-le (omega (arith, e, r.its_id)) (omega arith)
given_step p h o l r = omega arith

-- at most one at each line
pub given_are_bounded : GivenAreBounded
given_are_bounded p [] l = omega arith
given_are_bounded p (e ∷ h) l = omega (arith, given_step p h e.op l.0 (watches_are_registered p e h l), given_are_bounded p h l.0)

-- Tellings: fired watches are announced in the order of their pushes.
use Rattle.std.specs.Prelude.{◌==◌, ◌||◌, if◌then◌else◌, is_some, nat_le}
use Rattle.std.proofs.Common.{◌≡◌, ℕ, ◌+◌, ◌<◌, ◌≤◌, ◌⊎◌, inl, inr, Bool, true, false, List, [], ◌∷◌, refl, sym, ◌∙◌, ap, subst, arith, Option, Some, None}
use Rattle.std.proofs.lemmas.Bool.{false≢true, or_right, leb-true, leb-false}
use Rattle.std.proofs.lemmas.Bool.Decides.{nat_tests}
use Rattle.std.proofs.lemmas.Option.{same_Some}
use Rattle.fk_print.specs.declared.entry.Entry.{Entry}
use Rattle.fk_print.specs.declared.op.Op.{Op}
use Rattle.fk_print.specs.declared.op.Op.TheVariants as op
use Rattle.fk_spec.specs.Plan.{Plan}
use Rattle.fk_spec.specs.Start.{task_of, or_else}
use Rattle.fk_spec.specs.Settling.{mark_of, done_of}
use Rattle.fk_spec.specs.Watches.{Firing, firings, set_watches, touches_of_push, ids_of, firing_with, firing_in, firing_of, swept_by}
use Rattle.fk_spec.specs.Lanes.{notifies, removed_by, removed_in, notes_of, note_count, watch_head}
use Rattle.fk_spec.specs.Leader as leader
use Rattle.fk_spec.specs.Client.{contains}
use Rattle.fk_spec.specs.Teller.{Note, note_of, note_in, to_tell, after_tell, next_teller}
use Rattle.fk_spec.specs.Teller as teller
use Rattle.fk_spec.specs.Function.{Place, Absent, Following, Leading, Telling, Beating, place_of, actor}
use Rattle.fk_spec.specs.Next.{IsHistory}
use Rattle.fk_law.specs.Due.{IsDue, Acks, Tells}
use Rattle.fk_law.specs.Functions.{IsFor}
use Rattle.fk_law.specs.LeaderLane.{sweeps, is_swept}
use Rattle.fk_law.proofs.Due.{due}
use Rattle.fk_law.proofs.Leading.{done_is_removed_or_one_more, leader_at_or_below_the_head, mark_grows}
use Rattle.fk_law.proofs.Starting.{place_for, leader_task, teller_at_or_below_the_head}
use Rattle.fk_law_watch.specs.Noting.{fired_at, tells_all, is_told, notes, is_noted, IsFull}
use Rattle.fk_law_watch.specs.Telling.{announces, is_announced, RemovedNoteIsTold, ToldPushIsAnnounced, AnnouncedHasFired, IsNotedBefore, NotesFirstStandInOrder, AnnouncedInNumberOrder}
use Rattle.fk_law_watch.proofs.Listing.{fired_of}
use Rattle.fk_law_watch.proofs.SetWatches.{or_none, by_or, watches_unique, new_sweep_beyond, firing_never_changes, fired_watch_fired_at_its_first_change}
use Rattle.fk_law_watch.proofs.Noting.{fired_stays, stays_step, note_bound, note_stays, note_published, told_published, OnTeller, teller_step, fired_at_its_push, fired_of_a_push}
use Rattle.fk_law_watch.proofs.Handing.{note_tells_what_its_push_fired, fired_push_is_noted_before_done}
use Rattle.fk_law_watch.proofs.Epochs.{contains_is}

-- Notes stand in order. --------------------------------------------------------------------------------

-- a note of push t
pub record IsNotedAt (p : Plan) (t : ℕ) (h : List Entry) : Type 0 where
  pub place : ℕ
  pub note : Note
  pub noted : note_of p place h ≡ Some note
  pub of_it : note.tx ≡ t

noted_more : (p : Plan) (t : ℕ) (e : Entry) (h : List Entry) → IsHistory p (e ∷ h) → IsNotedAt p t h → IsNotedAt p t (e ∷ h)
noted_more p t e h l i = record { place = i.place; note = i.note; noted = note_stays p i.place e h i.note l i.noted; of_it = i.of_it }

noted_now : (p : Plan) (n t k : ℕ) (e : Entry) (h : List Entry) → e.op ≡ op.Notify n t k → IsNotedAt p t (e ∷ h)
noted_now p n t k e h q = record { place = k; note = record { tx = t; fired = (swept_by p n h).fired }; noted = ap (λ o. or_else (note_in p k h o) (note_of p k h)) q ∙ its_own; of_it = refl }
  where
    same : (k == k) ≡ true
    same = grind (arith, nat_tests)

    its_own : or_else (note_in p k h (op.Notify n t k)) (note_of p k h) ≡ Some (record { tx = t; fired = (swept_by p n h).fired })
    its_own = rw same refl

noted_step : (p : Plan) (t : ℕ) (e : Entry) (h : List Entry) (o : Op) → e.op ≡ o → IsHistory p (e ∷ h) → (is_noted t h ≡ true → IsNotedAt p t h) → (notes t o || is_noted t h) ≡ true → IsNotedAt p t (e ∷ h)
noted_step p t e h (op.Notify n s k) q l i a = by_or (s == t) (is_noted t h) a (λ x. subst (λ z. IsNotedAt p z (e ∷ h)) (same x) (noted_now p n s k e h q)) (λ x. noted_more p t e h l (i x))
  where
    same : (s == t) ≡ true → s ≡ t
    same x = grind (arith, nat_tests)
noted_step p t e h o q l i a = noted_more p t e h l (i a)

pub noted_at : (p : Plan) (t : ℕ) (h : List Entry) → IsHistory p h → is_noted t h ≡ true → IsNotedAt p t h
noted_at p t [] l a = absurd (false≢true a)
noted_at p t (e ∷ h) l a = noted_step p t e h e.op refl l (noted_at p t h l.0) a

before_more : (p : Plan) (t w : ℕ) (e : Entry) (h : List Entry) → IsHistory p (e ∷ h) → IsNotedBefore p t w h → IsNotedBefore p t w (e ∷ h)
before_more p t w e h l i = record { place = i.place; note = i.note; noted = note_stays p i.place e h i.note l i.noted; of_it = i.of_it; before = i.before }

-- a leader that notifies finds each lesser push that fired something noted
first_now : (p : Plan) (n u k t : ℕ) (h : List Entry) → IsHistory p h → IsDue p h (op.Notify n u k) → t < u → IsFull (fired_at p t h) → IsNotedBefore p t k h
first_now p n u k t h l d b f = shown (fired_push_is_noted_before_done p t h l done)
  where
    done : t ≤ done_of h
    done =
        let r = leader_at_or_below_the_head p n u h l (leader_task p n h u leader.Notify l d.0) in
        let c = done_is_removed_or_one_more p h l in
        let x = r.1 in
        let y = c.0 in
        omega (arith, x, y, b)

    shown : (fired_at p t h ≡ []) ⊎ (is_noted t h ≡ true) → IsNotedBefore p t k h
    shown (inl x) = absurd (subst IsFull x f)
    shown (inr x) =
        let i = noted_at p t h l x in
        let z = (note_bound p i.place h i.note l i.noted).1 in
        let g = d.1 in
        record { place = i.place; note = i.note; noted = i.noted; of_it = i.of_it; before = omega (arith, z, g) }

full_before : (p : Plan) (t s : ℕ) (e : Entry) (h : List Entry) → IsHistory p (e ∷ h) → is_swept s h ≡ true → t < s → fired_at p t (e ∷ h) ≡ fired_at p t h
full_before p t s e h l a b = by_test (sweeps t e.op) refl
  where
    by_test : (c : Bool) → sweeps t e.op ≡ c → fired_at p t (e ∷ h) ≡ fired_at p t h
    by_test true f = let y = new_sweep_beyond p t s e h l a f in absurd (omega (arith, y, b))
    by_test false f = stays_step p t h e.op (fired_at p t h) f

first_step : (p : Plan) (t w : ℕ) (e : Entry) (h : List Entry) (o : Op) (x : Note) → e.op ≡ o → IsHistory p (e ∷ h) → IsDue p h o → (note_of p w h ≡ Some x → IsFull (fired_at p t h) → IsNotedBefore p t w h) → or_else (note_in p w h o) (note_of p w h) ≡ Some x → t < x.tx → IsFull (fired_at p t (e ∷ h)) → IsNotedBefore p t w (e ∷ h)
first_step p t w e h (op.Notify n u k) x q l d i a b f = by_test (k == w) refl a
  where
    tx_is : Some (record { tx = u; fired = (swept_by p n h).fired }) ≡ Some x → u ≡ x.tx
    tx_is a = grind arith

    same : (k == w) ≡ true → k ≡ w
    same c = grind (arith, nat_tests)

    unchanged : fired_at p t (e ∷ h) ≡ fired_at p t h
    unchanged = stays_step p t h e.op (fired_at p t h) (ap (sweeps t) q)

    by_test : (c : Bool) → (k == w) ≡ c → or_else (if c then Some (record { tx = u; fired = (swept_by p n h).fired }) else None) (note_of p w h) ≡ Some x → IsNotedBefore p t w (e ∷ h)
    by_test true c a = subst (λ z. IsNotedBefore p t z (e ∷ h)) (same c) (before_more p t k e h l (first_now p n u k t h l.0 d (subst (λ z. t < z) (sym (tx_is a)) b) (subst IsFull unchanged f)))
    by_test false c a = before_more p t w e h l (i a (subst IsFull unchanged f))
first_step p t w e h o x q l d i a b f = before_more p t w e h l (i a (subst IsFull (full_before p t x.tx e h l (note_published p w h x l.0 a).swept b) f))

pub notes_first_stand_in_order : NotesFirstStandInOrder
notes_first_stand_in_order p t w [] x l a b f = absurd (grind arith)
notes_first_stand_in_order p t w (e ∷ h) x l a b f = first_step p t w e h e.op x refl l (due p e h l) (λ c g. notes_first_stand_in_order p t w h x l.0 c b g) a b f

-- Watch functions. -------------------------------------------------------------------------------------

-- what of these fired watches is announced, and what remains
abbrev Remains : (ℕ → Bool) → List Firing → List Firing → Type 0
Remains announced fired rest = ((id : ℕ) → contains id (ids_of fired) ≡ true → (announced id || contains id (ids_of rest)) ≡ true) × ((id : ℕ) → contains id (ids_of rest) ≡ true → contains id (ids_of fired) ≡ true)

abbrev TellsSo : (ℕ → Bool) → Bool → List Firing → teller.Stage → Type 0
TellsSo announced told fired (teller.Tell f fs) = Remains announced fired (f ∷ fs)
TellsSo announced told fired teller.Told = Remains announced fired []
TellsSo announced told fired teller.Ack = told ≡ true
TellsSo announced told fired teller.Ended = Unit {0}

record TellsNote (p : Plan) (h : List Entry) (w t : ℕ) (s : teller.Stage) : Type 0 where
  pub note : Note
  pub noted : note_of p w h ≡ Some note
  pub of_it : note.tx ≡ t
  pub tells : TellsSo (λ id. is_announced id h) (is_told t h) note.fired s

or_maps : (a b c : Bool) → (a ≡ true → b ≡ true) → (a || c) ≡ true → (b || c) ≡ true
or_maps true true c f e = refl
or_maps true false c f e = absurd (false≢true (f refl))
or_maps false true c f e = refl
or_maps false false c f e = e

remains_grow : (a b : ℕ → Bool) (fired rest : List Firing) → ((id : ℕ) → a id ≡ true → b id ≡ true) → Remains a fired rest → Remains b fired rest
remains_grow a b fired rest f i = (λ id x. or_maps (a id) (b id) (contains id (ids_of rest)) (f id) (i.0 id x), i.1)

tells_grow : (a b : ℕ → Bool) (t u : Bool) (fired : List Firing) (s : teller.Stage) → ((id : ℕ) → a id ≡ true → b id ≡ true) → (t ≡ true → u ≡ true) → TellsSo a t fired s → TellsSo b u fired s
tells_grow a b t u fired (teller.Tell f fs) g k i = remains_grow a b fired (f ∷ fs) g i
tells_grow a b t u fired teller.Told g k i = remains_grow a b fired [] g i
tells_grow a b t u fired teller.Ack g k i = k i
tells_grow a b t u fired teller.Ended g k i = tt

tells_more : (p : Plan) (e : Entry) (h : List Entry) (w t : ℕ) (s : teller.Stage) → IsHistory p (e ∷ h) → TellsNote p h w t s → TellsNote p (e ∷ h) w t s
tells_more p e h w t s l i = record { note = i.note; noted = note_stays p w e h i.note l i.noted; of_it = i.of_it; tells = tells_grow (λ id. is_announced id h) (λ id. is_announced id (e ∷ h)) (is_told t h) (is_told t (e ∷ h)) i.note.fired s (λ id. or_right (announces id e.op) (is_announced id h)) (or_right (tells_all t e.op) (is_told t h)) i.tells }

to_tell_so : (a : ℕ → Bool) (t : Bool) (fired rest : List Firing) → Remains a fired rest → TellsSo a t fired (to_tell rest)
to_tell_so a t fired [] i = i
to_tell_so a t fired (f ∷ fs) i = i

begun_so : (a : ℕ → Bool) (fired : List Firing) → Remains a fired fired
begun_so a fired = (λ id x. or_right (a id) (contains id (ids_of fired)) x, λ id x. x)

one_told : (a b : ℕ → Bool) (id : ℕ) (fired fs : List Firing) (f : Firing) → f.watch.id ≡ id → ((j : ℕ) → a j ≡ true → b j ≡ true) → b id ≡ true → Remains a fired (f ∷ fs) → Remains b fired fs
one_told a b id fired fs f g m n i = (λ j x. shown j (f.watch.id == j) refl (i.0 j x), λ j x. i.1 j (or_right (f.watch.id == j) (contains j (ids_of fs)) x))
  where
    shown : (j : ℕ) (c : Bool) → (f.watch.id == j) ≡ c → (a j || (c || contains j (ids_of fs))) ≡ true → (b j || contains j (ids_of fs)) ≡ true
    shown j true e x = left (b j) (contains j (ids_of fs)) (subst (λ z. b z ≡ true) (same e) n)
      where
        left : (x y : Bool) → x ≡ true → (x || y) ≡ true
        left x y e = grind arith

        same : (f.watch.id == j) ≡ true → id ≡ j
        same e = grind (arith, nat_tests)
    shown j false e x = or_maps (a j) (b j) (contains j (ids_of fs)) (m j) x

-- a watch function that stands before a telling
is_telling : (c id w t : ℕ) (s : teller.Stage) (x : Place) → x ≡ Telling w t s → Tells c id x → (f : Firing) × (fs : List Firing) × (s ≡ teller.Tell f fs) × (f.watch.id ≡ id)
is_telling c id w t s x e d = by_stage s (subst (Tells c id) e d)
  where
    by_stage : (s : teller.Stage) → Tells c id (Telling w t s) → (f : Firing) × (fs : List Firing) × (s ≡ teller.Tell f fs) × (f.watch.id ≡ id)
    by_stage (teller.Tell f fs) d = (f, fs, refl, d.1)
    by_stage teller.Told d = absurd d
    by_stage teller.Ack d = absurd d
    by_stage teller.Ended d = absurd d

tells_move : (p : Plan) (n : ℕ) (e : Entry) (h : List Entry) (w t : ℕ) (s : teller.Stage) (o : Op) → e.op ≡ o → IsHistory p (e ∷ h) → IsDue p h o → place_of p n h ≡ Telling w t s → actor o ≡ Some n → TellsNote p h w t s → TellsNote p (e ∷ h) w t (next_teller o s)
tells_move p n e h w t s (op.Tell m c id) q l d b a i =
    let f : m ≡ n = grind arith in
    let r = is_telling c id w t s (place_of p n h) b (subst (λ x. Tells c id (place_of p x h)) f d) in
    let j = subst (TellsSo (λ id. is_announced id h) (is_told t h) i.note.fired) r.2 i.tells in
    let k = one_told (λ id. is_announced id h) (λ id. is_announced id (e ∷ h)) id i.note.fired r.1 r.0 r.3 (λ j. or_right (announces j e.op) (is_announced j h)) now j in
    record { note = i.note; noted = note_stays p w e h i.note l i.noted; of_it = i.of_it; tells = subst (λ z. TellsSo (λ id. is_announced id (e ∷ h)) (is_told t (e ∷ h)) i.note.fired (after_tell z)) (sym r.2) (to_tell_so (λ id. is_announced id (e ∷ h)) (is_told t (e ∷ h)) i.note.fired r.1 k) }
  where
    own : (b : Bool) → ((id == id) || b) ≡ true
    own b = grind (arith, nat_tests)

    now : is_announced id (e ∷ h) ≡ true
    now = ap (λ o. announces id o || is_announced id h) q ∙ own (is_announced id h)
tells_move p n e h w t s (op.Told m u) q l d b a i =
    let f : m ≡ n = grind arith in
    record { note = i.note; noted = note_stays p w e h i.note l i.noted; of_it = i.of_it; tells = ap (λ o. tells_all t o || is_told t h) q ∙ own (is_told t h) (same (subst (λ x. place_of p x h ≡ Telling d.0 u teller.Told) f d.1)) }
  where
    same : place_of p n h ≡ Telling d.0 u teller.Told → u ≡ t
    same x = grind arith

    own : (b : Bool) → u ≡ t → ((u == t) || b) ≡ true
    own b e = grind (arith, nat_tests)
tells_move p n e h w t s o q l d b a i = record { note = i.note; noted = note_stays p w e h i.note l i.noted; of_it = i.of_it; tells = tt }

teller_tells : (p : Plan) (n : ℕ) (h : List Entry) → IsHistory p h → OnTeller (TellsNote p h) (place_of p n h)
teller_tells p n [] l = tt
teller_tells p n (e ∷ h) l =
    let i = teller_tells p n h l.0 in
    teller_step p n h e.op (place_of p n h) (TellsNote p (e ∷ h))
    (λ w t s b. tells_more p e h w t s l (subst (OnTeller (TellsNote p h)) b i))
    (λ w y b. record { note = y; noted = note_stays p w e h y l b; of_it = refl; tells = to_tell_so (λ id. is_announced id (e ∷ h)) (is_told y.tx (e ∷ h)) y.fired y.fired (begun_so (λ id. is_announced id (e ∷ h)) y.fired) })
    (λ w t s b a. tells_move p n e h w t s e.op refl l (due p e h l) b a (subst (OnTeller (TellsNote p h)) b i))

tells_at : (p : Plan) (n w t : ℕ) (s : teller.Stage) (h : List Entry) → IsHistory p h → place_of p n h ≡ Telling w t s → TellsNote p h w t s
tells_at p n w t s h l b = subst (OnTeller (TellsNote p h)) b (teller_tells p n h l)

-- what the note of a watch function tells is what its push fired
note_fired : (p : Plan) (h : List Entry) (w t : ℕ) (s : teller.Stage) → IsHistory p h → (i : TellsNote p h w t s) → i.note.fired ≡ fired_at p t h
note_fired p h w t s l i = (note_tells_what_its_push_fired p w h i.note l i.noted).all ∙ ap (λ x. fired_at p x h) i.of_it

-- Told pushes. -----------------------------------------------------------------------------------------

-- each watch that the push fired is announced
abbrev AllAnnounced : Plan → ℕ → List Entry → Type 0
AllAnnounced p t h = (id : ℕ) → contains id (ids_of (fired_at p t h)) ≡ true → is_announced id h ≡ true

all_more : (p : Plan) (t : ℕ) (e : Entry) (h : List Entry) → IsHistory p (e ∷ h) → is_swept t h ≡ true → AllAnnounced p t h → AllAnnounced p t (e ∷ h)
all_more p t e h l s i id a = or_right (announces id e.op) (is_announced id h) (i id (ap (λ x. contains id (ids_of x)) (sym (fired_stays p t e h l s)) ∙ a))

or_false : (b : Bool) → (b || false) ≡ true → b ≡ true
or_false true e = refl
or_false false e = e

told_step : (p : Plan) (t : ℕ) (e : Entry) (h : List Entry) (o : Op) → IsHistory p (e ∷ h) → IsDue p h o → (is_told t h ≡ true → AllAnnounced p t h) → (tells_all t o || is_told t h) ≡ true → AllAnnounced p t (e ∷ h)
told_step p t e h (op.Told n u) l d i a = by_or (u == t) (is_told t h) a (λ x. now (same x)) (λ x. all_more p t e h l (told_published p t h l.0 x).swept (i x))
  where
    same : (u == t) ≡ true → u ≡ t
    same x = grind (arith, nat_tests)

    now : u ≡ t → AllAnnounced p t (e ∷ h)
    now f =
        let j = tells_at p n d.0 t teller.Told h l.0 (subst (λ x. place_of p n h ≡ Telling d.0 x teller.Told) f d.1) in
        let g = note_fired p h d.0 t teller.Told l.0 j in
        let s = subst (λ x. is_swept x h ≡ true) j.of_it (note_published p d.0 h j.note l.0 j.noted).swept in
        all_more p t e h l s (λ id a. or_false (is_announced id h) (j.tells.0 id (ap (λ x. contains id (ids_of x)) g ∙ a)))
told_step p t e h o l d i a = all_more p t e h l (told_published p t h l.0 a).swept (i a)

all_announced : (p : Plan) (t : ℕ) (h : List Entry) → IsHistory p h → is_told t h ≡ true → AllAnnounced p t h
all_announced p t [] l a id b = absurd (false≢true a)
all_announced p t (e ∷ h) l a id b = told_step p t e h e.op l (due p e h l) (λ x. all_announced p t h l.0 x) a id b

at_its_push : (p : Plan) (id : ℕ) (h : List Entry) (f : Firing) → IsHistory p h → firing_of p id h ≡ Some f → contains id (ids_of (fired_at p f.tx h)) ≡ true
at_its_push p id h f l a = contains_is id (fired_at p f.tx h) ∙ ap is_some (fired_at_its_push p id h f l a)

pub told_push_is_announced : ToldPushIsAnnounced
told_push_is_announced p id h f l a b = all_announced p f.tx h l b id (at_its_push p id h f l a)

-- Removed notes. ---------------------------------------------------------------------------------------

record AcksNote (p : Plan) (n : ℕ) (h : List Entry) : Type 0 where
  pub note : ℕ
  pub tx : ℕ
  pub stands : place_of p n h ≡ Telling note tx teller.Ack
  pub head : watch_head h ≡ Some note

acks_note : (p : Plan) (n : ℕ) (h : List Entry) (x : Place) → place_of p n h ≡ x → IsFor (task_of n h) x → Acks h x → notifies (task_of n h) ≡ true → AcksNote p n h
acks_note p n h Absent e f a b = absurd a
acks_note p n h (Following y) e f a b = absurd (false≢true (ap notifies (sym f) ∙ b))
acks_note p n h (Leading t s) e f a b = absurd (false≢true (ap notifies (sym f) ∙ b))
acks_note p n h (Telling w t s) e f a b = record { note = w; tx = t; stands = subst (λ z. place_of p n h ≡ Telling w t z) a.0 e; head = a.1 }
acks_note p n h (Beating c s) e f a b = absurd a

head_is : (h : List Entry) (w : ℕ) → watch_head h ≡ Some w → (removed_by notifies h < notes_of h) × (w ≡ removed_by notifies h + 1)
head_is h w e = grind (arith, nat_tests)

removed_low_step : (p : Plan) (h : List Entry) (o : Op) → IsHistory p h → IsDue p h o → removed_by notifies h ≤ notes_of h → removed_in notifies h o (removed_by notifies h) ≤ note_count o (notes_of h)
removed_low_step p h (op.AckOk n) l d i = by_test (notifies (task_of n h)) refl
  where
    by_test : (b : Bool) → notifies (task_of n h) ≡ b → (if b then removed_by notifies h + 1 else removed_by notifies h) ≤ notes_of h
    by_test true e = let a = acks_note p n h (place_of p n h) refl (place_for p n h l) d e in let g = (head_is h a.note a.head).0 in omega (arith, g)
    by_test false e = i
removed_low_step p h (op.Notify n t k) l d i = omega (arith, i)
removed_low_step p h o l d i = i

removed_low : (p : Plan) (h : List Entry) → IsHistory p h → removed_by notifies h ≤ notes_of h
removed_low p [] l = omega arith
removed_low p (e ∷ h) l = removed_low_step p h e.op l.0 (due p e h l) (removed_low p h l.0)

removed_told_step : (p : Plan) (w : ℕ) (h : List Entry) (o : Op) (x : Note) → IsHistory p h → IsDue p h o → (note_of p w h ≡ Some x → w ≤ removed_by notifies h → is_told x.tx h ≡ true) → or_else (note_in p w h o) (note_of p w h) ≡ Some x → w ≤ removed_in notifies h o (removed_by notifies h) → (tells_all x.tx o || is_told x.tx h) ≡ true
removed_told_step p w h (op.AckOk n) x l d i a b = by_test (notifies (task_of n h)) refl b
  where
    acked : AcksNote p n h → w ≤ removed_by notifies h + 1 → is_told x.tx h ≡ true
    acked y b = by_old (nat_le w (removed_by notifies h)) refl
      where
        by_old : (c : Bool) → nat_le w (removed_by notifies h) ≡ c → is_told x.tx h ≡ true
        by_old true e = i a (leb-true w (removed_by notifies h) e)
        by_old false e =
            let g = leb-false w (removed_by notifies h) e in
            let k = (head_is h y.note y.head).1 in
            let f : y.note ≡ w = omega (arith, b, g, k) in
            let j = tells_at p n y.note y.tx teller.Ack h l y.stands in
            let m = same_Some j.note x (sym j.noted ∙ ap (λ z. note_of p z h) f ∙ a) in
            subst (λ z. is_told z h ≡ true) (sym j.of_it ∙ ap (λ z. z.tx) m) j.tells

    by_test : (c : Bool) → notifies (task_of n h) ≡ c → w ≤ (if c then removed_by notifies h + 1 else removed_by notifies h) → is_told x.tx h ≡ true
    by_test true e b = acked (acks_note p n h (place_of p n h) refl (place_for p n h l) d e) b
    by_test false e b = i a b
removed_told_step p w h (op.Notify n t k) x l d i a b = by_test (k == w) refl a
  where
    by_test : (c : Bool) → (k == w) ≡ c → or_else (if c then Some (record { tx = t; fired = (swept_by p n h).fired }) else None) (note_of p w h) ≡ Some x → is_told x.tx h ≡ true
    by_test true e a = let g = d.1 in let r = removed_low p h l in absurd (clash e g r)
      where
        clash : (k == w) ≡ true → k ≡ notes_of h + 1 → removed_by notifies h ≤ notes_of h → ⊥
        clash e g r = grind (arith, nat_tests)
    by_test false e a = i a b
removed_told_step p w h (op.Told n u) x l d i a b = or_right (u == x.tx) (is_told x.tx h) (i a b)
removed_told_step p w h o x l d i a b = i a b

pub removed_note_is_told : RemovedNoteIsTold
removed_note_is_told p w [] x l a b = absurd (grind arith)
removed_note_is_told p w (e ∷ h) x l a b = removed_told_step p w h e.op x l.0 (due p e h l) (removed_note_is_told p w h x l.0) a b

-- Announced watches. -----------------------------------------------------------------------------------

abbrev HasFired : Plan → ℕ → List Entry → Type 0
HasFired p id h = (f : Firing) × (firing_of p id h ≡ Some f) × (f.tx ≤ mark_of h)

has_fired_more : (p : Plan) (id : ℕ) (e : Entry) (h : List Entry) → IsHistory p (e ∷ h) → HasFired p id h → HasFired p id (e ∷ h)
has_fired_more p id e h l i = (i.0, firing_never_changes p id h (e ∷ []) i.0 l i.1, (let g = mark_grows (mark_of h) e.op in let a = i.2 in omega (arith, g, a)))

some_of : (o : Option Firing) → is_some o ≡ true → (f : Firing) × (o ≡ Some f)
some_of None e = absurd (false≢true e)
some_of (Some f) e = (f, refl)

-- what a watch function is about to announce was fired by its note's push
telling_fired : (p : Plan) (n c id : ℕ) (h : List Entry) (x : Place) → IsHistory p h → place_of p n h ≡ x → Tells c id x → (w t : ℕ) × (s : teller.Stage) × (f : Firing) × (place_of p n h ≡ Telling w t s) × (firing_of p id h ≡ Some f) × (f.tx ≡ t) × (t ≤ mark_of h)
telling_fired p n c id h (Telling w t s) l e d =
    let r = is_telling c id w t s (Telling w t s) refl d in
    let j = tells_at p n w t (teller.Tell r.0 r.1) h l (e ∙ ap (Telling w t) r.2) in
    let b = j.tells.1 id (first r.0 r.1 r.3) in
    let g = some_of (firing_with id (fired_at p t h)) (sym (contains_is id (fired_at p t h)) ∙ ap (λ x. contains id (ids_of x)) (sym (note_fired p h w t (teller.Tell r.0 r.1) l j)) ∙ b) in
    let k = fired_of_a_push p id t h g.0 l g.1 in
    (w, t, s, g.0, e, k.0, k.1, subst (λ z. z ≤ mark_of h) j.of_it (note_published p w h j.note l j.noted).published)
  where
    first : (f : Firing) (fs : List Firing) → f.watch.id ≡ id → contains id (ids_of (f ∷ fs)) ≡ true
    first f fs g = grind (arith, nat_tests)
telling_fired p n c id h Absent l e d = absurd d
telling_fired p n c id h (Following f) l e d = absurd d
telling_fired p n c id h (Leading t s) l e d = absurd d
telling_fired p n c id h (Beating b s) l e d = absurd d

announced_step : (p : Plan) (id : ℕ) (e : Entry) (h : List Entry) (o : Op) → IsHistory p (e ∷ h) → IsDue p h o → (is_announced id h ≡ true → HasFired p id h) → (announces id o || is_announced id h) ≡ true → HasFired p id (e ∷ h)
announced_step p id e h (op.Tell n c j) l d i a = by_or (j == id) (is_announced id h) a (λ x. subst (λ z. HasFired p z (e ∷ h)) (same x) now) (λ x. has_fired_more p id e h l (i x))
  where
    same : (j == id) ≡ true → j ≡ id
    same x = grind (arith, nat_tests)

    now : HasFired p j (e ∷ h)
    now = let r = telling_fired p n c j h (place_of p n h) l.0 refl d in has_fired_more p j e h l (r.3, r.5, subst (λ z. z ≤ mark_of h) (sym r.6) r.7)
announced_step p id e h o l d i a = has_fired_more p id e h l (i a)

pub announced_has_fired : AnnouncedHasFired
announced_has_fired p id [] l a = absurd (false≢true a)
announced_has_fired p id (e ∷ h) l a = announced_step p id e h e.op l (due p e h l) (announced_has_fired p id h l.0) a

none_some : (f : Firing) → None ≡ Some f → ⊥
none_some f e = grind arith

pub newly_fired : (p : Plan) (id : ℕ) (h : List Entry) (f : Firing) (o : Op) → IsHistory p h → firing_of p id h ≡ None → or_else (firing_in p id h o) (firing_of p id h) ≡ Some f → sweeps f.tx o ≡ true
newly_fired p id h f (op.SweepOk n s k) l b c = same (fired_of id s (touches_of_push p s h) (set_watches p h) f (watches_unique p h l) (sym (or_none (firing_with id (firings s (touches_of_push p s h) (set_watches p h)))) ∙ ap (or_else (firing_with id (firings s (touches_of_push p s h) (set_watches p h)))) (sym b) ∙ c)).1
  where
    same : f.tx ≡ s → (s == f.tx) ≡ true
    same x = grind (arith, nat_tests)
newly_fired p id h f o l b c = absurd (none_some f (sym b ∙ c))

old_or_new : (p : Plan) (id : ℕ) (e : Entry) (h : List Entry) (f : Firing) → IsHistory p (e ∷ h) → firing_of p id (e ∷ h) ≡ Some f → (firing_of p id h ≡ Some f) ⊎ (is_swept f.tx h ≡ false)
old_or_new p id e h f l a = by_old (firing_of p id h) refl
  where
    unswept : sweeps f.tx e.op ≡ true → is_swept f.tx h ≡ false
    unswept b = by_swept (is_swept f.tx h) refl
      where
        by_swept : (c : Bool) → is_swept f.tx h ≡ c → c ≡ false
        by_swept true g = let y = new_sweep_beyond p f.tx f.tx e h l g b in absurd (omega (arith, y))
        by_swept false g = refl

    by_old : (o : Option Firing) → firing_of p id h ≡ o → (firing_of p id h ≡ Some f) ⊎ (is_swept f.tx h ≡ false)
    by_old None b = inr (unswept (newly_fired p id h f e.op l.0 b a))
    by_old (Some g) b = inl (b ∙ sym (firing_never_changes p id h (e ∷ []) g l b) ∙ a)

-- a lesser firing is old where a greater one is
lesser_is_old : (p : Plan) (i : ℕ) (e : Entry) (h : List Entry) (f : Firing) (t : ℕ) → IsHistory p (e ∷ h) → firing_of p i (e ∷ h) ≡ Some f → is_swept t h ≡ true → f.tx < t → firing_of p i h ≡ Some f
lesser_is_old p i e h f t l a b c = elim (old_or_new p i e h f l a) [ inl x ↦ x | inr y ↦ absurd (clash y) ]
  where
    clash : is_swept f.tx h ≡ false → ⊥
    clash y = by_or (sweeps f.tx e.op) (is_swept f.tx h) (fired_watch_fired_at_its_first_change p i (e ∷ h) f l a).swept (λ x. let z = new_sweep_beyond p f.tx t e h l b x in omega (arith, z, c)) (λ x. false≢true (sym y ∙ x))

full_at : (id : ℕ) (fs : List Firing) → contains id (ids_of fs) ≡ true → IsFull fs
full_at id [] a = false≢true a
full_at id (f ∷ fs) a = tt

told_now : (p : Plan) (n c i j : ℕ) (h : List Entry) (f g : Firing) → IsHistory p h → IsDue p h (op.Tell n c j) → firing_of p i h ≡ Some f → firing_of p j h ≡ Some g → f.tx < g.tx → is_announced i h ≡ true
told_now p n c i j h f g l d a b k =
    let r = telling_fired p n c j h (place_of p n h) l refl d in
    let t = tells_at p n r.0 r.1 r.2 h l r.4 in
    let q : g.tx ≡ r.1 = ap (λ z. z.tx) (same_Some g r.3 (sym b ∙ r.5)) ∙ r.6 in
    let m = notes_first_stand_in_order p f.tx r.0 h t.note l t.noted (subst (λ z. f.tx < z) (q ∙ sym t.of_it) k) (full_at i (fired_at p f.tx h) (at_its_push p i h f l a)) in
    let w = (teller_at_or_below_the_head p n r.0 h l (subst (IsFor (task_of n h)) r.4 (place_for p n h l))).1 in
    let v = m.before in
    let u = removed_note_is_told p m.place h m.note l m.noted (omega (arith, v, w)) in
    told_push_is_announced p i h f l a (subst (λ z. is_told z h ≡ true) m.of_it u)

order_step : (p : Plan) (i j : ℕ) (e : Entry) (h : List Entry) (o : Op) (f g : Firing) → IsHistory p (e ∷ h) → IsDue p h o → (firing_of p i h ≡ Some f → firing_of p j h ≡ Some g → is_announced j h ≡ true → is_announced i h ≡ true) → firing_of p i (e ∷ h) ≡ Some f → firing_of p j (e ∷ h) ≡ Some g → f.tx < g.tx → (announces j o || is_announced j h) ≡ true → is_announced i h ≡ true
order_step p i j e h o f g l d k a b c x = by_announced o d x
  where
    from_old : HasFired p j h → (firing_of p i h ≡ Some f) × (firing_of p j h ≡ Some g)
    from_old y =
        let m : firing_of p j h ≡ Some g = y.1 ∙ sym (firing_never_changes p j h (e ∷ []) y.0 l y.1) ∙ b in
        (lesser_is_old p i e h f g.tx l a (fired_watch_fired_at_its_first_change p j h g l.0 m).swept c, m)

    by_announced : (o : Op) → IsDue p h o → (announces j o || is_announced j h) ≡ true → is_announced i h ≡ true
    by_announced (op.Tell n s id) d x = by_or (id == j) (is_announced j h) x now (λ y. let r = from_old (announced_has_fired p j h l.0 y) in k r.0 r.1 y)
      where
        same : (id == j) ≡ true → id ≡ j
        same y = grind (arith, nat_tests)

        now : (id == j) ≡ true → is_announced i h ≡ true
        now y =
            let z = subst (λ v. IsDue p h (op.Tell n s v)) (same y) d in
            let t = telling_fired p n s j h (place_of p n h) l.0 refl z in
            let r = from_old (t.3, t.5, subst (λ v. v ≤ mark_of h) (sym t.6) t.7) in
            told_now p n s i j h f g l.0 z r.0 r.1 c
    by_announced o d x = let r = from_old (announced_has_fired p j h l.0 x) in k r.0 r.1 x

pub announced_in_number_order : AnnouncedInNumberOrder
announced_in_number_order p i j [] f g l a b c x = absurd (false≢true x)
announced_in_number_order p i j (e ∷ h) f g l a b c x = or_right (announces i e.op) (is_announced i h) (order_step p i j e h e.op f g l (due p e h l) (λ u v y. announced_in_number_order p i j h f g l.0 u v c y) a b c x)

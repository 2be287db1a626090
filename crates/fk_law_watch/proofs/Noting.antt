-- What a push fired, and the notes and the tellings of it.
use Rattle.std.specs.Prelude.{◌==◌, ◌||◌, if◌then◌else◌}
use Rattle.std.proofs.Common.{◌≡◌, ℕ, ◌+◌, ◌≤◌, ◌++◌, Bool, true, false, List, [], ◌∷◌, refl, sym, ◌∙◌, ap, subst, arith, Option, Some, None}
use Rattle.std.proofs.lemmas.Bool.{false≢true, false_from_ne_true, or_right}
use Rattle.std.proofs.lemmas.Bool.Decides.{nat_tests}
use Rattle.fk_tree.specs.Watch.{first_taken}
use Rattle.fk_tree.specs.declared.change.Change.{Change}
use Rattle.fk_tree.specs.declared.change.Touch.{Touch}
use Rattle.fk_print.specs.declared.entry.Entry.{Entry}
use Rattle.fk_print.specs.declared.op.Op.{Op}
use Rattle.fk_print.specs.declared.op.Op.TheVariants as op
use Rattle.fk_spec.specs.Plan.{Plan}
use Rattle.fk_spec.specs.Start.{Start, Task, Follows, Leads, Notifies, Probes, started_in, or_else}
use Rattle.fk_spec.specs.Settling.{is_committed, mark_of}
use Rattle.fk_spec.specs.Watches.{Watch, Firing, fired_as, firings, not_of, fired_after, fired_watches, fired_by, set_watches, touches_of_push, swept_by, firing_of, firing_in, firing_with}
use Rattle.fk_spec.specs.Lanes.{notes_of, note_count}
use Rattle.fk_spec.specs.Leader as leader
use Rattle.fk_spec.specs.Teller.{Note, note_of, note_in, to_tell, next_teller}
use Rattle.fk_spec.specs.Teller as teller
use Rattle.fk_spec.specs.Heartbeat as heartbeat
use Rattle.fk_spec.specs.Function.{Place, Absent, Following, Leading, Telling, Beating, place_of, place_by, placed, telling, moved, actor, tell_on, beat_on}
use Rattle.fk_spec.specs.Next.{IsHistory}
use Rattle.fk_law.specs.Due.{IsDue}
use Rattle.fk_law.specs.LeaderLane.{sweeps, is_swept}
use Rattle.fk_law.proofs.Due.{due}
use Rattle.fk_law.proofs.Leading.{leader_stands_where_it_may, mark_behind_sweep, swept_up_to_the_sweep, mark_grows}
use Rattle.fk_law.proofs.Moving.{place_step, moved_follower, moved_leader}
use Rattle.fk_law_watch.specs.Noting.{fired_at_in, fired_at, tells_all, is_told, notes, is_noted, untold, FiredIsListedUntilTold, FiredAtItsPush, FiredOfAPush}
use Rattle.fk_law_watch.proofs.Sweeps.{swept_most}
use Rattle.fk_law_watch.proofs.Listing.{AreUnique, fired_of}
use Rattle.fk_law_watch.proofs.SetWatches.{by_or, new_sweep_beyond, watches_unique, fires_once, fired_watch_fired_at_its_first_change}
use Rattle.fk_base.proofs.Logic.{itself}

-- What a push fired. -----------------------------------------------------------------------------------

unswept_step : (p : Plan) (t : ℕ) (h : List Entry) (o : Op) (fs : List Firing) → (sweeps t o || is_swept t h) ≡ false → (is_swept t h ≡ false → fs ≡ []) → fired_at_in p t h o fs ≡ []
unswept_step p t h (op.SweepOk n s k) fs e i = grind arith
unswept_step p t h o fs e i = i e

pub unswept_fired : (p : Plan) (t : ℕ) (h : List Entry) → is_swept t h ≡ false → fired_at p t h ≡ []
unswept_fired p t [] e = refl
unswept_fired p t (x ∷ h) e = unswept_step p t h x.op (fired_at p t h) e (unswept_fired p t h)

pub stays_step : (p : Plan) (t : ℕ) (h : List Entry) (o : Op) (fs : List Firing) → sweeps t o ≡ false → fired_at_in p t h o fs ≡ fs
stays_step p t h (op.SweepOk n s k) fs e = grind arith
stays_step p t h o fs e = refl

not_new : (p : Plan) (t : ℕ) (e : Entry) (h : List Entry) → IsHistory p (e ∷ h) → is_swept t h ≡ true → sweeps t e.op ≡ false
not_new p t e h l a = by_test (sweeps t e.op) refl
  where
    by_test : (b : Bool) → sweeps t e.op ≡ b → b ≡ false
    by_test true f = let y = new_sweep_beyond p t t e h l a f in absurd (omega (arith, y))
    by_test false f = refl

-- what a swept push fired never changes
pub fired_stays : (p : Plan) (t : ℕ) (e : Entry) (h : List Entry) → IsHistory p (e ∷ h) → is_swept t h ≡ true → fired_at p t (e ∷ h) ≡ fired_at p t h
fired_stays p t e h l a = stays_step p t h e.op (fired_at p t h) (not_new p t e h l a)

-- Lists of firings. ------------------------------------------------------------------------------------

nil_right : (xs : List Firing) → xs ++ [] ≡ xs
nil_right [] = refl
nil_right (x ∷ xs) = ap (λ ys. x ∷ ys) (nil_right xs)

fired_by_append : (t : ℕ) (fs gs : List Firing) → fired_by t (fs ++ gs) ≡ fired_by t fs ++ fired_by t gs
fired_by_append t [] gs = refl
fired_by_append t (f ∷ fs) gs = one (f.tx == t) (fired_by_append t fs gs)
  where
    one : (b : Bool) → fired_by t (fs ++ gs) ≡ fired_by t fs ++ fired_by t gs → (if b then f ∷ fired_by t (fs ++ gs) else fired_by t (fs ++ gs)) ≡ (if b then f ∷ fired_by t fs else fired_by t fs) ++ fired_by t gs
    one true i = ap (λ ys. f ∷ ys) i
    one false i = i

own_case : (t : ℕ) (w : Watch) (o : Option Change) (fs : List Firing) → fired_by t fs ≡ fs → fired_by t (fired_as t w o fs) ≡ fired_as t w o fs
own_case t w None fs i = i
own_case t w (Some c) fs i = rw (itself t) (ap (λ ys. record { watch = w; tx = t; change = c } ∷ ys) i)

own_firings : (t : ℕ) (ts : List Touch) (ws : List Watch) → fired_by t (firings t ts ws) ≡ firings t ts ws
own_firings t ts [] = refl
own_firings t ts (w ∷ ws) = own_case t w (first_taken w.path w.kind ts) (firings t ts ws) (own_firings t ts ws)

other_case : (t s : ℕ) (w : Watch) (o : Option Change) (fs : List Firing) → (s == t) ≡ false → fired_by t fs ≡ [] → fired_by t (fired_as s w o fs) ≡ []
other_case t s w None fs e i = i
other_case t s w (Some c) fs e i = rw e i

other_firings : (t s : ℕ) (ts : List Touch) (ws : List Watch) → (s == t) ≡ false → fired_by t (firings s ts ws) ≡ []
other_firings t s ts [] e = refl
other_firings t s ts (w ∷ ws) e = other_case t s w (first_taken w.path w.kind ts) (firings s ts ws) e (other_firings t s ts ws e)

gone_own : (t : ℕ) (fs : List Firing) → fired_by t (not_of t fs) ≡ []
gone_own t [] = refl
gone_own t (f ∷ fs) = one (f.tx == t) refl (gone_own t fs)
  where
    one : (b : Bool) → (f.tx == t) ≡ b → fired_by t (not_of t fs) ≡ [] → fired_by t (if b then not_of t fs else f ∷ not_of t fs) ≡ []
    one true e i = i
    one false e i = rw e i

gone_other : (t s : ℕ) (fs : List Firing) → (s == t) ≡ false → fired_by t (not_of s fs) ≡ fired_by t fs
gone_other t s [] e = refl
gone_other t s (f ∷ fs) e = one (f.tx == s) refl (f.tx == t) refl (gone_other t s fs e)
  where
    one : (b : Bool) → (f.tx == s) ≡ b → (c : Bool) → (f.tx == t) ≡ c → fired_by t (not_of s fs) ≡ fired_by t fs → fired_by t (if b then not_of s fs else f ∷ not_of s fs) ≡ (if c then f ∷ fired_by t fs else fired_by t fs)
    one true x true y i = absurd (grind (arith, nat_tests))
    one true x false y i = i
    one false x true y i = rw y (ap (λ ys. f ∷ ys) i)
    one false x false y i = rw y i

-- Tellings are of notes, and notes of published pushes. ------------------------------------------------

note_low_step : (p : Plan) (w : ℕ) (h : List Entry) (o : Op) (x : Note) → IsDue p h o → (note_of p w h ≡ Some x → (1 ≤ w) × (w ≤ notes_of h)) → or_else (note_in p w h o) (note_of p w h) ≡ Some x → (1 ≤ w) × (w ≤ note_count o (notes_of h))
note_low_step p w h (op.Notify n t k) x d i e = by_test (k == w) refl e
  where
    by_test : (b : Bool) → (k == w) ≡ b → or_else (if b then Some (record { tx = t; fired = (swept_by p n h).fired }) else None) (note_of p w h) ≡ Some x → (1 ≤ w) × (w ≤ notes_of h + 1)
    by_test true f e = let g = d.1 in grind (arith, nat_tests)
    by_test false f e = let g = i e in omega (arith, g.0, g.1)
note_low_step p w h o x d i e = i e

pub note_bound : (p : Plan) (w : ℕ) (h : List Entry) (x : Note) → IsHistory p h → note_of p w h ≡ Some x → (1 ≤ w) × (w ≤ notes_of h)
note_bound p w [] x l e = absurd (grind arith)
note_bound p w (y ∷ h) x l e = note_low_step p w h y.op x (due p y h l) (note_bound p w h x l.0) e

abbrev if_note : Bool → Note → Option Note
if_note b x = if b then Some x else None

note_old_step : (p : Plan) (w : ℕ) (h : List Entry) (o : Op) → IsDue p h o → w ≤ notes_of h → note_in p w h o ≡ None
note_old_step p w h (op.Notify n t k) d a = by_test (k == w) refl
  where
    by_test : (b : Bool) → (k == w) ≡ b → if_note b (record { tx = t; fired = (swept_by p n h).fired }) ≡ None
    by_test true f = let g = d.1 in absurd (grind (arith, nat_tests))
    by_test false f = refl
note_old_step p w h o d a = refl

-- a note never changes
pub note_stays : (p : Plan) (w : ℕ) (e : Entry) (h : List Entry) (x : Note) → IsHistory p (e ∷ h) → note_of p w h ≡ Some x → note_of p w (e ∷ h) ≡ Some x
note_stays p w e h x l a = ap (λ o. or_else o (note_of p w h)) (note_old_step p w h e.op (due p e h l) (note_bound p w h x l.0 a).1) ∙ a

-- a leader that notifies has published its push
pub record IsPublishedNote (h : List Entry) (t : ℕ) : Type 0 where
  pub published : t ≤ mark_of h
  pub swept : is_swept t h ≡ true
  pub noted : is_noted t h ≡ true

published_more : (e : Entry) (h : List Entry) (t : ℕ) → IsPublishedNote h t → IsPublishedNote (e ∷ h) t
published_more e h t i = record { published = (let g = mark_grows (mark_of h) e.op in let a = i.published in omega (arith, g, a)); swept = or_right (sweeps t e.op) (is_swept t h) i.swept; noted = or_right (notes t e.op) (is_noted t h) i.noted }

pub stands_swept : (p : Plan) (t : ℕ) (h : List Entry) → IsHistory p h → is_committed t h ≡ true → t ≤ mark_of h → is_swept t h ≡ true
stands_swept p t h l a b = let m = (mark_behind_sweep p h l).0 in swept_up_to_the_sweep p t h l a (omega (arith, b, m))

notify_published : (p : Plan) (n t k : ℕ) (e : Entry) (h : List Entry) → e.op ≡ op.Notify n t k → IsHistory p (e ∷ h) → IsDue p h (op.Notify n t k) → IsPublishedNote (e ∷ h) t
notify_published p n t k e h q l d =
    let s = leader_stands_where_it_may p n t leader.Notify h l.0 d.0 in
    record { published = (let g = mark_grows (mark_of h) e.op in let a = s.1 in omega (arith, g, a)); swept = or_right (sweeps t e.op) (is_swept t h) (stands_swept p t h l.0 s.0 s.1); noted = subst (λ o. (notes t o || is_noted t h) ≡ true) (sym q) (own (is_noted t h)) }
  where
    own : (b : Bool) → ((t == t) || b) ≡ true
    own b = grind (arith, nat_tests)

published_step : (p : Plan) (w : ℕ) (e : Entry) (h : List Entry) (o : Op) (x : Note) → e.op ≡ o → IsHistory p (e ∷ h) → IsDue p h o → (note_of p w h ≡ Some x → IsPublishedNote h x.tx) → or_else (note_in p w h o) (note_of p w h) ≡ Some x → IsPublishedNote (e ∷ h) x.tx
published_step p w e h (op.Notify n t k) x q l d i a = by_test (k == w) a
  where
    tx_is : Some (record { tx = t; fired = (swept_by p n h).fired }) ≡ Some x → t ≡ x.tx
    tx_is a = grind arith

    by_test : (b : Bool) → or_else (if b then Some (record { tx = t; fired = (swept_by p n h).fired }) else None) (note_of p w h) ≡ Some x → IsPublishedNote (e ∷ h) x.tx
    by_test true a = subst (IsPublishedNote (e ∷ h)) (tx_is a) (notify_published p n t k e h q l d)
    by_test false a = published_more e h x.tx (i a)
published_step p w e h o x q l d i a = published_more e h x.tx (i a)

pub note_published : (p : Plan) (w : ℕ) (h : List Entry) (x : Note) → IsHistory p h → note_of p w h ≡ Some x → IsPublishedNote h x.tx
note_published p w [] x l e = absurd (grind arith)
note_published p w (y ∷ h) x l e = published_step p w y h y.op x refl l (due p y h l) (note_published p w h x l.0) e

-- Watch functions alone. -------------------------------------------------------------------------------

abbrev pub OnTeller : (ℕ → ℕ → teller.Stage → Type 0) → Place → Type 0
OnTeller Q (Telling w t s) = Q w t s
OnTeller Q _ = Unit {0}

beat_no_teller : (Q : ℕ → ℕ → teller.Stage → Type 0) (c : ℕ) (s : heartbeat.Stage) → OnTeller Q (beat_on c s)
beat_no_teller Q c s = grind arith

tell_on_teller : (Q : ℕ → ℕ → teller.Stage → Type 0) (w t : ℕ) (s : teller.Stage) → Q w t s → OnTeller Q (tell_on w t s)
tell_on_teller Q w t teller.Ended i = tt
tell_on_teller Q w t s i = i

telling_on : (Q : ℕ → ℕ → teller.Stage → Type 0) (w : ℕ) (o : Option Note) → ((x : Note) → o ≡ Some x → Q w x.tx (to_tell x.fired)) → OnTeller Q (telling w o)
telling_on Q w None f = tt
telling_on Q w (Some x) f = f x refl

pub teller_step : (p : Plan) (n : ℕ) (h : List Entry) (o : Op) (x : Place) (Q : ℕ → ℕ → teller.Stage → Type 0)
    → ((w t : ℕ) (s : teller.Stage) → x ≡ Telling w t s → Q w t s)
    → ((w : ℕ) (y : Note) → note_of p w h ≡ Some y → Q w y.tx (to_tell y.fired))
    → ((w t : ℕ) (s : teller.Stage) → x ≡ Telling w t s → actor o ≡ Some n → Q w t (next_teller o s))
    → OnTeller Q (place_by p n h o (actor o) x)
teller_step p n h o x Q kept begun moves = place_step p n h o x (OnTeller Q) (λ a. stays x refl) starts (λ a. goes x refl a)
  where
    stays : (y : Place) → x ≡ y → OnTeller Q y
    stays (Telling w t s) e = kept w t s e
    stays Absent e = tt
    stays (Following f) e = tt
    stays (Leading t s) e = tt
    stays (Beating c s) e = tt

    placed_so : (t : Task) → OnTeller Q (placed p h t)
    placed_so (Follows c k) = tt
    placed_so (Leads t) = tt
    placed_so (Notifies w) = telling_on Q w (note_of p w h) (begun w)
    placed_so (Probes c) = tt

    starts : (s : Start) → started_in o ≡ Some s → s.function ≡ n → OnTeller Q (placed p h s.task)
    starts s e f = placed_so s.task

    goes : (y : Place) → x ≡ y → actor o ≡ Some n → OnTeller Q (moved p h o y)
    goes (Following f) e a = moved_follower p h o f (OnTeller Q) tt (λ g i. tt)
    goes (Leading t s) e a = moved_leader p h o t s (OnTeller Q) tt tt
    goes Absent e a = tt
    goes (Telling w t s) e a = tell_on_teller Q w t (next_teller o s) (moves w t s e a)
    goes (Beating c s) e a = beat_no_teller Q c _

-- a watch function works on its note's push
abbrev pub IsNoteOf : Plan → List Entry → ℕ → ℕ → Type 0
IsNoteOf p h w t = (x : Note) × (note_of p w h ≡ Some x) × (x.tx ≡ t)

note_of_stays : (p : Plan) (w t : ℕ) (e : Entry) (h : List Entry) → IsHistory p (e ∷ h) → IsNoteOf p h w t → IsNoteOf p (e ∷ h) w t
note_of_stays p w t e h l i = (i.0, note_stays p w e h i.0 l i.1, i.2)

pub teller_note : (p : Plan) (n : ℕ) (h : List Entry) → IsHistory p h → OnTeller (λ w t s. IsNoteOf p h w t) (place_of p n h)
teller_note p n [] l = tt
teller_note p n (e ∷ h) l =
    let i = teller_note p n h l.0 in
    teller_step p n h e.op (place_of p n h) (λ w t s. IsNoteOf p (e ∷ h) w t)
    (λ w t s b. note_of_stays p w t e h l (subst (OnTeller (λ w t s. IsNoteOf p h w t)) b i))
    (λ w y b. note_of_stays p w y.tx e h l (y, b, refl))
    (λ w t s b a. note_of_stays p w t e h l (subst (OnTeller (λ w t s. IsNoteOf p h w t)) b i))

told_step : (p : Plan) (t : ℕ) (e : Entry) (h : List Entry) (o : Op) → IsHistory p (e ∷ h) → IsDue p h o → (is_told t h ≡ true → IsPublishedNote h t) → (tells_all t o || is_told t h) ≡ true → IsPublishedNote (e ∷ h) t
told_step p t e h (op.Told n s) l d i a =
    let w = subst (OnTeller (λ w t s. IsNoteOf p h w t)) d.1 (teller_note p n h l.0) in
    let y = subst (IsPublishedNote h) w.2 (note_published p d.0 h w.0 l.0 w.1) in
    by_or (s == t) (is_told t h) a (λ x. published_more e h t (subst (IsPublishedNote h) (same x) y)) (λ x. published_more e h t (i x))
  where
    same : (s == t) ≡ true → s ≡ t
    same x = grind (arith, nat_tests)
told_step p t e h o l d i a = published_more e h t (i a)

pub told_published : (p : Plan) (t : ℕ) (h : List Entry) → IsHistory p h → is_told t h ≡ true → IsPublishedNote h t
told_published p t [] l e = absurd (false≢true e)
told_published p t (x ∷ h) l e = told_step p t x h x.op l (due p x h l) (told_published p t h l.0) e

-- What is listed. --------------------------------------------------------------------------------------

listed_step : (p : Plan) (t : ℕ) (h : List Entry) (o : Op) → IsHistory p h → IsDue p h o → fired_by t (fired_watches p h) ≡ untold (is_told t h) (fired_at p t h) → fired_by t (fired_after p h o (fired_watches p h)) ≡ untold (tells_all t o || is_told t h) (fired_at_in p t h o (fired_at p t h))
listed_step p t h (op.SweepOk n s k) l d i = fired_by_append t (fired_watches p h) new ∙ by_test (s == t) refl
  where
    new : List Firing
    new = firings s (touches_of_push p s h) (set_watches p h)

    unswept : s ≡ t → is_swept t h ≡ false
    unswept e = false_from_ne_true (is_swept t h) (λ a. let y = swept_most t h a in let z = d.1 in omega (arith, y, z, e))

    by_test : (b : Bool) → (s == t) ≡ b → fired_by t (fired_watches p h) ++ fired_by t new ≡ untold (is_told t h) (if b then new else fired_at p t h)
    by_test true e =
        let f : s ≡ t = grind (arith, nat_tests) in
        let u = unswept f in
        let v = false_from_ne_true (is_told t h) (λ a. false≢true (sym u ∙ (told_published p t h l a).swept)) in
        let w = unswept_fired p t h u in
        rw (i, v, w) (subst (λ x. fired_by x new ≡ new) f (own_firings s (touches_of_push p s h) (set_watches p h)))
    by_test false e = rw (other_firings t s (touches_of_push p s h) (set_watches p h) e) (nil_right (fired_by t (fired_watches p h)) ∙ i)
listed_step p t h (op.Told n s) l d i = by_test (s == t) refl
  where
    by_test : (b : Bool) → (s == t) ≡ b → fired_by t (not_of s (fired_watches p h)) ≡ untold (b || is_told t h) (fired_at p t h)
    by_test true e = let f : s ≡ t = grind (arith, nat_tests) in subst (λ x. fired_by t (not_of x (fired_watches p h)) ≡ []) (sym f) (gone_own t (fired_watches p h))
    by_test false e = gone_other t s (fired_watches p h) e ∙ i
listed_step p t h o l d i = i

untold_nothing : (b : Bool) → [] ≡ untold b []
untold_nothing true = refl
untold_nothing false = refl

pub fired_is_listed : FiredIsListedUntilTold
fired_is_listed p t [] l = untold_nothing false
fired_is_listed p t (e ∷ h) l = listed_step p t h e.op l.0 (due p e h l) (fired_is_listed p t h l.0)

-- One watch. -------------------------------------------------------------------------------------------

at_push_step : (p : Plan) (id : ℕ) (h : List Entry) (o : Op) (f : Firing) → AreUnique (set_watches p h) → (firing_of p id h ≡ Some f → sweeps f.tx o ≡ false) → (firing_of p id h ≡ Some f → firing_with id (fired_at p f.tx h) ≡ Some f) → or_else (firing_in p id h o) (firing_of p id h) ≡ Some f → firing_with id (fired_at_in p f.tx h o (fired_at p f.tx h)) ≡ Some f
at_push_step p id h (op.SweepOk n s k) f u m i e = by_new (firing_with id (firings s (touches_of_push p s h) (set_watches p h))) refl e
  where
    by_new : (o : Option Firing) → firing_with id (firings s (touches_of_push p s h) (set_watches p h)) ≡ o → or_else o (firing_of p id h) ≡ Some f → firing_with id (if s == f.tx then firings s (touches_of_push p s h) (set_watches p h) else fired_at p f.tx h) ≡ Some f
    by_new None a e = rw (m e) (i e)
    by_new (Some g) a e = let x = (fired_of id s (touches_of_push p s h) (set_watches p h) f u (a ∙ e)).1 in rw (same x) (a ∙ e)
      where
        same : f.tx ≡ s → (s == f.tx) ≡ true
        same x = grind (arith, nat_tests)
at_push_step p id h o f u m i e = i e

pub fired_at_its_push : FiredAtItsPush
fired_at_its_push p id [] f l e = absurd (grind arith)
fired_at_its_push p id (x ∷ h) f l e = at_push_step p id h x.op f (watches_unique p h l.0) (λ a. not_new p f.tx x h l (fired_watch_fired_at_its_first_change p id h f l.0 a).swept) (fired_at_its_push p id h f l.0) e

of_push_step : (p : Plan) (id t : ℕ) (h : List Entry) (o : Op) (f : Firing) → IsHistory p h → IsDue p h o → AreUnique (set_watches p h) → (firing_with id (fired_at p t h) ≡ Some f → (firing_of p id h ≡ Some f) × (f.tx ≡ t)) → firing_with id (fired_at_in p t h o (fired_at p t h)) ≡ Some f → (or_else (firing_in p id h o) (firing_of p id h) ≡ Some f) × (f.tx ≡ t)
of_push_step p id t h (op.SweepOk n s k) f l d u i e = by_test (s == t) refl e
  where
    by_test : (b : Bool) → (s == t) ≡ b → firing_with id (if b then firings s (touches_of_push p s h) (set_watches p h) else fired_at p t h) ≡ Some f → (or_else (firing_with id (firings s (touches_of_push p s h) (set_watches p h))) (firing_of p id h) ≡ Some f) × (f.tx ≡ t)
    by_test true a e = (ap (λ o. or_else o (firing_of p id h)) e, (let x = (fired_of id s (touches_of_push p s h) (set_watches p h) f u e).1 in grind (arith, nat_tests)))
    by_test false a e = let r = i e in (ap (λ o. or_else o (firing_of p id h)) (fires_once p id n s k h f l d r.0) ∙ r.0, r.1)
of_push_step p id t h o f l d u i e = i e

pub fired_of_a_push : FiredOfAPush
fired_of_a_push p id t [] f l e = absurd (grind arith)
fired_of_a_push p id t (x ∷ h) f l e = of_push_step p id t h x.op f l.0 (due p x h l) (watches_unique p h l.0) (fired_of_a_push p id t h f l.0) e

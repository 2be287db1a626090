-- What a leader has in hand of its push's fired watches.
use Rattle.std.specs.Prelude.{◌==◌, ◌||◌, if◌then◌else◌, max, nat_le}
use Rattle.std.proofs.Common.{◌≡◌, ◌≢◌, ℕ, ◌+◌, ◌<◌, ◌≤◌, ◌⊎◌, inl, inr, Bool, true, false, List, [], ◌∷◌, refl, sym, ◌∙◌, ap, subst, arith, Some, None}
use Rattle.std.proofs.lemmas.Bool.{false≢true, or_right, leb-true, leb-false}
use Rattle.std.proofs.lemmas.Bool.Decides.{nat_tests}
use Rattle.fk_base.specs.Path.{PathNames}
use Rattle.fk_print.specs.declared.entry.Entry.{Entry}
use Rattle.fk_print.specs.declared.op.Op.{Op}
use Rattle.fk_print.specs.declared.op.Op.TheVariants as op
use Rattle.fk_spec.specs.Plan.{Plan}
use Rattle.fk_spec.specs.Start.{or_else}
use Rattle.fk_spec.specs.Settling.{is_committed, commits, done_of, done_in, mark_of, mark_in}
use Rattle.fk_spec.specs.Stored.{committed_as}
use Rattle.fk_spec.specs.Watches.{Firing, Swept, fired_after, fired_watches, fired_by, sweep_in, swept_or, swept_by, epoch_of}
use Rattle.fk_spec.specs.Lanes.{leads, removed_by}
use Rattle.fk_spec.specs.Leader.{next_leader, to_put, to_notify, after_put, paths_to_put}
use Rattle.fk_spec.specs.Leader as leader
use Rattle.fk_spec.specs.Teller.{Note, note_of, note_in}
use Rattle.fk_spec.specs.Function.{Place, Leading, place_of, actor}
use Rattle.fk_spec.specs.Next.{IsHistory}
use Rattle.fk_law.specs.Due.{IsDue}
use Rattle.fk_law.specs.Losing.{IsDead}
use Rattle.fk_law.specs.LeaderLane.{is_swept, Stands}
use Rattle.fk_law.proofs.Due.{due}
use Rattle.fk_law.proofs.Leading.{leader_stands_where_it_may, swept_up_to_the_sweep, done_is_removed_or_one_more, leader_at_or_below_the_head, commits_are_beyond_the_sweep, mark_grows}
use Rattle.fk_law.proofs.Moving.{OnLeader, leader_step}
use Rattle.fk_law.proofs.Starting.{leader_task}
use Rattle.fk_law_watch.specs.Noting.{fired_at_in, fired_at, tells_all, is_told, notes, is_noted, untold, IsFull, HasInHand, HandsSo, Hands, FiredListInHand, NoteTellsWhatItsPushFired, FiredPushIsNotedBeforeDone}
use Rattle.fk_law_watch.proofs.Sweeps.{swept_was_committed}
use Rattle.fk_law_watch.proofs.Noting.{unswept_fired, fired_stays, stands_swept, note_published, told_published, fired_is_listed}
use Rattle.fk_base.proofs.Logic.{itself}

-- What a sweep gives, and nothing else does. -----------------------------------------------------------

other_sweep : (n : ℕ) (o : Op) (fs : List Firing) (s : Swept) → actor o ≢ Some n → swept_or (sweep_in n o fs) s ≡ s
other_sweep n (op.SweepOk m t k) fs s a = by_test (m == n) refl
  where
    by_test : (b : Bool) → (m == n) ≡ b → swept_or (if b then Some (record { fired = fired_by t fs; epoch = epoch_of fs }) else None) s ≡ s
    by_test true e = absurd (a (grind (arith, nat_tests)))
    by_test false e = refl
other_sweep n (op.SweepMiss m t w k) fs s a = by_test (m == n) refl
  where
    by_test : (b : Bool) → (m == n) ≡ b → swept_or (if b then Some (record { fired = fired_by t fs; epoch = epoch_of fs }) else None) s ≡ s
    by_test true e = absurd (a (grind (arith, nat_tests)))
    by_test false e = refl
other_sweep n o fs s a = refl

pub swept_by_stays : (p : Plan) (n : ℕ) (e : Entry) (h : List Entry) → actor e.op ≢ Some n → swept_by p n (e ∷ h) ≡ swept_by p n h
swept_by_stays p n e h a = other_sweep n e.op (fired_watches p (e ∷ h)) (swept_by p n h) a

pub swept_now : (n m t : ℕ) (fs : List Firing) (s : Swept) → m ≡ n → swept_or (if m == n then Some (record { fired = fired_by t fs; epoch = epoch_of fs }) else None) s ≡ record { fired = fired_by t fs; epoch = epoch_of fs }
swept_now n m t fs s e = ap (λ b. swept_or (if b then Some (record { fired = fired_by t fs; epoch = epoch_of fs }) else None) s) (ap (λ x. x == n) e ∙ itself n)

-- In hand. ---------------------------------------------------------------------------------------------

in_hand_grows : (f g a b : List Firing) (t u : Bool) → g ≡ f → b ≡ a → (t ≡ true → u ≡ true) → HasInHand f a t → HasInHand g b u
in_hand_grows f g a b t u x y z (inl e) = inl (x ∙ e ∙ sym y)
in_hand_grows f g a b t u x y z (inr e) = inr (x ∙ e.0, z e.1)

noted_grows : (a b : List Firing) (t u : Bool) → b ≡ a → (t ≡ true → u ≡ true) → (a ≡ []) ⊎ (t ≡ true) → (b ≡ []) ⊎ (u ≡ true)
noted_grows a b t u x y (inl e) = inl (x ∙ e)
noted_grows a b t u x y (inr e) = inr (y e)

-- whether a leader that stands there has swept its push
abbrev pub has_swept : leader.Stage → Bool
has_swept (leader.Put path others) = true
has_swept leader.Publish = true
has_swept leader.Notify = true
has_swept leader.Reply = true
has_swept leader.Done = true
has_swept _ = false

hands_grow : (f g a b : List Firing) (t u m n : Bool) (s : leader.Stage) → g ≡ f → (has_swept s ≡ true → b ≡ a) → (t ≡ true → u ≡ true) → (m ≡ true → n ≡ true) → HandsSo f a t m s → HandsSo g b u n s
hands_grow f g a b t u m n (leader.Put path others) x y z w i = in_hand_grows f g a b t u x (y refl) z i
hands_grow f g a b t u m n leader.Publish x y z w i = in_hand_grows f g a b t u x (y refl) z i
hands_grow f g a b t u m n leader.Notify x y z w i = (subst IsFull (sym x) i.0, in_hand_grows f g a b t u x (y refl) z i.1)
hands_grow f g a b t u m n leader.Reply x y z w i = noted_grows a b m n (y refl) w i
hands_grow f g a b t u m n leader.Done x y z w i = noted_grows a b m n (y refl) w i
hands_grow f g a b t u m n s x y z w i = tt

stage_swept : (p : Plan) (t : ℕ) (h : List Entry) (s : leader.Stage) → IsHistory p h → Stands h t s → has_swept s ≡ true → is_swept t h ≡ true
stage_swept p t h (leader.Put path others) l i e = swept_up_to_the_sweep p t h l i.0 i.1
stage_swept p t h leader.Publish l i e = swept_up_to_the_sweep p t h l i.0 i.1
stage_swept p t h leader.Notify l i e = stands_swept p t h l i.0 i.1
stage_swept p t h leader.Reply l i e = stands_swept p t h l i.0 i.1
stage_swept p t h leader.Done l i e = stands_swept p t h l i.0 i.1
stage_swept p t h s l i e = absurd (grind arith)

pub leader_swept : (p : Plan) (n t : ℕ) (s : leader.Stage) (h : List Entry) → IsHistory p h → place_of p n h ≡ Leading t s → has_swept s ≡ true → is_swept t h ≡ true
leader_swept p n t s h l b e = stage_swept p t h s l (leader_stands_where_it_may p n t s h l b) e

-- What its own operation makes of it. ------------------------------------------------------------------

put_hands : (f a : List Firing) (t m : Bool) (ps : List PathNames) → HasInHand f a t → HandsSo f a t m (to_put ps)
put_hands f a t m [] i = i
put_hands f a t m (p ∷ ps) i = i

listed_hands : (f a : List Firing) (t : Bool) → f ≡ untold t a → HasInHand f a t
listed_hands f a true e = inr (e, refl)
listed_hands f a false e = inl e

after_put_hands : (f a : List Firing) (t m : Bool) (path : PathNames) (others : List PathNames) (s : leader.Stage) → s ≡ leader.Put path others → HandsSo f a t m s → HandsSo f a t m (after_put s)
after_put_hands f a t m path others s e i = subst (λ z. HandsSo f a t m z → HandsSo f a t m (after_put z)) (sym e) (λ j. put_hands f a t m others j) i

notify_hands : (f a : List Firing) (t m : Bool) → (t ≡ true → m ≡ true) → HasInHand f a t → HandsSo f a t m (to_notify f)
notify_hands [] a t m n (inl e) = inl (sym e)
notify_hands [] a t m n (inr e) = inr (n e.1)
notify_hands (x ∷ f) a t m n i = (tt, i)

at_publish : (f a : List Firing) (t m : Bool) (s : leader.Stage) → s ≡ leader.Publish → HandsSo f a t m s → HasInHand f a t
at_publish f a t m s e i = subst (HandsSo f a t m) e i

at_reply : (f a : List Firing) (t m : Bool) (s : leader.Stage) → s ≡ leader.Reply → HandsSo f a t m s → (a ≡ []) ⊎ (m ≡ true)
at_reply f a t m s e i = subst (HandsSo f a t m) e i

leads_same : (x : Place) (t u : ℕ) (s r : leader.Stage) → x ≡ Leading t s → x ≡ Leading u r → (u ≡ t) × (s ≡ r)
leads_same x t u s r a b = grind arith

-- what a leader has in hand after one more operation
abbrev HandsAfter : Plan → ℕ → ℕ → List Entry → Op → leader.Stage → Type 0
HandsAfter p n t h x s = HandsSo (swept_or (sweep_in n x (fired_after p h x (fired_watches p h))) (swept_by p n h)).fired (fired_at_in p t h x (fired_at p t h)) (tells_all t x || is_told t h) (notes t x || is_noted t h) s

hands_move : (p : Plan) (n t : ℕ) (s : leader.Stage) (e : Entry) (h : List Entry) (o : Op) → e.op ≡ o → IsHistory p (e ∷ h) → IsDue p h o → place_of p n h ≡ Leading t s → actor o ≡ Some n → Hands p n h t s → Hands p n (e ∷ h) t (next_leader p h t o s)
hands_move p n t s e h (op.SweepOk m u k) q l d b a i =
    let f : m ≡ n = grind arith in
    let v = leads_same (place_of p n h) t u s leader.Sweep b (subst (λ x. place_of p x h ≡ Leading u leader.Sweep) f d.0) in
    put_hands (swept_by p n (e ∷ h)).fired (fired_at p t (e ∷ h)) (is_told t (e ∷ h)) (is_noted t (e ∷ h)) (paths_to_put (committed_as p t h)) (listed_hands (swept_by p n (e ∷ h)).fired (fired_at p t (e ∷ h)) (is_told t (e ∷ h))
    (ap (λ x. x.fired) (ap (λ x. swept_or (sweep_in n x (fired_watches p (e ∷ h))) (swept_by p n h)) q ∙ swept_now n m u (fired_watches p (e ∷ h)) (swept_by p n h) f) ∙ ap (λ x. fired_by x (fired_watches p (e ∷ h))) v.0 ∙ fired_is_listed p t (e ∷ h) l))
hands_move p n t s e h (op.SweepMiss m u w k) q l d b a i =
    let f : m ≡ n = grind arith in
    let v = leads_same (place_of p n h) t u s leader.Sweep b (subst (λ x. place_of p x h ≡ Leading u leader.Sweep) f d.0) in
    put_hands (swept_by p n (e ∷ h)).fired (fired_at p t (e ∷ h)) (is_told t (e ∷ h)) (is_noted t (e ∷ h)) (paths_to_put (committed_as p t h)) (listed_hands (swept_by p n (e ∷ h)).fired (fired_at p t (e ∷ h)) (is_told t (e ∷ h))
    (ap (λ x. x.fired) (ap (λ x. swept_or (sweep_in n x (fired_watches p (e ∷ h))) (swept_by p n h)) q ∙ swept_now n m u (fired_watches p (e ∷ h)) (swept_by p n h) f) ∙ ap (λ x. fired_by x (fired_watches p (e ∷ h))) v.0 ∙ fired_is_listed p t (e ∷ h) l))
hands_move p n t s e h (op.PutOk m u path) q l d b a i =
    let f : m ≡ n = grind arith in
    let v = leads_same (place_of p n h) t u s (leader.Put path d.0) b (subst (λ x. place_of p x h ≡ Leading u (leader.Put path d.0)) f d.1) in
    subst (λ x. HandsAfter p n t h x (after_put s)) (sym q) (after_put_hands (swept_by p n h).fired (fired_at p t h) (is_told t h) (is_noted t h) path d.0 s v.1 i)
hands_move p n t s e h (op.PutMiss m u path stamp) q l d b a i =
    let f : m ≡ n = grind arith in
    let v = leads_same (place_of p n h) t u s (leader.Put path d.0) b (subst (λ x. place_of p x h ≡ Leading u (leader.Put path d.0)) f d.1) in
    subst (λ x. HandsAfter p n t h x (after_put s)) (sym q) (after_put_hands (swept_by p n h).fired (fired_at p t h) (is_told t h) (is_noted t h) path d.0 s v.1 i)
hands_move p n t s e h (op.PublishOk m u) q l d b a i =
    let f : m ≡ n = grind arith in
    let v = leads_same (place_of p n h) t u s leader.Publish b (subst (λ x. place_of p x h ≡ Leading u leader.Publish) f d.0) in
    subst (λ z. Hands p n (e ∷ h) t (to_notify (swept_by p z h).fired)) (sym f)
    (subst (λ x. HandsAfter p n t h x (to_notify (swept_by p n h).fired)) (sym q) (notify_hands (swept_by p n h).fired (fired_at p t h) (is_told t h) (is_noted t h) (λ x. (told_published p t h l.0 x).noted) (at_publish (swept_by p n h).fired (fired_at p t h) (is_told t h) (is_noted t h) s v.1 i)))
hands_move p n t s e h (op.PublishMiss m u k) q l d b a i =
    let f : m ≡ n = grind arith in
    let v = leads_same (place_of p n h) t u s leader.Publish b (subst (λ x. place_of p x h ≡ Leading u leader.Publish) f d.0) in
    subst (λ z. Hands p n (e ∷ h) t (to_notify (swept_by p z h).fired)) (sym f)
    (subst (λ x. HandsAfter p n t h x (to_notify (swept_by p n h).fired)) (sym q) (notify_hands (swept_by p n h).fired (fired_at p t h) (is_told t h) (is_noted t h) (λ x. (told_published p t h l.0 x).noted) (at_publish (swept_by p n h).fired (fired_at p t h) (is_told t h) (is_noted t h) s v.1 i)))
hands_move p n t s e h (op.Notify m u k) q l d b a i =
    let f : m ≡ n = grind arith in
    let v = leads_same (place_of p n h) t u s leader.Notify b (subst (λ x. place_of p x h ≡ Leading u leader.Notify) f d.0) in
    inr (subst (λ x. (notes t x || is_noted t h) ≡ true) (sym q) (own u t (is_noted t h) v.0))
  where
    own : (u t : ℕ) (b : Bool) → u ≡ t → ((u == t) || b) ≡ true
    own u t b e = grind (arith, nat_tests)
hands_move p n t s e h (op.Reply m c k) q l d b a i =
    let f : m ≡ n = grind arith in
    let v : s ≡ leader.Reply = replies f in
    subst (λ x. HandsAfter p n t h x leader.Done) (sym q) (at_reply (swept_by p n h).fired (fired_at p t h) (is_told t h) (is_noted t h) s v i)
  where
    replies : m ≡ n → s ≡ leader.Reply
    replies f = grind arith
hands_move p n t s e h o q l d b a i = tt

pub hands : (p : Plan) (n : ℕ) (h : List Entry) → IsHistory p h → OnLeader (Hands p n h) (place_of p n h)
hands p n [] l = tt
hands p n (e ∷ h) l =
    let i = hands p n h l.0 in
    leader_step p n h e.op (place_of p n h) (Hands p n (e ∷ h))
    (λ t s b a. hands_grow (swept_by p n h).fired (swept_by p n (e ∷ h)).fired (fired_at p t h) (fired_at p t (e ∷ h)) (is_told t h) (is_told t (e ∷ h)) (is_noted t h) (is_noted t (e ∷ h)) s (ap (λ x. x.fired) (swept_by_stays p n e h a)) (λ x. fired_stays p t e h l (leader_swept p n t s h l.0 b x)) (or_right (tells_all t e.op) (is_told t h)) (or_right (notes t e.op) (is_noted t h)) (subst (OnLeader (Hands p n h)) b i))
    (λ t _. tt)
    (λ t s b a. hands_move p n t s e h e.op refl l (due p e h l) b a (subst (OnLeader (Hands p n h)) b i))

pub fired_list_in_hand : FiredListInHand
fired_list_in_hand p n t s h l b = subst (OnLeader (Hands p n h)) b (hands p n h l)

-- Notes. -----------------------------------------------------------------------------------------------

full_hand : (f a : List Firing) (t : Bool) → IsFull f → HasInHand f a t → f ≡ a
full_hand f a t i (inl e) = e
full_hand f a t i (inr e) = absurd (subst IsFull e.0 i)

abbrev IsWhole : Plan → List Entry → Note → Type 0
IsWhole p h x = (x.fired ≡ fired_at p x.tx h) × IsFull x.fired

whole_more : (p : Plan) (e : Entry) (h : List Entry) (x : Note) → IsHistory p (e ∷ h) → is_swept x.tx h ≡ true → IsWhole p h x → IsWhole p (e ∷ h) x
whole_more p e h x l s i = (i.0 ∙ sym (fired_stays p x.tx e h l s), i.1)

note_whole : (p : Plan) (n t k : ℕ) (e : Entry) (h : List Entry) → IsHistory p (e ∷ h) → IsDue p h (op.Notify n t k) → IsWhole p (e ∷ h) (record { tx = t; fired = (swept_by p n h).fired })
note_whole p n t k e h l d =
    let i = fired_list_in_hand p n t leader.Notify h l.0 d.0 in
    whole_more p e h (record { tx = t; fired = (swept_by p n h).fired }) l (leader_swept p n t leader.Notify h l.0 d.0 refl) (full_hand (swept_by p n h).fired (fired_at p t h) (is_told t h) i.0 i.1, i.0)

whole_step : (p : Plan) (w : ℕ) (e : Entry) (h : List Entry) (o : Op) (x : Note) → IsHistory p (e ∷ h) → IsDue p h o → (note_of p w h ≡ Some x → IsWhole p h x) → or_else (note_in p w h o) (note_of p w h) ≡ Some x → IsWhole p (e ∷ h) x
whole_step p w e h (op.Notify n t k) x l d i a = by_test (k == w) a
  where
    note_is : Some (record { tx = t; fired = (swept_by p n h).fired }) ≡ Some x → record { tx = t; fired = (swept_by p n h).fired } ≡ x
    note_is a = cc

    by_test : (b : Bool) → or_else (if b then Some (record { tx = t; fired = (swept_by p n h).fired }) else None) (note_of p w h) ≡ Some x → IsWhole p (e ∷ h) x
    by_test true a = subst (IsWhole p (e ∷ h)) (note_is a) (note_whole p n t k e h l d)
    by_test false a = whole_more p e h x l (note_published p w h x l.0 a).swept (i a)
whole_step p w e h o x l d i a = whole_more p e h x l (note_published p w h x l.0 a).swept (i a)

whole_note : (p : Plan) (w : ℕ) (h : List Entry) (x : Note) → IsHistory p h → note_of p w h ≡ Some x → IsWhole p h x
whole_note p w [] x l e = absurd (grind arith)
whole_note p w (y ∷ h) x l e = whole_step p w y h y.op x l (due p y h l) (whole_note p w h x l.0) e

pub note_tells_what_its_push_fired : NoteTellsWhatItsPushFired
note_tells_what_its_push_fired p w h x l e = let i = whole_note p w h x l e in let j = note_published p w h x l e in record { all = i.0; some = i.1; published = j.published; noted = j.noted }

-- What is done. ----------------------------------------------------------------------------------------

-- a push that becomes done: a leader stood before its end, or before its drop
newly_done : (p : Plan) (u : ℕ) (h : List Entry) (o : Op) → IsHistory p h → IsDue p h o → done_of h < u → u ≤ done_in o (done_of h) → ((n : ℕ) × (place_of p n h ≡ Leading u leader.Done)) ⊎ IsDead u h
newly_done p u h (op.DropOk n t) l d a b =
    let r = leader_at_or_below_the_head p n t h l (leader_task p n h t leader.Drop l d.0) in
    let c = done_is_removed_or_one_more p h l in
    let f : t ≡ u = same t r.1 d.1 b c.0 in
    elim (leader_stands_where_it_may p n t leader.Drop h l d.0) [ inl x ↦ inr (subst (λ x. IsDead x h) f x) | inr y ↦ absurd (omega (arith, y, d.1)) ]
  where
    same : (t : ℕ) → t ≤ removed_by leads h + 1 → done_of h < t → u ≤ max t (done_of h) → removed_by leads h ≤ done_of h → t ≡ u
    same t x y z w = grind (arith, nat_tests)
newly_done p u h (op.DoneOk n t) l d a b =
    let r = leader_at_or_below_the_head p n t h l (leader_task p n h t leader.Done l d.0) in
    let c = done_is_removed_or_one_more p h l in
    let f : t ≡ u = same t r.1 d.1 b c.0 in
    inl (n, subst (λ x. place_of p n h ≡ Leading x leader.Done) f d.0)
  where
    same : (t : ℕ) → t ≤ removed_by leads h + 1 → done_of h < t → u ≤ max t (done_of h) → removed_by leads h ≤ done_of h → t ≡ u
    same t x y z w = grind (arith, nat_tests)
newly_done p u h o l d a b = absurd (omega (arith, a, b))

-- a committed push that is done is published
done_mark_step : (p : Plan) (t : ℕ) (h : List Entry) (o : Op) → IsHistory p h → IsDue p h o → (is_committed t h ≡ true → t ≤ done_of h → t ≤ mark_of h) → is_committed t h ≡ true → t ≤ done_in o (done_of h) → t ≤ mark_of h
done_mark_step p t h o l d i a b = by_old (nat_le t (done_of h)) refl
  where
    dead_not : IsDead t h → ⊥
    dead_not x = false≢true (sym x.uncommitted ∙ a)

    by_old : (c : Bool) → nat_le t (done_of h) ≡ c → t ≤ mark_of h
    by_old true e = i a (grind (arith, nat_tests))
    by_old false e = elim (newly_done p t h o l d (grind (arith, nat_tests)) b) [ inl x ↦ (leader_stands_where_it_may p x.0 t leader.Done h l x.1).1 | inr y ↦ absurd (dead_not y) ]

done_step : (p : Plan) (t : ℕ) (h : List Entry) (o : Op) → IsHistory p h → IsDue p h o → (is_committed t h ≡ true → t ≤ done_of h → t ≤ mark_of h) → (commits t o || is_committed t h) ≡ true → t ≤ done_in o (done_of h) → t ≤ mark_in o (mark_of h)
done_step p t h (op.CommitOk n s) l d i a b = let c = commits_are_beyond_the_sweep p n s h l d in grind (arith, nat_tests)
done_step p t h o l d i a b = let m = done_mark_step p t h o l d i a b in let g = mark_grows (mark_of h) o in omega (arith, m, g)

pub done_mark : (p : Plan) (t : ℕ) (h : List Entry) → IsHistory p h → is_committed t h ≡ true → t ≤ done_of h → t ≤ mark_of h
done_mark p t [] l a b = absurd (false≢true a)
done_mark p t (e ∷ h) l a b = done_step p t h e.op l.0 (due p e h l) (done_mark p t h l.0) a b

noted_more : (p : Plan) (t : ℕ) (e : Entry) (h : List Entry) → IsHistory p (e ∷ h) → is_swept t h ≡ true → (fired_at p t h ≡ []) ⊎ (is_noted t h ≡ true) → (fired_at p t (e ∷ h) ≡ []) ⊎ (is_noted t (e ∷ h) ≡ true)
noted_more p t e h l s i = noted_grows (fired_at p t h) (fired_at p t (e ∷ h)) (is_noted t h) (is_noted t (e ∷ h)) (fired_stays p t e h l s) (or_right (notes t e.op) (is_noted t h)) i

noted_step : (p : Plan) (t : ℕ) (e : Entry) (h : List Entry) → IsHistory p (e ∷ h) → (t ≤ done_of h → (fired_at p t h ≡ []) ⊎ (is_noted t h ≡ true)) → t ≤ done_in e.op (done_of h) → (fired_at p t (e ∷ h) ≡ []) ⊎ (is_noted t (e ∷ h) ≡ true)
noted_step p t e h l i b = by_swept (is_swept t (e ∷ h)) refl
  where
    old : t ≤ done_of h → is_swept t (e ∷ h) ≡ true → is_swept t h ≡ true
    old a f = let c = swept_was_committed p t e h l f in stands_swept p t h l.0 c (done_mark p t h l.0 c a)

    fresh : is_swept t (e ∷ h) ≡ true → ((n : ℕ) × (place_of p n h ≡ Leading t leader.Done)) ⊎ IsDead t h → (fired_at p t (e ∷ h) ≡ []) ⊎ (is_noted t (e ∷ h) ≡ true)
    fresh f (inl x) = noted_more p t e h l (leader_swept p x.0 t leader.Done h l.0 x.1 refl) (fired_list_in_hand p x.0 t leader.Done h l.0 x.1)
    fresh f (inr y) = absurd (false≢true (sym y.uncommitted ∙ swept_was_committed p t e h l f))

    by_old : (c : Bool) → nat_le t (done_of h) ≡ c → is_swept t (e ∷ h) ≡ true → (fired_at p t (e ∷ h) ≡ []) ⊎ (is_noted t (e ∷ h) ≡ true)
    by_old true g f = let a : t ≤ done_of h = leb-true t (done_of h) g in noted_more p t e h l (old a f) (i a)
    by_old false g f = fresh f (newly_done p t h e.op l.0 (due p e h l) (leb-false t (done_of h) g) b)

    by_swept : (c : Bool) → is_swept t (e ∷ h) ≡ c → (fired_at p t (e ∷ h) ≡ []) ⊎ (is_noted t (e ∷ h) ≡ true)
    by_swept false f = inl (unswept_fired p t (e ∷ h) f)
    by_swept true f = by_old (nat_le t (done_of h)) refl f

pub fired_push_is_noted_before_done : FiredPushIsNotedBeforeDone
fired_push_is_noted_before_done p t [] l b = inl refl
fired_push_is_noted_before_done p t (e ∷ h) l b = noted_step p t e h l (fired_push_is_noted_before_done p t h l.0) b

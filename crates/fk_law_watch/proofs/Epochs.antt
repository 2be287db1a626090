-- Epochs: the numbers of the watches that have fired and aren't told.
use Rattle.std.specs.Prelude.{◌==◌, ◌||◌, if◌then◌else◌, is_some}
use Rattle.std.specs.Ordering.{nat_cmp, is_eq}
use Rattle.std.specs.FinMap.{nat_cmp-IsAntisymmetric}
use Rattle.std.proofs.lemmas.Cmp.{nat_cmp_total}
use Rattle.std.proofs.Common.{◌≡◌, ℕ, ◌<◌, ◌≤◌, ◌++◌, Bool, true, false, List, [], ◌∷◌, refl, sym, ◌∙◌, ap, subst, arith, Option, Some, None}
use Rattle.std.proofs.lemmas.Bool.{false≢true, or_right}
use Rattle.std.proofs.lemmas.Bool.Decides.{nat_tests}
use Rattle.fk_base.specs.Path.{PathNames}
use Rattle.fk_tree.specs.Sorted.{has, sorted}
use Rattle.fk_tree.proofs.Rising.{has_with}
use Rattle.fk_print.specs.declared.entry.Entry.{Entry}
use Rattle.fk_print.specs.declared.op.Op.{Op}
use Rattle.fk_print.specs.declared.op.Op.TheVariants as op
use Rattle.fk_spec.specs.Plan.{Plan}
use Rattle.fk_spec.specs.Start.{or_else}
use Rattle.fk_spec.specs.Settling.{is_committed, swept_of, mark_of, mark_in}
use Rattle.fk_spec.specs.Stored.{committed_as}
use Rattle.fk_spec.specs.Watches.{Firing, Swept, firings, set_watches, touches_of_push, not_of, fired_after, fired_watches, fired_by, ids_of, epoch_of, sweep_in, swept_or, swept_by, epoch_after, published_epoch, firing_with, firing_in, firing_of}
use Rattle.fk_spec.specs.Leader.{next_leader, to_put, to_notify, after_put, paths_to_put}
use Rattle.fk_spec.specs.Leader as leader
use Rattle.fk_spec.specs.Client.{contains}
use Rattle.fk_spec.specs.Function.{Leading, place_of, actor}
use Rattle.fk_spec.specs.Next.{IsHistory}
use Rattle.fk_law.specs.Due.{IsDue}
use Rattle.fk_law.proofs.Due.{due}
use Rattle.fk_law.proofs.Leading.{leader_stands_where_it_may, mark_behind_sweep, done_is_removed_or_one_more, leader_at_or_below_the_head, mark_grows}
use Rattle.fk_law.proofs.Moving.{OnLeader, leader_step}
use Rattle.fk_law.proofs.Starting.{leader_task}
use Rattle.fk_law_watch.specs.Noting.{untold, fired_at}
use Rattle.fk_law_watch.specs.Epochs.{HaveFired, IsComplete, HoldsSo, Holds, LeaderHoldsACompleteEpoch, EpochHasFired, UntoldFiredWatchIsInTheEpoch}
use Rattle.fk_law_watch.proofs.SetWatches.{by_or}
use Rattle.fk_law_watch.proofs.Listing.{fired_of, or_maps}
use Rattle.fk_law_watch.proofs.SetWatches.{watches_unique}
use Rattle.fk_law_watch.proofs.Noting.{fired_is_listed, fired_at_its_push}
use Rattle.fk_law_watch.proofs.Handing.{swept_by_stays, swept_now, done_mark}

-- Numbers in lists. ------------------------------------------------------------------------------------

same_tests : (x id : ℕ) → (x == id) ≡ is_eq (nat_cmp id x)
same_tests x id = grind (arith, nat_tests)

contains_has : (id : ℕ) (xs : List ℕ) → contains id xs ≡ has nat_cmp id xs
contains_has id [] = refl
contains_has id (x ∷ xs) = λ i. (same_tests x id) i || (contains_has id xs) i

sorted_has : (id : ℕ) (xs : List ℕ) → has nat_cmp id (sorted nat_cmp xs) ≡ has nat_cmp id xs
sorted_has id [] = refl
sorted_has id (x ∷ xs) = has_with nat_cmp_total nat_cmp-IsAntisymmetric id x (sorted nat_cmp xs) ∙ ap (λ b. is_eq (nat_cmp id x) || b) (sorted_has id xs)

epoch_contains : (id : ℕ) (fs : List Firing) → contains id (epoch_of fs) ≡ contains id (ids_of fs)
epoch_contains id fs = contains_has id (epoch_of fs) ∙ sorted_has id (ids_of fs) ∙ sym (contains_has id (ids_of fs))

pub contains_is : (id : ℕ) (fs : List Firing) → contains id (ids_of fs) ≡ is_some (firing_with id fs)
contains_is id [] = refl
contains_is id (f ∷ fs) = one (f.watch.id == id) (contains_is id fs)
  where
    one : (b : Bool) → contains id (ids_of fs) ≡ is_some (firing_with id fs) → (b || contains id (ids_of fs)) ≡ is_some (if b then Some f else firing_with id fs)
    one true i = refl
    one false i = i

contains_append : (id : ℕ) (fs gs : List Firing) → contains id (ids_of (fs ++ gs)) ≡ (contains id (ids_of fs) || contains id (ids_of gs))
contains_append id [] gs = refl
contains_append id (f ∷ fs) gs = one (f.watch.id == id) (contains_append id fs gs)
  where
    one : (b : Bool) → contains id (ids_of (fs ++ gs)) ≡ (contains id (ids_of fs) || contains id (ids_of gs)) → (b || contains id (ids_of (fs ++ gs))) ≡ ((b || contains id (ids_of fs)) || contains id (ids_of gs))
    one true i = refl
    one false i = i

kept_contains : (id s : ℕ) (fs : List Firing) → contains id (ids_of (not_of s fs)) ≡ true → contains id (ids_of fs) ≡ true
kept_contains id s [] e = e
kept_contains id s (f ∷ fs) e = one (f.tx == s) (kept_contains id s fs) e
  where
    one : (b : Bool) → (contains id (ids_of (not_of s fs)) ≡ true → contains id (ids_of fs) ≡ true) → contains id (ids_of (if b then not_of s fs else f ∷ not_of s fs)) ≡ true → ((f.watch.id == id) || contains id (ids_of fs)) ≡ true
    one true i a = or_right (f.watch.id == id) (contains id (ids_of fs)) (i a)
    one false i a = or_maps (f.watch.id == id) (contains id (ids_of (not_of s fs))) (contains id (ids_of fs)) i a

pub by_contains : (id t : ℕ) (fs : List Firing) → contains id (ids_of (fired_by t fs)) ≡ true → contains id (ids_of fs) ≡ true
by_contains id t [] e = e
by_contains id t (f ∷ fs) e = one (f.tx == t) (by_contains id t fs) e
  where
    one : (b : Bool) → (contains id (ids_of (fired_by t fs)) ≡ true → contains id (ids_of fs) ≡ true) → contains id (ids_of (if b then f ∷ fired_by t fs else fired_by t fs)) ≡ true → ((f.watch.id == id) || contains id (ids_of fs)) ≡ true
    one true i a = or_maps (f.watch.id == id) (contains id (ids_of (fired_by t fs))) (contains id (ids_of fs)) i a
    one false i a = or_right (f.watch.id == id) (contains id (ids_of fs)) (i a)

some_left : (a b : Option Firing) → is_some a ≡ true → is_some (or_else a b) ≡ true
some_left None b e = absurd (false≢true e)
some_left (Some x) b e = refl

pub some_right : (a b : Option Firing) → is_some b ≡ true → is_some (or_else a b) ≡ true
some_right None b e = e
some_right (Some x) b e = refl

-- What is listed has fired. ----------------------------------------------------------------------------

listed_step : (p : Plan) (id : ℕ) (h : List Entry) (o : Op) → (contains id (ids_of (fired_watches p h)) ≡ true → is_some (firing_of p id h) ≡ true) → contains id (ids_of (fired_after p h o (fired_watches p h))) ≡ true → is_some (or_else (firing_in p id h o) (firing_of p id h)) ≡ true
listed_step p id h (op.SweepOk n s k) i a =
    let new = firings s (touches_of_push p s h) (set_watches p h) in
    by_or (contains id (ids_of (fired_watches p h))) (contains id (ids_of new)) (sym (contains_append id (fired_watches p h) new) ∙ a) (λ x. some_right (firing_with id new) (firing_of p id h) (i x)) (λ x. some_left (firing_with id new) (firing_of p id h) (sym (contains_is id new) ∙ x))
listed_step p id h (op.Told n s) i a = i (kept_contains id s (fired_watches p h) a)
listed_step p id h o i a = i a

pub listed_has_fired : (p : Plan) (id : ℕ) (h : List Entry) → contains id (ids_of (fired_watches p h)) ≡ true → is_some (firing_of p id h) ≡ true
listed_has_fired p id [] a = absurd (false≢true a)
listed_has_fired p id (e ∷ h) a = listed_step p id h e.op (listed_has_fired p id h) a

have_fired_more : (p : Plan) (e : Entry) (h : List Entry) (ids : List ℕ) → HaveFired p h ids → HaveFired p (e ∷ h) ids
have_fired_more p e h ids i id a = some_right (firing_in p id h e.op) (firing_of p id h) (i id a)

-- Leaders. ---------------------------------------------------------------------------------------------

-- a leader that another's sweep passed has published its push
passed_is_published : (p : Plan) (n t m u k : ℕ) (s : leader.Stage) (h : List Entry) → IsHistory p h → IsDue p h (op.SweepOk m u k) → t ≤ swept_of h → is_committed t h ≡ true → t ≤ mark_of h
passed_is_published p n t m u k s h l d a c =
    let r = leader_at_or_below_the_head p m u h l (leader_task p m h u leader.Sweep l d.0) in
    let b = done_is_removed_or_one_more p h l in
    let g = d.1 in
    done_mark p t h l c (let x = r.1 in let y = b.0 in omega (arith, x, y, g, a))

complete_step : (p : Plan) (t : ℕ) (ids : List ℕ) (e : Entry) (h : List Entry) (o : Op) → IsHistory p h → IsDue p h o → is_committed t h ≡ true → t ≤ swept_of h → mark_of h < t → ((id : ℕ) → contains id (ids_of (fired_watches p h)) ≡ true → contains id ids ≡ true) → (id : ℕ) → contains id (ids_of (fired_after p h o (fired_watches p h))) ≡ true → contains id ids ≡ true
complete_step p t ids e h (op.SweepOk m u k) l d c a b i id x = let y = passed_is_published p m t m u k leader.Publish h l d a c in absurd (omega (arith, b, y))
complete_step p t ids e h (op.Told m u) l d c a b i id x = i id (kept_contains id u (fired_watches p h) x)
complete_step p t ids e h o l d c a b i id x = i id x

complete_more : (p : Plan) (t : ℕ) (ids : List ℕ) (e : Entry) (h : List Entry) → IsHistory p (e ∷ h) → is_committed t h ≡ true → t ≤ swept_of h → IsComplete p h t ids → IsComplete p (e ∷ h) t ids
complete_more p t ids e h l c a i = (have_fired_more p e h ids i.0, λ m id x. let g = mark_grows (mark_of h) e.op in let b : mark_of h < t = omega (arith, g, m) in complete_step p t ids e h e.op l.0 (due p e h l) c a b (i.1 b) id x)

holds_grow : (p : Plan) (n t : ℕ) (s : leader.Stage) (e : Entry) (h : List Entry) → IsHistory p (e ∷ h) → place_of p n h ≡ Leading t s → swept_by p n (e ∷ h) ≡ swept_by p n h → Holds p n h t s → Holds p n (e ∷ h) t s
holds_grow p n t (leader.Put path others) e h l b q i = let w = leader_stands_where_it_may p n t (leader.Put path others) h l.0 b in subst (λ x. IsComplete p (e ∷ h) t x.epoch) (sym q) (complete_more p t (swept_by p n h).epoch e h l w.0 w.1 i)
holds_grow p n t leader.Publish e h l b q i = let w = leader_stands_where_it_may p n t leader.Publish h l.0 b in subst (λ x. IsComplete p (e ∷ h) t x.epoch) (sym q) (complete_more p t (swept_by p n h).epoch e h l w.0 w.1 i)
holds_grow p n t s e h l b q i = tt

put_holds : (C : Type 0) (ps : List PathNames) → C → HoldsSo C (to_put ps)
put_holds C [] i = i
put_holds C (p ∷ ps) i = i

notify_holds : (C : Type 0) (fs : List Firing) → HoldsSo C (to_notify fs)
notify_holds C [] = tt
notify_holds C (f ∷ fs) = tt

swept_complete : (p : Plan) (t u : ℕ) (h : List Entry) (x : Swept) → x ≡ record { fired = fired_by u (fired_watches p h); epoch = epoch_of (fired_watches p h) } → IsComplete p h t x.epoch
swept_complete p t u h x q = subst (λ y. IsComplete p h t y.epoch) (sym q) (λ id a. listed_has_fired p id h (sym (epoch_contains id (fired_watches p h)) ∙ a), λ m id a. epoch_contains id (fired_watches p h) ∙ a)

leads_same : (t u : ℕ) (s r : leader.Stage) → Leading t s ≡ Leading u r → s ≡ r
leads_same t u s r a = grind arith

holds_put : (p : Plan) (n t u : ℕ) (s : leader.Stage) (path : PathNames) (others : List PathNames) (e : Entry) (h : List Entry) → IsHistory p (e ∷ h) → place_of p n h ≡ Leading t s → place_of p n h ≡ Leading u (leader.Put path others) → swept_by p n (e ∷ h) ≡ swept_by p n h → Holds p n h t s → Holds p n (e ∷ h) t (after_put s)
holds_put p n t u s path others e h l b d q i =
    let f = leads_same t u s (leader.Put path others) (sym b ∙ d) in
    let g = holds_grow p n t s e h l b q i in
    subst (λ z. Holds p n (e ∷ h) t (after_put z)) (sym f) (put_holds (IsComplete p (e ∷ h) t (swept_by p n (e ∷ h)).epoch) others (subst (Holds p n (e ∷ h) t) f g))

holds_move : (p : Plan) (n t : ℕ) (s : leader.Stage) (e : Entry) (h : List Entry) (o : Op) → e.op ≡ o → IsHistory p (e ∷ h) → IsDue p h o → place_of p n h ≡ Leading t s → actor o ≡ Some n → Holds p n h t s → Holds p n (e ∷ h) t (next_leader p h t o s)
holds_move p n t s e h (op.SweepOk m u k) q l d b a i =
    let f : m ≡ n = grind arith in
    put_holds (IsComplete p (e ∷ h) t (swept_by p n (e ∷ h)).epoch) (paths_to_put (committed_as p t h)) (swept_complete p t u (e ∷ h) (swept_by p n (e ∷ h)) (ap (λ x. swept_or (sweep_in n x (fired_watches p (e ∷ h))) (swept_by p n h)) q ∙ swept_now n m u (fired_watches p (e ∷ h)) (swept_by p n h) f))
holds_move p n t s e h (op.SweepMiss m u w k) q l d b a i =
    let f : m ≡ n = grind arith in
    put_holds (IsComplete p (e ∷ h) t (swept_by p n (e ∷ h)).epoch) (paths_to_put (committed_as p t h)) (swept_complete p t u (e ∷ h) (swept_by p n (e ∷ h)) (ap (λ x. swept_or (sweep_in n x (fired_watches p (e ∷ h))) (swept_by p n h)) q ∙ swept_now n m u (fired_watches p (e ∷ h)) (swept_by p n h) f))
holds_move p n t s e h (op.PutOk m u path) q l d b a i =
    let f : m ≡ n = grind arith in
    holds_put p n t u s path d.0 e h l b (subst (λ x. place_of p x h ≡ Leading u (leader.Put path d.0)) f d.1) (ap (λ x. swept_or (sweep_in n x (fired_watches p (e ∷ h))) (swept_by p n h)) q) i
holds_move p n t s e h (op.PutMiss m u path stamp) q l d b a i =
    let f : m ≡ n = grind arith in
    holds_put p n t u s path d.0 e h l b (subst (λ x. place_of p x h ≡ Leading u (leader.Put path d.0)) f d.1) (ap (λ x. swept_or (sweep_in n x (fired_watches p (e ∷ h))) (swept_by p n h)) q) i
holds_move p n t s e h (op.PublishOk m u) q l d b a i = notify_holds (IsComplete p (e ∷ h) t (swept_by p n (e ∷ h)).epoch) (swept_by p m h).fired
holds_move p n t s e h (op.PublishMiss m u k) q l d b a i = notify_holds (IsComplete p (e ∷ h) t (swept_by p n (e ∷ h)).epoch) (swept_by p m h).fired
holds_move p n t s e h o q l d b a i = tt

holds : (p : Plan) (n : ℕ) (h : List Entry) → IsHistory p h → OnLeader (Holds p n h) (place_of p n h)
holds p n [] l = tt
holds p n (e ∷ h) l =
    let i = holds p n h l.0 in
    leader_step p n h e.op (place_of p n h) (Holds p n (e ∷ h))
    (λ t s b a. holds_grow p n t s e h l b (swept_by_stays p n e h a) (subst (OnLeader (Holds p n h)) b i))
    (λ t _. tt)
    (λ t s b a. holds_move p n t s e h e.op refl l (due p e h l) b a (subst (OnLeader (Holds p n h)) b i))

pub leader_holds_a_complete_epoch : LeaderHoldsACompleteEpoch
leader_holds_a_complete_epoch p n t s h l b = subst (OnLeader (Holds p n h)) b (holds p n h l)

-- The published epoch. ---------------------------------------------------------------------------------

epoch_fired_step : (p : Plan) (e : Entry) (h : List Entry) (o : Op) → IsHistory p h → IsDue p h o → HaveFired p h (published_epoch p h) → HaveFired p (e ∷ h) (epoch_after p h o (published_epoch p h))
epoch_fired_step p e h (op.PublishOk n t) l d i = have_fired_more p e h (swept_by p n h).epoch (leader_holds_a_complete_epoch p n t leader.Publish h l d.0).0
epoch_fired_step p e h o l d i = have_fired_more p e h (published_epoch p h) i

pub epoch_has_fired : EpochHasFired
epoch_has_fired p [] l id a = absurd (false≢true a)
epoch_has_fired p (e ∷ h) l id a = epoch_fired_step p e h e.op l.0 (due p e h l) (λ j b. epoch_has_fired p h l.0 j b) id a

-- a listed watch that fired up to the mark is in the published epoch
in_epoch_step : (p : Plan) (id : ℕ) (f : Firing) (h : List Entry) (o : Op) → IsHistory p h → IsDue p h o → (firing_of p id h ≡ Some f → contains id (ids_of (fired_watches p h)) ≡ true → f.tx ≤ mark_of h → contains id (published_epoch p h) ≡ true) → or_else (firing_in p id h o) (firing_of p id h) ≡ Some f → contains id (ids_of (fired_after p h o (fired_watches p h))) ≡ true → f.tx ≤ mark_in o (mark_of h) → contains id (epoch_after p h o (published_epoch p h)) ≡ true
in_epoch_step p id f h (op.PublishOk n t) l d i a b c = (leader_holds_a_complete_epoch p n t leader.Publish h l d.0).1 d.1 id b
in_epoch_step p id f h (op.SweepOk n s k) l d i a b c = by_new (firing_with id new) refl a
  where
    new : List Firing
    new = firings s (touches_of_push p s h) (set_watches p h)

    by_new : (o : Option Firing) → firing_with id new ≡ o → or_else o (firing_of p id h) ≡ Some f → contains id (published_epoch p h) ≡ true
    by_new None e a = i a (by_or (contains id (ids_of (fired_watches p h))) (contains id (ids_of new)) (sym (contains_append id (fired_watches p h) new) ∙ b) (λ x. x) (λ x. absurd (false≢true (sym (contains_is id new ∙ ap is_some e) ∙ x)))) c
    by_new (Some g) e a =
        let x = (fired_of id s (touches_of_push p s h) (set_watches p h) f (watches_unique p h l) (e ∙ a)).1 in
        let m = (mark_behind_sweep p h l).0 in
        let z = d.1 in
        absurd (omega (arith, x, m, z, c))
in_epoch_step p id f h (op.Told n s) l d i a b c = i a (kept_contains id s (fired_watches p h) b) c
in_epoch_step p id f h o l d i a b c = i a b c

in_epoch : (p : Plan) (id : ℕ) (f : Firing) (h : List Entry) → IsHistory p h → firing_of p id h ≡ Some f → contains id (ids_of (fired_watches p h)) ≡ true → f.tx ≤ mark_of h → contains id (published_epoch p h) ≡ true
in_epoch p id f [] l a b c = absurd (false≢true b)
in_epoch p id f (e ∷ h) l a b c = in_epoch_step p id f h e.op l.0 (due p e h l) (in_epoch p id f h l.0) a b c

pub untold_fired_watch_is_in_the_epoch : UntoldFiredWatchIsInTheEpoch
untold_fired_watch_is_in_the_epoch p id h f l a b c =
    let r = fired_is_listed p f.tx h l ∙ ap (λ x. untold x (fired_at p f.tx h)) b in
    let q = contains_is id (fired_at p f.tx h) ∙ ap is_some (fired_at_its_push p id h f l a) in
    in_epoch p id f h l a (by_contains id f.tx (fired_watches p h) (ap (λ x. contains id (ids_of x)) r ∙ q)) c

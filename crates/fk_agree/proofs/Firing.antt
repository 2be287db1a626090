-- The watches that fired, each once, and what a sweep and a telling make of the watch of a number.
use Rattle.std.specs.Prelude.{◌==◌, option_map, is_some}
use Rattle.std.proofs.Common.{◌≡◌, ℕ, ◌++◌, inl, inr, Bool, true, false, cond, List, [], ◌∷◌, refl, sym, ◌∙◌, ap, subst, arith, Option, Some, None}
use Rattle.std.proofs.lemmas.Bool.{false≢true}
use Rattle.std.proofs.lemmas.Bool.Decides.{nat_tests}
use Rattle.fk_tree.specs.Watch.{first_taken}
use Rattle.fk_tree.specs.declared.change.Change.{Change}
use Rattle.fk_tree.specs.declared.change.Touch.{Touch}
use Rattle.fk_print.specs.declared.entry.Entry.{Entry}
use Rattle.fk_print.specs.declared.op.Op.{Op}
use Rattle.fk_print.specs.declared.op.Op.TheVariants as op
use Rattle.fk_watch.specs.Sweeping as table
use Rattle.fk_watch.specs.Sweeping.{fires, unless}
use Rattle.fk_stand.specs.Stores.{firing_as, watch_as}
use Rattle.fk_spec.specs.Plan.{Plan}
use Rattle.fk_spec.specs.Start.{or_else}
use Rattle.fk_spec.specs.Watches.{Firing, Watch, fired_after, fired_as, fired_watches, firing_of, firing_with, firings, not_fired, not_of, set_watches, touches_of_push}
use Rattle.fk_spec.specs.Next.{IsHistory}
use Rattle.fk_spec.specs.WatchNumbers.{watch_with}
use Rattle.fk_law.specs.Due.{IsDue}
use Rattle.fk_law.proofs.Due.{due}
use Rattle.fk_law_watch.proofs.Epochs.{contains_is, listed_has_fired}
use Rattle.fk_law_watch.proofs.Listing.{AreUnique, fired_one, fires_none, fires_watch, has_is}
use Rattle.fk_law_watch.proofs.SetWatches.{fires_once, sweep_leaves_none, sweep_of_set, watches_unique}
use Rattle.fk_base.proofs.Logic.{by_test}

-- Each fired watch stands once. -------------------------------------------------------------------------

-- no number stands twice
abbrev pub FireOnce : List Firing → Type 0
FireOnce [] = Unit {0}
FireOnce (f ∷ fs) = (firing_with f.watch.id fs ≡ None) × FireOnce fs

pub firing_append : (id : ℕ) (fs gs : List Firing) → firing_with id (fs ++ gs) ≡ or_else (firing_with id fs) (firing_with id gs)
firing_append id [] gs = refl
firing_append id (f ∷ fs) gs = by_test (f.watch.id == id) (λ b. cond b (Some f) (firing_with id (fs ++ gs)) ≡ or_else (cond b (Some f) (firing_with id fs)) (firing_with id gs)) (λ _. refl) (λ _. firing_append id fs gs)

fired_once_more : (id t : ℕ) (w : Watch) (o : Option Change) (fs : List Firing) → w.id ≡ id → firing_with id fs ≡ None → FireOnce fs → FireOnce (fired_as t w o fs)
fired_once_more id t w None fs e a b = b
fired_once_more id t w (Some c) fs e a b = (subst (λ x. firing_with x fs ≡ None) (sym e) a, b)

pub firings_once : (t : ℕ) (ts : List Touch) (ws : List Watch) → AreUnique ws → FireOnce (firings t ts ws)
firings_once t ts [] u = tt
firings_once t ts (w ∷ ws) u = fired_once_more w.id t w (first_taken w.path w.kind ts) (firings t ts ws) refl (fires_none w.id t ts ws u.0) (firings_once t ts ws u.1)

own_there : (f : Firing) (fs : List Firing) → is_some (firing_with f.watch.id (f ∷ fs)) ≡ true
own_there f fs = by_test (f.watch.id == f.watch.id) (λ b. is_some (cond b (Some f) (firing_with f.watch.id fs)) ≡ true) (λ _. refl) (λ e. absurd (grind (arith, nat_tests)))

other_there : (id : ℕ) (f : Firing) (fs : List Firing) → is_some (firing_with id fs) ≡ true → is_some (firing_with id (f ∷ fs)) ≡ true
other_there id f fs e = by_test (f.watch.id == id) (λ b. is_some (cond b (Some f) (firing_with id fs)) ≡ true) (λ _. refl) (λ _. e)

append_once : (fs gs : List Firing) → FireOnce fs → FireOnce gs → ((id : ℕ) → is_some (firing_with id fs) ≡ true → firing_with id gs ≡ None) → FireOnce (fs ++ gs)
append_once [] gs a b k = b
append_once (f ∷ fs) gs a b k =
    (firing_append f.watch.id fs gs ∙ (ap (λ o. or_else o (firing_with f.watch.id gs)) a.0 ∙ k f.watch.id (own_there f fs)), append_once fs gs a.1 b (λ id e. k id (other_there id f fs e)))

none_left : (id t : ℕ) (fs : List Firing) → firing_with id fs ≡ None → firing_with id (not_of t fs) ≡ None
none_left id t [] e = refl
none_left id t (f ∷ fs) e = one (f.tx == t) (f.watch.id == id) refl e (none_left id t fs)
  where
    one : (b c : Bool) → (f.watch.id == id) ≡ c → cond c (Some f) (firing_with id fs) ≡ None → (firing_with id fs ≡ None → firing_with id (not_of t fs) ≡ None) → firing_with id (cond b (not_of t fs) (f ∷ not_of t fs)) ≡ None
    one b true x g i = absurd (grind arith)
    one true false x g i = i g
    one false false x g i = ap (λ z. cond z (Some f) (firing_with id (not_of t fs))) x ∙ i g

not_of_once : (t : ℕ) (fs : List Firing) → FireOnce fs → FireOnce (not_of t fs)
not_of_once t [] u = tt
not_of_once t (f ∷ fs) u = by_test (f.tx == t) (λ b. FireOnce (cond b (not_of t fs) (f ∷ not_of t fs))) (λ _. not_of_once t fs u.1) (λ _. (none_left f.watch.id t fs u.0, not_of_once t fs u.1))

-- a watch that fired and isn't told fires no more
pub fires_no_more : (p : Plan) (id n t k : ℕ) (h : List Entry) → IsHistory p h → IsDue p h (op.SweepOk n t k) → is_some (firing_with id (fired_watches p h)) ≡ true → firing_with id (firings t (touches_of_push p t h) (set_watches p h)) ≡ None
fires_no_more p id n t k h l d e = by_firing (firing_of p id h) refl (listed_has_fired p id h (contains_is id (fired_watches p h) ∙ e))
  where
    by_firing : (o : Option Firing) → firing_of p id h ≡ o → is_some o ≡ true → firing_with id (firings t (touches_of_push p t h) (set_watches p h)) ≡ None
    by_firing None f g = absurd (false≢true g)
    by_firing (Some x) f g = fires_once p id n t k h x l d f

once_step : (p : Plan) (h : List Entry) (o : Op) → IsHistory p h → IsDue p h o → FireOnce (fired_watches p h) → FireOnce (fired_after p h o (fired_watches p h))
once_step p h (op.SweepOk n t k) l d u = append_once (fired_watches p h) (firings t (touches_of_push p t h) (set_watches p h)) u (firings_once t (touches_of_push p t h) (set_watches p h) (watches_unique p h l)) (λ id. fires_no_more p id n t k h l d)
once_step p h (op.Told n t) l d u = not_of_once t (fired_watches p h) u
once_step p h o l d u = u

pub fired_once : (p : Plan) (h : List Entry) → IsHistory p h → FireOnce (fired_watches p h)
fired_once p [] l = tt
fired_once p (e ∷ h) l = once_step p h e.op l.0 (due p e h l) (fired_once p h l.0)

-- What a telling leaves. --------------------------------------------------------------------------------

pub told_with : (id t : ℕ) (fs : List Firing) → FireOnce fs → table.not_of t (option_map firing_as (firing_with id fs)) ≡ option_map firing_as (firing_with id (not_of t fs))
told_with id t [] u = refl
told_with id t (f ∷ fs) u = one (f.tx == t) (f.watch.id == id) refl refl (told_with id t fs u.1)
  where
    gone : (f.watch.id == id) ≡ true → firing_with id (not_of t fs) ≡ None
    gone y = let z : f.watch.id ≡ id = grind (arith, nat_tests) in none_left id t fs (subst (λ x. firing_with x fs ≡ None) z u.0)

    one : (b c : Bool) → (f.tx == t) ≡ b → (f.watch.id == id) ≡ c → table.not_of t (option_map firing_as (firing_with id fs)) ≡ option_map firing_as (firing_with id (not_of t fs)) → table.not_of t (option_map firing_as (cond c (Some f) (firing_with id fs))) ≡ option_map firing_as (firing_with id (cond b (not_of t fs) (f ∷ not_of t fs)))
    one true true x y i = ap (λ z. cond z None (Some (firing_as f))) x ∙ sym (ap (option_map firing_as) (gone y))
    one false true x y i = ap (λ z. cond z None (Some (firing_as f))) x ∙ sym (ap (λ z. option_map firing_as (cond z (Some f) (firing_with id (not_of t fs)))) y)
    one true false x y i = i
    one false false x y i = i ∙ sym (ap (λ z. option_map firing_as (cond z (Some f) (firing_with id (not_of t fs)))) y)

-- What a sweep makes of the watch of a number. ----------------------------------------------------------

one_fires : (t : ℕ) (w : Watch) (o : Option Change) → table.firing t (watch_as w) o ≡ option_map firing_as (fired_one t w o)
one_fires t w None = refl
one_fires t w (Some c) = refl

pub fires_as : (id t : ℕ) (ts : List Touch) (ws : List Watch) → AreUnique ws → fires t ts (option_map watch_as (watch_with id ws)) ≡ option_map firing_as (firing_with id (firings t ts ws))
fires_as id t ts ws u = by_watch (watch_with id ws) refl
  where
    by_watch : (o : Option Watch) → watch_with id ws ≡ o → fires t ts (option_map watch_as o) ≡ option_map firing_as (firing_with id (firings t ts ws))
    by_watch None e = sym (ap (option_map firing_as) (fires_none id t ts ws (has_is id ws ∙ ap is_some e)))
    by_watch (Some w) e = one_fires t w (first_taken w.path w.kind ts) ∙ sym (ap (option_map firing_as) (fires_watch id t ts ws w u e))

-- the watches that don't fire stay set
pub stays_as : (id t : ℕ) (ts : List Touch) (ws : List Watch) → AreUnique ws → unless (option_map firing_as (firing_with id (firings t ts ws))) (option_map watch_as (watch_with id ws)) ≡ option_map watch_as (watch_with id (not_fired ts ws))
stays_as id t ts ws u = by_watch (watch_with id ws) refl
  where
    by_watch : (o : Option Watch) → watch_with id ws ≡ o → unless (option_map firing_as (firing_with id (firings t ts ws))) (option_map watch_as o) ≡ option_map watch_as (watch_with id (not_fired ts ws))
    by_watch None e =
        let s = sweep_leaves_none id t ts ws e in
        ap (λ x. unless (option_map firing_as x) None) s.1 ∙ sym (ap (option_map watch_as) s.0)
    by_watch (Some w) e = elim (sweep_of_set id t ts ws w u e) [
      | inl x ↦ ap (λ y. unless (option_map firing_as y) (Some (watch_as w))) x.1 ∙ sym (ap (option_map watch_as) x.0)
      | inr y ↦ ap (λ z. unless (option_map firing_as z) (Some (watch_as w))) y.2 ∙ sym (ap (option_map watch_as) y.0)
    ]

-- those that fire come behind what has fired before
pub fired_as_before : (a b : Option Firing) → (is_some b ≡ true → a ≡ None) → table.or_else (option_map firing_as a) (option_map firing_as b) ≡ option_map firing_as (or_else b a)
fired_as_before None None k = refl
fired_as_before (Some x) None k = refl
fired_as_before None (Some y) k = refl
fired_as_before (Some x) (Some y) k = absurd (some_none (k refl))
  where
    some_none : Some x ≡ None → ⊥
    some_none e = grind arith

-- What a table means after a call, and that it stays sound.
use Rattle.std.proofs.Common.{◌≡◌, ◌<◌, ◌≤◌, ◌+◌, ℕ, ◌==◌, Bool, true, false, cond, List, Option, Some, None, refl, sym, ◌∙◌, ap, arith}
use Rattle.std.specs.Prelude.{is_some}
use Rattle.std.proofs.lemmas.Bool.{eqb-true}
use Rattle.fk_base.specs.Path.{PathNames}
use Rattle.fk_tree.specs.Watch.{first_taken, has_touch}
use Rattle.fk_tree.specs.declared.change.Change.{Change}
use Rattle.fk_tree.specs.declared.change.Touch.{Touch}
use Rattle.fk_watch.specs.declared.watch.Watch.{Watch}
use Rattle.fk_watch.specs.declared.watch.Firing.{Firing}
use Rattle.fk_watch.specs.Meaning.{Watches, new_watches}
use Rattle.fk_watch.specs.Registering.{with_watch, IsUnset}
use Rattle.fk_watch.specs.Sound.{IsGiven, IsSound}
use Rattle.fk_watch.specs.Sweeping.{fires, firing, not_of, or_else, swept_for, told_for, unless}
use Rattle.fk_base.proofs.Logic.{by_test}

-- tables that have the same parts are the same
pub same_watches : (m n : Watches) → m.given ≡ n.given → ((i : ℕ) → m.set i ≡ n.set i) → ((i : ℕ) → m.fired i ≡ n.fired i) → m.swept ≡ n.swept → ((p : PathNames) → m.last p ≡ n.last p) → m.armed ≡ n.armed → m.faults ≡ n.faults → m ≡ n
same_watches m n a b c d e f g = λ i. record { given = a i; set = λ k. (b k) i; fired = λ k. (c k) i; swept = d i; last = λ p. (e p) i; armed = f i; faults = g i }

-- SOUND
pub sound_new : IsSound new_watches
sound_new = record {
  set_given = λ n e. absurd (cc);
  fired_given = λ n e. absurd (cc);
  apart = λ n e. refl;
  one = λ i j w e f. absurd (cc);
  fired_swept = λ n f e. absurd (cc);
  last_swept = λ p. omega arith;
}

-- whether the next call fails says nothing of the watches
pub sound_still : (m : Watches) (b : Bool) (n : ℕ) → IsSound m → IsSound (record m { armed = b; faults = n })
sound_still m b n s = record {
  set_given = s.set_given;
  fired_given = s.fired_given;
  apart = s.apart;
  one = s.one;
  fired_swept = s.fired_swept;
  last_swept = s.last_swept;
}

some_left : (tx : ℕ) (o : Option Firing) → is_some (not_of tx o) ≡ true → is_some o ≡ true
some_left tx None e = absurd (cc)
some_left tx (Some f) e = refl

was_there : (tx : ℕ) (o : Option Firing) (f : Firing) → not_of tx o ≡ Some f → o ≡ Some f
was_there tx None f e = absurd (cc)
was_there tx (Some g) f e = by_test (g.tx == tx) (λ b. cond b None (Some g) ≡ Some f → Some g ≡ Some f) (λ _ h. absurd (cc)) (λ _ h. h) e

pub sound_told : (m : Watches) (tx : ℕ) → IsSound m → IsSound (told_for tx m)
sound_told m tx s = record {
  set_given = s.set_given;
  fired_given = λ n e. s.fired_given n (some_left tx (m.fired n) e);
  apart = λ n e. ap (not_of tx) (s.apart n e);
  one = s.one;
  fired_swept = λ n f e. s.fired_swept n f (was_there tx (m.fired n) f e);
  last_swept = s.last_swept;
}

pub sound_added : (m : Watches) (w : Watch) → IsUnset w m → IsSound m → IsSound (with_watch w (m.given + 1) m)
sound_added m w new s = record {
  set_given = λ n e. by_test (n == m.given + 1) (λ b. is_some (cond b (Some w) (m.set n)) ≡ true → IsGiven (with_watch w (m.given + 1) m) n)
      (λ t _. next n (eqb-true n (m.given + 1) t)) (λ _ f. below n (s.set_given n f)) e;
  fired_given = λ n e. below n (s.fired_given n e);
  apart = λ n e. by_test (n == m.given + 1) (λ b. is_some (cond b (Some w) (m.set n)) ≡ true → m.fired n ≡ None)
      (λ t _. by_test (is_some (m.fired n)) (λ b. is_some (m.fired n) ≡ b → m.fired n ≡ None) (λ _ f. absurd (beyond n (eqb-true n (m.given + 1) t) (s.fired_given n f))) (λ _ f. none (m.fired n) f) refl)
      (λ _ f. s.apart n f) e;
  one = λ i j v e f. by_test (i == m.given + 1) (λ b. cond b (Some w) (m.set i) ≡ Some v → i ≡ j)
      (λ t g. by_test (j == m.given + 1) (λ b. cond b (Some w) (m.set j) ≡ Some v → i ≡ j)
      (λ u h. eqb-true i (m.given + 1) t ∙ sym (eqb-true j (m.given + 1) u))
      (λ _ h. absurd (new j (h ∙ sym g))) f)
      (λ _ g. by_test (j == m.given + 1) (λ b. cond b (Some w) (m.set j) ≡ Some v → i ≡ j)
      (λ u h. absurd (new i (g ∙ sym h)))
      (λ _ h. s.one i j v g h) f) e;
  fired_swept = s.fired_swept;
  last_swept = s.last_swept;
}
  where
    next : (n : ℕ) → n ≡ m.given + 1 → (1 ≤ n) × (n ≤ m.given + 1)
    next n e = (omega arith, omega arith)

    below : (n : ℕ) → (1 ≤ n) × (n ≤ m.given) → (1 ≤ n) × (n ≤ m.given + 1)
    below n l = (l.0, let up : n ≤ m.given = l.1 in omega arith)

    beyond : (n : ℕ) → n ≡ m.given + 1 → (1 ≤ n) × (n ≤ m.given) → ⊥
    beyond n e l = let up : n ≤ m.given = l.1 in omega arith

    none : (o : Option Firing) → is_some o ≡ false → o ≡ None
    none None e = refl
    none (Some f) e = absurd (cc)

-- what a sweep fires is set before
fires_set : (tx : ℕ) (ts : List Touch) (o : Option Watch) → is_some (fires tx ts o) ≡ true → is_some o ≡ true
fires_set tx ts None e = absurd (cc)
fires_set tx ts (Some w) e = refl

pub fires_tx : (tx : ℕ) (ts : List Touch) (o : Option Watch) (f : Firing) → fires tx ts o ≡ Some f → f.tx ≡ tx
fires_tx tx ts None f e = absurd (cc)
fires_tx tx ts (Some w) f e = by (first_taken w.path w.kind ts) e
  where
    by : (c : Option Change) → firing tx w c ≡ Some f → f.tx ≡ tx
    by None e = absurd (cc)
    by (Some c) e = let same : record { watch = w; tx = tx; change = c } ≡ f = cc in sym (ap (λ g. g.tx) same)

was_set : {A B : Type 0} (a : Option A) (o : Option B) → is_some (unless a o) ≡ true → (a ≡ None) × (is_some o ≡ true)
was_set None o e = (refl, e)
was_set (Some x) o e = absurd (cc)

set_was : {A B : Type 0} (a : Option A) (o : Option B) (x : B) → unless a o ≡ Some x → o ≡ Some x
set_was None o x e = e
set_was (Some y) o x e = absurd (cc)

pub sound_swept : (m : Watches) (tx : ℕ) (ts : List Touch) → m.swept < tx → IsSound m → IsSound (swept_for tx ts m)
sound_swept m tx ts l s = record {
  set_given = λ n e. s.set_given n (was_set (fires tx ts (m.set n)) (m.set n) e).1;
  fired_given = λ n e. given n (fires tx ts (m.set n)) refl e;
  apart = λ n e. let was : (fires tx ts (m.set n) ≡ None) × (is_some (m.set n) ≡ true) = was_set (fires tx ts (m.set n)) (m.set n) e in rw was.0 (s.apart n was.1);
  one = λ i j w e f. s.one i j w (set_was (fires tx ts (m.set i)) (m.set i) w e) (set_was (fires tx ts (m.set j)) (m.set j) w f);
  fired_swept = λ n f e. of_tx n f (fires tx ts (m.set n)) refl e;
  last_swept = λ p. by_test (has_touch p ts) (λ b. cond b tx (m.last p) ≤ tx) (λ _. omega arith) (λ _. let up : m.last p ≤ m.swept = s.last_swept p in omega arith);
}
  where
    given : (n : ℕ) (o : Option Firing) → fires tx ts (m.set n) ≡ o → is_some (or_else o (m.fired n)) ≡ true → IsGiven m n
    given n None g e = s.fired_given n e
    given n (Some f) g e = s.set_given n (fires_set tx ts (m.set n) (ap is_some g))

    of_tx : (n : ℕ) (f : Firing) (o : Option Firing) → fires tx ts (m.set n) ≡ o → or_else o (m.fired n) ≡ Some f → f.tx ≤ tx
    of_tx n f None g e = let up : f.tx ≤ m.swept = s.fired_swept n f e in omega arith
    of_tx n f (Some h) g e = let same : f.tx ≡ tx = fires_tx tx ts (m.set n) f (g ∙ e) in omega arith

-- What a table means where its parts changed.
use Rattle.std.proofs.Common.{◌≡◌, ◌<◌, ◌≤◌, ◌+◌, ℕ, ◌==◌, true, false, cond, List, Option, Some, None, refl, ◌∙◌, ap, arith}
use Rattle.std.specs.Prelude.{is_some}
use Rattle.fk_base.specs.Path.{PathNames}
use Rattle.fk_tree.specs.Watch.{has_touch}
use Rattle.fk_tree.specs.declared.change.Touch.{Touch}
use Rattle.fk_wire.specs.declared.fired.Fired.{Fired}
use Rattle.fk_watch.specs.declared.watch.Watch.{Watch}
use Rattle.fk_watch.specs.declared.watch.Firing.{Firing}
use Rattle.fk_watch.specs.Answers.{fired_with, listed, AreFired}
use Rattle.fk_watch.specs.Kept.{Kept, last_in, watches_of}
use Rattle.fk_watch.specs.Meaning.{Watches}
use Rattle.fk_watch.specs.Moving.{KeepsOthers}
use Rattle.fk_watch.specs.Registering.{with_watch}
use Rattle.fk_watch.specs.Setting.{at}
use Rattle.fk_watch.specs.Sound.{IsSound}
use Rattle.fk_watch.specs.Sweeping.{fires, not_of, only_of, or_else, swept_for, unless}
use Rattle.fk_watch.specs.Touched.{KeepsLasts}
use Rattle.fk_watch.proofs.Standing.{same_watches, fires_tx}

-- a watch was set under the next number
pub added_watches : (k l : Kept) (w : Watch) → l.given ≡ k.given + 1 → ((n : ℕ) → at n l.set ≡ cond (n == k.given + 1) (Some w) (at n k.set))
    → l.fired ≡ k.fired → l.swept ≡ k.swept → l.sweeps ≡ k.sweeps → l.armed ≡ k.armed → l.faults ≡ k.faults → watches_of l ≡ with_watch w (k.given + 1) (watches_of k)
added_watches k l w a b c d e f g = same_watches (watches_of l) (with_watch w (k.given + 1) (watches_of k)) a b (λ n. ap (at n) c) d (λ p. ap (last_in p) e) f g

-- nothing was fired for a transaction beyond the greatest that was swept
unfired : (tx : ℕ) (o : Option Firing) → ((f : Firing) → o ≡ Some f → f.tx < tx) → (not_of tx o ≡ o) × (only_of tx o ≡ None)
unfired tx None h = (refl, refl)
unfired tx (Some f) h = let below : f.tx < tx = h f refl in let other : (f.tx == tx) ≡ false = grind (arith, below) in (rw other refl, rw other refl)

below_tx : (m : Watches) (tx n : ℕ) → IsSound m → m.swept < tx → (f : Firing) → m.fired n ≡ Some f → f.tx < tx
below_tx m tx n s l f e = let up : f.tx ≤ m.swept = s.fired_swept n f e in omega arith

-- A sweep that had no memory leaves all as it was.
pub undone_watches : (k l : Kept) (tx : ℕ) (mid : List (ℕ × Firing)) → IsSound (watches_of k) → k.swept < tx → KeepsOthers tx k.set k.fired mid → ((n : ℕ) → at n l.fired ≡ not_of tx (at n mid)) → KeepsLasts k.sweeps l.sweeps
    → l.given ≡ k.given → l.set ≡ k.set → l.swept ≡ k.swept → l.armed ≡ k.armed → l.faults ≡ k.faults → watches_of l ≡ watches_of k
undone_watches k l tx mid s below keep forget lasts a b c d e =
    same_watches (watches_of l) (watches_of k) a (λ n. ap (at n) b)
    (λ n. forget n ∙ keep (λ i h. ap (not_of tx) (s.apart i h)) n ∙ (unfired tx (at n k.fired) (below_tx (watches_of k) tx n s below)).0)
    c lasts d e

-- what was listed is what was set before and fired
left_set : (tx : ℕ) (ts : List Touch) (w : Option Watch) (o g : Option Firing) (x : Option Fired) (n : ℕ) → only_of tx o ≡ None → g ≡ or_else (fires tx ts w) o → x ≡ listed n (only_of tx g) → cond (is_some x) None w ≡ unless (fires tx ts w) w
left_set tx ts w o g x n none e f = rw (f, e) (by (fires tx ts w) refl)
  where
    by : (r : Option Firing) → fires tx ts w ≡ r → cond (is_some (listed n (only_of tx (or_else r o)))) None w ≡ unless r w
    by None h = rw none refl
    by (Some a) h = let same : a.tx ≡ tx = fires_tx tx ts w a h in let test : (a.tx == tx) ≡ true = grind (arith, same) in rw test refl

pub swept_watches : (k l : Kept) (tx : ℕ) (ts : List Touch) (fs : List Fired) (sweeps : List (PathNames × ℕ)) → IsSound (watches_of k) → k.swept < tx
    → ((n : ℕ) → at n l.fired ≡ or_else (fires tx ts (at n k.set)) (at n k.fired)) → AreFired tx (λ n. at n l.fired) fs → ((n : ℕ) → at n l.set ≡ cond (is_some (fired_with n fs)) None (at n k.set))
    → KeepsLasts k.sweeps sweeps → ((p : PathNames) → last_in p l.sweeps ≡ cond (has_touch p ts) tx (last_in p sweeps))
    → l.given ≡ k.given → l.swept ≡ tx → l.armed ≡ k.armed → l.faults ≡ k.faults → watches_of l ≡ swept_for tx ts (watches_of k)
swept_watches k l tx ts fs sweeps s below fired list set same lasts a b c d =
    same_watches (watches_of l) (swept_for tx ts (watches_of k)) a
    (λ n. set n ∙ left_set tx ts (at n k.set) (at n k.fired) (at n l.fired) (fired_with n fs) n (unfired tx (at n k.fired) (below_tx (watches_of k) tx n s below)).1 (fired n) (list.exact n))
    fired b (λ p. lasts p ∙ ap (cond (has_touch p ts) tx) (same p)) c d

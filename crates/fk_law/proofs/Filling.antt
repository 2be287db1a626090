-- What is filled from the commits, against what they left.
use Rattle.std.specs.Prelude.{◌&&◌}
use Rattle.std.proofs.Common.{◌≡◌, ◌≢◌, ℕ, ◌<◌, Bool, true, false, cond, ◌||◌, List, [], ◌∷◌, refl, sym, ◌∙◌, ap, arith, None}
use Rattle.std.specs.Ordering.{is_lt}
use Rattle.std.proofs.lemmas.Bool.{false≢true}
use Rattle.fk_base.specs.Path.{PathNames, path_cmp, same_path}
use Rattle.fk_tree.specs.Check.{check}
use Rattle.fk_tree.specs.Edit.{view_after}
use Rattle.fk_tree.specs.Locks.{lock_paths}
use Rattle.fk_tree.specs.Sorted.{has_path, is_below, rises, in_path_order}
use Rattle.fk_tree.specs.Touch.{edited_paths}
use Rattle.fk_tree.specs.View.{View}
use Rattle.fk_tree.specs.declared.applied.Applied.{Applied}
use Rattle.fk_tree.specs.declared.request.Request.{Request}
use Rattle.fk_tree.specs.declared.request.Request.TheVariants as request
use Rattle.fk_tree.specs.Rows.{is_of}
use Rattle.fk_tree.proofs.Order.{same_path_is}
use Rattle.fk_tree.proofs.Passing.{passed_open, placed_none}
use Rattle.fk_law_tree.specs.Editors.{is_edited}
use Rattle.fk_law_tree.specs.Fitting.{GoneIs, Fits}
use Rattle.fk_law_tree.specs.Locking.{Within, unlocked, ListsOwned}
use Rattle.fk_law_tree.specs.Reading.{AgreeOn, reads}
use Rattle.fk_law_tree.proofs.Counting.{owned_was_edited}
use Rattle.fk_law_tree.proofs.Holding.{edits_are_locked, reads_are_locked, gone_is_owned, locks_read_locked}
use Rattle.fk_law_tree.proofs.Lists.{ordered_has, ordered_rises}
use Rattle.fk_law_tree.proofs.Matching.{one_fits}
use Rattle.fk_law_tree.proofs.Members.{has_append}
use Rattle.fk_law_tree.proofs.Passing.{CreatePasses, passed_create}
use Rattle.fk_law_tree.proofs.Reading.{check_reads}
use Rattle.fk_spec.specs.Start.{Pushed}
use Rattle.fk_spec.specs.Stored.{owned_among, all_edited, owned_after, gone_after, filled_after}
use Rattle.fk_base.proofs.Logic.{and_left, and_right, by_test}

-- The nodes of a session. -----------------------------------------------------------------------------

among_step : (c : ℕ) (v : View) (p q : PathNames) (ps qs : List PathNames) → (same_path q p ≡ true → q ≡ p) → has_path q qs ≡ (is_of c (v.node q) && has_path q ps) → has_path q (cond (is_of c (v.node p)) (p ∷ qs) qs) ≡ (is_of c (v.node q) && (same_path q p || has_path q ps))
among_step c v p q ps qs s i = by_owner (is_of c (v.node p)) refl (same_path q p) refl
  where
    none : (b : Bool) → false ≡ (b && false)
    none true = refl
    none false = refl

    same : same_path q p ≡ true → is_of c (v.node q) ≡ is_of c (v.node p)
    same e = ap (λ x. is_of c (v.node x)) (s e)

    by_owner : (a : Bool) → is_of c (v.node p) ≡ a → (b : Bool) → same_path q p ≡ b → has_path q (cond a (p ∷ qs) qs) ≡ (is_of c (v.node q) && (b || has_path q ps))
    by_owner true e true f = rw (f, same f, e) refl
    by_owner true e false f = rw f i
    by_owner false e true f = rw (same f, e) (i ∙ ap (λ z. z && has_path q ps) (same f ∙ e))
    by_owner false e false f = i

pub among_has : (c : ℕ) (v : View) (ps : List PathNames) (q : PathNames) → has_path q (owned_among c v ps) ≡ (is_of c (v.node q) && has_path q ps)
among_has c v [] q = none (is_of c (v.node q))
  where
    none : (b : Bool) → false ≡ (b && false)
    none true = refl
    none false = refl
among_has c v (p ∷ ps) q = among_step c v p q ps (owned_among c v ps) (same_path_is q p) (among_has c v ps q)

among_below : (c : ℕ) (v : View) (ps : List PathNames) (q : PathNames) → is_below path_cmp q ps ≡ true → is_below path_cmp q (owned_among c v ps) ≡ true
among_below c v [] q b = refl
among_below c v (p ∷ ps) q b = by_test (is_of c (v.node p)) (λ a. is_below path_cmp q (cond a (p ∷ owned_among c v ps) (owned_among c v ps)) ≡ true) (λ _. rw (and_left (is_lt (path_cmp q p)) (is_below path_cmp q ps) b) (among_below c v ps q (and_right (is_lt (path_cmp q p)) (is_below path_cmp q ps) b))) (λ _. among_below c v ps q (and_right (is_lt (path_cmp q p)) (is_below path_cmp q ps) b))

pub among_rises : (c : ℕ) (v : View) (ps : List PathNames) → rises path_cmp ps ≡ true → rises path_cmp (owned_among c v ps) ≡ true
among_rises c v [] r = refl
among_rises c v (p ∷ ps) r = by_test (is_of c (v.node p)) (λ a. rises path_cmp (cond a (p ∷ owned_among c v ps) (owned_among c v ps)) ≡ true) (λ _. rw (among_below c v ps p (and_left (is_below path_cmp p ps) (rises path_cmp ps) r)) (among_rises c v ps (and_right (is_below path_cmp p ps) (rises path_cmp ps) r))) (λ _. among_rises c v ps (and_right (is_below path_cmp p ps) (rises path_cmp ps) r))

all_has : (done : List Applied) (q : PathNames) → has_path q (all_edited done) ≡ is_edited q done
all_has [] q = refl
all_has (a ∷ done) q = has_append q (edited_paths a) (all_edited done) ∙ ap (λ b. has_path q (edited_paths a) || b) (all_has done q)

-- the listed paths are those whose node the session owns
pub owned_has : (c : ℕ) (done : List Applied) (q : PathNames) → c ≢ 0 → has_path q (owned_after c done) ≡ is_of c ((view_after done).node q)
owned_has c done q z = among_has c (view_after done) (in_path_order (all_edited done)) q ∙ by_owner (is_of c ((view_after done).node q)) refl
  where
    by_owner : (b : Bool) → is_of c ((view_after done).node q) ≡ b → (b && has_path q (in_path_order (all_edited done))) ≡ b
    by_owner true e = ordered_has (all_edited done) q ∙ all_has done q ∙ owned_was_edited done c q z e
    by_owner false e = refl

pub owned_rise : (c : ℕ) (done : List Applied) → rises path_cmp (owned_after c done) ≡ true
owned_rise c done = among_rises c (view_after done) (in_path_order (all_edited done)) (ordered_rises (all_edited done))

gone_is : (c : ℕ) (done : List Applied) (r : Request) → c ≢ 0 → GoneIs (view_after done) c r (gone_after c done r)
gone_is c done (request.Create p bytes seq eph) z = refl
gone_is c done (request.Set p bytes version) z = refl
gone_is c done (request.Delete p version) z = refl
gone_is c done (request.Close evict) z = (owned_rise c done, λ q. owned_has c done q z)
gone_is c done (request.Multi xs) z = refl

-- Filled requests. ------------------------------------------------------------------------------------

pub not_none : (c : ℕ) → 0 < c → c ≢ 0
not_none c b e = absurd (omega (arith, b, e))

-- a request that passes fits as it is filled
pub filled_fits : (done : List Applied) (t : ℕ) (y : Pushed) → 0 < y.session → check (view_after done) y.session y.request ≡ None → Fits (view_after done) (filled_after done t y)
filled_fits done t y z e = record { session = z; passes = e; name = refl; version = refl; made = refl; gone = gone_is y.session done y.request (not_none y.session z) }

unlocked_none : (v : View) (c : ℕ) (r : Request) → check v c r ≡ None → unlocked v r ≡ []
unlocked_none v c (request.Create p bytes true eph) e =
    let x : CreatePasses v p true = passed_create v p true (placed_none 0 _ (passed_open v c (request.Create p bytes true eph) e)) in
    rw (x.below_root, x.there, x.unowned) refl
unlocked_none v c (request.Create p bytes false eph) e = refl
unlocked_none v c (request.Set p bytes version) e = refl
unlocked_none v c (request.Delete p version) e = refl
unlocked_none v c (request.Close evict) e = refl
unlocked_none v c (request.Multi xs) e = refl

-- what is locked shows that it passes
pub locked_passes : (v w : View) (owned : List PathNames) (c : ℕ) (r : Request) → check v c r ≡ None → v.closed c ≡ w.closed c → AgreeOn v w (lock_paths v owned r) → check w c r ≡ None
locked_passes v w owned c r e s a = sym (check_reads v w c r s agree) ∙ e
  where
    either : (x y : Bool) → (x || y) ≡ true → y ≡ false → x ≡ true
    either true y e f = refl
    either false y e f = absurd (false≢true (sym f ∙ e))

    agree : AgreeOn v w (reads v c r)
    agree q h = a q (either (has_path q (lock_paths v owned r)) (has_path q (unlocked v r)) (sym (has_append q (lock_paths v owned r) (unlocked v r)) ∙ reads_are_locked v owned c r q h) (ap (has_path q) (unlocked_none v c r e)))

-- A request that passes what its follower has seen, where that is current: it fits what the commits left,
-- and edits only what is locked.
pub locked_fits : (v : View) (owned : List PathNames) (done : List Applied) (t : ℕ) (y : Pushed) → 0 < y.session → check v y.session y.request ≡ None → v.closed y.session ≡ (view_after done).closed y.session
    → AgreeOn v (view_after done) (lock_paths v owned y.request) → ListsOwned (view_after done) y.session y.request owned
    → Fits (view_after done) (filled_after done t y) × Within (edited_paths (filled_after done t y)) (lock_paths v owned y.request)
locked_fits v owned done t y z e s a o =
    let f = filled_fits done t y z (locked_passes v (view_after done) owned y.session y.request e s a) in
    (f, λ q h. ap (has_path q) (locks_read_locked v (view_after done) owned y.request a) ∙ edits_are_locked (view_after done) owned (filled_after done t y) f (gone_is_owned (view_after done) owned (filled_after done t y) f o) q h)

-- what was filled before and still fits is what is filled now
pub refilled : (old done : List Applied) (t : ℕ) (y : Pushed) → Fits (view_after done) (filled_after old t y) → filled_after done t y ≡ filled_after old t y
refilled old done t y f = one_fits (view_after done) (filled_after done t y) (filled_after old t y) (filled_fits done t y f.session f.passes) f (record { tx = refl; moment = refl; session = refl; k = refl; request = refl })

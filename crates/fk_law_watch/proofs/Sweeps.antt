-- What was swept last, of all pushes and of those that touch a path.
use Rattle.std.specs.Prelude.{◌==◌, ◌||◌, if◌then◌else◌, max}
use Rattle.std.proofs.Common.{◌≡◌, ℕ, ◌≤◌, ◌++◌, Bool, true, List, [], ◌∷◌, sym, ◌∙◌, ap, arith}
use Rattle.std.proofs.lemmas.Bool.{false≢true}
use Rattle.std.proofs.lemmas.Bool.Decides.{nat_tests}
use Rattle.fk_base.specs.Path.{PathNames}
use Rattle.fk_tree.specs.Watch.{has_touch}
use Rattle.fk_print.specs.declared.entry.Entry.{Entry}
use Rattle.fk_print.specs.declared.op.Op.{Op}
use Rattle.fk_print.specs.declared.op.Op.TheVariants as op
use Rattle.fk_spec.specs.Plan.{Plan}
use Rattle.fk_spec.specs.Settling.{is_committed, swept_of, swept_in}
use Rattle.fk_spec.specs.Watches.{touches_from, touches_of_push, last_sweep, sweep_of_path}
use Rattle.fk_spec.specs.Next.{IsHistory}
use Rattle.fk_law.specs.Due.{IsDue}
use Rattle.fk_law.specs.LeaderLane.{sweeps, is_swept}
use Rattle.fk_law.proofs.Due.{due}
use Rattle.fk_law.proofs.Leading.{swept_are_committed}
use Rattle.fk_law.proofs.Sending.{committed_is_filled, committed_never_changes}
use Rattle.fk_law.proofs.Growing.{committed_stays}
use Rattle.fk_law_watch.specs.Sweeps.{TouchesNeverChange, SweepsRise, SweptOfIsTheGreatest, IsSweepOf, LastSweepOfAPath}

pub touches_never_change : TouchesNeverChange
touches_never_change p t h more l c =
    let r = committed_is_filled p t h (before p h more l) c in
    ap touches_from (committed_never_changes p t h more r.0 l r.1 ∙ sym r.1)
  where
    before : (p : Plan) (h more : List Entry) → IsHistory p (more ++ h) → IsHistory p h
    before p h [] l = l
    before p h (e ∷ more) l = before p h more l.0

pub touches_stay : (p : Plan) (t : ℕ) (e : Entry) (h : List Entry) → IsHistory p (e ∷ h) → is_committed t h ≡ true → touches_of_push p t (e ∷ h) ≡ touches_of_push p t h
touches_stay p t e h l c = touches_never_change p t h (e ∷ []) l c

-- What is swept was committed before.
swept_before : (p : Plan) (t : ℕ) (h : List Entry) (o : Op) → IsHistory p h → IsDue p h o → (is_swept t h ≡ true → is_committed t h ≡ true) → (sweeps t o || is_swept t h) ≡ true → is_committed t h ≡ true
swept_before p t h (op.SweepOk n s fired) l d i e = let r = swept_are_committed p n s fired h l d in grind (arith, nat_tests)
swept_before p t h o l d i e = grind (arith, nat_tests)

pub swept_committed : (p : Plan) (t : ℕ) (h : List Entry) → IsHistory p h → is_swept t h ≡ true → is_committed t h ≡ true
swept_committed p t [] l e = absurd (false≢true e)
swept_committed p t (x ∷ h) l e = committed_stays t h (x ∷ []) (swept_before p t h x.op l.0 (due p x h l) (swept_committed p t h l.0) e)

pub swept_was_committed : (p : Plan) (t : ℕ) (e : Entry) (h : List Entry) → IsHistory p (e ∷ h) → is_swept t (e ∷ h) ≡ true → is_committed t h ≡ true
swept_was_committed p t e h l i = swept_before p t h e.op l.0 (due p e h l) (swept_committed p t h l.0) i

swept_most_step : (t : ℕ) (h : List Entry) (o : Op) → (is_swept t h ≡ true → t ≤ swept_of h) → (sweeps t o || is_swept t h) ≡ true → t ≤ swept_in o (swept_of h)
swept_most_step t h o i e = grind (arith, nat_tests)

pub swept_most : (t : ℕ) (h : List Entry) → is_swept t h ≡ true → t ≤ swept_of h
swept_most t [] e = absurd (false≢true e)
swept_most t (x ∷ h) e = swept_most_step t h x.op (swept_most t h) e

swept_last_step : (s : ℕ) (swept : ℕ → Bool) (n : ℕ) → (1 ≤ n → swept n ≡ true) → 1 ≤ max s n → ((s == max s n) || swept (max s n)) ≡ true
swept_last_step s swept n i a = grind (arith, nat_tests)

swept_last_in : (h : List Entry) (o : Op) → (1 ≤ swept_of h → is_swept (swept_of h) h ≡ true) → 1 ≤ swept_in o (swept_of h) → (sweeps (swept_in o (swept_of h)) o || is_swept (swept_in o (swept_of h)) h) ≡ true
swept_last_in h (op.SweepOk n s fired) i a = swept_last_step s (λ t. is_swept t h) (swept_of h) i a
swept_last_in h o i a = grind arith

pub swept_last : (h : List Entry) → 1 ≤ swept_of h → is_swept (swept_of h) h ≡ true
swept_last [] a = absurd (omega (arith, a))
swept_last (x ∷ h) a = swept_last_in h x.op (swept_last h) a

pub sweeps_rise : SweepsRise
sweeps_rise p n t s fired h l d e = (swept_are_committed p n t fired h l d, (let a = swept_most s h e in let b = d.1 in omega (arith, a, b)))

pub swept_of_is_the_greatest : SweptOfIsTheGreatest
swept_of_is_the_greatest p t h l = (swept_last h, swept_most t h)

-- Of one path. ----------------------------------------------------------------------------------------

touching_most : (touch : ℕ → Bool) (s t n : ℕ) (was : Bool) → (was ≡ true → touch t ≡ true → t ≤ n) → ((s == t) || was) ≡ true → touch t ≡ true → t ≤ (if touch s then max s n else n)
touching_most touch s t n was i a b = grind (arith, nat_tests)

last_most_step : (p : Plan) (path : PathNames) (t : ℕ) (h : List Entry) (o : Op) → (is_swept t h ≡ true → has_touch path (touches_of_push p t h) ≡ true → t ≤ last_sweep p path h) → (sweeps t o || is_swept t h) ≡ true → has_touch path (touches_of_push p t h) ≡ true → t ≤ sweep_of_path p path h o (last_sweep p path h)
last_most_step p path t h (op.SweepOk n s fired) i a b = touching_most (λ u. has_touch path (touches_of_push p u h)) s t (last_sweep p path h) (is_swept t h) i a b
last_most_step p path t h o i a b = i a b

pub last_most : (p : Plan) (path : PathNames) (t : ℕ) (h : List Entry) → IsHistory p h → is_swept t h ≡ true → has_touch path (touches_of_push p t h) ≡ true → t ≤ last_sweep p path h
last_most p path t [] l a b = absurd (false≢true a)
last_most p path t (e ∷ h) l a b = last_most_step p path t h e.op (last_most p path t h l.0) a (ap (has_touch path) (sym (touches_stay p t e h l (swept_was_committed p t e h l a))) ∙ b)

touching_last : (touch swept : ℕ → Bool) (s n : ℕ) → (1 ≤ n → (swept n ≡ true) × (touch n ≡ true)) → 1 ≤ (if touch s then max s n else n) → (((s == (if touch s then max s n else n)) || swept (if touch s then max s n else n)) ≡ true) × (touch (if touch s then max s n else n) ≡ true)
touching_last touch swept s n i a = grind (arith, nat_tests)

last_sweep_step : (p : Plan) (path : PathNames) (h : List Entry) (o : Op) → (1 ≤ last_sweep p path h → IsSweepOf p path (last_sweep p path h) h) → 1 ≤ sweep_of_path p path h o (last_sweep p path h) → ((sweeps (sweep_of_path p path h o (last_sweep p path h)) o || is_swept (sweep_of_path p path h o (last_sweep p path h)) h) ≡ true) × (has_touch path (touches_of_push p (sweep_of_path p path h o (last_sweep p path h)) h) ≡ true)
last_sweep_step p path h (op.SweepOk n s fired) i a = touching_last (λ u. has_touch path (touches_of_push p u h)) (λ u. is_swept u h) s (last_sweep p path h) i a
last_sweep_step p path h o i a = i a

last_is_sweep : (p : Plan) (path : PathNames) (h : List Entry) → IsHistory p h → 1 ≤ last_sweep p path h → IsSweepOf p path (last_sweep p path h) h
last_is_sweep p path [] l a = absurd (omega (arith, a))
last_is_sweep p path (e ∷ h) l a =
    let r = last_sweep_step p path h e.op (last_is_sweep p path h l.0) a in
    (r.0, ap (has_touch path) (touches_stay p (last_sweep p path (e ∷ h)) e h l (swept_was_committed p (last_sweep p path (e ∷ h)) e h l r.0)) ∙ r.1)

pub last_sweep_of_a_path : LastSweepOfAPath
last_sweep_of_a_path p path t h l = (last_is_sweep p path h l, λ a. last_most p path t h l a.0 a.1)

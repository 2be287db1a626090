-- The locks of the table are those that the rules read.
use Rattle.std.specs.Prelude.{◌==◌, ◌&&◌, not}
use Rattle.std.proofs.Common.{◌≡◌, ℕ, Bool, true, false, cond, ◌||◌, List, refl, ◌∙◌, ap, arith, Option, Some, None, is_some}
use Rattle.std.proofs.lemmas.Bool.Decides.{nat_tests}
use Rattle.fk_base.specs.Path.{PathNames, is_root}
use Rattle.fk_print.specs.declared.entry.Entry.{Entry}
use Rattle.fk_store.specs.Locks as store
use Rattle.fk_store.specs.Meaning.{lock_of, or_no_record}
use Rattle.fk_stand.specs.Tables.{has_record, lock_after, lock_from, node_record, table_after}
use Rattle.fk_spec.specs.Plan.{Plan}
use Rattle.fk_spec.specs.Locks.{Grant, has_released, is_held_by, last_grant}
use Rattle.fk_base.proofs.Logic.{by_test}

-- a path without a record was never granted
never_granted : (h : List Entry) (o : Option Grant) (b : Bool) → (b || is_some o) ≡ false → store.no_lock ≡ lock_from h o
never_granted h None b e = refl
never_granted h (Some g) b e = absurd (grind arith)

pub lock_is : (p : Plan) (h : List Entry) (faults : ℕ) (q : PathNames) → lock_of (table_after p h faults) q ≡ lock_after q h
lock_is p h faults q =
    by_test (has_record q h) (λ b. (or_no_record (cond b (Some (node_record p q h)) None)).lock ≡ lock_after q h)
    (λ _. refl)
    (λ e. never_granted h (last_grant q h) (is_root q) e)

pub held_the_same : (n : ℕ) (h : List Entry) (o : Option Grant) → store.is_held_by n (lock_from h o) ≡ is_held_by n h o
held_the_same n h None = refl
held_the_same n h (Some g) = by_holder (g.holder == n) refl
  where
    swapped : (b : Bool) → (b && true) ≡ b
    swapped true = refl
    swapped false = refl

    none : (b : Bool) → (b && false) ≡ false
    none true = refl
    none false = refl

    by_holder : (b : Bool) → (g.holder == n) ≡ b → (not (has_released g.holder h) && (g.holder == n)) ≡ ((g.holder == n) && not (has_released n h))
    by_holder true e = let m : g.holder ≡ n = grind (arith, nat_tests) in rw e (swapped (not (has_released g.holder h)) ∙ ap (λ x. not (has_released x h)) m)
    by_holder false e = rw e (none (not (has_released g.holder h)))

-- whether a function holds the lock of a path
pub holds_the_same : (p : Plan) (n : ℕ) (h : List Entry) (faults : ℕ) (q : PathNames) → store.is_held_by n (lock_of (table_after p h faults) q) ≡ is_held_by n h (last_grant q h)
holds_the_same p n h faults q = ap (store.is_held_by n) (lock_is p h faults q) ∙ held_the_same n h (last_grant q h)

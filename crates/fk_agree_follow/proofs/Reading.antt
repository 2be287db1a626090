-- What a follower reads of the services is what the rules read of the history.
use Rattle.std.specs.Prelude.{◌+◌, ◌==◌, ◌||◌, if◌then◌else◌, nat_lt, not}
use Rattle.std.proofs.Common.{◌≡◌, ◌≢◌, ℕ, Bool, true, false, List, refl, sym, ◌∙◌, ap, arith, Option, Some, None}
use Rattle.std.proofs.lemmas.Bool.Decides.{nat_tests}
use Rattle.fk_base.specs.Path.{PathNames}
use Rattle.fk_tree.specs.Sorted.{in_path_order}
use Rattle.fk_tree.specs.declared.node.Node.{Node}
use Rattle.fk_tree.specs.Rows.{is_of}
use Rattle.fk_tree.proofs.Order.{path_exact, path_total}
use Rattle.fk_tree.proofs.Rising.{same_rising}
use Rattle.fk_print.specs.declared.entry.Entry.{Entry}
use Rattle.fk_print.specs.declared.op.Op.TheVariants as op
use Rattle.fk_store.specs.Answers.{AreOwned, has_owner}
use Rattle.fk_store.specs.Locks as store
use Rattle.fk_store.specs.Meaning.{lock_of, or_no_record}
use Rattle.fk_store.specs.declared.node_record.NodeRecord.{NodeRecord}
use Rattle.fk_follow.specs.Operation as follow
use Rattle.fk_law.proofs.Filling.{owned_has, owned_rise}
use Rattle.fk_stand.specs.Tables.{kept_as, lock_from, session_record, table_after}
use Rattle.fk_spec.specs.Plan.{Plan}
use Rattle.fk_spec.specs.Start.{clock_of}
use Rattle.fk_spec.specs.Locks.{Grant, granted, has_released, last_grant, may_grant}
use Rattle.fk_spec.specs.Settling.{Committed, Outcome, Passed, Refused, outcome_of, settled_of}
use Rattle.fk_spec.specs.Stored.{committed_of, owned_after, stored_view}
use Rattle.fk_spec.specs.Follower as follower
use Rattle.fk_spec.specs.Follower.{Follower, busy_op, unsettled_op}
use Rattle.fk_spec.specs.Function.{Following, place_of}
use Rattle.fk_spec.specs.Next.{IsHistory}
use Rattle.fk_law.proofs.Recording.{records_are_of_its_grants}
use Rattle.fk_agree.proofs.Granting.{shows_node}
use Rattle.fk_agree.proofs.Locking.{lock_is}
use Rattle.fk_base.proofs.Logic.{by_test}

-- The session's record. ---------------------------------------------------------------------------------

settled_same : (n : ℕ) (o : Option Outcome) → follow.settled_op n (kept_as o) ≡ follower.settled_op n o
settled_same n None = refl
settled_same n (Some (Committed t)) = refl
settled_same n (Some (Refused code place at)) = refl
settled_same n (Some (Passed None)) = refl
settled_same n (Some (Passed (Some x))) = refl

pub session_same : (p : Plan) (n c k : ℕ) (h : List Entry) → follow.session_op n k (session_record p c h) ≡ follower.session_op p h n c k
session_same p n c k h = ap (λ o. if settled_of c h + 1 == k then unsettled_op n ((stored_view p h).closed c) else o) (last (settled_of c h == k) refl)
  where
    last : (b : Bool) → (settled_of c h == k) ≡ b → (if b then follow.settled_op n (kept_as (outcome_of c (settled_of c h) h)) else op.SessionPast n) ≡ (if b then follower.settled_op n (outcome_of c k h) else op.SessionPast n)
    last true e = let f : settled_of c h ≡ k = grind (arith, nat_tests) in settled_same n (outcome_of c (settled_of c h) h) ∙ ap (λ j. follower.settled_op n (outcome_of c j h)) f
    last false e = refl

-- Locks. ------------------------------------------------------------------------------------------------

free_or_busy : (lock : ℕ) (n : ℕ) (h : List Entry) (path : PathNames) (o : Option Grant) → follow.lock_op (clock_of h) lock n path (lock_from h o) ≡ (if may_grant lock h o then op.LockOk n path else busy_op n path o)
free_or_busy lock n h path None = refl
free_or_busy lock n h path (Some g) = by_test (has_released g.holder h) (λ b. (if not (not b) || nat_lt (g.moment + lock) (clock_of h) then op.LockOk n path else op.LockBusy n path g.holder g.moment) ≡ (if b || nat_lt (g.moment + lock) (clock_of h) then op.LockOk n path else op.LockBusy n path g.holder g.moment)) (λ _. refl) (λ _. refl)

pub lock_same : (p : Plan) (n faults : ℕ) (h : List Entry) (path : PathNames) → follow.lock_op (clock_of h) p.lock n path (lock_of (table_after p h faults) path) ≡ follower.lock_op p.lock h n path
lock_same p n faults h path = ap (follow.lock_op (clock_of h) p.lock n path) (lock_is p h faults path) ∙ free_or_busy p.lock n h path (last_grant path h)

pub locked_is : (p : Plan) (n : ℕ) (h : List Entry) (f : Follower) → IsHistory p h → place_of p n h ≡ Following f → follow.locked f ≡ in_path_order (granted n h)
locked_is p n h f l b = ap in_path_order (records_are_of_its_grants p n h f l b)

-- The nodes of a session. -------------------------------------------------------------------------------

owner_is : (c : ℕ) (o : Option Node) → (is_of c o) ≡ has_owner c (Some (record { node = o; lock = store.no_lock; last = 0 }))
owner_is c None = refl
owner_is c (Some x) = refl

owner_of_record : (c : ℕ) (o : Option NodeRecord) → has_owner c o ≡ is_of c (or_no_record o).node
owner_of_record c None = refl
owner_of_record c (Some r) = sym (owner_is c r.node)

pub owned_same : (p : Plan) (c faults : ℕ) (h : List Entry) (owned : List PathNames) → IsHistory p h → c ≢ 0 → AreOwned (table_after p h faults) c owned → owned ≡ owned_after c (committed_of p h)
owned_same p c faults h owned l z o =
    same_rising path_total path_exact owned (owned_after c (committed_of p h)) o.rising (owned_rise c (committed_of p h))
    (λ q. o.exact q ∙ (owner_of_record c ((table_after p h faults).nodes q) ∙ (ap (is_of c) (shows_node p q h l) ∙ sym (owned_has c (committed_of p h) q z))))

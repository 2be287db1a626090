-- Live pushes.
use Rattle.std.specs.Prelude.{◌||◌, nat_eq}
use Rattle.std.proofs.Common.{◌≡◌, ◌≢◌, ℕ, ◌+◌, ◌⊎◌, inl, inr, Bool, true, false, List, [], ◌∷◌, refl, sym, ◌∙◌, subst, arith, Option, Some, None}
use Rattle.std.proofs.lemmas.Bool.Decides.{nat_tests}
use Rattle.fk_base.specs.Path.{PathNames, same_path}
use Rattle.fk_tree.specs.Sorted.{has_path, in_path_order}
use Rattle.fk_tree.proofs.Order.{same_path_self}
use Rattle.fk_law_tree.proofs.Lists.{ordered_has}
use Rattle.fk_print.specs.declared.entry.Entry.{Entry}
use Rattle.fk_print.specs.declared.op.Op.TheVariants as op
use Rattle.fk_spec.specs.Plan.{Plan}
use Rattle.fk_spec.specs.Locks.{Grant, Passed, last_grant, granted, has_released, is_held_by, first_passed}
use Rattle.fk_spec.specs.Settling.{settled_of, is_committed}
use Rattle.fk_spec.specs.Follower.{commit_op}
use Rattle.fk_law.specs.Due.{IsPushOf, HoldsAll}
use Rattle.fk_law.specs.Losing.{IsOwn, IsLive, PushIsLiveDeadOrCommitted, LiveCommits, CommitterIsLive}
use Rattle.fk_law.proofs.Settled.{commit_of, task_at_most_next}
use Rattle.fk_law.proofs.Committing.{its_push_is_one, commits_once}
use Rattle.fk_law.proofs.Losing.{IsOver, holds_each, missed_lock, settled_over}
use Rattle.fk_law.proofs.Locking.{unsettled_unreleased}
use Rattle.fk_law.proofs.Rising.{held_own}

pub own_held : (n : ℕ) (h : List Entry) (g : Option Grant) → IsOwn n g → has_released n h ≡ false → is_held_by n h g ≡ true
own_held n h None o r = absurd o
own_held n h (Some g) o r = grind (arith, nat_tests)

all_held_step : (n : ℕ) (h : List Entry) (q : PathNames) (ps : List PathNames) → is_held_by n h (last_grant q h) ≡ true → first_passed n h ps ≡ None → first_passed n h (q ∷ ps) ≡ None
all_held_step n h q ps a b = grind arith

all_held : (n : ℕ) (h : List Entry) (ps : List PathNames) → ((path : PathNames) → has_path path ps ≡ true → is_held_by n h (last_grant path h) ≡ true) → first_passed n h ps ≡ None
all_held n h [] f = refl
all_held n h (q ∷ ps) f = all_held_step n h q ps (f q (or_left (same_path q q) (has_path q ps) (same_path_self q))) (all_held n h ps (λ path b. f path (or_right (same_path path q) (has_path path ps) b)))
  where
    or_left : (a b : Bool) → a ≡ true → (a || b) ≡ true
    or_left a b e = grind arith

    or_right : (a b : Bool) → b ≡ true → (a || b) ≡ true
    or_right a b e = grind arith

commit_is_ok : (n t m c k : ℕ) (h : List Entry) → settled_of c h + 1 ≡ k → first_passed m h (in_path_order (granted m h)) ≡ None → commit_op h n t m c k ≡ op.CommitOk n t
commit_is_ok n t m c k h s e = grind (arith, nat_tests)

pub live_commits : LiveCommits
live_commits p a t n c k h l x v =
    let g = its_push_is_one t n c k v.function v.session v.k h x v.is_of in
    let s : settled_of c h + 1 ≡ k = rw (g.1, g.2) v.next in
    let r = unsettled_unreleased p n c k h l x.task s in
    let o : (path : PathNames) → has_path path (granted n h) ≡ true → IsOwn n (last_grant path h) = subst (λ z. (path : PathNames) → has_path path (granted z h) ≡ true → IsOwn z (last_grant path h)) (sym g.0) v.own in
    commit_is_ok a t n c k h s (all_held n h (in_path_order (granted n h)) (λ path b. own_held n h (last_grant path h) (o path (sym (ordered_has (granted n h) path) ∙ b)) r))

live_of : (p : Plan) (t n c k : ℕ) (h : List Entry) → IsPushOf t n c k h → is_committed t h ≡ false → settled_of c h + 1 ≡ k → HoldsAll n h → IsLive t h
live_of p t n c k h x u s a = record { function = n; session = c; k = k; is_of = x; uncommitted = u; next = s; own = λ path b. held_own n h (last_grant path h) (holds_each n h path a b) }

pub committer_is_live : CommitterIsLive
committer_is_live p a t h l d = live_of p t d.0 d.1 d.2 h (commit_of p a t d.0 d.1 d.2 h l d.3) (commits_once p a t h l d) d.4 d.5

pub live_dead_or_committed : PushIsLiveDeadOrCommitted
live_dead_or_committed p t n c k h l x = by_settled (nat_eq (settled_of c h + 1) k) refl
  where
    by_passed : settled_of c h + 1 ≡ k → (b : Bool) → is_committed t h ≡ b → (o : Option Passed) → first_passed n h (in_path_order (granted n h)) ≡ o → IsLive t h ⊎ IsOver t h
    by_passed s true u o e = inr (inr u)
    by_passed s false u None e = inl (live_of p t n c k h x u s e)
    by_passed s false u (Some y) e = inr (inl (missed_lock p t n c k h y l x s e))

    by_settled : (b : Bool) → nat_eq (settled_of c h + 1) k ≡ b → IsLive t h ⊎ IsOver t h
    by_settled true e = by_passed (grind (arith, nat_tests)) (is_committed t h) refl (first_passed n h (in_path_order (granted n h))) refl
    by_settled false e = inr (settled_over p t n c k h x (let m = task_at_most_next p n c k h l x.task in let d : settled_of c h + 1 ≢ k = grind (arith, nat_tests) in omega (arith, m, d)))

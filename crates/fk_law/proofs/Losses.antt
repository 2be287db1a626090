-- A request whose lock passed on has the lines that show it.
use Rattle.std.specs.Prelude.{◌==◌, ◌||◌, ◌&&◌}
use Rattle.std.proofs.Common.{◌≡◌, ◌≢◌, ℕ, ◌+◌, Bool, true, false, cond, List, [], ◌∷◌, refl, sym, ◌∙◌, ap, subst, arith, Option, Some, None}
use Rattle.std.proofs.lemmas.Bool.{false≢true, or_right, lt-ltb}
use Rattle.std.proofs.lemmas.Bool.Decides.{nat_tests}
use Rattle.std.proofs.lemmas.Option.{same_Some}
use Rattle.fk_base.specs.Path.{PathNames, same_path}
use Rattle.fk_tree.specs.Sorted.{has_path}
use Rattle.fk_tree.proofs.Order.{same_path_self}
use Rattle.fk_print.specs.declared.entry.Entry.{Entry}
use Rattle.fk_print.specs.declared.op.Op.{Op}
use Rattle.fk_print.specs.declared.op.Op.TheVariants as op
use Rattle.fk_spec.specs.Plan.{Plan}
use Rattle.fk_spec.specs.Start.{Task, Follows, clock_of, task_of, session_followed}
use Rattle.fk_spec.specs.Locks.{Grant, Loss, last_grant, grant_in, granted, granted_in, own_moment, own_moment_in, loss_of, loss_in}
use Rattle.fk_spec.specs.Settling.{Settling, Outcome, Passed, settling, settled_in, settled_of, outcome_of, outcome_here}
use Rattle.fk_spec.specs.Refusals.{grants, was_granted, granted_later, misses, has_missed, has_lost, settles_lost}
use Rattle.fk_spec.specs.Next.{IsHistory}
use Rattle.fk_law.specs.Losses.{IsShownLost, LossHasItsLines, IsLostFor, LostHasItsLines}
use Rattle.fk_law.specs.Due.{IsDue}
use Rattle.fk_law.proofs.Due.{due}
use Rattle.fk_law.proofs.Starting.{task_stays, follower_task}
use Rattle.fk_law.proofs.Passing.{IsLateFind, loss_commit, loss_refusal, no_loss, task_or_none, none_lost, loss_is_after_expiry}
use Rattle.fk_law.proofs.Losing.{has_last, same_sym}

-- the miss stands where the loss was found
missed_step : (n : ℕ) (x : Loss) (h : List Entry) (o : Op) → same_path x.path x.path ≡ true → (loss_of n h ≡ Some x → has_missed n x.path x.found x.moment h ≡ true) → loss_in n h o (loss_of n h) ≡ Some x → (misses n x.path x.found x.moment o || has_missed n x.path x.found x.moment h) ≡ true
missed_step n x h o s i e = grind (arith, nat_tests)

missed : (n : ℕ) (x : Loss) (h : List Entry) → loss_of n h ≡ Some x → has_missed n x.path x.found x.moment h ≡ true
missed n x [] e = absurd (grind arith)
missed n x (y ∷ h) e = missed_step n x h y.op (same_path_self x.path) (missed n x h) e

-- a granted path was granted at the function's own moment
granted_step : (n : ℕ) (path : PathNames) (h : List Entry) (o : Op) → (has_path path (granted n h) ≡ true → was_granted n path (own_moment n path h) h ≡ true) → has_path path (granted_in n o (granted n h)) ≡ true → (grants n path (own_moment_in n path (clock_of h) o (own_moment n path h)) h o || was_granted n path (own_moment_in n path (clock_of h) o (own_moment n path h)) h) ≡ true
granted_step n path h (op.LockOk m q) i e = grind (arith, nat_tests, has_last path q (granted n h), same_sym path q)
granted_step n path h o i e = grind arith

was_own : (n : ℕ) (path : PathNames) (h : List Entry) → has_path path (granted n h) ≡ true → was_granted n path (own_moment n path h) h ≡ true
was_own n path [] e = absurd (false≢true e)
was_own n path (y ∷ h) e = granted_step n path h y.op (was_own n path h) e

-- another function's last grant came later
abbrev IsLater : ℕ → PathNames → ℕ → List Entry → Option Grant → Type 0
IsLater n path own h None = Unit {0}
IsLater n path own h (Some g) = g.holder ≢ n → granted_later n path own g.holder g.moment h ≡ true

later_grow : (n : ℕ) (path : PathNames) (own : ℕ) (e : Entry) (h : List Entry) (g : Option Grant) → IsLater n path own h g → IsLater n path own (e ∷ h) g
later_grow n path own e h None i = tt
later_grow n path own e h (Some g) i = λ f. or_right (grants g.holder path g.moment h e.op && was_granted n path own h) (granted_later n path own g.holder g.moment h) (i f)

later_lock : (n m : ℕ) (path q : PathNames) (e : Entry) (h : List Entry) → e.op ≡ op.LockOk m q → (has_path path (granted n h) ≡ true → IsLater n path (own_moment n path h) h (last_grant path h)) → has_path path (granted_in n (op.LockOk m q) (granted n h)) ≡ true → IsLater n path (own_moment_in n path (clock_of h) (op.LockOk m q) (own_moment n path h)) (e ∷ h) (grant_in path (clock_of h) (op.LockOk m q) (last_grant path h))
later_lock n m path q e h b i a = by_path (same_path q path) refl
  where
    mine : m ≢ n → has_path path (granted n h) ≡ true
    mine f = grind (arith, nat_tests)

    before : same_path q path ≡ false → has_path path (granted n h) ≡ true
    before f = grind (arith, nat_tests, has_last path q (granted n h), same_sym path q)

    own_stays : (b : Bool) (x y : ℕ) → cond (b && false) x y ≡ y
    own_stays true x y = refl
    own_stays false x y = refl

    now : same_path q path ≡ true → m ≢ n → granted_later n path (cond ((m == n) && true) (clock_of h) (own_moment n path h)) m (clock_of h) (e ∷ h) ≡ true
    now s f = let w = was_own n path h (mine f) in rw b (grind (arith, nat_tests))

    by_path : (c : Bool) → same_path q path ≡ c → IsLater n path (cond ((m == n) && c) (clock_of h) (own_moment n path h)) (e ∷ h) (cond c (Some (record { holder = m; moment = clock_of h })) (last_grant path h))
    by_path true s = λ f. now s f
    by_path false s = subst (λ z. IsLater n path z (e ∷ h) (last_grant path h)) (sym (own_stays (m == n) (clock_of h) (own_moment n path h))) (later_grow n path (own_moment n path h) e h (last_grant path h) (i (before s)))

later_step : (n : ℕ) (path : PathNames) (e : Entry) (h : List Entry) (o : Op) → e.op ≡ o → (has_path path (granted n h) ≡ true → IsLater n path (own_moment n path h) h (last_grant path h)) → has_path path (granted_in n o (granted n h)) ≡ true → IsLater n path (own_moment_in n path (clock_of h) o (own_moment n path h)) (e ∷ h) (grant_in path (clock_of h) o (last_grant path h))
later_step n path e h (op.LockOk m q) b i a = later_lock n m path q e h b i a
later_step n path e h o b i a = later_grow n path (own_moment n path h) e h (last_grant path h) (i a)

pub later : (n : ℕ) (path : PathNames) (h : List Entry) → has_path path (granted n h) ≡ true → IsLater n path (own_moment n path h) h (last_grant path h)
later n path [] a = absurd (false≢true a)
later n path (e ∷ h) a = later_step n path e h e.op refl (later n path h) a

-- The lines of a loss. --------------------------------------------------------------------------------

-- what was found at a miss is another function's last grant
found_later : (n : ℕ) (path : PathNames) (holder moment : ℕ) (h : List Entry) → last_grant path h ≡ Some (record { holder = holder; moment = moment }) → has_path path (granted n h) ≡ true → holder ≢ n → granted_later n path (own_moment n path h) holder moment h ≡ true
found_later n path holder moment h e a f = subst (IsLater n path (own_moment n path h) h) e (later n path h a) f

loss_grows : (n : ℕ) (x : Loss) (e : Entry) (h : List Entry) → granted_later n x.path x.own x.found x.moment h ≡ true → granted_later n x.path x.own x.found x.moment (e ∷ h) ≡ true
loss_grows n x e h i = or_right (grants x.found x.path x.moment h e.op && was_granted n x.path x.own h) (granted_later n x.path x.own x.found x.moment h) i

-- the grants of a loss stand in this order
abbrev HasLater : ℕ → Loss → List Entry → Type 0
HasLater n x h = granted_later n x.path x.own x.found x.moment h ≡ true

line_found : (p : Plan) (n : ℕ) (h : List Entry) (path : PathNames) (holder moment : ℕ) (x : Loss) → IsLateFind p n h (record { path = path; holder = holder; moment = moment }) → Some (record { path = path; own = own_moment n path h; found = holder; moment = moment }) ≡ Some x → HasLater n x h
line_found p n h path holder moment x i e = let g = found_later n path holder moment h i.2 i.3 i.0 in let f = same_Some _ x e in subst (λ z. HasLater n z h) f g

line_step : (p : Plan) (n c k : ℕ) (x : Loss) (h : List Entry) (o : Op) → IsHistory p h → IsDue p h o → task_of n h ≡ Some (Follows c k) → (loss_of n h ≡ Some x → HasLater n x h) → loss_in n h o (loss_of n h) ≡ Some x → HasLater n x h
line_step p n c k x h (op.CommitLock m t path holder moment) l d b i e = by_test (m == n) refl
  where
    by_test : (z : Bool) → (m == n) ≡ z → HasLater n x h
    by_test true f = let g : m ≡ n = grind (arith, nat_tests) in line_found p n h path holder moment x (loss_commit p n t c k path holder moment h l (subst (λ z. IsDue p h (op.CommitLock z t path holder moment)) g d) b) (grind arith)
    by_test false f = i (grind arith)
line_step p n c k x h (op.RefuseLock m code place at path holder moment) l d b i e = by_test (m == n) refl
  where
    by_test : (z : Bool) → (m == n) ≡ z → HasLater n x h
    by_test true f = let g : m ≡ n = grind (arith, nat_tests) in line_found p n h path holder moment x (loss_refusal p n c k code place at path holder moment h l (subst (λ z. IsDue p h (op.RefuseLock z code place at path holder moment)) g d) b) (grind arith)
    by_test false f = i (grind arith)
line_step p n c k x h o l d b i e = i (grind arith)

line_entry : (p : Plan) (n c k : ℕ) (x : Loss) (e : Entry) (h : List Entry) (o : Option Task) → task_of n h ≡ o → IsHistory p (e ∷ h) → task_of n (e ∷ h) ≡ Some (Follows c k) → (task_of n h ≡ Some (Follows c k) → loss_of n h ≡ Some x → HasLater n x h) → loss_of n (e ∷ h) ≡ Some x → HasLater n x (e ∷ h)
line_entry p n c k x e h None b l t i a =
    let g = task_or_none p n (Follows c k) h e.op (due p e h l) (λ q. grind arith) t in
    absurd (none_some x (sym (no_loss p n h l.0 g.0) ∙ sym (none_lost n h e.op (loss_of n h) g.1) ∙ a))
  where
    none_some : (x : Loss) → None ≡ Some x → ⊥
    none_some x q = grind arith
line_entry p n c k x e h (Some y) b l t i a =
    let u : task_of n h ≡ Some (Follows c k) = b ∙ sym (task_stays p n e h y l b) ∙ t in
    loss_grows n x e h (line_step p n c k x h e.op l.0 (due p e h l) u (i u) a)

lines : (p : Plan) (n c k : ℕ) (x : Loss) (h : List Entry) → IsHistory p h → task_of n h ≡ Some (Follows c k) → loss_of n h ≡ Some x → HasLater n x h
lines p n c k x [] l t e = absurd (grind arith)
lines p n c k x (e ∷ h) l t a = line_entry p n c k x e h (task_of n h) refl l t (lines p n c k x h l.0) a

pub loss_has_its_lines : LossHasItsLines
loss_has_its_lines p n c k x h l t e = record { passed = lines p n c k x h l t e; beyond = lt-ltb _ _ (loss_is_after_expiry p n c k x h l t e).1; missed = missed n x h e }

-- Requests that were settled as lost. -----------------------------------------------------------------

lost_grows : (p : Plan) (c k : ℕ) (x : Loss) (e : Entry) (h : List Entry) → IsHistory p (e ∷ h) → IsLostFor p c k x h → IsLostFor p c k x (e ∷ h)
lost_grows p c k x e h l i = record {
  function = i.function;
  task = task_stays p i.function e h (Follows c k) l i.task;
  shown = record {
    passed = loss_grows i.function x e h i.shown.passed;
    beyond = i.shown.beyond;
    missed = or_right (misses i.function x.path x.found x.moment e.op) (has_missed i.function x.path x.found x.moment h) i.shown.missed;
  };
  settled = or_right (settles_lost i.function e.op) (has_lost i.function h) i.settled;
}

-- a request is settled as lost by a follower of it
pub record IsLostNow (c : ℕ) (w : Option Loss) (h : List Entry) (o : Op) : Type 0 where
  pub function : ℕ
  pub op_is : o ≡ op.LostOk function
  pub loss : loss_of function h ≡ w
  pub session : session_followed (task_of function h) ≡ Some c

followed : (c : ℕ) (o : Option ℕ) (w : Option Loss) (v : Option Loss) → settling o (Passed v) ≡ Some (record { session = c; outcome = Passed w }) → (v ≡ w) × (o ≡ Some c)
followed c None w v e = absurd (grind arith)
followed c (Some d) w v e = grind arith

pub lost_now : (c : ℕ) (w : Option Loss) (h : List Entry) (o : Op) → settled_in h o ≡ Some (record { session = c; outcome = Passed w }) → IsLostNow c w h o
lost_now c w h (op.LostOk n) e = let g = followed c (session_followed (task_of n h)) w (loss_of n h) e in record { function = n; op_is = refl; loss = g.0; session = g.1 }
lost_now c w h (op.CommitOk n t) e = absurd (grind arith)
lost_now c w h (op.RefuseOk n code place at) e = absurd (grind arith)
lost_now c w h o e = absurd (grind arith)

lost_new : (p : Plan) (c k : ℕ) (x : Loss) (e : Entry) (h : List Entry) → IsHistory p (e ∷ h) → IsLostNow c (Some x) h e.op → settled_of c h + 1 ≡ k → IsLostFor p c k x (e ∷ h)
lost_new p c k x e h l i s = record {
  function = i.function;
  task = task_stays p i.function e h (Follows c k) l u;
  shown = record {
    passed = loss_grows i.function x e h v.passed;
    beyond = v.beyond;
    missed = or_right (misses i.function x.path x.found x.moment e.op) (has_missed i.function x.path x.found x.moment h) v.missed;
  };
  settled = settled_now e.op i.op_is;
}
  where
    d : IsDue p h (op.LostOk i.function)
    d = subst (IsDue p h) i.op_is (due p e h l)

    t : task_of i.function h ≡ Some (Follows d.0.session d.0.k)
    t = follower_task p i.function h d.0 l.0 d.1

    f : d.0.session ≡ c
    f = same_Some d.0.session c (sym (ap session_followed t) ∙ i.session)

    n : d.0.k ≡ k
    n = sym d.3 ∙ ap (λ z. settled_of z h + 1) f ∙ s

    u : task_of i.function h ≡ Some (Follows c k)
    u = subst (λ z. task_of i.function h ≡ Some (Follows c z)) n (subst (λ z. task_of i.function h ≡ Some (Follows z d.0.k)) f t)

    v : IsShownLost p i.function x h
    v = loss_has_its_lines p i.function c k x h l.0 u i.loss

    settled_now : (o : Op) → o ≡ op.LostOk i.function → (settles_lost i.function o || has_lost i.function h) ≡ true
    settled_now o b = rw b (grind (arith, nat_tests))

pub here_is : (c k s : ℕ) (w : Outcome) (z : Settling) (x : Option Outcome) → outcome_here c k s (Some z) x ≡ Some w → ((z.session == c) && (s + 1 == k)) ≡ true → (z ≡ record { session = c; outcome = w }) × (s + 1 ≡ k)
here_is c k s w z x e f = grind (arith, nat_tests)

pub here_not : (c k s : ℕ) (w : Outcome) (z : Settling) (x : Option Outcome) → outcome_here c k s (Some z) x ≡ Some w → ((z.session == c) && (s + 1 == k)) ≡ false → x ≡ Some w
here_not c k s w z x e f = grind (arith, nat_tests)

lost_step : (p : Plan) (c k : ℕ) (x : Loss) (e : Entry) (h : List Entry) (o : Option Settling) → settled_in h e.op ≡ o → IsHistory p (e ∷ h) → (outcome_of c k h ≡ Some (Passed (Some x)) → IsLostFor p c k x h) → outcome_here c k (settled_of c h) o (outcome_of c k h) ≡ Some (Passed (Some x)) → IsLostFor p c k x (e ∷ h)
lost_step p c k x e h None b l i a = lost_grows p c k x e h l (i a)
lost_step p c k x e h (Some z) b l i a = by_test ((z.session == c) && (settled_of c h + 1 == k)) refl
  where
    by_test : (d : Bool) → ((z.session == c) && (settled_of c h + 1 == k)) ≡ d → IsLostFor p c k x (e ∷ h)
    by_test false f = lost_grows p c k x e h l (i (here_not c k (settled_of c h) (Passed (Some x)) z (outcome_of c k h) a f))
    by_test true f =
        let g = here_is c k (settled_of c h) (Passed (Some x)) z (outcome_of c k h) a f in
        lost_new p c k x e h l (lost_now c (Some x) h e.op (b ∙ ap Some g.0)) g.1

pub lost_has_its_lines : LostHasItsLines
lost_has_its_lines p c k x [] l a = absurd (grind arith)
lost_has_its_lines p c k x (e ∷ h) l a = lost_step p c k x e h (settled_in h e.op) refl l (lost_has_its_lines p c k x h l.0) a

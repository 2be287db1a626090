-- A follower that lost a lock.
use Rattle.std.specs.Prelude.{◌==◌, is_some}
use Rattle.std.proofs.Common.{◌≡◌, ◌≢◌, ℕ, ◌+◌, ◌<◌, ◌≤◌, Bool, true, false, List, [], ◌∷◌, refl, sym, ◌∙◌, ap, subst, arith, Option, Some, None}
use Rattle.std.proofs.lemmas.Bool.{false≢true}
use Rattle.std.proofs.lemmas.Bool.Decides.{nat_tests}
use Rattle.fk_base.specs.Path.{PathNames}
use Rattle.fk_base.specs.declared.code.Code.{Code}
use Rattle.fk_tree.specs.Sorted.{has_path, in_path_order}
use Rattle.fk_print.specs.declared.entry.Entry.{Entry}
use Rattle.fk_print.specs.declared.op.Op.{Op}
use Rattle.fk_print.specs.declared.op.Op.TheVariants as op
use Rattle.fk_spec.specs.Plan.{Plan}
use Rattle.fk_spec.specs.Start.{Start, Task, Follows, task_of, task_here, starts_of, started_in, count_start, or_else}
use Rattle.fk_spec.specs.Locks.{Grant, Passed, Loss, last_grant, granted, has_released, is_held_by, first_passed, passed_on, own_moment, loss_of, loss_in}
use Rattle.fk_spec.specs.Settling.{settled_of}
use Rattle.fk_spec.specs.Function.{Place, place_of, is_absent, actor}
use Rattle.fk_spec.specs.Next.{IsHistory}
use Rattle.fk_law.specs.Due.{IsDue, Commits}
use Rattle.fk_law.specs.Functions.{IsFor}
use Rattle.fk_law.specs.Locking.{LossIsAfterExpiry}
use Rattle.fk_law.proofs.Due.{due}
use Rattle.fk_law.proofs.Starting.{follower_task, task_stays, place_bound, place_for}
use Rattle.fk_law.proofs.Losing.{granted_has_grant, passed_not_held}
use Rattle.fk_law.proofs.Locking.{overtaken_only_after_expiry, unsettled_unreleased}

passed_path : (q : PathNames) (o : Option Grant) → (passed_on q o).path ≡ q
passed_path q None = refl
passed_path q (Some g) = refl

found_step : (n : ℕ) (h : List Entry) (q : PathNames) (ps : List PathNames) (x : Passed) → (passed_on q (last_grant q h)).path ≡ q → (first_passed n h ps ≡ Some x → x ≡ passed_on x.path (last_grant x.path h)) → first_passed n h (q ∷ ps) ≡ Some x → x ≡ passed_on x.path (last_grant x.path h)
found_step n h q ps x s i e = grind arith

-- what was found of a path that passed on is its last grant
found_is : (n : ℕ) (h : List Entry) (ps : List PathNames) (x : Passed) → first_passed n h ps ≡ Some x → x ≡ passed_on x.path (last_grant x.path h)
found_is n h [] x e = absurd (grind arith)
found_is n h (q ∷ ps) x e = found_step n h q ps x (passed_path q (last_grant q h)) (found_is n h ps x) e

-- another function was granted it more than the lock time after n was
abbrev pub IsLateFind : Plan → ℕ → List Entry → Passed → Type 0
IsLateFind p n h x = (x.holder ≢ n) × (own_moment n x.path h + p.lock < x.moment) × (last_grant x.path h ≡ Some (record { holder = x.holder; moment = x.moment })) × (has_path x.path (granted n h) ≡ true)

grant_is : (x : Passed) (g : Grant) → x ≡ passed_on x.path (Some g) → Some g ≡ Some (record { holder = x.holder; moment = x.moment })
grant_is x g e = ap (λ (z : Passed). Some (record { holder = z.holder; moment = z.moment })) (sym e)

find_grant : (p : Plan) (n c k : ℕ) (h : List Entry) (x : Passed) (o : Option Grant) → IsHistory p h → task_of n h ≡ Some (Follows c k) → settled_of c h + 1 ≡ k → last_grant x.path h ≡ o → is_some o ≡ true → has_path x.path (granted n h) ≡ true → is_held_by n h o ≡ false → has_released n h ≡ false → x ≡ passed_on x.path o → IsLateFind p n h x
find_grant p n c k h x None l t s b a g u r e = absurd (false≢true a)
find_grant p n c k h x (Some y) l t s b a g u r e =
    let f : y.holder ≢ n = not_own y u r in
    let m = overtaken_only_after_expiry p n c k x.path y h l t s g b f in
    let i : y.holder ≡ x.holder = sym (ap (λ z. z.holder) e) in
    let j : y.moment ≡ x.moment = sym (ap (λ z. z.moment) e) in
    (subst (λ z. z ≢ n) i f, subst (λ z. own_moment n x.path h + p.lock < z) j m, b ∙ grant_is x y e, g)
  where
    not_own : (y : Grant) → is_held_by n h (Some y) ≡ false → has_released n h ≡ false → y.holder ≢ n
    not_own y u r = grind (arith, nat_tests)

find_late : (p : Plan) (n c k : ℕ) (h : List Entry) (x : Passed) → IsHistory p h → task_of n h ≡ Some (Follows c k) → settled_of c h + 1 ≡ k → first_passed n h (in_path_order (granted n h)) ≡ Some x → IsLateFind p n h x
find_late p n c k h x l t s e =
    let i = passed_not_held n h x e in
    find_grant p n c k h x (last_grant x.path h) l t s refl (granted_has_grant n x.path h i.0) i.0 i.1 (unsettled_unreleased p n c k h l t s) (found_is n h (in_path_order (granted n h)) x e)

-- a follower commits its own push
own_commit : (n t m d j c k : ℕ) (h : List Entry) (x : Place) → IsFor (task_of n h) x → task_of n h ≡ Some (Follows c k) → Commits n t m d j h x → (m ≡ n) × (d ≡ c) × (j ≡ k)
own_commit n t m d j c k h x f e i = grind arith

abbrev IsLateLoss : Plan → ℕ → Loss → Type 0
IsLateLoss p n x = (x.found ≢ n) × (x.own + p.lock < x.moment)

loss_found : (p : Plan) (n : ℕ) (h : List Entry) (path : PathNames) (holder moment : ℕ) (x : Loss) → IsLateFind p n h (record { path = path; holder = holder; moment = moment }) → Some (record { path = path; own = own_moment n path h; found = holder; moment = moment }) ≡ Some x → IsLateLoss p n x
loss_found p n h path holder moment x i e = grind arith

pub loss_commit : (p : Plan) (n t c k : ℕ) (path : PathNames) (holder moment : ℕ) (h : List Entry) → IsHistory p h → IsDue p h (op.CommitLock n t path holder moment) → task_of n h ≡ Some (Follows c k) → IsLateFind p n h (record { path = path; holder = holder; moment = moment })
loss_commit p n t c k path holder moment h l d b =
    let i = own_commit n t d.0 d.1 d.2 c k h (place_of p n h) (place_for p n h l) b d.3 in
    find_late p n c k h (record { path = path; holder = holder; moment = moment }) l b (rw (sym i.1, sym i.2) d.4) (subst (λ z. first_passed z h (in_path_order (granted z h)) ≡ Some (record { path = path; holder = holder; moment = moment })) i.0 d.5)

pub loss_refusal : (p : Plan) (n c k : ℕ) (code : Code) (place at : ℕ) (path : PathNames) (holder moment : ℕ) (h : List Entry) → IsHistory p h → IsDue p h (op.RefuseLock n code place at path holder moment) → task_of n h ≡ Some (Follows c k) → IsLateFind p n h (record { path = path; holder = holder; moment = moment })
loss_refusal p n c k code place at path holder moment h l d b =
    find_late p n d.0.session d.0.k h (record { path = path; holder = holder; moment = moment }) l (follower_task p n h d.0 l d.1) d.2 d.4

loss_step : (p : Plan) (n c k : ℕ) (x : Loss) (h : List Entry) (o : Op) → IsHistory p h → IsDue p h o → task_of n h ≡ Some (Follows c k) → (loss_of n h ≡ Some x → IsLateLoss p n x) → loss_in n h o (loss_of n h) ≡ Some x → IsLateLoss p n x
loss_step p n c k x h (op.CommitLock m t path holder moment) l d b i e = by_test (m == n) refl
  where
    by_test : (z : Bool) → (m == n) ≡ z → IsLateLoss p n x
    by_test true f = let g : m ≡ n = grind (arith, nat_tests) in loss_found p n h path holder moment x (loss_commit p n t c k path holder moment h l (subst (λ z. IsDue p h (op.CommitLock z t path holder moment)) g d) b) (grind arith)
    by_test false f = i (grind arith)
loss_step p n c k x h (op.RefuseLock m code place at path holder moment) l d b i e = by_test (m == n) refl
  where
    by_test : (z : Bool) → (m == n) ≡ z → IsLateLoss p n x
    by_test true f = let g : m ≡ n = grind (arith, nat_tests) in loss_found p n h path holder moment x (loss_refusal p n c k code place at path holder moment h l (subst (λ z. IsDue p h (op.RefuseLock z code place at path holder moment)) g d) b) (grind arith)
    by_test false f = i (grind arith)
loss_step p n c k x h o l d b i e = i (grind arith)

pub starts_grow : (o : Option Start) (n : ℕ) → n ≤ count_start o n
starts_grow o n = grind arith

committer_stands : (n t m c k : ℕ) (h : List Entry) (x : Place) → Commits n t m c k h x → is_absent x ≡ false
committer_stands n t m c k h x i = grind arith

-- a function that isn't started has lost nothing
no_loss_step : (p : Plan) (n : ℕ) (h : List Entry) (o : Op) → IsHistory p h → IsDue p h o → starts_of h < n → loss_of n h ≡ None → loss_in n h o (loss_of n h) ≡ None
no_loss_step p n h (op.CommitLock m t path holder moment) l d b i = let g = place_bound p m h l (committer_stands m t d.0 d.1 d.2 h (place_of p m h) d.3) in grind (arith, nat_tests)
no_loss_step p n h (op.RefuseLock m code place at path holder moment) l d b i = let g = place_bound p m h l (rw d.1 refl) in grind (arith, nat_tests)
no_loss_step p n h o l d b i = grind arith

pub no_loss : (p : Plan) (n : ℕ) (h : List Entry) → IsHistory p h → starts_of h < n → loss_of n h ≡ None
no_loss p n [] l b = refl
no_loss p n (e ∷ h) l b = let g = starts_grow (started_in e.op) (starts_of h) in let c : starts_of h < n = omega (arith, g, b) in no_loss_step p n h e.op l.0 (due p e h l) c (no_loss p n h l.0 c)

-- a start is of a function that has lost nothing
pub task_or_none : (p : Plan) (n : ℕ) (x : Task) (h : List Entry) (o : Op) → IsDue p h o → (task_of n h ≡ Some x → ⊥) → or_else (task_here n (started_in o)) (task_of n h) ≡ Some x → (starts_of h < n) × (actor o ≡ None)
task_or_none p n x h o d f e = grind (arith, nat_tests)

pub none_lost : (n : ℕ) (h : List Entry) (o : Op) (y : Option Loss) → actor o ≡ None → loss_in n h o y ≡ y
none_lost n h o y a = grind arith

loss_entry : (p : Plan) (n c k : ℕ) (x : Loss) (e : Entry) (h : List Entry) (o : Option Task) → task_of n h ≡ o → IsHistory p (e ∷ h) → task_of n (e ∷ h) ≡ Some (Follows c k) → (task_of n h ≡ Some (Follows c k) → loss_of n h ≡ Some x → IsLateLoss p n x) → loss_of n (e ∷ h) ≡ Some x → IsLateLoss p n x
loss_entry p n c k x e h None b l t i a =
    let g = task_or_none p n (Follows c k) h e.op (due p e h l) (λ q. grind arith) t in
    absurd (none_some x (sym (no_loss p n h l.0 g.0) ∙ sym (none_lost n h e.op (loss_of n h) g.1) ∙ a))
  where
    none_some : (x : Loss) → None ≡ Some x → ⊥
    none_some x q = grind arith
loss_entry p n c k x e h (Some y) b l t i a =
    let u : task_of n h ≡ Some (Follows c k) = b ∙ sym (task_stays p n e h y l b) ∙ t in
    loss_step p n c k x h e.op l.0 (due p e h l) u (i u) a

pub loss_is_after_expiry : LossIsAfterExpiry
loss_is_after_expiry p n c k x [] l t e = absurd (grind arith)
loss_is_after_expiry p n c k x (e ∷ h) l t a = loss_entry p n c k x e h (task_of n h) refl l t (loss_is_after_expiry p n c k x h l.0) a

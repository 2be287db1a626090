-- A push whose lock passed on never commits.
use Rattle.std.specs.Prelude.{◌==◌, ◌||◌, is_some}
use Rattle.std.proofs.Common.{◌≡◌, ℕ, ◌+◌, ◌≤◌, ◌++◌, ◌⊎◌, inl, inr, Bool, true, false, List, [], ◌∷◌, refl, sym, ◌∙◌, subst, arith, Option, Some, None}
use Rattle.std.proofs.lemmas.Bool.{false≢true}
use Rattle.std.proofs.lemmas.Bool.Decides.{nat_tests}
use Rattle.fk_base.specs.Path.{PathNames, same_path}
use Rattle.fk_base.specs.declared.code.Code.{Code}
use Rattle.fk_tree.specs.Sorted.{has_path, in_path_order}
use Rattle.fk_tree.proofs.Order.{same_path_is, same_path_self}
use Rattle.fk_law_tree.proofs.Lists.{ordered_has}
use Rattle.fk_print.specs.declared.entry.Entry.{Entry}
use Rattle.fk_print.specs.declared.op.Op.{Op}
use Rattle.fk_print.specs.declared.op.Op.TheVariants as op
use Rattle.fk_spec.specs.Plan.{Plan}
use Rattle.fk_spec.specs.Start.{Follows, clock_of, task_of, push_of}
use Rattle.fk_spec.specs.Locks.{Grant, Passed, is_push_of, last_grant, grant_in, granted, granted_in, has_released, releases, is_held_by, first_passed}
use Rattle.fk_spec.specs.Settling.{settled_in, settled_of, count_settling, session_of_push, is_committed, commits}
use Rattle.fk_spec.specs.Next.{IsHistory}
use Rattle.fk_law.specs.Due.{IsDue, IsPushOf, HoldsAll}
use Rattle.fk_law.specs.Losing.{IsOthers, IsOvertaken, IsDead, DeadPushNeverCommits, OvertakenPushNeverCommits, LockMissIsDead, DeadStaysDead}
use Rattle.fk_law.proofs.Due.{due}
use Rattle.fk_law.proofs.Starting.{follower_task, task_stays}
use Rattle.fk_law.proofs.Settled.{commit_of, session_of_its_push, task_at_most_next}
use Rattle.fk_law.proofs.Committing.{its_push_stays, its_push_is_one, committed_settled, at_work_unpushed, counts_more, committed_now, is_push_of_it}

-- Paths. ----------------------------------------------------------------------------------------------

pub same_sym : (p q : PathNames) → same_path p q ≡ true → same_path q p ≡ true
same_sym p q e = subst (λ (x : PathNames). same_path x p ≡ true) (same_path_is p q e) (same_path_self p)

pub has_more : (p q : PathNames) (ps : List PathNames) → has_path p ps ≡ true → has_path p (ps ++ q ∷ []) ≡ true
has_more p q [] e = absurd (false≢true e)
has_more p q (r ∷ ps) e = grind (arith, has_more p q ps)

pub has_last : (p q : PathNames) (ps : List PathNames) → has_path p (ps ++ q ∷ []) ≡ true → has_path p ps ≡ false → same_path p q ≡ true
has_last p q [] e f = grind arith
has_last p q (r ∷ ps) e f = grind (arith, has_last p q ps)

-- Held and passed locks. ------------------------------------------------------------------------------

none_passed_step : (n : ℕ) (h : List Entry) (p q : PathNames) (ps : List PathNames) → (same_path p q ≡ true → p ≡ q) → (first_passed n h ps ≡ None → has_path p ps ≡ true → is_held_by n h (last_grant p h) ≡ true) → first_passed n h (q ∷ ps) ≡ None → has_path p (q ∷ ps) ≡ true → is_held_by n h (last_grant p h) ≡ true
none_passed_step n h p q ps s i e f = grind arith

none_passed : (n : ℕ) (h : List Entry) (p : PathNames) (ps : List PathNames) → first_passed n h ps ≡ None → has_path p ps ≡ true → is_held_by n h (last_grant p h) ≡ true
none_passed n h p [] e i = absurd (false≢true i)
none_passed n h p (q ∷ ps) e i = none_passed_step n h p q ps (same_path_is p q) (none_passed n h p ps) e i

-- who holds all its locks holds each
pub holds_each : (n : ℕ) (h : List Entry) (p : PathNames) → HoldsAll n h → has_path p (granted n h) ≡ true → is_held_by n h (last_grant p h) ≡ true
holds_each n h p a i = none_passed n h p (in_path_order (granted n h)) a (ordered_has (granted n h) p ∙ i)

others_not_held : (n : ℕ) (h : List Entry) (g : Option Grant) → IsOthers n g → is_held_by n h g ≡ true → ⊥
others_not_held n h None o i = o
others_not_held n h (Some g) o i = grind (arith, nat_tests)

passed_step : (n : ℕ) (h : List Entry) (q : PathNames) (ps : List PathNames) (x : Passed) → same_path q q ≡ true → (first_passed n h ps ≡ Some x → (has_path x.path ps ≡ true) × (is_held_by n h (last_grant x.path h) ≡ false)) → first_passed n h (q ∷ ps) ≡ Some x → (has_path x.path (q ∷ ps) ≡ true) × (is_held_by n h (last_grant x.path h) ≡ false)
passed_step n h q ps x s i e = grind arith

passed_is : (n : ℕ) (h : List Entry) (ps : List PathNames) (x : Passed) → first_passed n h ps ≡ Some x → (has_path x.path ps ≡ true) × (is_held_by n h (last_grant x.path h) ≡ false)
passed_is n h [] x e = absurd (grind arith)
passed_is n h (q ∷ ps) x e = passed_step n h q ps x (same_path_self q) (passed_is n h ps x) e

-- a path that passed on was granted and isn't held
pub passed_not_held : (n : ℕ) (h : List Entry) (x : Passed) → first_passed n h (in_path_order (granted n h)) ≡ Some x → (has_path x.path (granted n h) ≡ true) × (is_held_by n h (last_grant x.path h) ≡ false)
passed_not_held n h x e = let i = passed_is n h (in_path_order (granted n h)) x e in (sym (ordered_has (granted n h) x.path) ∙ i.0, i.1)

-- Grants. ---------------------------------------------------------------------------------------------

granted_step : (n : ℕ) (p : PathNames) (o : Op) (ps : List PathNames) → has_path p ps ≡ true → has_path p (granted_in n o ps) ≡ true
granted_step n p (op.LockOk m q) ps i = grind (arith, has_more p q ps i)
granted_step n p o ps i = grind arith

-- a granted path stays granted
pub granted_stays : (n : ℕ) (p : PathNames) (e : Entry) (h : List Entry) → has_path p (granted n h) ≡ true → has_path p (granted n (e ∷ h)) ≡ true
granted_stays n p e h i = granted_step n p e.op (granted n h) i

grant_step : (n : ℕ) (p : PathNames) (h : List Entry) (o : Op) (ps : List PathNames) → (has_path p ps ≡ true → is_some (last_grant p h) ≡ true) → has_path p (granted_in n o ps) ≡ true → is_some (grant_in p (clock_of h) o (last_grant p h)) ≡ true
grant_step n p h (op.LockOk m q) ps i g = grind (arith, nat_tests, has_last p q ps, same_sym p q)
grant_step n p h o ps i g = grind arith

-- a granted path has a last grant
pub granted_has_grant : (n : ℕ) (p : PathNames) (h : List Entry) → has_path p (granted n h) ≡ true → is_some (last_grant p h) ≡ true
granted_has_grant n p [] g = absurd (false≢true g)
granted_has_grant n p (e ∷ h) g = grant_step n p h e.op (granted n h) (granted_has_grant n p h) g

-- a function that has pushed is granted nothing any more
pub no_more_locks : (p : Plan) (t n : ℕ) (q : PathNames) (h : List Entry) → IsHistory p h → IsDue p h (op.LockOk n q) → is_push_of n (push_of t h) ≡ true → ⊥
no_more_locks p t n q h l d i = let w = at_work_unpushed p t n h d.0 l d.1 (grind arith) in false≢true (sym w ∙ i)

others_stay_step : (n : ℕ) (q : PathNames) (h : List Entry) (o : Op) → ((path : PathNames) → o ≡ op.LockOk n path → ⊥) → IsOthers n (last_grant q h) → IsOthers n (grant_in q (clock_of h) o (last_grant q h))
others_stay_step n q h (op.LockOk m path) f i = grind (arith, nat_tests, f path)
others_stay_step n q h o f i = grind arith

-- a function that has pushed and was overtaken stays so
pub overtaken_stays : (p : Plan) (t n : ℕ) (e : Entry) (h : List Entry) → IsHistory p (e ∷ h) → is_push_of n (push_of t h) ≡ true → IsOvertaken n h → IsOvertaken n (e ∷ h)
overtaken_stays p t n e h l i o = record {
  path = o.path;
  granted = granted_stays n o.path e h o.granted;
  other = others_stay_step n o.path h e.op (λ path b. no_more_locks p t n path h l.0 (subst (IsDue p h) b (due p e h l)) i) o.other;
}

-- Releases. -------------------------------------------------------------------------------------------

-- a function that released its locks: its request is settled
pub record IsReleased (n : ℕ) (h : List Entry) : Type 0 where
  pub session : ℕ
  pub k : ℕ
  pub task : task_of n h ≡ Some (Follows session k)
  pub settled : k ≤ settled_of session h

pub its_pusher : (t n m c k : ℕ) (h : List Entry) → IsPushOf t m c k h → is_push_of n (push_of t h) ≡ true → m ≡ n
its_pusher t n m c k h i e = grind (arith, nat_tests)

pub refused_now : (n c k s : ℕ) (h : List Entry) (code : Code) (place at : ℕ) → task_of n h ≡ Some (Follows c k) → s + 1 ≡ k → k ≤ count_settling c (settled_in h (op.RefuseOk n code place at)) s
refused_now n c k s h code place at e i = grind (arith, nat_tests)

released_step : (p : Plan) (n : ℕ) (e : Entry) (h : List Entry) (b : Bool) → releases n h e.op ≡ b → IsHistory p (e ∷ h) → (has_released n h ≡ true → IsReleased n h) → (b || has_released n h) ≡ true → IsReleased n (e ∷ h)
released_step p n e h false r l i a = let x = i a in record { session = x.session; k = x.k; task = task_stays p n e h (Follows x.session x.k) l x.task; settled = counts_more x.session (settled_in h e.op) (settled_of x.session h) x.k x.settled }
released_step p n e h true r l i a = new e.op refl (due p e h l) r
  where
    new : (u : Op) → e.op ≡ u → IsDue p h u → releases n h u ≡ true → IsReleased n (e ∷ h)
    new (op.CommitOk m t) f d c =
        let w = commit_of p m t d.0 d.1 d.2 h l.0 d.3 in
        let g = its_pusher t n d.0 d.1 d.2 h w c in
        record { session = d.1; k = d.2; task = task_stays p n e h (Follows d.1 d.2) l (subst (λ x. task_of x h ≡ Some (Follows d.1 d.2)) g w.task); settled = rw f (committed_now t d.1 d.2 (settled_of d.1 h) (session_of_push t h) None (session_of_its_push t d.0 d.1 d.2 h w) d.4).0 }
    new (op.RefuseOk m code place at) f d c =
        let g : m ≡ n = grind (arith, nat_tests) in
        let w = follower_task p m h d.0 l.0 d.1 in
        record { session = d.0.session; k = d.0.k; task = task_stays p n e h (Follows d.0.session d.0.k) l (subst (λ x. task_of x h ≡ Some (Follows d.0.session d.0.k)) g w); settled = rw f (refused_now m d.0.session d.0.k (settled_of d.0.session h) h code place at w d.2) }
    new u f d c = absurd (grind arith)

pub released : (p : Plan) (n : ℕ) (h : List Entry) → IsHistory p h → has_released n h ≡ true → IsReleased n h
released p n [] l r = absurd (false≢true r)
released p n (e ∷ h) l r = released_step p n e h (releases n h e.op) refl l (released p n h l.0) r

released_settled : (p : Plan) (n c k : ℕ) (h : List Entry) → IsHistory p h → has_released n h ≡ true → task_of n h ≡ Some (Follows c k) → k ≤ settled_of c h
released_settled p n c k h l r t = let x = released p n h l r in grind (arith, x.task, x.settled)

-- Dead pushes. ----------------------------------------------------------------------------------------

pub dead_no_commit : (p : Plan) (t : ℕ) (h : List Entry) (o : Op) → IsHistory p h → IsDue p h o → IsDead t h → commits t o ≡ false
dead_no_commit p t h (op.CommitOk n s) l d x = by_test (s == t) refl
  where
    w : IsPushOf s d.0 d.1 d.2 h
    w = commit_of p n s d.0 d.1 d.2 h l d.3

    same : s ≡ t → (d.0 ≡ x.function) × (d.1 ≡ x.session) × (d.2 ≡ x.k)
    same e = its_push_is_one t d.0 d.1 d.2 x.function x.session x.k h (subst (λ y. IsPushOf y d.0 d.1 d.2 h) e w) x.is_of

    never : s ≡ t → (x.k ≤ settled_of x.session h) ⊎ IsOvertaken x.function h → ⊥
    never e (inl b) = let g = same e in let n : settled_of x.session h + 1 ≡ x.k = rw (sym g.1, sym g.2) d.4 in omega (arith, b, n)
    never e (inr o) = let g = same e in others_not_held x.function h (last_grant o.path h) o.other (holds_each x.function h o.path (subst (λ y. HoldsAll y h) g.0 d.5) o.granted)

    by_test : (b : Bool) → (s == t) ≡ b → (s == t) ≡ false
    by_test false e = e
    by_test true e = absurd (never (grind (arith, nat_tests)) x.cause)
dead_no_commit p t h o l d x = grind arith

pub dead_stays : (p : Plan) (t : ℕ) (e : Entry) (h : List Entry) → IsHistory p (e ∷ h) → IsDead t h → IsDead t (e ∷ h)
dead_stays p t e h l x = record {
  function = x.function;
  session = x.session;
  k = x.k;
  is_of = its_push_stays p t x.function x.session x.k e h l x.is_of;
  uncommitted = rw (dead_no_commit p t h e.op l.0 (due p e h l) x) x.uncommitted;
  cause = elim x.cause [
    | inl b ↦ inl (counts_more x.session (settled_in h e.op) (settled_of x.session h) x.k b)
    | inr o ↦ inr (overtaken_stays p t x.function e h l (is_push_of_it t x.function x.session x.k h x.is_of) o)
  ];
}

pub dead_forever : DeadStaysDead
dead_forever p t h [] l x = x
dead_forever p t h (e ∷ more) l x = dead_stays p t e (more ++ h) l (dead_forever p t h more l.0 x)

pub dead_never_commits : DeadPushNeverCommits
dead_never_commits p t h more l x = (dead_forever p t h more l x).uncommitted

pub overtaken_never_commits : OvertakenPushNeverCommits
overtaken_never_commits p t n c k h more l w o u = dead_never_commits p t h more l (record { function = n; session = c; k = k; is_of = w; uncommitted = u; cause = inr o })

-- a commit that misses: the push is dead or committed
pub missed_lock : (p : Plan) (t m c k : ℕ) (h : List Entry) (x : Passed) → IsHistory p h → IsPushOf t m c k h → settled_of c h + 1 ≡ k → first_passed m h (in_path_order (granted m h)) ≡ Some x → IsDead t h
missed_lock p t m c k h x l w s e = record { function = m; session = c; k = k; is_of = w; uncommitted = by_commit (is_committed t h) refl; cause = inr (record { path = x.path; granted = i.0; other = by_grant (last_grant x.path h) (granted_has_grant m x.path h i.0) i.1 }) }
  where
    i : (has_path x.path (granted m h) ≡ true) × (is_held_by m h (last_grant x.path h) ≡ false)
    i = passed_not_held m h x e

    by_commit : (b : Bool) → is_committed t h ≡ b → is_committed t h ≡ false
    by_commit false f = f
    by_commit true f = absurd (omega (arith, s, committed_settled p t m c k h l f w))

    not_released : (b : Bool) → has_released m h ≡ b → has_released m h ≡ false
    not_released false f = f
    not_released true f = absurd (omega (arith, s, released_settled p m c k h l f w.task))

    by_grant : (g : Option Grant) → is_some g ≡ true → is_held_by m h g ≡ false → IsOthers m g
    by_grant None a b = absurd (false≢true a)
    by_grant (Some g) a b = grind (arith, nat_tests, not_released (has_released m h) refl)

abbrev pub IsOver : ℕ → List Entry → Type 0
IsOver t h = IsDead t h ⊎ (is_committed t h ≡ true)

pub settled_over : (p : Plan) (t m c k : ℕ) (h : List Entry) → IsPushOf t m c k h → k ≤ settled_of c h → IsOver t h
settled_over p t m c k h w b = by_commit (is_committed t h) refl
  where
    by_commit : (b : Bool) → is_committed t h ≡ b → IsOver t h
    by_commit true f = inr f
    by_commit false f = inl (record { function = m; session = c; k = k; is_of = w; uncommitted = f; cause = inl b })

pub missed_settled : (p : Plan) (n t s : ℕ) (h : List Entry) → IsHistory p h → IsDue p h (op.CommitSettled n t s) → IsOver t h
missed_settled p n t s h l d =
    let w = commit_of p n t d.0 d.1 d.2 h l d.3 in
    settled_over p t d.0 d.1 d.2 h w (omega (arith, d.4, task_at_most_next p d.0 d.1 d.2 h l w.task))

pub lock_miss_is_dead : LockMissIsDead
lock_miss_is_dead p n t holder moment path h l d = missed_lock p t d.0 d.1 d.2 h (record { path = path; holder = holder; moment = moment }) l (commit_of p n t d.0 d.1 d.2 h l d.3) d.4 d.5

pub missed_passed : (p : Plan) (n t holder moment : ℕ) (path : PathNames) (h : List Entry) → IsHistory p h → IsDue p h (op.CommitLock n t path holder moment) → IsOver t h
missed_passed p n t holder moment path h l d = inl (lock_miss_is_dead p n t holder moment path h l d)

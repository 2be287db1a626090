-- What commits edit.
use Rattle.std.specs.Prelude.{◌==◌}
use Rattle.std.proofs.Common.{◌≡◌, ℕ, ◌≤◌, Bool, true, false, List, [], ◌∷◌, refl, sym, ◌∙◌, ap, subst, arith, Some}
use Rattle.std.proofs.lemmas.Bool.Decides.{nat_tests}
use Rattle.fk_tree.specs.Touch.{edited_paths}
use Rattle.fk_tree.specs.declared.applied.Applied.{Applied}
use Rattle.fk_print.specs.declared.entry.Entry.{Entry}
use Rattle.fk_print.specs.declared.op.Op.{Op}
use Rattle.fk_print.specs.declared.op.Op.TheVariants as op
use Rattle.fk_law_tree.specs.Following.{AllFit}
use Rattle.fk_law_tree.specs.Locking.{Within}
use Rattle.fk_law_tree.proofs.Growing.{views_are_trees}
use Rattle.fk_spec.specs.Plan.{Plan}
use Rattle.fk_spec.specs.Start.{pushes_of}
use Rattle.fk_spec.specs.Locks.{last_grant, granted}
use Rattle.fk_spec.specs.Stored.{committed_of, committed_in, committed_as, applied_as, with_filled, filled_after}
use Rattle.fk_spec.specs.Next.{IsHistory}
use Rattle.fk_law.specs.Due.{IsDue, IsPushOf}
use Rattle.fk_law.specs.Fitting.{LivePushFits, LivePushEditsWhatItLocked, PushLocksWhatItEdits, OnlyTheHolderEdits, CommitsFit, StoredTreeIsShown}
use Rattle.fk_law.specs.Losing.{IsOwn, IsLive}
use Rattle.fk_law.specs.Seeing.{ViewIsCurrentWhileTheLockIsOwn, OwnedListIsComplete}
use Rattle.fk_law.proofs.Due.{due}
use Rattle.fk_law.proofs.Standing.{OnStanding}
use Rattle.fk_law.proofs.Pushing.{push_bound}
use Rattle.fk_law.proofs.Committing.{its_push_is_one}
use Rattle.fk_law.proofs.Rising.{its_push_before, committed_low}
use Rattle.fk_law.proofs.Losing.{granted_stays}
use Rattle.fk_law.proofs.Sending.{committed_other, was_committed}
use Rattle.fk_law.proofs.Leaving.{Sees, Lists, commit_is}
use Rattle.fk_law.proofs.Fitting.{seen}

pub view_is_current : ViewIsCurrentWhileTheLockIsOwn
view_is_current p n h f l e w = subst (OnStanding (Sees p n h)) e ((seen p h l).views n) w

pub owned_list_is_complete : OwnedListIsComplete
owned_list_is_complete p n h f r q l e a c w s o = subst (OnStanding (Lists p h)) e ((seen p h l).lists n) r a c w s q o

pub live_push_fits : LivePushFits
live_push_fits p t h y l x q = ((seen p h l).pushes t x y q).0

-- what a live push edits was granted to the function that it is of
edits_locked : (p : Plan) (t n c k : ℕ) (h : List Entry) (x : IsLive t h) → IsPushOf t n c k h → (a : Applied) → Within (edited_paths a) (granted x.function h) → Within (edited_paths a) (granted n h)
edits_locked p t n c k h x w a i = subst (λ m. Within (edited_paths a) (granted m h)) (its_push_is_one t x.function x.session x.k n c k h x.is_of w).0 i

pub live_push_edits_what_it_locked : LivePushEditsWhatItLocked
live_push_edits_what_it_locked p t n c k h y l x w q = edits_locked p t n c k h x w (filled_after (committed_of p h) t y) ((seen p h l).pushes t x y q).1

-- A push that commits.
pub only_the_holder_edits : OnlyTheHolderEdits
only_the_holder_edits p a t n c k h y path l d w q v =
    let x = (commit_is p a t h l d).live in
    subst (λ m. IsOwn m (last_grant path h)) (its_push_is_one t x.function x.session x.k n c k h x.is_of w).0 (x.own path (((seen p h l).pushes t x y q).1 path v))

pub one_applied : (t : ℕ) (a b : Applied) (done : List Applied) → a.tx ≡ t → applied_as t (a ∷ done) ≡ Some b → a ≡ b
one_applied t a b done e f = grind (arith, nat_tests)

locks_step : (p : Plan) (t n c k : ℕ) (h : List Entry) (a : Applied) (o : Op) → IsHistory p h → IsDue p h o → (committed_as p t h ≡ Some a → Within (edited_paths a) (granted n h)) → IsPushOf t n c k h → applied_as t (committed_in p h o (committed_of p h)) ≡ Some a → Within (edited_paths a) (granted n h)
locks_step p t n c k h a (op.CommitOk u s) l d i w q = by_push (s == t) refl
  where
    by_push : (z : Bool) → (s == t) ≡ z → Within (edited_paths a) (granted n h)
    by_push false e = i (sym (committed_other p t h (op.CommitOk u s) (committed_of p h) e) ∙ q)
    by_push true e =
        let g : s ≡ t = grind (arith, nat_tests) in
        let x = commit_is p u s h l d in
        let f : filled_after (committed_of p h) s x.pushed ≡ a = one_applied t (filled_after (committed_of p h) s x.pushed) a (committed_of p h) g (sym (ap (λ v. applied_as t (with_filled (committed_of p h) s v)) x.is) ∙ q) in
        edits_locked p s n c k h x.live (subst (λ v. IsPushOf v n c k h) (sym g) w) a (subst (λ v. Within (edited_paths v) (granted x.live.function h)) f ((seen p h l).pushes s x.live x.pushed x.is).1)
locks_step p t n c k h a o l d i w q = i q

-- A commit is of a push from before its entry.
commit_bound : (p : Plan) (t : ℕ) (h : List Entry) (a : Applied) (o : Op) → IsHistory p h → IsDue p h o → (committed_as p t h ≡ Some a → t ≤ pushes_of h) → applied_as t (committed_in p h o (committed_of p h)) ≡ Some a → t ≤ pushes_of h
commit_bound p t h a (op.CommitOk u s) l d i q = by_push (s == t) refl
  where
    by_push : (z : Bool) → (s == t) ≡ z → t ≤ pushes_of h
    by_push false e = i (sym (committed_other p t h (op.CommitOk u s) (committed_of p h) e) ∙ q)
    by_push true e =
        let g : s ≡ t = grind (arith, nat_tests) in
        let x = (commit_is p u s h l d).live in
        subst (λ v. v ≤ pushes_of h) g (push_bound p s h x.is_of.push l x.is_of.pushed).2
commit_bound p t h a o l d i q = i q

pub push_locks_what_it_edits : PushLocksWhatItEdits
push_locks_what_it_edits p t n c k [] a l w q = absurd (grind arith)
push_locks_what_it_edits p t n c k (e ∷ h) a l w q =
    let g = commit_bound p t h a e.op l.0 (due p e h l) (λ v. committed_low p t h l.0 (was_committed p t h a v)) q in
    let x = its_push_before p t n c k e h l (push_bound p t (e ∷ h) w.push l w.pushed).1 g w in
    λ path v. granted_stays n path e h (locks_step p t n c k h a e.op l.0 (due p e h l) (λ u. push_locks_what_it_edits p t n c k h a l.0 x u) x q path v)

-- All commits.
fit_step : (p : Plan) (h : List Entry) (o : Op) → IsHistory p h → IsDue p h o → AllFit (committed_of p h) → AllFit (committed_in p h o (committed_of p h))
fit_step p h (op.CommitOk u t) l d i = let x = commit_is p u t h l d in subst (λ z. AllFit (with_filled (committed_of p h) t z)) (sym x.is) (((seen p h l).pushes t x.live x.pushed x.is).0, i)
fit_step p h o l d i = i

pub commits_fit : CommitsFit
commits_fit p [] l = tt
commits_fit p (e ∷ h) l = fit_step p h e.op l.0 (due p e h l) (commits_fit p h l.0)

pub stored_tree_is_shown : StoredTreeIsShown
stored_tree_is_shown p h l = views_are_trees (committed_of p h) (commits_fit p h l)

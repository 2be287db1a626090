-- What a push carries to its commit.
use Rattle.std.specs.Prelude.{◌==◌}
use Rattle.std.proofs.Common.{◌≡◌, ◌≢◌, ℕ, ◌++◌, Bool, true, false, ◌||◌, List, [], ◌∷◌, refl, sym, ◌∙◌, ap, subst, arith, Some}
use Rattle.std.proofs.lemmas.Bool.{false≢true}
use Rattle.std.proofs.lemmas.Bool.Decides.{nat_tests}
use Rattle.fk_base.specs.Path.{PathNames, same_path}
use Rattle.fk_tree.specs.Edit.{view_after}
use Rattle.fk_tree.specs.Sorted.{has_path}
use Rattle.fk_tree.specs.declared.applied.Applied.{Applied}
use Rattle.fk_tree.specs.declared.request.Request.{Request}
use Rattle.fk_tree.specs.declared.request.Request.TheVariants as request
use Rattle.fk_tree.specs.Rows.{is_of}
use Rattle.fk_tree.proofs.Looking.{same_flip}
use Rattle.fk_print.specs.declared.entry.Entry.{Entry}
use Rattle.fk_print.specs.declared.op.Op.{Op}
use Rattle.fk_print.specs.declared.op.Op.TheVariants as op
use Rattle.fk_law_tree.specs.Locking.{ListsOwned}
use Rattle.fk_law_tree.proofs.Holding.{fits_by_its_edits}
use Rattle.fk_spec.specs.Plan.{Plan}
use Rattle.fk_spec.specs.Start.{Pushed, pushed_of}
use Rattle.fk_spec.specs.Locks.{granted}
use Rattle.fk_spec.specs.Stored.{committed_of, committed_in, committed_as, applied_as, with_filled, filled_after, gone_after, stored_view}
use Rattle.fk_spec.specs.Follower.{Granted, node_in, view_of, paths_of}
use Rattle.fk_spec.specs.Next.{IsHistory}
use Rattle.fk_law.specs.Due.{IsDue, IsPushOf}
use Rattle.fk_law.specs.Fitting.{FollowerFillsTheSame, CommittedAsPushed}
use Rattle.fk_law.specs.Losing.{IsLive}
use Rattle.fk_law.specs.Progress.{Works, progress}
use Rattle.fk_law.proofs.Due.{due}
use Rattle.fk_law.proofs.Closing.{at_work_is_open}
use Rattle.fk_law.proofs.Sending.{committed_other, was_committed, pushed_never_changes, its_push_forever}
use Rattle.fk_law.proofs.Rising.{its_push_before}
use Rattle.fk_law.proofs.Pushing.{push_bound}
use Rattle.fk_law.proofs.Clients.{follows_from_1}
use Rattle.fk_law.proofs.Starting.{follower_task}
use Rattle.fk_law.proofs.Recording.{records_are_of_its_grants}
use Rattle.fk_law.proofs.Filling.{owned_has, not_none}
use Rattle.fk_law.proofs.Leaving.{FitsLocked, commit_is}
use Rattle.fk_law.proofs.Fitting.{seen, holder_agrees, pusher_fits, was_live, filled_on, pushed_one}
use Rattle.fk_law.proofs.Editing.{one_applied}
use Rattle.fk_base.proofs.Logic.{by_test}

-- A follower's own filling. ---------------------------------------------------------------------------

-- what a record shows as owned is of a granted path
pub owned_is_granted : (c : ℕ) (gs : List Granted) (q : PathNames) → is_of c (node_in gs q) ≡ true → has_path q (paths_of gs) ≡ true
owned_is_granted c [] q i = absurd (false≢true i)
owned_is_granted c (g ∷ gs) q i = by_test (same_path q g.path) (λ b. (b || has_path q (paths_of gs)) ≡ true) (λ _. refl) (λ e. owned_is_granted c gs q (later (sym (same_flip q g.path) ∙ e) i))
  where
    later : same_path g.path q ≡ false → is_of c (node_in (g ∷ gs) q) ≡ true → is_of c (node_in gs q) ≡ true
    later e i = sym (rw e refl) ∙ i

shown_lists : (c : ℕ) (gs : List Granted) (done : List Applied) (r : Request) → c ≢ 0 → ((q : PathNames) → has_path q (paths_of gs) ≡ true → node_in gs q ≡ (view_after done).node q) → ListsOwned (view_of gs) c r (gone_after c done r)
shown_lists c gs done (request.Create path bytes seq eph) z a = tt
shown_lists c gs done (request.Set path bytes version) z a = tt
shown_lists c gs done (request.Delete path version) z a = tt
shown_lists c gs done (request.Close evict) z a = λ q i. owned_has c done q z ∙ (ap (is_of c) (sym (a q (owned_is_granted c gs q i))) ∙ i)
shown_lists c gs done (request.Multi xs) z a = tt

pub follower_fills_the_same : FollowerFillsTheSame
follower_fills_the_same p n t moment h f r l e w q z o =
    fits_by_its_edits (stored_view p h) (view_of f.granted) (filled_after (committed_of p h) t y) i.0
    (at_work_is_open p n h f l e works z)
    (λ x v. sym (agrees x (i.1 x v)))
    (shown_lists f.session f.granted (committed_of p h) r (not_none f.session (follows_from_1 p n f.session f.k h l (follower_task p n h f l e))) (λ x v. agrees x (ap (has_path x) (sym (records_are_of_its_grants p n h f l e)) ∙ v)))
  where
    y : Pushed
    y = record { session = f.session; k = f.k; moment = moment; request = r }

    works : progress f.stage ≡ Works
    works = ap progress w

    i : FitsLocked p t n h y
    i = pusher_fits p n t moment h f r l (seen p h l) e w q z o

    agrees : (x : PathNames) → has_path x (granted n h) ≡ true → node_in f.granted x ≡ (stored_view p h).node x
    agrees = holder_agrees p n h f l (seen p h l) e works o

-- From its push on. -----------------------------------------------------------------------------------

filled_forever : (p : Plan) (t n c k : ℕ) (h more : List Entry) (y : Pushed) → IsHistory p (more ++ h) → IsPushOf t n c k h → pushed_of p t h ≡ Some y → IsLive t (more ++ h) → filled_after (committed_of p (more ++ h)) t y ≡ filled_after (committed_of p h) t y
filled_forever p t n c k h [] y l w q x = refl
filled_forever p t n c k h (e ∷ more) y l w q x =
    let v = its_push_forever p t n c k h more l.0 w in
    let u = push_bound p t (more ++ h) v.push l.0 v.pushed in
    let z = its_push_before p t x.function x.session x.k e (more ++ h) l u.1 u.2 x.is_of in
    filled_on p t e (more ++ h) y l (seen p (more ++ h) l.0) x (pushed_never_changes p t n c k h more l.0 w ∙ q) z ∙ filled_forever p t n c k h more y l.0 w q (was_live p t e (more ++ h) l x z)

as_pushed_step : (p : Plan) (t : ℕ) (h : List Entry) (y : Pushed) (a g : Applied) (o : Op) → IsHistory p h → IsDue p h o → pushed_of p t h ≡ Some y → (IsLive t h → filled_after (committed_of p h) t y ≡ g) → (committed_as p t h ≡ Some a → a ≡ g) → applied_as t (committed_in p h o (committed_of p h)) ≡ Some a → a ≡ g
as_pushed_step p t h y a g (op.CommitOk u s) l d q f i v = by_push (s == t) refl
  where
    by_push : (z : Bool) → (s == t) ≡ z → a ≡ g
    by_push false e = i (sym (committed_other p t h (op.CommitOk u s) (committed_of p h) e) ∙ v)
    by_push true e =
        let m : s ≡ t = grind (arith, nat_tests) in
        let x = commit_is p u s h l d in
        let w : filled_after (committed_of p h) s x.pushed ≡ a = one_applied t (filled_after (committed_of p h) s x.pushed) a (committed_of p h) m (sym (ap (λ j. applied_as t (with_filled (committed_of p h) s j)) x.is) ∙ v) in
        let c : x.pushed ≡ y = pushed_one x.pushed y (pushed_of p t h) (subst (λ j. pushed_of p j h ≡ Some x.pushed) m x.is) q in
        sym w ∙ (ap (λ j. filled_after (committed_of p h) j x.pushed) m ∙ (ap (filled_after (committed_of p h) t) c ∙ f (subst (λ j. IsLive j h) m x.live)))
as_pushed_step p t h y a g o l d q f i v = i v

pub committed_as_pushed : CommittedAsPushed
committed_as_pushed p t n c k h [] y a l w u q v = absurd (false≢true (sym u ∙ was_committed p t h a v))
committed_as_pushed p t n c k h (e ∷ more) y a l w u q v =
    as_pushed_step p t (more ++ h) y a (filled_after (committed_of p h) t y) e.op l.0 (due p e (more ++ h) l) (pushed_never_changes p t n c k h more l.0 w ∙ q) (λ x. filled_forever p t n c k h more y l.0 w q x) (λ z. committed_as_pushed p t n c k h more y a l.0 w u q z) v

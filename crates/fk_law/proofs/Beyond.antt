-- A live push is beyond what was committed for its session and on its paths.
use Rattle.std.specs.Prelude.{nat_eq}
use Rattle.std.proofs.Common.{◌≡◌, ℕ, ◌<◌, ◌≤◌, Bool, true, false, cond, List, [], ◌∷◌, refl, sym, ◌∙◌, ap, subst, arith}
use Rattle.std.proofs.lemmas.Bool.Decides.{nat_tests}
use Rattle.fk_base.specs.Path.{PathNames}
use Rattle.fk_tree.specs.Sorted.{has_path}
use Rattle.fk_tree.specs.Touch.{edited_paths}
use Rattle.fk_print.specs.declared.entry.Entry.{Entry}
use Rattle.fk_print.specs.declared.op.Op.{Op}
use Rattle.fk_print.specs.declared.op.Op.TheVariants as op
use Rattle.fk_spec.specs.Plan.{Plan}
use Rattle.fk_spec.specs.Locks.{granted}
use Rattle.fk_spec.specs.Settling.{is_committed, last_of_session, last_for}
use Rattle.fk_spec.specs.Stored.{committed_of, committed_in, with_filled, filled_after, last_edit, last_editor}
use Rattle.fk_spec.specs.Next.{IsHistory}
use Rattle.fk_law.specs.Due.{IsDue, IsPushOf}
use Rattle.fk_law.specs.Losing.{IsLive}
use Rattle.fk_law.specs.Numbering.{last_in, IsNewest, AllNewest, LivePushIsNewest, CommitsRise}
use Rattle.fk_law.proofs.Due.{due}
use Rattle.fk_law.proofs.Numbers.{less_or_not}
use Rattle.fk_law.proofs.Pushing.{push_bound}
use Rattle.fk_law.proofs.Settled.{session_of_its_push}
use Rattle.fk_law.proofs.Committing.{its_push_stays, its_push_is_one, is_push_of_it}
use Rattle.fk_law.proofs.Losing.{granted_stays}
use Rattle.fk_law.proofs.Rising.{newest_on_a_path, newest_in_a_session}
use Rattle.fk_law.proofs.Knowing.{last_of, last_for_is}
use Rattle.fk_law.proofs.Leaving.{IsSeen, IsCommit, commit_is}
use Rattle.fk_law.proofs.Fitting.{seen}

-- The last commit that edited a path. -----------------------------------------------------------------

-- a committed push whose function was granted the path
record IsEditOf (q : PathNames) (s : ℕ) (h : List Entry) : Type 0 where
  pub function : ℕ
  pub session : ℕ
  pub k : ℕ
  pub is_of : IsPushOf s function session k h
  pub committed : is_committed s h ≡ true
  pub locked : has_path q (granted function h) ≡ true

edit_stays : (p : Plan) (q : PathNames) (s : ℕ) (e : Entry) (h : List Entry) → IsHistory p (e ∷ h) → IsEditOf q s h → IsEditOf q s (e ∷ h)
edit_stays p q s e h l x = record { function = x.function; session = x.session; k = x.k; is_of = its_push_stays p s x.function x.session x.k e h l x.is_of; committed = (let y = x.committed in grind arith); locked = granted_stays x.function q e h x.locked }

edit_new : (p : Plan) (q : PathNames) (a t : ℕ) (e : Entry) (h : List Entry) → IsHistory p (e ∷ h) → IsSeen p h → e.op ≡ op.CommitOk a t → (c : IsCommit p t h) → has_path q (edited_paths (filled_after (committed_of p h) t c.pushed)) ≡ true → IsEditOf q t (e ∷ h)
edit_new p q a t e h l s b c i =
    let x = c.live in
    record { function = x.function; session = x.session; k = x.k; is_of = its_push_stays p t x.function x.session x.k e h l x.is_of; committed = rw b (grind (arith, nat_tests)); locked = granted_stays x.function q e h ((s.pushes t x c.pushed c.is).1 q i) }

edit_commit : (p : Plan) (q : PathNames) (a t : ℕ) (e : Entry) (h : List Entry) → IsHistory p (e ∷ h) → IsSeen p h → e.op ≡ op.CommitOk a t → (c : IsCommit p t h) → (1 ≤ last_edit p q h → IsEditOf q (last_edit p q h) h)
    → (b : Bool) → has_path q (edited_paths (filled_after (committed_of p h) t c.pushed)) ≡ b → 1 ≤ cond b t (last_edit p q h) → IsEditOf q (cond b t (last_edit p q h)) (e ∷ h)
edit_commit p q a t e h l s o c i true f v = edit_new p q a t e h l s o c f
edit_commit p q a t e h l s o c i false f v = edit_stays p q (last_edit p q h) e h l (i v)

edit_step : (p : Plan) (q : PathNames) (e : Entry) (h : List Entry) (o : Op) → e.op ≡ o → IsHistory p (e ∷ h) → IsSeen p h → IsDue p h o → (1 ≤ last_edit p q h → IsEditOf q (last_edit p q h) h)
    → 1 ≤ last_editor q (committed_in p h o (committed_of p h)) → IsEditOf q (last_editor q (committed_in p h o (committed_of p h))) (e ∷ h)
edit_step p q e h (op.CommitOk a t) b l s d i =
    let c = commit_is p a t h l.0 d in
    subst (λ z. 1 ≤ last_editor q (with_filled (committed_of p h) t z) → IsEditOf q (last_editor q (with_filled (committed_of p h) t z)) (e ∷ h)) (sym c.is)
    (edit_commit p q a t e h l s b c i (has_path q (edited_paths (filled_after (committed_of p h) t c.pushed))) refl)
edit_step p q e h o b l s d i = λ v. edit_stays p q (last_edit p q h) e h l (i v)

last_is_edit : (p : Plan) (q : PathNames) (h : List Entry) → IsHistory p h → 1 ≤ last_edit p q h → IsEditOf q (last_edit p q h) h
last_is_edit p q [] l v = absurd (omega (arith, v))
last_is_edit p q (e ∷ h) l v = edit_step p q e h e.op refl l (seen p h l.0) (due p e h l) (last_is_edit p q h l.0) v

-- Live pushes. ----------------------------------------------------------------------------------------

live_low : (p : Plan) (t : ℕ) (h : List Entry) → IsHistory p h → (x : IsLive t h) → 1 ≤ t
live_low p t h l x = (push_bound p t h x.is_of.push l x.is_of.pushed).1

pub live_beyond_edits : (p : Plan) (t : ℕ) (h : List Entry) (q : PathNames) → IsHistory p h → (x : IsLive t h) → has_path q (granted x.function h) ≡ true → last_edit p q h < t
live_beyond_edits p t h q l x g = less_or_not (last_edit p q h) t (λ v.
    let y = last_is_edit p q h l (let w = live_low p t h l x in omega (arith, v, w)) in
    let z = newest_on_a_path p t x.function (last_edit p q h) y.function q h l (is_push_of_it t x.function x.session x.k h x.is_of) (is_push_of_it (last_edit p q h) y.function y.session y.k h y.is_of) x.uncommitted y.committed y.locked g (x.own q g) in
    omega (arith, v, z))

pub live_beyond_session : (p : Plan) (t : ℕ) (h : List Entry) → IsHistory p h → (x : IsLive t h) → last_of_session x.session h < t
live_beyond_session p t h l x = less_or_not (last_of_session x.session h) t (λ v.
    let y = last_of p x.session h l (let w = live_low p t h l x in omega (arith, v, w)) in
    let z = newest_in_a_session p t x.function x.session x.k (last_of_session x.session h) y.function y.k h l x.is_of y.is_of y.committed x.next in
    omega (arith, v, z))

pub live_push_is_newest : LivePushIsNewest
live_push_is_newest p t n c k h l x w =
    let g = its_push_is_one t x.function x.session x.k n c k h x.is_of w in
    (subst (λ z. last_of_session z h < t) g.1 (live_beyond_session p t h l x), λ q i. live_beyond_edits p t h q l x (subst (λ m. has_path q (granted m h) ≡ true) (sym g.0) i))

-- Commits. --------------------------------------------------------------------------------------------

-- the session's last commit is that of the lines
last_in_step : (p : Plan) (c : ℕ) (h : List Entry) (o : Op) → IsHistory p h → IsDue p h o → last_in c (committed_of p h) ≡ last_of_session c h → last_in c (committed_in p h o (committed_of p h)) ≡ last_for c h o (last_of_session c h)
last_in_step p c h (op.CommitOk a t) l d i =
    let x = commit_is p a t h l d in
    subst (λ z. last_in c (with_filled (committed_of p h) t z) ≡ last_for c h (op.CommitOk a t) (last_of_session c h)) (sym x.is)
    (ap (λ z. cond (nat_eq z c) t (last_in c (committed_of p h))) x.session ∙ (ap (cond (nat_eq x.live.session c) t) i ∙ sym (last_for_is c a t x.live.session h (session_of_its_push t x.live.function x.live.session x.live.k h x.live.is_of))))
last_in_step p c h o l d i = i

pub last_in_is : (p : Plan) (c : ℕ) (h : List Entry) → IsHistory p h → last_in c (committed_of p h) ≡ last_of_session c h
last_in_is p c [] l = refl
last_in_is p c (e ∷ h) l = last_in_step p c h e.op l.0 (due p e h l) (last_in_is p c h l.0)

-- what commits is beyond those before it
pub commit_is_newest : (p : Plan) (t : ℕ) (h : List Entry) → IsHistory p h → (c : IsCommit p t h) → IsNewest (committed_of p h) (filled_after (committed_of p h) t c.pushed)
commit_is_newest p t h l c = record {
  paths = λ q i. live_beyond_edits p t h q l c.live (((seen p h l).pushes t c.live c.pushed c.is).1 q i);
  session = subst (λ z. z < t) (sym (ap (λ z. last_in z (committed_of p h)) c.session ∙ last_in_is p c.live.session h l)) (live_beyond_session p t h l c.live);
}

rise_step : (p : Plan) (h : List Entry) (o : Op) → IsHistory p h → IsDue p h o → AllNewest (committed_of p h) → AllNewest (committed_in p h o (committed_of p h))
rise_step p h (op.CommitOk a t) l d i = let c = commit_is p a t h l d in subst (λ z. AllNewest (with_filled (committed_of p h) t z)) (sym c.is) (commit_is_newest p t h l c, i)
rise_step p h o l d i = i

pub commits_rise : CommitsRise
commits_rise p [] l = tt
commits_rise p (e ∷ h) l = rise_step p h e.op l.0 (due p e h l) (commits_rise p h l.0)

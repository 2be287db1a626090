-- What a commit leaves alone.
use Rattle.std.proofs.Common.{◌≡◌, ◌≢◌, ℕ, ◌+◌, ◌≤◌, true, false, cond, List, ◌∷◌, refl, sym, ◌∙◌, ap, subst, arith, Some}
use Rattle.std.proofs.lemmas.Bool.Decides.{nat_tests}
use Rattle.fk_base.specs.Path.{PathNames}
use Rattle.fk_tree.specs.Edit.{closes, view_after}
use Rattle.fk_tree.specs.Sorted.{has_path}
use Rattle.fk_tree.specs.Touch.{edited_paths}
use Rattle.fk_tree.specs.declared.applied.Applied.{Applied}
use Rattle.fk_tree.specs.declared.request.Request.{Request}
use Rattle.fk_tree.specs.Rows.{is_of}
use Rattle.fk_print.specs.declared.entry.Entry.{Entry}
use Rattle.fk_print.specs.declared.op.Op.{Op}
use Rattle.fk_print.specs.declared.op.Op.TheVariants as op
use Rattle.fk_law_tree.specs.Fitting.{Fits}
use Rattle.fk_law_tree.specs.Locking.{Within}
use Rattle.fk_law_tree.proofs.Counting.{unedited_stays}
use Rattle.fk_law_tree.proofs.Owning.{keeps_foreign_owners}
use Rattle.fk_spec.specs.Plan.{Plan}
use Rattle.fk_spec.specs.Start.{Pushed, pushed_of, request_of}
use Rattle.fk_spec.specs.Locks.{last_grant, granted}
use Rattle.fk_spec.specs.Settling.{settled_in, settled_of, count_settling}
use Rattle.fk_spec.specs.Stored.{committed_of, committed_in, with_filled, filled_after, stored_view, last_editor}
use Rattle.fk_spec.specs.Follower.{Follower}
use Rattle.fk_spec.specs.Function.{place_of}
use Rattle.fk_spec.specs.Next.{IsHistory}
use Rattle.fk_law.specs.Due.{IsDue}
use Rattle.fk_law.specs.Losing.{IsOwn, IsLive}
use Rattle.fk_law.specs.Progress.{Works, progress}
use Rattle.fk_law.specs.Seeing.{AreCurrent, Locks}
use Rattle.fk_law.proofs.Standing.{OnStanding}
use Rattle.fk_law.proofs.Settled.{session_of_its_push}
use Rattle.fk_law.proofs.Living.{committer_is_live}
use Rattle.fk_law.proofs.Sending.{push_asks_for_its_request}
use Rattle.fk_law.proofs.Rising.{own_same}
use Rattle.fk_base.proofs.Logic.{by_test}

-- push t of function n, filled from what the commits left, fits that and edits what the function was granted
abbrev pub FitsLocked : Plan → ℕ → ℕ → List Entry → Pushed → Type 0
FitsLocked p t n h y = Fits (stored_view p h) (filled_after (committed_of p h) t y) × Within (edited_paths (filled_after (committed_of p h) t y)) (granted n h)

abbrev pub Sees : Plan → ℕ → List Entry → Follower → Type 0
Sees p n h f = progress f.stage ≡ Works → AreCurrent p n h f.granted

abbrev pub Lists : Plan → List Entry → Follower → Type 0
Lists p h f = (r : Request) → request_of p f.session f.k h ≡ Some r → closes r ≡ true → Locks f.stage → settled_of f.session h + 1 ≡ f.k → (q : PathNames) → is_of f.session ((stored_view p h).node q) ≡ true → has_path q f.owned ≡ true

-- what holds of each history, by one induction
pub record IsSeen (p : Plan) (h : List Entry) : Type 0 where
  pub views : (n : ℕ) → OnStanding (Sees p n h) (place_of p n h)
  pub lists : (n : ℕ) → OnStanding (Lists p h) (place_of p n h)
  pub pushes : (t : ℕ) (x : IsLive t h) (y : Pushed) → pushed_of p t h ≡ Some y → FitsLocked p t x.function h y

-- a push that commits
pub record IsCommit (p : Plan) (t : ℕ) (h : List Entry) : Type 0 where
  pub live : IsLive t h
  pub pushed : Pushed
  pub is : pushed_of p t h ≡ Some pushed
  pub session : pushed.session ≡ live.session

pub commit_is : (p : Plan) (a t : ℕ) (h : List Entry) → IsHistory p h → IsDue p h (op.CommitOk a t) → IsCommit p t h
commit_is p a t h l d =
    let x = committer_is_live p a t h l d in
    let r = push_asks_for_its_request p t x.function x.session x.k h l x.is_of in
    record { live = x; pushed = _; is = r.2; session = refl }

-- It edits no path that another function was granted last.
pub unedited : (p : Plan) (t n : ℕ) (h : List Entry) (q : PathNames) → IsSeen p h → (c : IsCommit p t h) → n ≢ c.live.function → IsOwn n (last_grant q h) → has_path q (edited_paths (filled_after (committed_of p h) t c.pushed)) ≡ false
unedited p t n h q s c d o = by_test (has_path q (edited_paths (filled_after (committed_of p h) t c.pushed))) (λ b. b ≡ false) (λ e. absurd (d (own_same n c.live.function (last_grant q h) o (c.live.own q ((s.pushes t c.live c.pushed c.is).1 q e))))) (λ _. refl)

-- the node of a path, and the last commit that edited it, are as they were
abbrev pub Leaves : PathNames → List Applied → List Applied → Type 0
Leaves q done next = ((view_after next).node q ≡ (view_after done).node q) × (last_editor q next ≡ last_editor q done)

pub filled_leaves : (q : PathNames) (done : List Applied) (t : ℕ) (y : Pushed) → has_path q (edited_paths (filled_after done t y)) ≡ false → Leaves q done (filled_after done t y ∷ done)
filled_leaves q done t y e = (unedited_stays (view_after done) (filled_after done t y) q e, ap (λ b. cond b t (last_editor q done)) e)

-- What commits for other functions leaves a path alone that a function was granted last.
pub leaves : (p : Plan) (n : ℕ) (h : List Entry) (q : PathNames) (o : Op) → IsHistory p h → IsDue p h o → IsSeen p h → ((a t : ℕ) → o ≡ op.CommitOk a t → (x : IsLive t h) → n ≢ x.function) → IsOwn n (last_grant q h) → Leaves q (committed_of p h) (committed_in p h o (committed_of p h))
leaves p n h q (op.CommitOk a t) l d s f o =
    let c = commit_is p a t h l d in
    subst (λ z. Leaves q (committed_of p h) (with_filled (committed_of p h) t z)) (sym c.is) (filled_leaves q (committed_of p h) t c.pushed (unedited p t n h q s c (f a t refl c.live) o))
leaves p n h q o l d s f w = (refl, refl)

-- Where a session settles nothing, another's commit gives it no node.
filled_owned : (c t : ℕ) (done : List Applied) (q : PathNames) (y : Pushed) → c ≢ 0 → c ≢ y.session → is_of c ((view_after (filled_after done t y ∷ done)).node q) ≡ true → is_of c ((view_after done).node q) ≡ true
filled_owned c t done q y z e o = keeps_foreign_owners (view_after done) (filled_after done t y) q c z e o

pub other_session : (c t k a : ℕ) (h : List Entry) → (x : IsLive t h) → k ≤ settled_of c h + 1 → count_settling c (settled_in h (op.CommitOk a t)) (settled_of c h) + 1 ≡ k → c ≢ x.session
other_session c t k a h x b s e = let g = session_of_its_push t x.function x.session x.k h x.is_of in grind (arith, nat_tests)

pub owned_back : (p : Plan) (c k : ℕ) (h : List Entry) (q : PathNames) (o : Op) → IsHistory p h → IsDue p h o → c ≢ 0 → k ≤ settled_of c h + 1 → count_settling c (settled_in h o) (settled_of c h) + 1 ≡ k
    → is_of c ((view_after (committed_in p h o (committed_of p h))).node q) ≡ true → is_of c ((stored_view p h).node q) ≡ true
owned_back p c k h q (op.CommitOk a t) l d z b s w =
    let x = commit_is p a t h l d in
    let e = other_session c t k a h x.live b s in
    filled_owned c t (committed_of p h) q x.pushed z (λ u. e (u ∙ x.session)) (subst (λ v. is_of c ((view_after (with_filled (committed_of p h) t v)).node q) ≡ true) x.is w)
owned_back p c k h q o l d z b s w = w

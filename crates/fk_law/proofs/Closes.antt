-- Closes list what their sessions own, and each commit fits at its number.
use Rattle.std.specs.Prelude.{nat_le, nat_eq}
use Rattle.std.proofs.Common.{◌≡◌, ◌≢◌, ℕ, ◌+◌, ◌≤◌, Bool, true, false, cond, List, [], ◌∷◌, refl, sym, ◌∙◌, ap, subst, arith, Option, Some, None}
use Rattle.std.proofs.lemmas.Bool.{false≢true}
use Rattle.std.proofs.lemmas.Bool.Decides.{nat_tests}
use Rattle.fk_base.specs.Path.{PathNames}
use Rattle.fk_tree.specs.Edit.{after, closes, view_after}
use Rattle.fk_tree.specs.View.{View}
use Rattle.fk_tree.specs.declared.applied.Applied.{Applied}
use Rattle.fk_tree.specs.declared.request.Request.{Request}
use Rattle.fk_tree.specs.declared.request.Request.TheVariants as request
use Rattle.fk_tree.specs.Rows.{is_of}
use Rattle.fk_print.specs.declared.entry.Entry.{Entry}
use Rattle.fk_print.specs.declared.op.Op.{Op}
use Rattle.fk_print.specs.declared.op.Op.TheVariants as op
use Rattle.fk_law_tree.specs.Locking.{ListsOwned}
use Rattle.fk_law_tree.proofs.Owning.{keeps_foreign_owners, close_leaves_none}
use Rattle.fk_spec.specs.Plan.{Plan}
use Rattle.fk_spec.specs.Start.{Push, Pushed, pushed_of, push_of, push_here, pushed_in, clock_of, pushes_of, count_push, or_else}
use Rattle.fk_spec.specs.Settling.{settled_in, settled_of, count_settling}
use Rattle.fk_spec.specs.Stored.{committed_of, committed_in, with_filled, filled_after, gone_after, stored_view, up_to}
use Rattle.fk_spec.specs.Next.{IsHistory}
use Rattle.fk_law.specs.Due.{IsDue, IsPushOf}
use Rattle.fk_law.specs.Losing.{IsLive}
use Rattle.fk_law.specs.Numbering.{LaterNumbersLeave, CommitFitsAtItsNumber, CloseListsAll, ClosedSessionOwnsNothing}
use Rattle.fk_law.proofs.Due.{due}
use Rattle.fk_law.proofs.Pushing.{push_bound}
use Rattle.fk_law.proofs.Settled.{task_at_most_next}
use Rattle.fk_law.proofs.Closing.{new_push, closed_push}
use Rattle.fk_law.proofs.Rising.{its_push_before}
use Rattle.fk_law.proofs.Sending.{pushed_never_changes}
use Rattle.fk_law.proofs.Clients.{follows_from_1}
use Rattle.fk_law.proofs.Filling.{owned_has, not_none}
use Rattle.fk_law.proofs.Leaving.{IsCommit, commit_is, other_session}
use Rattle.fk_law.proofs.Fitting.{seen, was_live, filled_on, session_of_pushed}
use Rattle.fk_law.proofs.Beyond.{last_in_is, commit_is_newest, commits_rise}
use Rattle.fk_law.proofs.Numbering.{node_counts, closed_apart, closed_counts, AllAtMost, more_at_most, all_counted, AllFitBefore, one_fits_more, fits_before}

pub later_numbers_leave : LaterNumbersLeave
later_numbers_leave p n h l = (λ q v. node_counts n q (committed_of p h) (commits_rise p h l) v, λ c v. closed_counts n c (committed_of p h) (commits_rise p h l) (subst (λ z. z ≤ n) (sym (last_in_is p c h l)) v))

-- Numbers of commits. ---------------------------------------------------------------------------------

pub count_more : (o : Option Push) (n : ℕ) → n ≤ count_push o n
count_more o n = grind arith

pushed_step : (p : Plan) (e : Entry) (h : List Entry) (o : Op) → IsHistory p h → IsDue p h o → AllAtMost (pushes_of h) (committed_of p h) → AllAtMost (pushes_of h) (committed_in p h o (committed_of p h))
pushed_step p e h (op.CommitOk a t) l d i =
    let c = commit_is p a t h l d in
    let x = c.live in
    subst (λ z. AllAtMost (pushes_of h) (with_filled (committed_of p h) t z)) (sym c.is) ((push_bound p t h x.is_of.push l x.is_of.pushed).2, i)
pushed_step p e h o l d i = i

pub commits_were_pushed : (p : Plan) (h : List Entry) → IsHistory p h → AllAtMost (pushes_of h) (committed_of p h)
commits_were_pushed p [] l = tt
commits_were_pushed p (e ∷ h) l = more_at_most (pushes_of h) (pushes_of (e ∷ h)) (committed_of p (e ∷ h)) (count_more (pushed_in 0 e.op) (pushes_of h)) (pushed_step p e h e.op l.0 (due p e h l) (commits_were_pushed p h l.0))

-- What a live close lists. ----------------------------------------------------------------------------

lists_less : (v w : View) (c : ℕ) (r : Request) (gone : List PathNames) → ((q : PathNames) → is_of c (w.node q) ≡ true → is_of c (v.node q) ≡ true) → ListsOwned v c r gone → ListsOwned w c r gone
lists_less v w c (request.Create path bytes seq eph) gone f i = tt
lists_less v w c (request.Set path bytes version) gone f i = tt
lists_less v w c (request.Delete path version) gone f i = tt
lists_less v w c (request.Close evict) gone f i = λ q o. i q (f q o)
lists_less v w c (request.Multi xs) gone f i = tt

lists_new : (c : ℕ) (done : List Applied) (r : Request) → c ≢ 0 → ListsOwned (view_after done) c r (gone_after c done r)
lists_new c done (request.Create path bytes seq eph) z = tt
lists_new c done (request.Set path bytes version) z = tt
lists_new c done (request.Delete path version) z = tt
lists_new c done (request.Close evict) z = λ q o. owned_has c done q z ∙ o
lists_new c done (request.Multi xs) z = tt

lists_one : (c n : ℕ) (done : List Applied) (a : Applied) (r : Request) (gone : List PathNames) → c ≢ 0 → c ≢ a.session → ListsOwned (view_after (up_to n done)) c r gone → ListsOwned (view_after (up_to n (a ∷ done))) c r gone
lists_one c n done a r gone z e i = by_number (nat_le a.tx n)
  where
    by_number : (b : Bool) → ListsOwned (view_after (cond b (a ∷ up_to n done) (up_to n done))) c r gone
    by_number true = lists_less (view_after (up_to n done)) (after (view_after (up_to n done)) a) c r gone (λ q o. keeps_foreign_owners (view_after (up_to n done)) a q c z e o) i
    by_number false = i

lists_on : (p : Plan) (c k n : ℕ) (h : List Entry) (o : Op) (r : Request) (gone : List PathNames) → IsHistory p h → IsDue p h o → c ≢ 0 → k ≤ settled_of c h + 1 → count_settling c (settled_in h o) (settled_of c h) + 1 ≡ k → ListsOwned (view_after (up_to n (committed_of p h))) c r gone → ListsOwned (view_after (up_to n (committed_in p h o (committed_of p h)))) c r gone
lists_on p c k n h (op.CommitOk a t) r gone l d z m s i =
    let x = commit_is p a t h l d in
    let e = other_session c t k a h x.live m s in
    subst (λ v. ListsOwned (view_after (up_to n (with_filled (committed_of p h) t v))) c r gone) (sym x.is) (lists_one c n (committed_of p h) (filled_after (committed_of p h) t x.pushed) r gone z (λ u. e (u ∙ x.session)) i)
lists_on p c k n h o r gone l d z m s i = i

-- a live push lists what its session owns at its number and beyond
abbrev ListsFrom : Plan → ℕ → List Entry → Pushed → Type 0
ListsFrom p n h y = ListsOwned (view_after (up_to n (committed_of p h))) y.session y.request (gone_after y.session (committed_of p h) y.request)

session_not_none : (p : Plan) (t : ℕ) (h : List Entry) (y : Pushed) → IsHistory p h → (x : IsLive t h) → pushed_of p t h ≡ Some y → y.session ≢ 0
session_not_none p t h y l x q e = not_none x.session (follows_from_1 p x.function x.session x.k h l x.is_of.task) (sym (session_of_pushed p t x.function x.session x.k h y l x.is_of q) ∙ e)

close_old : (p : Plan) (t n : ℕ) (e : Entry) (h : List Entry) (y : Pushed) → IsHistory p (e ∷ h) → (x : IsLive t (e ∷ h)) → pushed_of p t h ≡ Some y → IsPushOf t x.function x.session x.k h → ListsFrom p n h y → ListsFrom p n (e ∷ h) y
close_old p t n e h y l x q w i =
    let s = session_of_pushed p t x.function x.session x.k h y l.0 w q in
    let m = task_at_most_next p x.function x.session x.k h l.0 w.task in
    subst (ListsOwned (view_after (up_to n (committed_of p (e ∷ h)))) y.session y.request) (sym (ap (λ a. a.gone) (filled_on p t e h y l (seen p h l.0) x q w)))
    (lists_on p y.session x.k n h e.op y.request (gone_after y.session (committed_of p h) y.request) l.0 (due p e h l) (session_not_none p t h y l.0 (was_live p t e h l x w) q) (subst (λ c. x.k ≤ settled_of c h + 1) (sym s) m) (subst (λ c. count_settling c (settled_in h e.op) (settled_of c h) + 1 ≡ x.k) (sym s) x.next) i)

close_new : (p : Plan) (t n m : ℕ) (e : Entry) (h : List Entry) (y : Pushed) → IsHistory p (e ∷ h) → e.op ≡ op.Push m t → y.session ≢ 0 → t ≤ n + 1 → ListsFrom p n (e ∷ h) y
close_new p t n m e h y l g z v =
    let d : IsDue p h (op.Push m t) = subst (IsDue p h) g (due p e h l) in
    let w = d.3 in
    let i = all_counted n (committed_of p h) (more_at_most (pushes_of h) n (committed_of p h) (omega (arith, v, w)) (commits_were_pushed p h l.0)) in
    rw g (subst (λ done. ListsOwned (view_after done) y.session y.request (gone_after y.session (committed_of p h) y.request)) (sym i) (lists_new y.session (committed_of p h) y.request z))

close_step : (p : Plan) (t n : ℕ) (e : Entry) (h : List Entry) (y : Pushed) (o : Option Push) → push_here t (pushed_in (clock_of h) e.op) ≡ o → IsHistory p (e ∷ h) → ((x : IsLive t h) → pushed_of p t h ≡ Some y → ListsFrom p n h y) → y.session ≢ 0 → (x : IsLive t (e ∷ h)) → pushed_of p t (e ∷ h) ≡ Some y → t ≤ n + 1 → ListsFrom p n (e ∷ h) y
close_step p t n e h y None g l i z x q v =
    let u = push_bound p t h x.is_of.push l.0 (subst (λ o. or_else o (push_of t h) ≡ Some x.is_of.push) g x.is_of.pushed) in
    let w = its_push_before p t x.function x.session x.k e h l u.1 u.2 x.is_of in
    let r = sym (pushed_never_changes p t x.function x.session x.k h (e ∷ []) l w) ∙ q in
    close_old p t n e h y l x r w (i (was_live p t e h l x w) r)
close_step p t n e h y (Some u) g l i z x q v = close_new p t n u.function e h y l (new_push t h e.op u g) z v

pub close_lists_all : CloseListsAll
close_lists_all p t n [] y l x q v = absurd (unpushed t x.is_of.push x.is_of.pushed)
  where
    unpushed : (t : ℕ) (z : Push) → push_of t [] ≡ Some z → ⊥
    unpushed t z e = grind arith
close_lists_all p t n (e ∷ h) y l x q v = close_step p t n e h y (push_here t (pushed_in (clock_of h) e.op)) refl l (λ w r. close_lists_all p t n h y l.0 w r v) (session_not_none p t (e ∷ h) y l x q) x q v

-- Each commit. ----------------------------------------------------------------------------------------

before_step : (p : Plan) (h : List Entry) (o : Op) → IsHistory p h → IsDue p h o → AllFitBefore (committed_of p h) (committed_of p h) → AllFitBefore (committed_in p h o (committed_of p h)) (committed_in p h o (committed_of p h))
before_step p h (op.CommitOk a t) l d i =
    let c = commit_is p a t h l d in
    subst (λ z. AllFitBefore (with_filled (committed_of p h) t z) (with_filled (committed_of p h) t z)) (sym c.is)
    (one_fits_more (committed_of p h) (filled_after (committed_of p h) t c.pushed) (commits_rise p h l) (commit_is_newest p t h l c) ((seen p h l).pushes t c.live c.pushed c.is).0
    (λ n e. close_lists_all p t n h c.pushed l c.live c.is (omega (arith, e))) i)
before_step p h o l d i = i

all_fit_before : (p : Plan) (h : List Entry) → IsHistory p h → AllFitBefore (committed_of p h) (committed_of p h)
all_fit_before p [] l = tt
all_fit_before p (e ∷ h) l = before_step p h e.op l.0 (due p e h l) (all_fit_before p h l.0)

pub commit_fits_at_its_number : CommitFitsAtItsNumber
commit_fits_at_its_number p n t h a l q e = let f = fits_before (committed_of p h) (committed_of p h) t a (all_fit_before p h l) q in f.1 n (e ∙ sym f.0)

-- Closed sessions. ------------------------------------------------------------------------------------

owns_step : (p : Plan) (c : ℕ) (h : List Entry) (q : PathNames) (o : Op) → IsHistory p h → IsDue p h o → c ≢ 0 → ((stored_view p h).closed c ≡ true → is_of c ((stored_view p h).node q) ≡ false)
    → (view_after (committed_in p h o (committed_of p h))).closed c ≡ true → is_of c ((view_after (committed_in p h o (committed_of p h))).node q) ≡ false
owns_step p c h q (op.CommitOk a t) l d z i = subst (λ v. (view_after (with_filled (committed_of p h) t v)).closed c ≡ true → is_of c ((view_after (with_filled (committed_of p h) t v)).node q) ≡ false) (sym x.is) (by_session (nat_eq x.pushed.session c) refl)
  where
    x : IsCommit p t h
    x = commit_is p a t h l d

    A : Applied
    A = filled_after (committed_of p h) t x.pushed

    refuted : (b : Bool) → (b ≡ true → ⊥) → b ≡ false
    refuted true f = absurd (f refl)
    refuted false f = refl

    -- its own close, as the session was open
    own : x.pushed.session ≡ c → (b : Bool) → closes A.request ≡ b → (after (stored_view p h) A).closed c ≡ true → is_of c ((after (stored_view p h) A).node q) ≡ false
    own s true e v = subst (λ y. is_of y ((after (stored_view p h) A).node q) ≡ false) s (close_leaves_none (stored_view p h) A q ((seen p h l).pushes t x.live x.pushed x.is).0 e)
    own s false e v = absurd (false≢true (sym (closed_push p t x.live.function x.live.session x.live.k h l x.live.is_of x.live.next) ∙ (ap (stored_view p h).closed (sym x.session ∙ s) ∙ (rw e refl ∙ v))))

    by_session : (b : Bool) → nat_eq x.pushed.session c ≡ b → (after (stored_view p h) A).closed c ≡ true → is_of c ((after (stored_view p h) A).node q) ≡ false
    by_session true e v = own (grind (arith, nat_tests)) (closes A.request) refl v
    by_session false e v = refuted (is_of c ((after (stored_view p h) A).node q)) (λ o. false≢true (sym (i (sym (closed_apart (stored_view p h) A c e) ∙ v)) ∙ keeps_foreign_owners (stored_view p h) A q c z (λ s. other e s) o))
      where
        other : nat_eq x.pushed.session c ≡ false → c ≡ x.pushed.session → ⊥
        other e s = grind (arith, nat_tests)
owns_step p c h q o l d z i = i

pub closed_session_owns_nothing : ClosedSessionOwnsNothing
closed_session_owns_nothing p c [] q l z v = absurd (false≢true v)
closed_session_owns_nothing p c (e ∷ h) q l z v = owns_step p c h q e.op l.0 (due p e h l) (not_none c z) (λ w. closed_session_owns_nothing p c h q l.0 z w) v

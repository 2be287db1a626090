-- Closed sessions.
use Rattle.std.proofs.Common.{◌≡◌, ◌≢◌, ℕ, ◌+◌, ◌≤◌, Bool, false, List, [], ◌∷◌, refl, sym, ◌∙◌, ap, subst, arith, Option, Some, None}
use Rattle.std.proofs.lemmas.Bool.Decides.{nat_tests}
use Rattle.std.proofs.lemmas.Option.{same_Some}
use Rattle.fk_tree.specs.declared.applied.Applied.{Applied}
use Rattle.fk_tree.specs.declared.request.Request.{Request}
use Rattle.fk_print.specs.declared.entry.Entry.{Entry}
use Rattle.fk_print.specs.declared.op.Op.{Op}
use Rattle.fk_print.specs.declared.op.Op.TheVariants as op
use Rattle.fk_spec.specs.Plan.{Plan}
use Rattle.fk_spec.specs.Start.{Follows, Push, Pushed, pushed_of, pushed_by, pushed_for, pushed_request, request_of, clock_of, task_of, push_of, push_here, pushed_in, or_else}
use Rattle.fk_spec.specs.Settling.{settled_in, settled_of, count_settling}
use Rattle.fk_tree.specs.Edit.{view_after}
use Rattle.fk_spec.specs.Stored.{with_filled, committed_in, committed_of, stored_view}
use Rattle.fk_spec.specs.Follower.{Follower}
use Rattle.fk_spec.specs.Function.{Following, place_of, actor}
use Rattle.fk_spec.specs.Next.{IsHistory}
use Rattle.fk_law.specs.Due.{IsDue, IsPushOf}
use Rattle.fk_law.specs.Progress.{Progress, Works, progress, progress_after}
use Rattle.fk_law.specs.Closing.{AtWorkIsOpen, ClosedHasNoLivePush, NoCommitAfterClose}
use Rattle.fk_law.proofs.Due.{due}
use Rattle.fk_law.proofs.Moving.{OnFollower, follower_step}
use Rattle.fk_law.proofs.Starting.{follower_task, task_stays}
use Rattle.fk_law.proofs.Pushing.{push_bound}
use Rattle.fk_law.proofs.Settled.{commit_of, session_of_its_push, task_at_most_next}
use Rattle.fk_law.proofs.Committing.{its_push_is_one, counts_more}
use Rattle.fk_law.proofs.Rising.{its_push_before}

-- the request of a push is of its session
pushed_session : (p : Plan) (moment c k : ℕ) (r : Option Request) (y : Pushed) → pushed_request moment c k r ≡ Some y → y.session ≡ c
pushed_session p moment c k None y e = absurd (grind arith)
pushed_session p moment c k (Some r) y e = grind arith

push_session : (p : Plan) (t m c k : ℕ) (h : List Entry) (y : Pushed) → IsPushOf t m c k h → pushed_of p t h ≡ Some y → y.session ≡ c
push_session p t m c k h y i e = pushed_session p i.push.moment c k (request_of p c k h) y (sym same ∙ e)
  where
    same : pushed_of p t h ≡ pushed_request i.push.moment c k (request_of p c k h)
    same = ap (λ o. pushed_by p o h) i.pushed ∙ ap (λ n. pushed_for p i.push.moment (task_of n h) h) i.function ∙ ap (λ o. pushed_for p i.push.moment o h) i.task

filled_closed : (done : List Applied) (t c : ℕ) (o : Option Pushed) → ((y : Pushed) → o ≡ Some y → y.session ≢ c) → (view_after (with_filled done t o)).closed c ≡ (view_after done).closed c
filled_closed done t c None f = refl
filled_closed done t c (Some y) f = grind (arith, nat_tests, f y refl)

-- what commits for another session leaves a session's closing
closed_commit : (p : Plan) (a t m d j c k : ℕ) (h : List Entry) → IsPushOf t m d j h → settled_of d h + 1 ≡ j → count_settling c (settled_in h (op.CommitOk a t)) (settled_of c h) + 1 ≡ k → k ≤ settled_of c h + 1 → (view_after (committed_in p h (op.CommitOk a t) (committed_of p h))).closed c ≡ (view_after (committed_of p h)).closed c
closed_commit p a t m d j c k h w n s b = filled_closed (committed_of p h) t c (pushed_of p t h) (λ y e f. other (sym (push_session p t m d j h y w e) ∙ f))
  where
    other : d ≢ c
    other e = let g = session_of_its_push t m d j h w in grind (arith, nat_tests)

closed_keeps_op : (p : Plan) (c k : ℕ) (h : List Entry) (o : Op) → IsHistory p h → IsDue p h o → k ≤ settled_of c h + 1 → count_settling c (settled_in h o) (settled_of c h) + 1 ≡ k → (view_after (committed_in p h o (committed_of p h))).closed c ≡ (view_after (committed_of p h)).closed c
closed_keeps_op p c k h (op.CommitOk a t) l d b s = closed_commit p a t d.0 d.1 d.2 c k h (commit_of p a t d.0 d.1 d.2 h l d.3) d.4 s b
closed_keeps_op p c k h o l d b s = refl

closed_keeps : (p : Plan) (c k : ℕ) (e : Entry) (h : List Entry) → IsHistory p (e ∷ h) → k ≤ settled_of c h + 1 → settled_of c (e ∷ h) + 1 ≡ k → (stored_view p (e ∷ h)).closed c ≡ (stored_view p h).closed c
closed_keeps p c k e h l b s = closed_keeps_op p c k h e.op l.0 (due p e h l) b s

pub settled_so : (p : Plan) (c k : ℕ) (e : Entry) (h : List Entry) → k ≤ settled_of c h + 1 → settled_of c (e ∷ h) + 1 ≡ k → settled_of c h + 1 ≡ k
settled_so p c k e h b s = let g : settled_of c h ≤ settled_of c (e ∷ h) = counts_more c (settled_in h e.op) (settled_of c h) (settled_of c h) (omega arith) in omega (arith, b, s, g)

-- Followers at work. ----------------------------------------------------------------------------------

abbrev OpenSo : Bool → ℕ → ℕ → Progress → Type 0
OpenSo closed settled k Works = settled + 1 ≡ k → closed ≡ false
OpenSo closed settled k _ = Unit {0}

abbrev OpenIn : Plan → List Entry → ℕ → ℕ → Progress → Type 0
OpenIn p h c k q = OpenSo ((stored_view p h).closed c) (settled_of c h) k q

open_keeps : (b : Bool) (d : Bool) (s r k : ℕ) (q : Progress) → (r + 1 ≡ k → (s + 1 ≡ k) × (d ≡ b)) → OpenSo b s k q → OpenSo d r k q
open_keeps b d s r k q f i = grind arith

open_moves : (p : Plan) (n : ℕ) (h : List Entry) (o : Op) (f : Follower) → IsDue p h o → place_of p n h ≡ Following f → actor o ≡ Some n → OpenSo ((stored_view p h).closed f.session) (settled_of f.session h) f.k (progress f.stage) → OpenSo ((stored_view p h).closed f.session) (settled_of f.session h) f.k (progress_after o (progress f.stage))
open_moves p n h o f d e a i = grind (arith, nat_tests)

open_step : (p : Plan) (n : ℕ) (e : Entry) (h : List Entry) → IsHistory p (e ∷ h) → OnFollower (OpenIn p h) (place_of p n h) → OnFollower (OpenIn p (e ∷ h)) (place_of p n (e ∷ h))
open_step p n e h l i =
    follower_step p n h e.op (place_of p n h) (OpenIn p (e ∷ h))
    (λ f b _. keeps f b (progress f.stage) (subst (OnFollower (OpenIn p h)) b i))
    (λ c k _. tt)
    (λ f b a. keeps f b (progress_after e.op (progress f.stage)) (open_moves p n h e.op f (due p e h l) b a (subst (OnFollower (OpenIn p h)) b i)))
  where
    keeps : (f : Follower) → place_of p n h ≡ Following f → (q : Progress) → OpenIn p h f.session f.k q → OpenIn p (e ∷ h) f.session f.k q
    keeps f b q i =
        let m = task_at_most_next p n f.session f.k h l.0 (follower_task p n h f l.0 b) in
        open_keeps ((stored_view p h).closed f.session) ((stored_view p (e ∷ h)).closed f.session) (settled_of f.session h) (settled_of f.session (e ∷ h)) f.k q
        (λ s. (settled_so p f.session f.k e h m s, closed_keeps p f.session f.k e h l m s)) i

session_open : (p : Plan) (n : ℕ) (h : List Entry) → IsHistory p h → OnFollower (OpenIn p h) (place_of p n h)
session_open p n [] l = tt
session_open p n (e ∷ h) l = open_step p n e h l (session_open p n h l.0)

pub at_work_is_open : AtWorkIsOpen
at_work_is_open p n h f l b w s = subst (λ q. OpenIn p h f.session f.k q) w (subst (OnFollower (OpenIn p h)) b (session_open p n h l)) s

-- Pushes. ---------------------------------------------------------------------------------------------

pub new_push : (t : ℕ) (h : List Entry) (o : Op) (y : Push) → push_here t (pushed_in (clock_of h) o) ≡ Some y → o ≡ op.Push y.function t
new_push t h o y e = grind (arith, nat_tests)

pusher_open : (p : Plan) (t m c k : ℕ) (h : List Entry) → IsHistory p h → IsDue p h (op.Push m t) → task_of m h ≡ Some (Follows c k) → settled_of c h + 1 ≡ k → (stored_view p h).closed c ≡ false
pusher_open p t m c k h l d x s =
    let w = sym (follower_task p m h d.0 l d.1) ∙ x in
    let g = same_request d.0.session d.0.k c k w in
    subst (λ z. (stored_view p h).closed z ≡ false) g.0 (at_work_is_open p m h d.0 l d.1 (ap progress d.2) (rw (g.0, g.1) s))
  where
    same_request : (a b c k : ℕ) → Some (Follows a b) ≡ Some (Follows c k) → (a ≡ c) × (b ≡ k)
    same_request a b c k e = grind arith

pub follower_same : (p : Plan) (n t c k : ℕ) (e : Entry) (h : List Entry) → IsHistory p (e ∷ h) → e.op ≡ op.Push n t → IsDue p h (op.Push n t) → task_of n (e ∷ h) ≡ Some (Follows c k) → task_of n h ≡ Some (Follows c k)
follower_same p n t c k e h l b d x = let w = follower_task p n h d.0 l.0 d.1 in w ∙ sym (task_stays p n e h (Follows d.0.session d.0.k) l w) ∙ x

closed_push_step : (p : Plan) (t n c k : ℕ) (e : Entry) (h : List Entry) (o : Option Push) → push_here t (pushed_in (clock_of h) e.op) ≡ o → IsHistory p (e ∷ h) → (IsPushOf t n c k h → settled_of c h + 1 ≡ k → (stored_view p h).closed c ≡ false) → IsPushOf t n c k (e ∷ h) → settled_of c (e ∷ h) + 1 ≡ k → (stored_view p (e ∷ h)).closed c ≡ false
closed_push_step p t n c k e h None b l i x s =
    let y = push_bound p t h x.push l.0 (subst (λ o. or_else o (push_of t h) ≡ Some x.push) b x.pushed) in
    let w = its_push_before p t n c k e h l y.1 y.2 x in
    let m = task_at_most_next p n c k h l.0 w.task in
    closed_keeps p c k e h l m s ∙ i w (settled_so p c k e h m s)
closed_push_step p t n c k e h (Some y) b l i x s =
    let f : y.function ≡ n = ap (λ z. z.function) (same_Some y x.push (subst (λ o. or_else o (push_of t h) ≡ Some x.push) b x.pushed)) ∙ x.function in
    let g : e.op ≡ op.Push n t = new_push t h e.op y b ∙ ap (λ z. op.Push z t) f in
    let d : IsDue p h (op.Push n t) = subst (IsDue p h) g (due p e h l) in
    let w : task_of n h ≡ Some (Follows c k) = follower_same p n t c k e h l g d x.task in
    let m = task_at_most_next p n c k h l.0 w in
    closed_keeps p c k e h l m s ∙ pusher_open p t n c k h l.0 d w (settled_so p c k e h m s)

pub closed_push : (p : Plan) (t n c k : ℕ) (h : List Entry) → IsHistory p h → IsPushOf t n c k h → settled_of c h + 1 ≡ k → (stored_view p h).closed c ≡ false
closed_push p t n c k [] l x s = refl
closed_push p t n c k (e ∷ h) l x s = closed_push_step p t n c k e h (push_here t (pushed_in (clock_of h) e.op)) refl l (closed_push p t n c k h l.0) x s

pub closed_has_no_live_push : ClosedHasNoLivePush
closed_has_no_live_push p t n c k h l x s = closed_push p t n c k h l x s

pub no_commit_after_close : NoCommitAfterClose
no_commit_after_close p a t n c k h l d x =
    let w = commit_of p a t d.0 d.1 d.2 h l d.3 in
    let g = its_push_is_one t n c k d.0 d.1 d.2 h x w in
    closed_push p t n c k h l x (rw (g.1, g.2) d.4)

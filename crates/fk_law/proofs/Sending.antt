-- Requests: what was sent, pushed and committed.
use Rattle.std.specs.Prelude.{◌||◌, nat_eq}
use Rattle.std.proofs.Common.{◌≡◌, ◌≢◌, ℕ, ◌+◌, ◌≤◌, ◌++◌, Bool, true, false, List, [], ◌∷◌, refl, sym, ◌∙◌, ap, subst, arith, Option, Some, None}
use Rattle.std.proofs.lemmas.Bool.{false≢true}
use Rattle.std.proofs.lemmas.Bool.Decides.{nat_tests}
use Rattle.fk_tree.specs.declared.applied.Applied.{Applied}
use Rattle.fk_tree.specs.declared.request.Request.{Request}
use Rattle.fk_tree.specs.declared.request.Request.TheVariants as request
use Rattle.fk_print.specs.declared.entry.Entry.{Entry}
use Rattle.fk_print.specs.declared.op.Op.{Op}
use Rattle.fk_print.specs.declared.op.Op.TheVariants as op
use Rattle.fk_spec.specs.Plan.{Plan, asked}
use Rattle.fk_spec.specs.Start.{Origin, Sent, Evicted, Pushed, Follows, sends_of, sent_in, count_sent, origin_of, origin_here, request_of, request_from, written, pushed_of, pushed_by, pushed_for, pushed_request, task_of}
use Rattle.fk_spec.specs.Settling.{is_committed, commits}
use Rattle.fk_spec.specs.Stored.{committed_of, committed_in, committed_as, applied_as, with_filled, filled_after}
use Rattle.fk_spec.specs.Next.{IsHistory}
use Rattle.fk_law.specs.Due.{IsDue, IsPushOf}
use Rattle.fk_law.specs.Requests.{SentHasARequest, RequestWasSent, RequestNeverChanges, PushAsksForItsRequest, PushedNeverChanges, CommittedIsFilled, FilledIsCommitted, CommittedNeverChanges}
use Rattle.fk_law.proofs.Due.{due}
use Rattle.fk_law.proofs.Starting.{task_stays}
use Rattle.fk_law.proofs.Pushing.{push_stays}
use Rattle.fk_law.proofs.Settled.{reached, commit_of}
use Rattle.fk_law.proofs.Committing.{its_push_stays, commits_once}

-- What was sent. --------------------------------------------------------------------------------------

bound_step : (s k : ℕ) (o x : Option Origin) (y : Origin) → (x ≡ Some y → (1 ≤ k) × (k ≤ s)) → origin_here s k o x ≡ Some y → (1 ≤ k) × (k ≤ count_sent o s)
bound_step s k o x y i e = grind (arith, nat_tests)

origin_bound : (c k : ℕ) (h : List Entry) (y : Origin) → origin_of c k h ≡ Some y → (1 ≤ k) × (k ≤ sends_of c h)
origin_bound c k [] y e = absurd (grind arith)
origin_bound c k (x ∷ h) y e = bound_step (sends_of c h) k (sent_in c h x.op) (origin_of c k h) y (origin_bound c k h y) e

there_step : (s k : ℕ) (o x : Option Origin) → 1 ≤ k → (k ≤ s → (y : Origin) × (x ≡ Some y)) → k ≤ count_sent o s → (y : Origin) × (origin_here s k o x ≡ Some y)
there_step s k None x a i b = i b
there_step s k (Some z) x a i b = by_test (nat_eq (s + 1) k) refl
  where
    by_test : (d : Bool) → nat_eq (s + 1) k ≡ d → (y : Origin) × (origin_here s k (Some z) x ≡ Some y)
    by_test true e = (z, rw e refl)
    by_test false e = let y = i (grind (arith, nat_tests)) in (y.0, rw e y.1)

origin_there : (c k : ℕ) (h : List Entry) → 1 ≤ k → k ≤ sends_of c h → (y : Origin) × (origin_of c k h ≡ Some y)
origin_there c k [] a b = absurd (omega (arith, a, b))
origin_there c k (x ∷ h) a b = there_step (sends_of c h) k (sent_in c h x.op) (origin_of c k h) a (origin_there c k h a) b

stays_step : (s k : ℕ) (o x : Option Origin) → k ≤ s → origin_here s k o x ≡ x
stays_step s k o x b = grind (arith, nat_tests)

pub origin_stays : (c k : ℕ) (e : Entry) (h : List Entry) → k ≤ sends_of c h → origin_of c k (e ∷ h) ≡ origin_of c k h
origin_stays c k e h b = stays_step (sends_of c h) k (sent_in c h e.op) (origin_of c k h) b

-- a command that was sent is a write
written_step : (p : Plan) (c i s : ℕ) (h : List Entry) (o : Op) → IsDue p h o → sent_in c h o ≡ Some (Sent i s) → (r : Request) × (written (asked p c i) ≡ Some r)
written_step p c i s h (op.Send d command k) v e = (v.1, (let f : d ≡ c = grind (arith, nat_tests) in let g : command ≡ i = grind (arith, nat_tests) in rw (← f, ← g) v.2))
written_step p c i s h o v e = absurd (grind (arith, nat_tests))

sent_step : (p : Plan) (c k i s n : ℕ) (o x : Option Origin) → (o ≡ Some (Sent i s) → (r : Request) × (written (asked p c i) ≡ Some r)) → (x ≡ Some (Sent i s) → (r : Request) × (written (asked p c i) ≡ Some r)) → origin_here n k o x ≡ Some (Sent i s) → (r : Request) × (written (asked p c i) ≡ Some r)
sent_step p c k i s n None x f g e = g e
sent_step p c k i s n (Some z) x f g e = by_test (nat_eq (n + 1) k) refl
  where
    by_test : (d : Bool) → nat_eq (n + 1) k ≡ d → (r : Request) × (written (asked p c i) ≡ Some r)
    by_test true u = f (grind arith)
    by_test false u = g (grind arith)

sent_is_written : (p : Plan) (c k i s : ℕ) (h : List Entry) → IsHistory p h → origin_of c k h ≡ Some (Sent i s) → (r : Request) × (written (asked p c i) ≡ Some r)
sent_is_written p c k i s [] l e = absurd (grind arith)
sent_is_written p c k i s (x ∷ h) l e = sent_step p c k i s (sends_of c h) (sent_in c h x.op) (origin_of c k h) (written_step p c i s h x.op (due p x h l)) (sent_is_written p c k i s h l.0) e

from_origin : (p : Plan) (c k : ℕ) (h : List Entry) (y : Origin) → IsHistory p h → origin_of c k h ≡ Some y → (r : Request) × (request_of p c k h ≡ Some r)
from_origin p c k h (Sent i s) l e = let w = sent_is_written p c k i s h l e in (w.0, ap (request_from p c) e ∙ w.1)
from_origin p c k h Evicted l e = (request.Close true, ap (request_from p c) e)

pub sent_has_a_request : SentHasARequest
sent_has_a_request p c k h l a b = let y = origin_there c k h a b in from_origin p c k h y.0 l y.1

pub request_was_sent : RequestWasSent
request_was_sent p c k h r l e = by_origin (origin_of c k h) refl e
  where
    by_origin : (o : Option Origin) → origin_of c k h ≡ o → request_from p c o ≡ Some r → (1 ≤ k) × (k ≤ sends_of c h)
    by_origin None f e = absurd (grind arith)
    by_origin (Some y) f e = origin_bound c k h y f

pub request_stays : (p : Plan) (c k : ℕ) (e : Entry) (h : List Entry) → k ≤ sends_of c h → request_of p c k (e ∷ h) ≡ request_of p c k h
request_stays p c k e h b = ap (request_from p c) (origin_stays c k e h b)

pub request_never_changes : RequestNeverChanges
request_never_changes p c k h [] r l i = i
request_never_changes p c k h (e ∷ more) r l i = let j = request_never_changes p c k h more r l.0 i in request_stays p c k e (more ++ h) (request_was_sent p c k (more ++ h) r l.0 j).1 ∙ j

-- What was pushed. ------------------------------------------------------------------------------------

pub pushed_is : (p : Plan) (t n c k : ℕ) (h : List Entry) → (i : IsPushOf t n c k h) → pushed_of p t h ≡ pushed_request i.push.moment c k (request_of p c k h)
pushed_is p t n c k h i = ap (λ o. pushed_by p o h) i.pushed ∙ ap (λ n. pushed_for p i.push.moment (task_of n h) h) i.function ∙ ap (λ o. pushed_for p i.push.moment o h) i.task

pub push_asks_for_its_request : PushAsksForItsRequest
push_asks_for_its_request p t n c k h l i = let b = reached p n c k h l i.task in let r = sent_has_a_request p c k h l b.0 b.2 in (r.0, r.1, pushed_is p t n c k h i ∙ ap (pushed_request i.push.moment c k) r.1)

pushed_stays : (p : Plan) (t n c k : ℕ) (e : Entry) (h : List Entry) → IsHistory p (e ∷ h) → (i : IsPushOf t n c k h) → pushed_of p t (e ∷ h) ≡ pushed_of p t h
pushed_stays p t n c k e h l i =
    pushed_is p t n c k (e ∷ h) (record { push = i.push; pushed = push_stays p t e h i.push l i.pushed; function = i.function; task = task_stays p n e h (Follows c k) l i.task }) ∙ ap (pushed_request i.push.moment c k) (request_stays p c k e h (reached p n c k h l.0 i.task).2) ∙ sym (pushed_is p t n c k h i)

pub its_push_forever : (p : Plan) (t n c k : ℕ) (h more : List Entry) → IsHistory p (more ++ h) → IsPushOf t n c k h → IsPushOf t n c k (more ++ h)
its_push_forever p t n c k h [] l i = i
its_push_forever p t n c k h (e ∷ more) l i = its_push_stays p t n c k e (more ++ h) l (its_push_forever p t n c k h more l.0 i)

pub pushed_never_changes : PushedNeverChanges
pushed_never_changes p t n c k h [] l i = refl
pushed_never_changes p t n c k h (e ∷ more) l i = pushed_stays p t n c k e (more ++ h) l (its_push_forever p t n c k h more l.0 i) ∙ pushed_never_changes p t n c k h more l.0 i

-- What was committed. ---------------------------------------------------------------------------------

filled_here : (done : List Applied) (t : ℕ) (y : Pushed) → (a : Applied) × (applied_as t (with_filled done t (Some y)) ≡ Some a) × (a.tx ≡ t)
filled_here done t y = (filled_after done t y, grind (arith, nat_tests), refl)

filled_other : (done : List Applied) (s t : ℕ) (o : Option Pushed) → s ≢ t → applied_as t (with_filled done s o) ≡ applied_as t done
filled_other done s t None d = refl
filled_other done s t (Some y) d = grind (arith, nat_tests)

pub committed_other : (p : Plan) (t : ℕ) (h : List Entry) (o : Op) (done : List Applied) → commits t o ≡ false → applied_as t (committed_in p h o done) ≡ applied_as t done
committed_other p t h (op.CommitOk n s) done e = filled_other done s t (pushed_of p s h) (grind (arith, nat_tests))
committed_other p t h o done e = refl

committed_here : (p : Plan) (t : ℕ) (h : List Entry) (o : Op) (done : List Applied) → IsHistory p h → IsDue p h o → commits t o ≡ true → (a : Applied) × (applied_as t (committed_in p h o done) ≡ Some a) × (a.tx ≡ t)
committed_here p t h (op.CommitOk n s) done l d e =
    let f : s ≡ t = grind (arith, nat_tests) in
    let r = push_asks_for_its_request p s d.0 d.1 d.2 h l (commit_of p n s d.0 d.1 d.2 h l d.3) in
    subst (λ z. (a : Applied) × (applied_as z (with_filled done s (pushed_of p s h)) ≡ Some a) × (a.tx ≡ z)) f
    (subst (λ z. (a : Applied) × (applied_as s (with_filled done s z) ≡ Some a) × (a.tx ≡ s)) (sym r.2) (filled_here done s _))
committed_here p t h o done l d e = absurd (grind arith)

filled_step : (p : Plan) (t : ℕ) (e : Entry) (h : List Entry) (b : Bool) → commits t e.op ≡ b → IsHistory p (e ∷ h) → (is_committed t h ≡ true → (a : Applied) × (committed_as p t h ≡ Some a) × (a.tx ≡ t)) → (b || is_committed t h) ≡ true → (a : Applied) × (committed_as p t (e ∷ h) ≡ Some a) × (a.tx ≡ t)
filled_step p t e h true f l i c = committed_here p t h e.op (committed_of p h) l.0 (due p e h l) f
filled_step p t e h false f l i c = let a = i c in (a.0, committed_other p t h e.op (committed_of p h) f ∙ a.1, a.2)

pub committed_is_filled : CommittedIsFilled
committed_is_filled p t [] l c = absurd (false≢true c)
committed_is_filled p t (e ∷ h) l c = filled_step p t e h (commits t e.op) refl l (committed_is_filled p t h l.0) c

pub tx_is : (t : ℕ) (done : List Applied) (a : Applied) → applied_as t done ≡ Some a → a.tx ≡ t
tx_is t [] a e = absurd (grind arith)
tx_is t (b ∷ done) a e = grind (arith, nat_tests, tx_is t done a)

unfilled_step : (p : Plan) (t : ℕ) (e : Entry) (h : List Entry) (a : Applied) (b : Bool) → commits t e.op ≡ b → (committed_as p t h ≡ Some a → is_committed t h ≡ true) → committed_as p t (e ∷ h) ≡ Some a → (b || is_committed t h) ≡ true
unfilled_step p t e h a true f i c = refl
unfilled_step p t e h a false f i c = i (sym (committed_other p t h e.op (committed_of p h) f) ∙ c)

pub was_committed : (p : Plan) (t : ℕ) (h : List Entry) (a : Applied) → committed_as p t h ≡ Some a → is_committed t h ≡ true
was_committed p t [] a c = absurd (grind arith)
was_committed p t (e ∷ h) a c = unfilled_step p t e h a (commits t e.op) refl (was_committed p t h a) c

pub filled_is_committed : FilledIsCommitted
filled_is_committed p t h a l c = (was_committed p t h a c, tx_is t (committed_of p h) a c)

commits_new : (p : Plan) (t : ℕ) (h : List Entry) (o : Op) → IsHistory p h → IsDue p h o → is_committed t h ≡ true → commits t o ≡ false
commits_new p t h (op.CommitOk n s) l d c = let f = commits_once p n s h l d in grind (arith, nat_tests)
commits_new p t h o l d c = grind arith

pub committed_never_changes : CommittedNeverChanges
committed_never_changes p t h [] a l c = c
committed_never_changes p t h (e ∷ more) a l c =
    let i = committed_never_changes p t h more a l.0 c in
    let f = commits_new p t (more ++ h) e.op l.0 (due p e (more ++ h) l) (was_committed p t (more ++ h) a i) in
    committed_other p t (more ++ h) e.op (committed_of p (more ++ h)) f ∙ i

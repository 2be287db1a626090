-- Each push has a message, and it never changes.
use Rattle.std.proofs.Common.{◌≡◌, ℕ, List, [], ◌∷◌, refl, sym, ◌∙◌, ap, subst, arith, Option, Some, None}
use Rattle.std.proofs.lemmas.Option.{same_Some}
use Rattle.fk_tree.specs.declared.request.Request.{Request}
use Rattle.fk_print.specs.declared.entry.Entry.{Entry}
use Rattle.fk_print.specs.declared.op.Op.TheVariants as op
use Rattle.fk_wire.specs.declared.message.Pushed.{Pushed}
use Rattle.fk_stand.specs.Messages.{push_message_of, push_with}
use Rattle.fk_stand.specs.Messages as messages
use Rattle.fk_spec.specs.Plan.{Plan}
use Rattle.fk_spec.specs.Start.{Follows, Push, clock_of, or_else, push_here, push_of, pushed_in, pushed_of, request_of, task_of}
use Rattle.fk_spec.specs.Follower.{Follower}
use Rattle.fk_spec.specs.Next.{IsHistory}
use Rattle.fk_law.specs.Due.{IsDue, IsPushOf}
use Rattle.fk_law.proofs.Closing.{follower_same, new_push}
use Rattle.fk_law.proofs.Due.{due}
use Rattle.fk_law.proofs.Fitting.{same_task}
use Rattle.fk_law.proofs.Pushing.{push_bound}
use Rattle.fk_law.proofs.Rising.{its_push_before}
use Rattle.fk_law.proofs.Sending.{push_asks_for_its_request, request_stays}
use Rattle.fk_law.proofs.Settled.{reached}
use Rattle.fk_law.proofs.Starting.{follower_task}
use Rattle.fk_agree.specs.Pushes.{MessageNeverChanges, PushHasItsMessage}
use Rattle.fk_agree.proofs.Carried.{its_message, message_at, no_message}
use Rattle.fk_agree.proofs.Heading.{message_stays}

pub message_never_changes : MessageNeverChanges
message_never_changes p t e h x l q = message_stays p t e h x l q

-- Each push has one. -------------------------------------------------------------------------------------

or_other : (o : Option Pushed) (m : Option Pushed) (x : Pushed) → m ≡ None → o ≡ Some x → or_else m o ≡ Some x
or_other o m x e q = ap (λ z. or_else z o) e ∙ q

or_first : (o : Option Pushed) (m : Option Pushed) (x : Pushed) → m ≡ Some x → or_else m o ≡ Some x
or_first o m x e = ap (λ z. or_else z o) e

has_new : (p : Plan) (t n c k : ℕ) (e : Entry) (h : List Entry) → IsHistory p (e ∷ h) → e.op ≡ op.Push n t → IsPushOf t n c k (e ∷ h) → (x : Pushed) × (push_message_of p t (e ∷ h) ≡ Some x)
has_new p t n c k e h l g w = (push_with n (clock_of h) f r.0, or_first (push_message_of p t h) (messages.push_here p t h e.op) (push_with n (clock_of h) f r.0) (its_message p t n h e.op g ∙ message_at p n t h f r.0 d.1 asks))
  where
    d : IsDue p h (op.Push n t)
    d = subst (IsDue p h) g (due p e h l)

    f : Follower
    f = d.0

    u : task_of n h ≡ Some (Follows c k)
    u = follower_same p n t c k e h l g d w.task

    v : (f.session ≡ c) × (f.k ≡ k)
    v = same_task f.session f.k c k (sym (follower_task p n h f l.0 d.1) ∙ u)

    r : (r : Request) × (request_of p c k (e ∷ h) ≡ Some r) × (pushed_of p t (e ∷ h) ≡ Some (record { session = c; k = k; moment = w.push.moment; request = r }))
    r = push_asks_for_its_request p t n c k (e ∷ h) l w

    asks : request_of p f.session f.k h ≡ Some r.0
    asks = rw (v.0, v.1) (sym (request_stays p c k e h (reached p n c k h l.0 u).2) ∙ r.1)

has_step : (p : Plan) (t n c k : ℕ) (e : Entry) (h : List Entry) (o : Option Push) → push_here t (pushed_in (clock_of h) e.op) ≡ o → IsHistory p (e ∷ h) → (IsPushOf t n c k h → (x : Pushed) × (push_message_of p t h ≡ Some x)) → IsPushOf t n c k (e ∷ h) → (x : Pushed) × (push_message_of p t (e ∷ h) ≡ Some x)
has_step p t n c k e h None b l i w =
    let z = push_bound p t h w.push l.0 (subst (λ o. or_else o (push_of t h) ≡ Some w.push) b w.pushed) in
    let x = i (its_push_before p t n c k e h l z.1 z.2 w) in
    (x.0, or_other (push_message_of p t h) (messages.push_here p t h e.op) x.0 (no_message p t h e.op b) x.1)
has_step p t n c k e h (Some u) b l i w = has_new p t n c k e h l (new_push t h e.op u b ∙ ap (λ z. op.Push z t) (ap (λ z. z.function) (same_Some u w.push (subst (λ o. or_else o (push_of t h) ≡ Some w.push) b w.pushed)) ∙ w.function)) w

pub push_has_its_message : PushHasItsMessage
push_has_its_message p t n c k [] l w = absurd (no_push w.push w.pushed)
  where
    no_push : (x : Push) → None ≡ Some x → ⊥
    no_push x e = grind arith
push_has_its_message p t n c k (e ∷ h) l w = has_step p t n c k e h (push_here t (pushed_in (clock_of h) e.op)) refl l (λ y. push_has_its_message p t n c k h l.0 y) w

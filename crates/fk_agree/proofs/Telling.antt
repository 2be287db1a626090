-- What the message of a push tells of its function and its request.
use Rattle.std.specs.Prelude.{◌==◌}
use Rattle.std.proofs.Common.{◌≡◌, ℕ, Bool, true, false, List, [], ◌∷◌, refl, sym, ◌∙◌, ap, subst, arith, Option, Some, None}
use Rattle.std.proofs.lemmas.Bool.{false≢true}
use Rattle.std.proofs.lemmas.Bool.Decides.{nat_tests}
use Rattle.std.proofs.lemmas.Option.{same_Some}
use Rattle.fk_print.specs.declared.entry.Entry.{Entry}
use Rattle.fk_print.specs.declared.op.Op.{Op}
use Rattle.fk_print.specs.declared.op.Op.TheVariants as op
use Rattle.fk_tree.specs.declared.request.Request.{Request}
use Rattle.fk_wire.specs.declared.message.Pushed.{Pushed}
use Rattle.fk_stand.specs.Messages.{push_message_of, push_with}
use Rattle.fk_stand.specs.Messages as messages
use Rattle.fk_spec.specs.Plan.{Plan}
use Rattle.fk_spec.specs.Start.{Follows, Push, clock_of, or_else, push_here, push_of, pushed_in, pushed_of, request_of, task_of}
use Rattle.fk_spec.specs.Locks.{granted, granted_in}
use Rattle.fk_spec.specs.Follower.{Follower}
use Rattle.fk_spec.specs.Function.{Following, place_of}
use Rattle.fk_spec.specs.Next.{IsHistory}
use Rattle.fk_law.specs.Due.{IsDue, IsPushOf}
use Rattle.fk_law.specs.Progress.{progress}
use Rattle.fk_law.proofs.Closing.{follower_same, new_push}
use Rattle.fk_law.proofs.Committing.{at_work_unpushed, is_push_of_it}
use Rattle.fk_law.proofs.Due.{due}
use Rattle.fk_law.proofs.Fitting.{same_task}
use Rattle.fk_law.proofs.Pushing.{push_bound}
use Rattle.fk_law.proofs.Recording.{records_are_of_its_grants}
use Rattle.fk_law.proofs.Rising.{its_push_before}
use Rattle.fk_law.proofs.Sending.{push_asks_for_its_request, request_stays}
use Rattle.fk_law.proofs.Settled.{reached}
use Rattle.fk_law.proofs.Starting.{follower_task}
use Rattle.fk_agree.specs.Pushes.{MessageTellsItsPush, Tells}
use Rattle.fk_agree.proofs.Carried.{its_message, message_at, no_message, one_message}

-- What a function that pushed was granted stays. -------------------------------------------------------

granted_on : (p : Plan) (t n c k : ℕ) (h : List Entry) (o : Op) → IsHistory p h → IsDue p h o → IsPushOf t n c k h → granted_in n o (granted n h) ≡ granted n h
granted_on p t n c k h (op.LockOk m path) l d w = by_function (m == n) refl
  where
    unpushed : m ≡ n → ⊥
    unpushed g =
        let f = d.0 in
        false≢true (sym (at_work_unpushed p t n h f l (subst (λ j. place_of p j h ≡ Following f) g d.1) (ap progress d.2)) ∙ is_push_of_it t n c k h w)

    by_function : (b : Bool) → (m == n) ≡ b → granted_in n (op.LockOk m path) (granted n h) ≡ granted n h
    by_function true e = absurd (unpushed (grind (arith, nat_tests)))
    by_function false e = rw e refl
granted_on p t n c k h o l d w = refl

-- At its push, and from there on. -----------------------------------------------------------------------

tells_on : (p : Plan) (t n c k : ℕ) (e : Entry) (h : List Entry) (x : Pushed) → IsHistory p (e ∷ h) → IsPushOf t n c k h → Tells x n c k h → Tells x n c k (e ∷ h)
tells_on p t n c k e h x l w i = record { inv = i.inv; session = i.session; number = i.number; paths = i.paths ∙ sym (granted_on p t n c k h e.op l.0 (due p e h l) w) }

tells_new : (p : Plan) (t n c k : ℕ) (e : Entry) (h : List Entry) (x : Pushed) → IsHistory p (e ∷ h) → e.op ≡ op.Push n t → IsPushOf t n c k (e ∷ h) → or_else (messages.push_here p t h e.op) (push_message_of p t h) ≡ Some x → Tells x n c k (e ∷ h)
tells_new p t n c k e h x l g w m = subst (λ z. Tells z n c k (e ∷ h)) (one_message (push_message_of p t h) x (push_with n (clock_of h) f r.0) (messages.push_here p t h e.op) (its_message p t n h e.op g ∙ message_at p n t h f r.0 d.1 asks) m) (record { inv = refl; session = v.0; number = v.1; paths = records_are_of_its_grants p n h f l.0 d.1 ∙ ap (λ o. granted_in n o (granted n h)) (sym g) })
  where
    d : IsDue p h (op.Push n t)
    d = subst (IsDue p h) g (due p e h l)

    f : Follower
    f = d.0

    u : task_of n h ≡ Some (Follows c k)
    u = follower_same p n t c k e h l g d w.task

    v : (f.session ≡ c) × (f.k ≡ k)
    v = same_task f.session f.k c k (sym (follower_task p n h f l.0 d.1) ∙ u)

    r : (r : Request) × (request_of p c k (e ∷ h) ≡ Some r) × (pushed_of p t (e ∷ h) ≡ Some (record { session = c; k = k; moment = w.push.moment; request = r }))
    r = push_asks_for_its_request p t n c k (e ∷ h) l w

    asks : request_of p f.session f.k h ≡ Some r.0
    asks = rw (v.0, v.1) (sym (request_stays p c k e h (reached p n c k h l.0 u).2) ∙ r.1)

tells_step : (p : Plan) (t n c k : ℕ) (e : Entry) (h : List Entry) (x : Pushed) (o : Option Push) → push_here t (pushed_in (clock_of h) e.op) ≡ o → IsHistory p (e ∷ h) → (IsPushOf t n c k h → push_message_of p t h ≡ Some x → Tells x n c k h) → IsPushOf t n c k (e ∷ h) → or_else (messages.push_here p t h e.op) (push_message_of p t h) ≡ Some x → Tells x n c k (e ∷ h)
tells_step p t n c k e h x None b l i w m =
    let z = push_bound p t h w.push l.0 (subst (λ o. or_else o (push_of t h) ≡ Some w.push) b w.pushed) in
    let y = its_push_before p t n c k e h l z.1 z.2 w in
    tells_on p t n c k e h x l y (i y (subst (λ o. or_else o (push_message_of p t h) ≡ Some x) (no_message p t h e.op b) m))
tells_step p t n c k e h x (Some u) b l i w m = tells_new p t n c k e h x l (new_push t h e.op u b ∙ ap (λ z. op.Push z t) (ap (λ z. z.function) (same_Some u w.push (subst (λ o. or_else o (push_of t h) ≡ Some w.push) b w.pushed)) ∙ w.function)) w m

pub message_tells_its_push : MessageTellsItsPush
message_tells_its_push p t n c k [] x l w m = absurd (grind arith)
message_tells_its_push p t n c k (e ∷ h) x l w m = tells_step p t n c k e h x (push_here t (pushed_in (clock_of h) e.op)) refl l (λ y q. message_tells_its_push p t n c k h x l.0 y q) w m

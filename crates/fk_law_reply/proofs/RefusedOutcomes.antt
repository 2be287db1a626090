-- A refused request: its code at its number.
use Rattle.std.specs.Prelude.{◌==◌, ◌&&◌}
use Rattle.std.proofs.Common.{◌≡◌, ℕ, ◌+◌, ◌≤◌, ◌++◌, Bool, true, false, List, [], ◌∷◌, max, refl, sym, ◌∙◌, ap, subst, arith, Option, Some, None}
use Rattle.std.proofs.lemmas.Bool.{cond_both}
use Rattle.std.proofs.lemmas.Bool.Decides.{nat_tests}
use Rattle.std.proofs.lemmas.Option.{same_Some, none-some}
use Rattle.fk_base.specs.Path.{PathNames}
use Rattle.fk_base.specs.declared.code.Code.{Code}
use Rattle.fk_tree.specs.Check.{Refusal, check}
use Rattle.fk_tree.specs.Edit.{closes, view_after}
use Rattle.fk_tree.specs.declared.request.Request.{Request}
use Rattle.fk_print.specs.declared.entry.Entry.{Entry}
use Rattle.fk_print.specs.declared.op.Op.{Op}
use Rattle.fk_print.specs.declared.op.Op.TheVariants as op
use Rattle.fk_spec.specs.Plan.{Plan}
use Rattle.fk_spec.specs.Start.{Task, Follows, task_of, session_followed, request_of, seen_from, seen_with, sends_of}
use Rattle.fk_spec.specs.Settling.{Outcome, Refused, Settling, last_of_session, outcome_here, outcome_of, settled_in, settled_of, settling}
use Rattle.fk_spec.specs.Stored.{committed_of, owned_after, up_to}
use Rattle.fk_spec.specs.Follower.{Follower, decided, greatest_last, next_stage, next_with, to_begin, to_lock, view_of, with_granted}
use Rattle.fk_spec.specs.Follower as follower
use Rattle.fk_spec.specs.Function.{Following, place_of}
use Rattle.fk_spec.specs.Next.{IsHistory}
use Rattle.fk_law.specs.Due.{IsDue, Refuses}
use Rattle.fk_law.specs.Seeing.{DecidesSo}
use Rattle.fk_law.proofs.Due.{due}
use Rattle.fk_law.proofs.Deciding.{follower_decides_from_its_views}
use Rattle.fk_law.proofs.Growing.{numbers_never_fall}
use Rattle.fk_law.proofs.Moving.{ahead}
use Rattle.fk_law.proofs.Sending.{origin_stays, request_never_changes, sent_has_a_request}
use Rattle.fk_law.proofs.Settled.{reached}
use Rattle.fk_law.proofs.Standing.{OnStanding, standing_step}
use Rattle.fk_law.proofs.Starting.{follower_task}
use Rattle.fk_law.proofs.Rising.{history_before}
use Rattle.fk_law_client.proofs.Pushed.{refusal_holds}
use Rattle.fk_law_reply.specs.RefusedOutcomes.{IsRefusedBy, RefusedWasRefused, RefusedHoldsAtItsNumber, RefusedBeyondSeen}

-- Who refused it. --------------------------------------------------------------------------------------

here_is : (c k s : ℕ) (z : Settling) (x : Option Outcome) (w : Outcome) → outcome_here c k s (Some z) x ≡ Some w → ((z.session == c) && (s + 1 == k)) ≡ true → (z ≡ record { session = c; outcome = w }) × (s + 1 ≡ k)
here_is c k s z x w e f = grind (arith, nat_tests)

here_not : (c k s : ℕ) (z : Settling) (x : Option Outcome) (w : Outcome) → outcome_here c k s (Some z) x ≡ Some w → ((z.session == c) && (s + 1 == k)) ≡ false → x ≡ Some w
here_not c k s z x w e f = grind (arith, nat_tests)

-- a line that settles a request of session c as refused
record IsRefusal (h : List Entry) (c place at : ℕ) (code : Code) (o : Op) : Type 0 where
  pub function : ℕ
  pub refuses : o ≡ op.RefuseOk function code place at
  pub follows : session_followed (task_of function h) ≡ Some c

refusal_of : (c place at : ℕ) (code : Code) (h : List Entry) (o : Op) → settled_in h o ≡ Some (record { session = c; outcome = Refused code place at }) → IsRefusal h c place at code o
refusal_of c place at code h (op.RefuseOk n cd u v) e = by_session (session_followed (task_of n h)) refl e
  where
    same : (d : ℕ) → settling (Some d) (Refused cd u v) ≡ Some (record { session = c; outcome = Refused code place at }) → (d ≡ c) × (op.RefuseOk n cd u v ≡ op.RefuseOk n code place at)
    same d f = grind arith

    by_session : (s : Option ℕ) → session_followed (task_of n h) ≡ s → settling s (Refused cd u v) ≡ Some (record { session = c; outcome = Refused code place at }) → IsRefusal h c place at code (op.RefuseOk n cd u v)
    by_session None f g = absurd (none-some _ g)
    by_session (Some d) f g = let w = same d g in record { function = n; refuses = w.1; follows = f ∙ ap Some w.0 }
refusal_of c place at code h o e = absurd (grind arith)

its_session : (c : ℕ) (f : Follower) (t : Option Task) → t ≡ Some (Follows f.session f.k) → session_followed t ≡ Some c → f.session ≡ c
its_session c f t e g = same_Some f.session c (sym (ap session_followed e) ∙ g)

refused_now : (p : Plan) (c k place at : ℕ) (code : Code) (e : Entry) (h : List Entry) → IsHistory p (e ∷ h) → IsRefusal h c place at code e.op → settled_of c h + 1 ≡ k → IsRefusedBy c k place at code p (e ∷ h)
refused_now p c k place at code e h l x n =
    let d : IsDue p h (op.RefuseOk x.function code place at) = subst (IsDue p h) x.refuses (due p e h l) in
    let s = its_session c d.0 (task_of x.function h) (follower_task p x.function h d.0 l.0 d.1) x.follows in
    record {
      entry = e;
      before = h;
      after = [];
      whole = refl;
      function = x.function;
      refuses = x.refuses;
      follower = d.0;
      stands = d.1;
      its_session = s;
      its_number = sym d.2 ∙ (ap (λ z. settled_of z h + 1) s ∙ n);
    }

refused_before : (p : Plan) (c k place at : ℕ) (code : Code) (e : Entry) (h : List Entry) → IsRefusedBy c k place at code p h → IsRefusedBy c k place at code p (e ∷ h)
refused_before p c k place at code e h x = record { entry = x.entry; before = x.before; after = e ∷ x.after; whole = ap (λ z. e ∷ z) x.whole; function = x.function; refuses = x.refuses; follower = x.follower; stands = x.stands; its_session = x.its_session; its_number = x.its_number }

refused_step : (p : Plan) (c k place at : ℕ) (code : Code) (e : Entry) (h : List Entry) (o : Option Settling) → settled_in h e.op ≡ o → IsHistory p (e ∷ h) → (outcome_of c k h ≡ Some (Refused code place at) → IsRefusedBy c k place at code p h) → outcome_here c k (settled_of c h) o (outcome_of c k h) ≡ Some (Refused code place at) → IsRefusedBy c k place at code p (e ∷ h)
refused_step p c k place at code e h None q l i a = refused_before p c k place at code e h (i a)
refused_step p c k place at code e h (Some z) q l i a = by_test ((z.session == c) && (settled_of c h + 1 == k)) refl
  where
    by_test : (b : Bool) → ((z.session == c) && (settled_of c h + 1 == k)) ≡ b → IsRefusedBy c k place at code p (e ∷ h)
    by_test false f = refused_before p c k place at code e h (i (here_not c k (settled_of c h) z (outcome_of c k h) (Refused code place at) a f))
    by_test true f = let g = here_is c k (settled_of c h) z (outcome_of c k h) (Refused code place at) a f in refused_now p c k place at code e h l (refusal_of c place at code h e.op (q ∙ ap Some g.0)) g.1

pub refused_was_refused : RefusedWasRefused
refused_was_refused p c k place at code [] l a = absurd (grind arith)
refused_was_refused p c k place at code (e ∷ h) l a = refused_step p c k place at code e h (settled_in h e.op) refl l (λ b. refused_was_refused p c k place at code h l.0 b) a

-- The check. -------------------------------------------------------------------------------------------

one_request : (r s : Request) (o : Option Request) → o ≡ Some r → o ≡ Some s → r ≡ s
one_request r s o e f = same_Some r s (sym e ∙ f)

pub refused_holds_at_its_number : RefusedHoldsAtItsNumber
refused_holds_at_its_number p c k place at code h r v l a q =
    subst (λ z. check (view_after (up_to at (committed_of p z))) c r ≡ Some (record { code = code; place = place })) (sym x.whole)
    (subst (λ z. check (view_after (up_to at (committed_of p (x.after ++ x.entry ∷ x.before)))) z r ≡ Some (record { code = code; place = place })) x.its_session
    (refusal_holds p x.function place at code x.entry x.before x.after x.follower r v whole x.refuses x.stands request))
  where
    x : IsRefusedBy c k place at code p h
    x = refused_was_refused p c k place at code h l a

    whole : IsHistory p (x.after ++ x.entry ∷ x.before)
    whole = subst (IsHistory p) x.whole l

    below : IsHistory p (x.entry ∷ x.before)
    below = history_before p (x.entry ∷ x.before) x.after whole

    there : (s : Request) × (request_of p x.follower.session x.follower.k x.before ≡ Some s)
    there = let b = reached p x.function x.follower.session x.follower.k x.before below.0 (follower_task p x.function x.before x.follower below.0 x.stands) in sent_has_a_request p x.follower.session x.follower.k x.before below.0 b.0 b.2

    stays : request_of p x.follower.session x.follower.k h ≡ Some there.0
    stays = subst (λ z. request_of p x.follower.session x.follower.k z ≡ Some there.0) (sym x.whole)
        (request_never_changes p x.follower.session x.follower.k (x.entry ∷ x.before) x.after there.0 whole
        (request_never_changes p x.follower.session x.follower.k x.before (x.entry ∷ []) there.0 below there.1))

    its : request_of p c k h ≡ Some there.0
    its = subst (λ z. request_of p z k h ≡ Some there.0) x.its_session (subst (λ z. request_of p x.follower.session z h ≡ Some there.0) x.its_number stays)

    request : request_of p x.follower.session x.follower.k x.before ≡ Some r
    request = there.1 ∙ ap Some (one_request there.0 r (request_of p c k h) its q)

-- What the client had seen. ----------------------------------------------------------------------------

-- a follower that is about to refuse as its session is closed does so beyond what the client had seen
abbrev ExpiresBeyond : ℕ → follower.Stage → Type 0
ExpiresBeyond seen (follower.Expire at) = seen ≤ at
ExpiresBeyond seen _ = Unit {0}

lock_beyond : (s seen : ℕ) (r : Request) (g : Follower) (o : Option PathNames) → ExpiresBeyond s (next_stage seen r g o)
lock_beyond s seen r g (Some path) = tt
lock_beyond s seen r g None = by_check (check (view_of g.granted) g.session r)
  where
    by_check : (x : Option Refusal) → ExpiresBeyond s (decided seen g x)
    by_check None = tt
    by_check (Some x) = tt

begin_beyond : (s seen : ℕ) (r : Request) (g : Follower) → ExpiresBeyond s (to_begin seen r g).stage
begin_beyond s seen r g = cond_both (closes r) (record g { stage = follower.Owned }) (to_lock seen r g) (λ f. ExpiresBeyond s f.stage) (λ _. tt) (λ _. lock_beyond s seen r g _)

max_low : (a b : ℕ) → a ≤ max a b
max_low a b = grind (arith, nat_tests)

moves_beyond : (p : Plan) (h : List Entry) (r : Request) (o : Op) (f : Follower) → ExpiresBeyond (seen_with f.session f.k h) f.stage → ExpiresBeyond (seen_with f.session f.k h) (next_with p h r o f).stage
moves_beyond p h r (op.SessionNew n) f i = begin_beyond (seen_with f.session f.k h) (seen_with f.session f.k h) r (record f { last = last_of_session f.session h })
moves_beyond p h r (op.SessionClosed n) f i = max_low (seen_with f.session f.k h) (last_of_session f.session h)
moves_beyond p h r (op.Owned n count) f i = lock_beyond (seen_with f.session f.k h) (seen_with f.session f.k h) r (record f { owned = owned_after f.session (committed_of p h) }) _
moves_beyond p h r (op.LockOk n path) f i = lock_beyond (seen_with f.session f.k h) (seen_with f.session f.k h) r (with_granted p h path f) _
moves_beyond p h r (op.LockBusy n path holder moment) f i = i
moves_beyond p h r o f i = tt

abbrev Beyond : List Entry → Follower → Type 0
Beyond h f = ExpiresBeyond (seen_with f.session f.k h) f.stage

beyond_step : (p : Plan) (n : ℕ) (e : Entry) (h : List Entry) → IsHistory p (e ∷ h) → OnStanding (Beyond h) (place_of p n h) → OnStanding (Beyond (e ∷ h)) (place_of p n (e ∷ h))
beyond_step p n e h l i =
    standing_step p n h e.op (place_of p n h) (Beyond (e ∷ h))
    (λ f b _. subst (λ s. ExpiresBeyond s f.stage) (sym (seen_stays f b)) (at f b))
    (λ c k _. tt)
    (λ f r b a q.
    let g = next_with p h r e.op f in
    let x = ahead p h r e.op f in
    subst (λ c. ExpiresBeyond (seen_with c g.k (e ∷ h)) g.stage) (sym x.0)
    (subst (λ k. ExpiresBeyond (seen_with f.session k (e ∷ h)) g.stage) (sym x.1)
    (subst (λ s. ExpiresBeyond s g.stage) (sym (seen_stays f b)) (moves_beyond p h r e.op f (at f b)))))
  where
    at : (f : Follower) → place_of p n h ≡ Following f → Beyond h f
    at f b = subst (OnStanding (Beyond h)) b i

    seen_stays : (f : Follower) → place_of p n h ≡ Following f → seen_with f.session f.k (e ∷ h) ≡ seen_with f.session f.k h
    seen_stays f b = ap seen_from (origin_stays f.session f.k e h (reached p n f.session f.k h l.0 (follower_task p n h f l.0 b)).2)

beyond : (p : Plan) (n : ℕ) (h : List Entry) → IsHistory p h → OnStanding (Beyond h) (place_of p n h)
beyond p n [] l = tt
beyond p n (e ∷ h) l = beyond_step p n e h l (beyond p n h l.0)

refuses_beyond : (p : Plan) (n place at : ℕ) (cd : Code) (h : List Entry) (f : Follower) (r : Request) (s : follower.Stage) → Refuses n cd place at h s → DecidesSo (seen_with f.session f.k h) r f s → ExpiresBeyond (seen_with f.session f.k h) s → seen_with f.session f.k h ≤ at
refuses_beyond p n place at cd h f r (follower.Refuse x a) w d i = let m = max_low (seen_with f.session f.k h) (max f.last (greatest_last f.granted)) in let e = d.2 in let g = w.2 in omega (arith, m, e, g)
refuses_beyond p n place at cd h f r (follower.Expire a) w d i = let g = w.2 in omega (arith, i, g)
refuses_beyond p n place at cd h f r s w d i = absurd w

seen_for_ever : (p : Plan) (c k : ℕ) (h more : List Entry) → IsHistory p (more ++ h) → k ≤ sends_of c h → seen_with c k (more ++ h) ≡ seen_with c k h
seen_for_ever p c k h [] l b = refl
seen_for_ever p c k h (e ∷ more) l b = ap seen_from (origin_stays c k e (more ++ h) (let g = (numbers_never_fall h more).sends c in omega (arith, b, g))) ∙ seen_for_ever p c k h more l.0 b

pub refused_beyond_seen : RefusedBeyondSeen
refused_beyond_seen p c k place at code h l a =
    subst (λ z. z ≤ at) (sym stays)
    (refuses_beyond p x.function place at code x.before d.0 there.0 d.0.stage d.3 (follower_decides_from_its_views p x.function x.before d.0 there.0 below.0 d.1 there.1) (subst (OnStanding (Beyond x.before)) d.1 (beyond p x.function x.before below.0)))
  where
    x : IsRefusedBy c k place at code p h
    x = refused_was_refused p c k place at code h l a

    whole : IsHistory p (x.after ++ x.entry ∷ x.before)
    whole = subst (IsHistory p) x.whole l

    below : IsHistory p (x.entry ∷ x.before)
    below = history_before p (x.entry ∷ x.before) x.after whole

    d : IsDue p x.before (op.RefuseOk x.function code place at)
    d = subst (IsDue p x.before) x.refuses (due p x.entry x.before below)

    same : d.0 ≡ x.follower
    same = let e : Following d.0 ≡ Following x.follower = sym d.1 ∙ x.stands in cc

    low : (1 ≤ d.0.k) × (d.0.k ≤ sends_of d.0.session x.before)
    low = let b = reached p x.function d.0.session d.0.k x.before below.0 (follower_task p x.function x.before d.0 below.0 d.1) in (b.0, b.2)

    there : (s : Request) × (request_of p d.0.session d.0.k x.before ≡ Some s)
    there = sent_has_a_request p d.0.session d.0.k x.before below.0 low.0 low.1

    grown : seen_with d.0.session d.0.k h ≡ seen_with d.0.session d.0.k x.before
    grown = ap (seen_with d.0.session d.0.k) x.whole
        ∙ (seen_for_ever p d.0.session d.0.k (x.entry ∷ x.before) x.after whole (let g = (numbers_never_fall x.before (x.entry ∷ [])).sends d.0.session in let b = low.1 in omega (arith, g, b))
        ∙ seen_for_ever p d.0.session d.0.k x.before (x.entry ∷ []) below low.1)

    stays : seen_with c k h ≡ seen_with d.0.session d.0.k x.before
    stays = ap (λ z. seen_with z k h) (sym (ap (λ z. z.session) same ∙ x.its_session)) ∙ (ap (λ z. seen_with d.0.session z h) (sym (ap (λ z. z.k) same ∙ x.its_number)) ∙ grown)
